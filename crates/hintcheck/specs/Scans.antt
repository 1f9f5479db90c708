-- What a scan prints: a line or an object for each font file or face, and the exit status that these have
-- together.
use Rattle.std.specs.Prelude.{◌≡◌, ◌&&◌, not, ℕ, zero, suc, All, Bool, codes, true, false, flat_map, if◌then◌else◌, List, [], ◌∷◌, ◌++◌, length, map, max, None, Option, Some}
use Rattle.std.specs.Char.{is_ascii_control}
use Rattle.std.specs.Fmt.{decimal}
use Rattle.std.specs.Io.KnownBytes.{Appends}
use Rattle.std.specs.List.{list_any}
use Rattle.tt_code.specs.Refusals.{class_of}
use Rattle.tt_code.specs.declared.reason.ReasonClass.{ReasonClass}
use Rattle.tt_code.specs.declared.reason.ReasonClass.TheVariants.{PossibleFault, Undecided, LeftOut}
use Rattle.tt_setting.specs.declared.name.Name.{Name}
use Rattle.tt_setting.specs.declared.name.Name.TheVariants as name
use Rattle.hintcheck_words.specs.declared.words.AskedNeeds.{AskedNeeds}
use Rattle.hintcheck_words.specs.declared.words.AskedNeeds.TheVariants as needs
use Rattle.hintcheck_words.specs.declared.words.Format.{Format}
use Rattle.hintcheck_words.specs.declared.words.Format.TheVariants.{Lines, Json}
use Rattle.hintcheck_words.specs.declared.words.Profile.{Profile}
use Rattle.hintcheck_words.specs.declared.words.ScanOptions.{ScanOptions}
use Rattle.hintcheck.specs.Commands.{status_of}
use Rattle.hintcheck.specs.CommandFaults.{IsFaultOfFontFile}
use Rattle.hintcheck.specs.FontLabels.{Label, face_text}
use Rattle.hintcheck.specs.JsonObjects.{beginning, profile_name, request_name}
use Rattle.hintcheck.specs.KnownRefusals.{fails_for, is_listed, is_unknown, none_listed}
use Rattle.hintcheck.specs.Listing.{hex_digits}
use Rattle.hintcheck.specs.MeansSafe.{IsVerdictBy}
use Rattle.hintcheck.specs.RefusalClasses.{class_text, number_of_class}
use Rattle.hintcheck.specs.Texts.{profile_text}
use Rattle.hintcheck_fonts.specs.declared.request.Request.{Request as VerdictRequest}
use Rattle.hintcheck_programs.specs.Verdicts.{Judgement}
use Rattle.hintcheck.specs.declared.commands.faults.CommandFault.{CommandFault}
use Rattle.hintcheck_report.specs.declared.refused.Refused.{Refused}

-- what comes of a font file: the verdict on the font, and as what it was asked for; or why there is none
pub data Answer : Type 0 where
  judged : VerdictRequest → Judgement → Answer
  unread : CommandFault → Answer

-- The verdict is that of this profile on the font in these bytes. Or the fault is one of a font file.
abbrev pub IsAnswer : Profile → List ℕ → Answer → Type 0
IsAnswer profile bytes (judged by judgement) = IsVerdictBy profile by bytes judgement
IsAnswer profile bytes (unread reported) = IsFaultOfFontFile reported

-- the exit status of a verdict that refuses these programs: 1 where one of them counts
abbrev pub status_of_refused : (Refused → Bool) → List Refused → ℕ
status_of_refused does_count refused = if list_any does_count refused then 1 else 0

-- the exit status of a font file alone
abbrev pub status_of_answer : (Refused → Bool) → Answer → ℕ
status_of_answer does_count (judged by judgement) =
    status_of_refused does_count judgement.refused
status_of_answer does_count (unread reported) = status_of reported

-- how many programs do what is left out, where some do
abbrev pub left_out_text : ℕ → List ℕ
left_out_text zero = []
left_out_text (suc n) = codes ", " ++ (decimal (suc n) ++ codes " left out")

-- how many programs are refused for which reasons, as `3 possible faults, 1 undecided`
abbrev pub reasons_text : List Refused → List ℕ
reasons_text rs = decimal (number_of_class PossibleFault rs) ++ (codes " possible faults, " ++
    (decimal (number_of_class Undecided rs) ++ (codes " undecided" ++
    left_out_text (number_of_class LeftOut rs))))

-- how many of this many programs are refused, and for which reasons
abbrev pub counts_text : ℕ → List Refused → List ℕ
counts_text programs rs = decimal (length rs) ++ (codes " of " ++ (decimal programs ++
    (codes " programs (" ++ (reasons_text rs ++ codes ")"))))

-- Which programs are refused: the font program or the CVT program, which end the verdict, with what
-- its reason tells; or this many of the glyph programs.
abbrev pub refusal_text : ℕ → List Refused → ReasonClass → Name → List ℕ
refusal_text programs rs class name.Font = codes "font program (" ++ (class_text class ++ codes ")")
refusal_text programs rs class name.Cvt = codes "cvt program (" ++ (class_text class ++ codes ")")
refusal_text programs rs class (name.Glyph id) = counts_text programs rs

-- a verdict in one line
abbrev pub summary : ℕ → List Refused → List ℕ
summary programs [] = codes "accepted: " ++ (decimal programs ++ codes " programs")
summary programs (r ∷ rs) =
    codes "refused: " ++ refusal_text programs (r ∷ rs) (class_of r.reason) r.program

-- a byte of a name as a line shows it: a control byte by its digits, as `\x0a`, so that no name ends
-- a line
unfoldable pub shown_byte : ℕ → List ℕ
shown_byte b = if is_ascii_control b then codes "\\x" ++ hex_digits (b ∷ []) else (b ∷ [])

-- what follows the name of a font file in its line: its verdict, with the profile; of a fault only
-- that it is one, since its text is left unspecified
abbrev pub answer_text : Answer → List ℕ
answer_text (judged by judgement) = codes ": "
    ++ ((summary judgement.programs judgement.refused ++ profile_text by) ++ codes "\n")
answer_text (unread reported) = codes ": fault: "

-- the line of a font file with this label
abbrev pub line_of : Label → Answer → List ℕ
line_of label answer =
    (flat_map shown_byte label.file ++ face_text label.face) ++ answer_text answer

-- A font file that was scanned: its label, the bytes of the font, what came of it, and what more is told
-- of it. No contract of the runtime tells that the bytes are those of the file.
pub record Scanned : Type 0 where
  pub label : Label
  pub bytes : List ℕ
  pub answer : Answer
  pub more : List ℕ

-- the beginning of what is printed of a font file in this form, where this is its line and this is
-- the beginning of its object
abbrev pub in_format : Format → List ℕ → List ℕ → List ℕ
in_format Json line object = object
in_format other line object = line

-- whether a verdict names no refused program
abbrev pub names_none : List Refused → Bool
names_none [] = true
names_none (r ∷ rs) = false

-- whether nothing is printed of a font file: where a scan is quiet, of one that is accepted
abbrev pub is_silent : ScanOptions → Answer → Bool
is_silent options (judged by judgement) = options.is_quiet && names_none judgement.refused
is_silent options (unread reported) = false

-- the profile in a word: the one whose verdict it is; without a verdict the one that is asked for
abbrev pub profile_word : Profile → Answer → List ℕ
profile_word profile (judged by judgement) = request_name by
profile_word profile (unread reported) = profile_name profile

-- the line of a font file, or the beginning of its object, which tells its exit status
abbrev pub first_text : ScanOptions → Label → Answer → List ℕ
first_text options label answer = in_format options.format (line_of label answer)
    (beginning label (profile_word options.profile answer)
    (status_of_answer (fails_for options.fail_on) answer))

-- what is printed of a font file: its line, or the beginning of its object, and then more; or nothing
abbrev pub text_of : ScanOptions → Scanned → List ℕ
text_of options s =
    (if is_silent options s.answer then [] else first_text options s.label s.answer) ++ s.more

-- whether this is the form of lines
abbrev pub are_lines : Format → Bool
are_lines Lines = true
are_lines Json = false

-- whether no needs are asked for
abbrev pub asks_no_needs : AskedNeeds → Bool
asks_no_needs needs.None = true
asks_no_needs other = false

-- whether lines alone are asked for
abbrev pub asks_lines_alone : ScanOptions → Bool
asks_lines_alone options =
    (are_lines options.format && not options.has_causes) && asks_no_needs options.needs

-- what more is told is left unspecified, but where lines are alone, after a verdict's there is nothing
abbrev pub HasMore : Bool → Answer → List ℕ → Type 0
HasMore true (judged by judgement) more = more ≡ []
HasMore other answer more = Unit {0}

-- What these options ask for was printed of a font file with this label.
pub record TellsFont (options : ScanOptions) (is_alone : Bool) (label : Label) (answer : Answer)
    (old new : Option (List ℕ)) : Type 0 where
  pub more : List ℕ
  pub has : HasMore is_alone answer more
  pub written : Appends old new
      (text_of options (record { label = label; bytes = []; answer = answer; more = more }))

-- the greatest exit status of font files, 0 of none, where these refused programs of each count
abbrev pub greatest_status : (Label → List ℕ → Refused → Bool) → List Scanned → ℕ
greatest_status does_count [] = 0
greatest_status does_count (s ∷ others) =
    max (status_of_answer (does_count s.label s.bytes) s.answer) (greatest_status does_count others)

-- Font files with these labels were scanned with these options, this is the greatest exit status of
-- them, where refused programs count that aren't known by this test, and their lines, which are alone
-- or not, or objects were written in the order of the labels, where the written bytes are known.
pub record PrintsScan (options : ScanOptions) (is_alone : Bool)
    (is_listed : Label → List ℕ → Refused → Bool) (labels : List Label) (status : ℕ)
    (old new : Option (List ℕ)) : Type 0 where
  pub scanned : List Scanned
  pub labels_are : map (λ s. s.label) scanned ≡ labels
  pub answers : All (λ s. IsAnswer options.profile s.bytes s.answer) scanned
  pub told : All (λ s. HasMore is_alone s.answer s.more) scanned
  pub greatest : status ≡ greatest_status (is_unknown options.fail_on is_listed) scanned
  pub written : Appends old new (flat_map (text_of options) scanned)

-- what a scan prints, with a file of known refusals or without one
abbrev pub PrintsScanning : ScanOptions → List Label → Option (List ℕ) → ℕ
    → Option (List ℕ) → Option (List ℕ) → Type 0
PrintsScanning options labels None status old new =
    PrintsScan options (asks_lines_alone options) none_listed labels status old new
PrintsScanning options labels (Some file) status old new =
    (is_known : List ℕ → Bool) × PrintsScan options false (is_listed is_known) labels status old new
