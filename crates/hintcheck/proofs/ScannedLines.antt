-- What is printed of font files that are scanned one after the other.
use Rattle.std.proofs.Common.{◌≡◌, ◌≤◌, ◌<◌, ◌+◌, ℕ, ap, append_assoc, append-nil, get_or, length, map, subst, sym, take, List, [], ◌∷◌, ◌++◌, ◌&&◌, ◌↔◌, Bool, IsTrue, true, false, max, Option, Some, None, arith, refl, ◌∙◌}
use Rattle.std.proofs.lemmas.List.{map-append, take_all, take_more}
use Rattle.std.proofs.lemmas.List.Elements.{All-append, All-cons, All-nil}
use Rattle.std.proofs.lemmas.Grind.{flat_map-append}
use Rattle.std.specs.Fmt.{decimal}
use Rattle.std.specs.Io.KnownBytes.{Appends}
use Rattle.std.specs.Prelude.{codes, slice_get}
use Rattle.tt_code.specs.declared.reason.ReasonClass.TheVariants.{LeftOut, PossibleFault, Undecided}
use Rattle.tt_stream.specs.Streams.{AppendsOnly}
use Rattle.tt_setting.specs.declared.name.Name.TheVariants.{Glyph}
use Rattle.hintcheck_explain.specs.Texts.{WritesFirst}
use Rattle.hintcheck_words.specs.declared.words.Format.{Format}
use Rattle.hintcheck_words.specs.declared.words.Format.TheVariants.{Json, Lines}
use Rattle.hintcheck_words.specs.declared.words.ScanOptions.{ScanOptions}
use Rattle.hintcheck.specs.FontLabels.{Label}
use Rattle.hintcheck.specs.JsonObjects.{beginning}
use Rattle.hintcheck.specs.KnownRefusals.{fails_for, is_unknown}
use Rattle.hintcheck.specs.RefusalClasses.{number_of_class}
use Rattle.hintcheck.specs.Scans.{Answer, HasMore, IsAnswer, PrintsScan, Scanned, TellsFont, answer_text, counts_text, greatest_status, is_silent, judged, left_out_text, line_of, names_none, profile_word, status_of_answer, summary, text_of, unread}
use Rattle.hintcheck.specs.Texts.{profile_text}
use Rattle.hintcheck_programs.specs.Verdicts.{Judgement}
use Rattle.hintcheck.specs.Representation.Known.{are_alone}
use Rattle.hintcheck.specs.declared.commands.known_refusals.Known.{Known}
use Rattle.hintcheck.specs.declared.commands.known_refusals.Known.TheVariants as held
use Rattle.hintcheck.specs.declared.commands.faults.CommandFault.{CommandFault}
use Rattle.hintcheck_fonts.specs.declared.request.Request.{Request}
use Rattle.hintcheck_report.specs.declared.refused.Refused.{Refused}

-- nothing is appended to the same bytes
pub appends_nothing : (old : Option (List ℕ)) → Appends old old []
appends_nothing None = tt
appends_nothing (Some xs) = sym (append-nil xs)

-- one text, and then another
pub appends_both : (old mid new : Option (List ℕ)) (a b : List ℕ) → Appends old mid a → Appends mid new b → Appends old new (a ++ b)
appends_both None mid new a b first second = tt
appends_both (Some xs) None new a b first second = absurd first
appends_both (Some xs) (Some ys) None a b first second = absurd second
appends_both (Some xs) (Some ys) (Some zs) a b first second = second ∙ ap (λ t. t ++ b) first ∙ append_assoc xs a b

pub only_nothing : (old : Option (List ℕ)) → AppendsOnly old old
only_nothing old = record { bytes = []; appended = appends_nothing old }

pub only_both : (old mid new : Option (List ℕ)) → AppendsOnly old mid → AppendsOnly mid new → AppendsOnly old new
only_both old mid new first second = record { bytes = first.bytes ++ second.bytes; appended = appends_both old mid new first.bytes second.bytes first.appended second.appended }

-- a text, and then others
pub first_then : (text : List ℕ) (old mid new : Option (List ℕ)) → Appends old mid text → AppendsOnly mid new → WritesFirst text old new
first_then text old mid new first others = record { others = others.bytes; written = appends_both old mid new text others.bytes first others.appended }

greatest-append : (d : Label → List ℕ → Refused → Bool) (xs ys : List Scanned) → greatest_status d (xs ++ ys) ≡ max (greatest_status d xs) (greatest_status d ys)
greatest-append d [] ys = omega arith
greatest-append d (x ∷ xs) ys = omega (arith, greatest-append d xs ys)

abbrev Answered : ScanOptions → Scanned → Type 0
Answered options s = IsAnswer options.profile s.bytes s.answer

abbrev HasItsMore : Bool → Scanned → Type 0
HasItsMore alone s = HasMore alone s.answer s.more

-- no font file
pub scans_none : (options : ScanOptions) (alone : Bool) (is : Label → List ℕ → Refused → Bool) (old : Option (List ℕ)) → PrintsScan options alone is [] 0 old old
scans_none options alone is old = record { scanned = []; labels_are = refl; answers = All-nil (Answered options); told = All-nil (HasItsMore alone); greatest = refl; written = appends_nothing old }

-- one font file
pub scans_one : (options : ScanOptions) (alone : Bool) (is : Label → List ℕ → Refused → Bool) (label : Label) (bytes : List ℕ) (answer : Answer) (status : ℕ) (old new : Option (List ℕ)) → IsAnswer options.profile bytes answer
    → status ≡ status_of_answer (is_unknown options.fail_on is label bytes) answer → TellsFont options alone label answer old new → PrintsScan options alone is (label ∷ []) status old new
scans_one options alone is label bytes answer status old new answers same tells =
    let s : Scanned = record { label = label; bytes = bytes; answer = answer; more = tells.more } in
    record {
      scanned = s ∷ [];
      labels_are = refl;
      answers = All-cons (Answered options) s [] answers (All-nil (Answered options));
      told = All-cons (HasItsMore alone) s [] tells.has (All-nil (HasItsMore alone));
      greatest = omega arith;
      written = subst (Appends old new) (sym (append-nil (text_of options s))) tells.written;
    }

-- font files, and then others
pub scans_both : (options : ScanOptions) (alone : Bool) (is : Label → List ℕ → Refused → Bool) (a b : List Label) (s t : ℕ) (old mid new : Option (List ℕ)) → PrintsScan options alone is a s old mid → PrintsScan options alone is b t mid new
    → PrintsScan options alone is (a ++ b) (max s t) old new
scans_both options alone is a b s t old mid new first second = record {
  scanned = first.scanned ++ second.scanned;
  labels_are = map-append (λ s. s.label) first.scanned second.scanned ∙ ap (λ x. x ++ map (λ s. s.label) second.scanned) first.labels_are ∙ ap (λ y. a ++ y) second.labels_are;
  answers = All-append (Answered options) first.scanned second.scanned first.answers second.answers;
  told = All-append (HasItsMore alone) first.scanned second.scanned first.told second.told;
  greatest = omega (arith, greatest-append (is_unknown options.fail_on is) first.scanned second.scanned, first.greatest, second.greatest);
  written = subst (Appends old new) (sym (flat_map-append (text_of options) first.scanned second.scanned)) (appends_both old mid new _ _ first.written second.written);
}

-- a verdict's line, and what follows it
pub tells_line : (options : ScanOptions) (alone : Bool) (label : Label) (by : Request) (v : Judgement) (old mid new : Option (List ℕ)) → (options.is_quiet && names_none v.refused) ≡ false → options.format ≡ Lines → (alone ≡ true → mid ≡ new)
    → Appends old mid (line_of label (judged by v)) → AppendsOnly mid new → TellsFont options alone label (judged by v) old new
tells_line options true label by v old mid new loud lines none line others = record { more = []; has = refl; written = rw (loud, lines) (subst (Appends old new) (sym (append-nil (line_of label (judged by v)))) (subst (λ o. Appends old o (line_of label (judged by v))) (none refl) line)) }
tells_line options false label by v old mid new loud lines none line others =
    let further = first_then (line_of label (judged by v)) old mid new line others in record { more = further.others; has = tt; written = rw (loud, lines) further.written }

-- nothing of an accepted font in a quiet scan
pub tells_nothing : (options : ScanOptions) (alone : Bool) (label : Label) (by : Request) (v : Judgement) (old : Option (List ℕ)) → (options.is_quiet && names_none v.refused) ≡ true → TellsFont options alone label (judged by v) old old
tells_nothing options alone label by v old quiet = record { more = []; has = any alone; written = rw quiet (appends_nothing old) }
  where
    any : (alone : Bool) → HasMore alone (judged by v) []
    any true = refl
    any false = tt

-- whether a verdict names none, as its method tells
pub named_none : (accepted : Bool) (rs : List Refused) → (IsTrue accepted ↔ (rs ≡ [])) → accepted ≡ names_none rs
named_none true [] same = refl
named_none false [] same = let none = same.1 refl in cc
named_none true (r ∷ rs) same = let none = same.0 refl in cc
named_none false (r ∷ rs) same = refl

-- the line of a fault
pub tells_fault : (options : ScanOptions) (alone : Bool) (label : Label) (f : CommandFault) (old new : Option (List ℕ)) → (options.format ≡ Json → ⊥) → WritesFirst (line_of label (unread f)) old new → TellsFont options alone label (unread f) old new
tells_fault options alone label f old new other first = go options.format refl alone
  where
    go : (format : Format) → options.format ≡ format → (told : Bool) → TellsFont options told label (unread f) old new
    go Json is told = absurd (other is)
    go Lines is true = record { more = first.others; has = tt; written = rw is first.written }
    go Lines is false = record { more = first.others; has = tt; written = rw is first.written }

-- lines aren't alone where objects are asked for
pub json_alone : (options : ScanOptions) (known : Known) → options.format ≡ Json → are_alone options known ≡ false
json_alone options held.Nothing json = rw json refl
json_alone options (held.Lines lines) json = refl

-- an object
pub tells_object : (options : ScanOptions) (alone : Bool) (label : Label) (answer : Answer) (old new : Option (List ℕ)) → alone ≡ false → is_silent options answer ≡ false → options.format ≡ Json
    → WritesFirst (beginning label (profile_word options.profile answer) (status_of_answer (fails_for options.fail_on) answer)) old new → TellsFont options alone label answer old new
tells_object options false label (judged by v) old new never loud is first = record { more = first.others; has = tt; written = rw (loud, is) first.written }
tells_object options false label (unread f) old new never loud is first = record { more = first.others; has = tt; written = rw is first.written }
tells_object options true label answer old new never loud is first = absurd cc

counts_parts : (count programs possible undecided left end : List ℕ) → (codes ": refused: " ++ (count ++ (codes " of " ++ (programs ++ (codes " programs (" ++ (possible ++ (codes " possible faults, " ++ (undecided ++ (codes " undecided" ++ (left ++ (codes ")" ++ end))))))))))) ++ codes "\n"
    ≡ codes ": refused: " ++ (((count ++ (codes " of " ++ (programs ++ (codes " programs (" ++ ((possible ++ (codes " possible faults, " ++ (undecided ++ (codes " undecided" ++ left)))) ++ codes ")"))))) ++ end) ++ codes "\n")
counts_parts count programs possible undecided left end = simp append_assoc

-- the line of a font of which glyph programs are refused, by its parts
pub counts_written : (by : Request) (programs possible undecided left : ℕ) (end : List ℕ) (rs : List Refused) (o p : Option (List ℕ)) → possible ≡ number_of_class PossibleFault rs
    → undecided ≡ number_of_class Undecided rs → left ≡ number_of_class LeftOut rs → end ≡ profile_text by
    → Appends o p ((codes ": refused: " ++ (decimal (length rs) ++ (codes " of " ++ (decimal programs ++ (codes " programs (" ++ (decimal possible ++ (codes " possible faults, " ++ (decimal undecided ++ (codes " undecided" ++ (left_out_text left ++ (codes ")" ++ end))))))))))) ++ codes "\n")
    → Appends o p (codes ": refused: " ++ ((counts_text programs rs ++ profile_text by) ++ codes "\n"))
counts_written by programs possible undecided left end rs o p some_possible some_undecided some_left end_is written =
    let parts : List ℕ = (codes ": refused: " ++ (decimal (length rs) ++ (codes " of " ++ (decimal programs ++ (codes " programs (" ++ (decimal possible ++ (codes " possible faults, " ++ (decimal undecided ++ (codes " undecided" ++ (left_out_text left ++ (codes ")" ++ end))))))))))) ++ codes "\n" in
    let text : parts ≡ codes ": refused: " ++ ((counts_text programs rs ++ profile_text by) ++ codes "\n") = rw (some_possible, some_undecided, some_left, end_is) (counts_parts (decimal (length rs)) (decimal programs) (decimal (number_of_class PossibleFault rs)) (decimal (number_of_class Undecided rs)) (left_out_text (number_of_class LeftOut rs)) (profile_text by)) in
    subst (Appends o p) text written

glyph_summary : (programs : ℕ) (rs : List Refused) (r : Refused) (id : ℕ) → Some r ≡ slice_get rs 0 → r.program ≡ Glyph id → summary programs rs ≡ codes "refused: " ++ counts_text programs rs
glyph_summary programs [] r id first is = cc
glyph_summary programs (x ∷ xs) r id first is =
    let same : r ≡ x = cc in
    let e : x.program ≡ Glyph id = ap (λ y. y.program) (sym same) ∙ is in
    rw e refl

-- the line of a font of which glyph programs are refused, by the first of them
pub glyph_line : (by : Request) (programs : ℕ) (v : Judgement) (rs shown : List Refused) (r : Refused) (id : ℕ) (old new : Option (List ℕ)) → Some r ≡ slice_get rs 0 → rs ≡ v.refused
    → shown ≡ v.refused → programs ≡ v.programs → r.program ≡ Glyph id → Appends old new (codes ": refused: " ++ ((counts_text programs shown ++ profile_text by) ++ codes "\n"))
    → Appends old new (answer_text (judged by v))
glyph_line by programs v rs shown r id old new first rs_are shown_are programs_are is written =
    let e : summary v.programs v.refused ≡ codes "refused: " ++ counts_text v.programs v.refused =
    glyph_summary v.programs v.refused r id (subst (λ xs. Some r ≡ slice_get xs 0) rs_are first) is in
    let all : Appends old new (codes ": refused: " ++ ((counts_text programs v.refused ++ profile_text by) ++ codes "\n")) =
    subst (λ xs. Appends old new (codes ": refused: " ++ ((counts_text programs xs ++ profile_text by) ++ codes "\n"))) shown_are written in
    let w : Appends old new (codes ": refused: " ++ ((counts_text v.programs v.refused ++ profile_text by) ++ codes "\n")) =
    subst (λ n. Appends old new (codes ": refused: " ++ ((counts_text n v.refused ++ profile_text by) ++ codes "\n"))) programs_are all in
    subst (λ text. Appends old new (codes ": " ++ ((text ++ profile_text by) ++ codes "\n"))) (sym e) w
