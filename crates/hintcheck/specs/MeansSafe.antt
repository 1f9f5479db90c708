-- What the exit statuses 0 and 1 mean: what was asked for is safe, or refused.
use Rattle.std.specs.Prelude.{◌≡◌, ◌↔◌, ◌⊎◌, ◌+◌, ◌≤◌, ℕ, All, Bool, Contains, false, List, [], None, Option, Some, length, true, unwrap_or}
use Rattle.std.specs.List.{list_any}
use Rattle.tt_font.specs.Reading.{FontData, GlyphData, Reads}
use Rattle.hintcheck_words.specs.HexWords.{Spells}
use Rattle.hintcheck_words.specs.declared.words.FailOn.{FailOn}
use Rattle.hintcheck_words.specs.declared.words.FailOn.TheVariants.{Possible}
use Rattle.hintcheck_words.specs.declared.words.Profile.{Profile}
use Rattle.hintcheck_words.specs.declared.words.Profile.TheVariants.{Both, Strict, Symbolic}
use Rattle.hintcheck_words.specs.declared.words.ScanOptions.{ScanOptions}
use Rattle.hintcheck_words.specs.Requests.{Request, bare, check, explain, find, is_taken, list, meaning, scan, upgrade, verdict}
use Rattle.hintcheck.specs.CommandFaults.{MeansNoFault, TellsFault}
use Rattle.hintcheck_explain.specs.declared.asked.Explained.{Explained}
use Rattle.hintcheck_programs.specs.BarePrograms.{bare_font, bare_subject}
use Rattle.hintcheck.specs.Explanations.{HoldAcceptedProgram, HoldExplained, HoldRefusedProgram}
use Rattle.hintcheck_programs.specs.FontPrograms.{IsSafeFont, IsSafeGlyph}
use Rattle.hintcheck.specs.KnownRefusals.{fails_for, is_listed, is_unknown}
use Rattle.hintcheck.specs.Listing.{HoldUnlistedProgram}
use Rattle.hintcheck_programs.specs.Programs.{HasGoodFamily, IsRefusal}
use Rattle.hintcheck.specs.FontLabels.{Label}
use Rattle.hintcheck.specs.ScannedNames.{HoldsOfScanned}
use Rattle.hintcheck.specs.SymbolicExplanations.{HoldSymbolicAcceptedProgram, HoldSymbolicExplained, HoldSymbolicRefusedProgram}
use Rattle.hintcheck_fonts.specs.FontAnswers.{HoldRefusedFont, HoldSafeFont, HoldSymbolicRefusedFont, HoldSymbolicSafeFont, IsVerdictOn}
use Rattle.hintcheck_fonts.specs.Requests.{IsSafeAsked, IsVerdictAsked as IsVerdictOf}
use Rattle.hintcheck_fonts.specs.SymbolicVerdicts.{IsSafeAlone}
use Rattle.hintcheck_programs.specs.Verdicts.{Judgement}
use Rattle.hintcheck_fonts.specs.declared.request.Request.{Request as VerdictRequest}
use Rattle.hintcheck_fonts.specs.declared.request.Request.TheVariants as asked
use Rattle.hintcheck_report.specs.ReasonNumbers.{IsReasonWord}
use Rattle.hintcheck_report.specs.declared.refused.Refused.{Refused}

-- The words spell a `maxp` table and a glyph program, of which this holds, of a glyph with this many
-- points and contours.
pub record SpellBare (maxp : List ℕ) (points contours : ℕ) (program : List ℕ)
    (P : List ℕ → GlyphData → Type 0) : Type 0 where
  pub table : List ℕ
  pub table_spelled : Spells maxp table
  pub glyph : GlyphData
  pub points_are : glyph.points ≡ points
  pub contours_are : glyph.contours ≡ contours
  pub program_spelled : Spells program glyph.program
  pub holds : P table glyph

-- the glyph's program is safe by this profile, or by one of both, in a font of only this glyph
abbrev pub IsSafeBareBy : Profile → ℕ → List ℕ → GlyphData → Type 0
IsSafeBareBy (Strict most) cvt table glyph = IsSafeGlyph (bare_font table cvt glyph) glyph
IsSafeBareBy (Symbolic most) cvt table glyph = IsSafeAlone (bare_font table cvt glyph) glyph
IsSafeBareBy (Both most) cvt table glyph = IsSafeGlyph (bare_font table cvt glyph) glyph
    ⊎ IsSafeAlone (bare_font table cvt glyph) glyph

-- the bytes hold a font, whose programs are safe by this profile, or by one of both
abbrev pub HoldSafeBy : Profile → List ℕ → Type 0
HoldSafeBy (Strict points) bytes = HoldSafeFont bytes
HoldSafeBy (Symbolic steps) bytes = HoldSymbolicSafeFont bytes
HoldSafeBy (Both steps) bytes = HoldSafeFont bytes ⊎ HoldSymbolicSafeFont bytes

-- the bytes hold a font, and the word is the name of a program of it that is accepted by this profile,
-- or by one of both
abbrev pub HoldAcceptedBy : Profile → List ℕ → List ℕ → Type 0
HoldAcceptedBy (Strict points) bytes word = HoldAcceptedProgram bytes word
HoldAcceptedBy (Symbolic steps) bytes word = HoldSymbolicAcceptedProgram bytes word
HoldAcceptedBy (Both steps) bytes word =
    HoldAcceptedProgram bytes word ⊎ HoldSymbolicAcceptedProgram bytes word

-- the bytes hold a font, and the word is the name of a program of it, of which this is answered by
-- the profile of this request
abbrev pub HoldExplainedBy : VerdictRequest → List ℕ → List ℕ → Explained → Type 0
HoldExplainedBy asked.Strict bytes word e = HoldExplained bytes word e
HoldExplainedBy (asked.Symbolic steps) bytes word e = HoldSymbolicExplained bytes word e

-- this is asked of a verdict by this profile, of the symbolic one with some number of steps; by both,
-- it is one or the other
abbrev pub IsRequestOf : Profile → VerdictRequest → Type 0
IsRequestOf (Strict most) asked.Strict = Unit {0}
IsRequestOf (Strict most) (asked.Symbolic steps) = ⊥
IsRequestOf (Symbolic most) asked.Strict = ⊥
IsRequestOf (Symbolic most) (asked.Symbolic steps) = Unit {0}
IsRequestOf (Both most) request = Unit {0}

-- by both profiles, a verdict of the strict one is told only where it refuses no program
abbrev pub IsTold : Profile → VerdictRequest → Judgement → Type 0
IsTold (Both most) asked.Strict judgement = judgement.refused ≡ []
IsTold other request judgement = Unit {0}

-- The verdict, for which this was asked, is told by this profile of the font that is in the bytes.
pub record IsVerdictBy (profile : Profile) (by : VerdictRequest) (bytes : List ℕ)
    (judgement : Judgement) : Type 0 where
  pub asked : IsRequestOf profile by
  pub given : IsVerdictOf by bytes judgement
  pub told : IsTold profile by judgement

-- The verdict of this profile on the font in the bytes refuses no program that counts. Those that it
-- refuses are undecided, left out or known: this doesn't tell that they are safe.
pub record HoldNoneCounted (profile : Profile) (does_count : Refused → Bool)
    (bytes : List ℕ) : Type 0 where
  pub by : VerdictRequest
  pub judgement : Judgement
  pub given : IsVerdictBy profile by bytes judgement
  pub none : list_any does_count judgement.refused ≡ false

-- What status 0 of a scan tells of each font file or face: some bytes hold a font whose programs are safe
-- by this profile; or, where the scan fails for possible faults alone, whose verdict has none.
abbrev pub HoldPassing : Option FailOn → Profile → List ℕ → Type 0
HoldPassing (Some Possible) profile bytes =
    HoldNoneCounted profile (fails_for (Some Possible)) bytes
HoldPassing other profile bytes = HoldSafeBy profile bytes

-- What status 0 of a scan tells. With a file of known refusals it tells that each refused program for
-- which it fails is known, by a line that names it or its glyph: no contract of the runtime tells
-- which lines the file has.
abbrev pub IsSafeScan : ScanOptions → List Label → Option (List ℕ) → Type 0
IsSafeScan options labels None =
    All (λ l. (bytes : List ℕ) × HoldPassing options.fail_on options.profile bytes) labels
IsSafeScan options labels (Some file) = (is_known : List ℕ → Bool) × All (λ l. (bytes : List ℕ)
    × HoldNoneCounted options.profile (is_unknown options.fail_on (is_listed is_known) l bytes) bytes)
    labels

-- What is asked for is safe, where it names a profile by that one, and otherwise by the strict one:
-- the glyph program of `bare`, which has no bytes where its word is left out. For `verdict`, `find`
-- and `check`, some bytes hold a safe font: no contract of the runtime tells which bytes a file
-- has, so that these can't be named here. For `scan` this holds for each file and face; where it
-- fails for possible faults alone, no more than that the verdict on each has none of them; where it
-- names a file of known refusals, that the verdict on each refuses no others. For `explain`, some
-- bytes hold a font whose program of this name is accepted; without a name, a safe font, unless the
-- font's word is the number of a reason. A listing and an upgrade tell nothing of safety.
abbrev pub IsSafeRequest : Request → Type 0
IsSafeRequest (bare maxp cvt points contours program profile) =
    SpellBare maxp points contours (unwrap_or program []) (IsSafeBareBy profile cvt)
IsSafeRequest (verdict font options) = (bytes : List ℕ) × HoldSafeBy options.profile bytes
IsSafeRequest (scan fonts options texts) = HoldsOfScanned options.words fonts texts.name
    (λ labels. IsSafeScan options labels texts.expected)
IsSafeRequest (explain font None place options) =
    IsReasonWord font ⊎ ((bytes : List ℕ) × HoldSafeBy options.profile bytes)
IsSafeRequest (explain font (Some program) place options) =
    (bytes : List ℕ) × HoldAcceptedBy options.profile bytes program
IsSafeRequest (find font certificate options) = (bytes : List ℕ) × HoldSafeFont bytes
IsSafeRequest (check font certificate options) = (bytes : List ℕ) × HoldSafeFont bytes
IsSafeRequest (list font program options) = Unit {0}
IsSafeRequest (upgrade old new max_bytes) = Unit {0}

-- The words ask for something, which is safe as `IsSafeRequest` says.
pub record MeansSafe (words : List (List ℕ)) : Type 0 where
  pub request : Request
  pub meant : meaning words ≡ Some request
  pub safe : IsSafeRequest request

-- by the strict profile, no family of abstract states is good for the glyph's program in a font of only
-- this glyph; that another profile refuses it tells nothing of it
abbrev pub IsRefusedBareBy : Profile → ℕ → List ℕ → GlyphData → Type 0
IsRefusedBareBy (Strict most) cvt table glyph = HasGoodFamily (bare_subject table cvt glyph) → ⊥
IsRefusedBareBy other cvt table glyph = Unit {0}

-- the bytes hold a font, and its verdict by this profile, of both by the symbolic one, names refused
-- programs
abbrev pub HoldRefusedBy : Profile → List ℕ → Type 0
HoldRefusedBy (Strict points) bytes = HoldRefusedFont bytes
HoldRefusedBy other bytes = HoldSymbolicRefusedFont bytes

-- The verdict of this profile on the font in the bytes refuses a program that counts.
pub record HoldSomeCounted (profile : Profile) (does_count : Refused → Bool)
    (bytes : List ℕ) : Type 0 where
  pub by : VerdictRequest
  pub judgement : Judgement
  pub given : IsVerdictBy profile by bytes judgement
  pub some : list_any does_count judgement.refused ≡ true

-- What status 1 of a scan tells of a font file: some bytes hold a font whose verdict by this
-- profile names refused programs; or, where the scan fails for possible faults alone, one of these.
abbrev pub HoldFailing : Option FailOn → Profile → List ℕ → Type 0
HoldFailing (Some Possible) profile bytes =
    HoldSomeCounted profile (fails_for (Some Possible)) bytes
HoldFailing other profile bytes = HoldRefusedBy profile bytes

-- the bytes hold a font, and the word is the name of a program of it that is refused by this profile, or
-- before which one is
abbrev pub HoldUnacceptedBy : Profile → List ℕ → List ℕ → Type 0
HoldUnacceptedBy (Strict points) bytes word = HoldRefusedProgram bytes word
HoldUnacceptedBy (Symbolic steps) bytes word = HoldSymbolicRefusedProgram bytes word
HoldUnacceptedBy (Both steps) bytes word =
    HoldRefusedProgram bytes word ⊎ HoldSymbolicRefusedProgram bytes word

-- The bytes hold a font.
pub record HoldFont (bytes : List ℕ) : Type 0 where
  pub font : FontData
  pub reads : Reads bytes font

-- by the strict profile the verdict names no refused program exactly where a family of abstract states is
-- good for the glyph's program, and otherwise what refuses it is so; another profile tells nothing more
abbrev pub IsExactBareBy : Profile → ℕ → List ℕ → GlyphData → List Refused → Type 0
IsExactBareBy (Strict most) cvt table glyph refused =
    (refused ≡ [] ↔ HasGoodFamily (bare_subject table cvt glyph))
    × All (IsRefusal (bare_subject table cvt glyph)) refused
IsExactBareBy other cvt table glyph refused = Unit {0}

-- The verdict, for which this was asked, is told by this profile of one glyph's program, against the
-- limits of this table.
pub record IsBareVerdict (profile : Profile) (by : VerdictRequest) (cvt : ℕ)
    (judgement : Judgement) (table : List ℕ) (glyph : GlyphData) : Type 0 where
  pub asked : IsRequestOf profile by
  pub told : IsTold profile by judgement
  pub one : judgement.programs ≡ 1
  pub few : length judgement.refused ≤ 1
  pub safe : judgement.refused ≡ [] → IsSafeAsked by (bare_font table cvt glyph) glyph
  pub exact : IsExactBareBy profile cvt table glyph judgement.refused

-- The verdict counts the programs of the font that is in the bytes; where it names no refused one,
-- the font is safe. Which ones a check by a certificate refuses isn't said: no contract of the
-- runtime tells the certificate's bytes.
pub record IsCheckOn (bytes : List ℕ) (judgement : Judgement) : Type 0 where
  pub font : FontData
  pub reads : Reads bytes font
  pub programs : judgement.programs ≡ length font.glyphs + 2
  pub safe : judgement.refused ≡ [] → IsSafeFont font

-- The verdict, made as is told, is the one that the words ask for: on the glyph program of `bare`; and for
-- `verdict`, `find` and `check` on a font that some bytes hold, for the last two by the strict profile.
-- The others ask for no verdict of this kind.
abbrev pub IsVerdictAsked : Request → VerdictRequest → Judgement → Type 0
IsVerdictAsked (bare maxp cvt points contours program profile) by judgement =
    SpellBare maxp points contours (unwrap_or program [])
    (IsBareVerdict profile by cvt judgement)
IsVerdictAsked (verdict font options) by judgement =
    (bytes : List ℕ) × IsVerdictBy options.profile by bytes judgement
IsVerdictAsked (find font certificate options) by judgement =
    (by ≡ asked.Strict) × ((bytes : List ℕ) × IsVerdictOn bytes judgement)
IsVerdictAsked (check font certificate options) by judgement =
    (by ≡ asked.Strict) × ((bytes : List ℕ) × IsCheckOn bytes judgement)
IsVerdictAsked other by judgement = ⊥

-- What status 1 of a scan tells: a font file fails; with a file of known refusals, its verdict refuses
-- a program for which the scan fails, and which isn't known.
abbrev pub IsRefusedScan : ScanOptions → List Label → Option (List ℕ) → Type 0
IsRefusedScan options labels None =
    (bytes : List ℕ) × HoldFailing options.fail_on options.profile bytes
IsRefusedScan options labels (Some file) = (is_known : List ℕ → Bool) × (label : Label)
    × (bytes : List ℕ) × Contains labels label
    × HoldSomeCounted options.profile
    (is_unknown options.fail_on (is_listed is_known) label bytes) bytes

-- What is asked for is refused: the glyph program of `bare`. For `verdict`, `find` and `scan`, some
-- bytes hold a font whose verdict names refused programs, for `scan` some for which it fails, and
-- which aren't known where it names a file of known refusals; for
-- `check` this tells no more than that some bytes hold a font. For `explain`, some bytes hold a
-- font whose program of this name is refused, or one before it. For `list`, some bytes hold a font
-- whose program of this name can't be cut or isn't structured. An upgrade is never refused.
abbrev pub IsRefusedRequest : Request → Type 0
IsRefusedRequest (bare maxp cvt points contours program profile) =
    SpellBare maxp points contours (unwrap_or program []) (IsRefusedBareBy profile cvt)
IsRefusedRequest (verdict font options) = (bytes : List ℕ) × HoldRefusedBy options.profile bytes
IsRefusedRequest (scan fonts options texts) = HoldsOfScanned options.words fonts texts.name
    (λ labels. IsRefusedScan options labels texts.expected)
IsRefusedRequest (explain font None place options) =
    (bytes : List ℕ) × HoldRefusedBy options.profile bytes
IsRefusedRequest (explain font (Some program) place options) =
    (bytes : List ℕ) × HoldUnacceptedBy options.profile bytes program
IsRefusedRequest (find font certificate options) = (bytes : List ℕ) × HoldRefusedFont bytes
IsRefusedRequest (check font certificate options) = (bytes : List ℕ) × HoldFont bytes
IsRefusedRequest (list font program options) = (bytes : List ℕ) × HoldUnlistedProgram bytes program
IsRefusedRequest (upgrade old new max_bytes) = ⊥

-- The words ask for something, which is refused.
pub record MeansRefused (words : List (List ℕ)) : Type 0 where
  pub request : Request
  pub meant : meaning words ≡ Some request
  pub refused : IsRefusedRequest request

-- What an exit status tells of the words of a command line. Where it is 0 and they are taken, they
-- ask for something safe; where it is 1, for something refused. Where it is more, a fault of theirs
-- gives it; where it is 0 or 1 and they are taken, they have no fault.
pub record IsStatusOf (words : List (List ℕ)) (status : ℕ) : Type 0 where
  pub few : status ≤ 3
  pub safe : status ≡ 0 → is_taken words ≡ true → MeansSafe words
  pub refused : status ≡ 1 → MeansRefused words
  pub told : 2 ≤ status → TellsFault words status
  pub none : status ≤ 1 → is_taken words ≡ true → MeansNoFault words
