-- What the calls of C and C++ answer: a verdict or a fault, in numbers.
use Rattle.std.specs.Prelude.{◌≡◌, ◌≢◌, ℕ, ◌-◌, ◌^◌, List, [], ◌∷◌, length, min, None, Some, Err, alloc_error}
use Rattle.tt_setting.specs.declared.exhausted.Exhausted.TheVariants as exhausted
use Rattle.tt_collection.specs.FaultNumbers.{fault_number as collection_number}
use Rattle.tt_collection.specs.declared.fault.CollectionFault.{CollectionFault}
use Rattle.tt_collection.specs.declared.fault.CollectionFault.TheVariants as collection
use Rattle.tt_font.specs.FaultNumbers.{fault_number as font_number}
use Rattle.tt_font.specs.FileFaults.{font_fault}
use Rattle.tt_font.specs.Reading.{FontData, Reads}
use Rattle.tt_font.specs.declared.fault.FontFault.{FontFault}
use Rattle.tt_font.specs.declared.fault.FontFault.TheVariants as font
use Rattle.hintcheck_certificates.specs.Certificates.{IsChecked}
use Rattle.hintcheck_certificates.specs.CheckedFonts.{AnswersFinding}
use Rattle.hintcheck_programs.specs.FontPrograms.{IsVerdict}
use Rattle.hintcheck_fonts.specs.SymbolicVerdicts.{IsSymbolicVerdict}
use Rattle.hintcheck_programs.specs.Verdicts.{Judgement}
use Rattle.hintcheck_report.specs.declared.answer_fault.AnswerFault.{AnswerFault}
use Rattle.hintcheck_report.specs.declared.answer_fault.AnswerFault.TheVariants as fault
use Rattle.hintcheck_report.specs.declared.refused.Refused.{Refused}
use Rattle.hintcheck_c.specs.FontFiles.{file_fault, font_file}
use Rattle.hintcheck_c.specs.MayHint.{TellsMayHint}
use Rattle.hintcheck_c.specs.Refusals.{listed_in}
use Rattle.hintcheck_c.specs.declared.answer.HintcheckAnswer.{HintcheckAnswer}
use Rattle.hintcheck_c.specs.declared.no_verdict.NoVerdict.{NoVerdict}
use Rattle.hintcheck_c.specs.declared.no_verdict.NoVerdict.TheVariants as why
use Rattle.hintcheck_c.specs.declared.refusal.HintcheckRefusal.{HintcheckRefusal}

-- 0 where no program is refused, and otherwise 1
abbrev pub status_of : List Refused → ℕ
status_of [] = 0
status_of (r ∷ rs) = 1

-- a verdict in numbers, with room for `room` refusals, by the profile of this number in so many
-- steps; 32 bits tell how many programs are refused
abbrev pub verdict_answer : Judgement → ℕ → ℕ → ℕ → HintcheckAnswer
verdict_answer judgement room profile steps = record {
  status = status_of judgement.refused;
  fault = 0;
  place = 0;
  steps = steps;
  programs = judgement.programs;
  refused = min (length judgement.refused) (2 ^ 32 - 1);
  listed = min (length judgement.refused) room;
  profile = profile;
}

-- a fault in numbers: the status, the fault's own number, its place, and by which profile it is told
-- after how many steps
abbrev pub fault_answer : ℕ → ℕ → ℕ → ℕ → ℕ → HintcheckAnswer
fault_answer status fault place profile steps = record {
  status = status;
  fault = fault;
  place = place;
  steps = steps;
  programs = 0;
  refused = 0;
  listed = 0;
  profile = profile;
}

-- a fault of a font in numbers
abbrev pub font_answer : FontFault → ℕ → ℕ → HintcheckAnswer
font_answer (font.OutOfMemory error) profile steps = fault_answer 3 9 0 profile steps
font_answer fault profile steps = fault_answer 2 (font_number fault) 0 profile steps

-- why a font file has no verdict, in numbers
abbrev pub font_unanswered : AnswerFault → ℕ → ℕ → HintcheckAnswer
font_unanswered (fault.Font fault) profile steps = font_answer fault profile steps
font_unanswered (fault.Form place) profile steps = fault_answer 2 43 place profile steps
font_unanswered fault.Read profile steps = fault_answer 2 44 0 profile steps
font_unanswered fault.Write profile steps = fault_answer 2 45 0 profile steps
font_unanswered (fault.Print failed) profile steps = fault_answer 2 45 0 profile steps
font_unanswered (fault.Exhausted exhausted.Memory) profile steps = fault_answer 3 9 0 profile steps
font_unanswered (fault.Exhausted exhausted.Budget) profile steps = fault_answer 4 46 0 profile steps

-- why there is no such font file, in numbers
abbrev pub file_unanswered : CollectionFault → ℕ → ℕ → HintcheckAnswer
file_unanswered (collection.OutOfMemory error) profile steps = fault_answer 3 9 0 profile steps
file_unanswered fault profile steps = fault_answer 2 (collection_number fault) 0 profile steps

-- why there is no verdict, in numbers
abbrev pub unanswered : NoVerdict → ℕ → ℕ → HintcheckAnswer
unanswered (why.File fault) profile steps = file_unanswered fault profile steps
unanswered (why.Font fault) profile steps = font_unanswered fault profile steps

-- The answer is this verdict in numbers, and its first refusals are listed, as many as there is
-- room for.
pub record Answers (judgement : Judgement) (answer : HintcheckAnswer)
    (old new : List HintcheckRefusal) : Type 0 where
  pub in_numbers : answer ≡ verdict_answer judgement (length old) answer.profile answer.steps
  pub listed : new ≡ listed_in judgement.refused old

-- The answer is the verdict on the font that is in the bytes, and the array says of each glyph
-- whether it may be drawn with hints.
pub record AnswersVerdict (bytes : List ℕ) (answer : HintcheckAnswer)
    (old new : List HintcheckRefusal) (entries : List ℕ) : Type 0 where
  pub font : FontData
  pub reads : Reads bytes font
  pub judgement : Judgement
  pub given : IsVerdict font judgement
  pub answered : Answers judgement answer old new
  pub told : TellsMayHint bytes judgement.refused entries

-- The answer is the verdict on the font that is in the bytes, by symbolic states, and the array says
-- of each glyph whether it may be drawn with hints.
pub record AnswersSymbolicVerdict (bytes : List ℕ) (answer : HintcheckAnswer)
    (old new : List HintcheckRefusal) (entries : List ℕ) : Type 0 where
  pub font : FontData
  pub reads : Reads bytes font
  pub judgement : Judgement
  pub given : IsSymbolicVerdict font judgement
  pub answered : Answers judgement answer old new
  pub told : TellsMayHint bytes judgement.refused entries

-- The answer is the verdict on the font that is in the bytes, by a certificate.
pub record AnswersCheck (bytes certificate : List ℕ) (answer : HintcheckAnswer)
    (old new : List HintcheckRefusal) : Type 0 where
  pub font : FontData
  pub reads : Reads bytes font
  pub judgement : Judgement
  pub given : AnswersFinding font certificate judgement
  pub answered : Answers judgement answer old new

-- the fault of a font is the first one of the bytes, unless memory ran out
abbrev pub IsFaultOfFont : List ℕ → FontFault → Type 0
IsFaultOfFont bytes fault = fault ≢ font.OutOfMemory alloc_error → font_fault bytes ≡ Some fault

-- A fault of the font is the first one of the bytes; or memory or the budget ran out, of which the
-- steps tell. No other comes.
abbrev pub IsFaultOfVerdict : List ℕ → AnswerFault → Type 0
IsFaultOfVerdict bytes (fault.Font fault) = IsFaultOfFont bytes fault
IsFaultOfVerdict bytes (fault.Exhausted by) = Unit {0}
IsFaultOfVerdict bytes other = ⊥

-- The fault is the font's; or the certificate's bytes are no certificate for the font, at this
-- place; or memory or the budget ran out, of which the steps tell. No read of bytes in memory
-- fails, and nothing is written.
abbrev pub IsFaultOfCheck : List ℕ → List ℕ → AnswerFault → Type 0
IsFaultOfCheck certificate bytes (fault.Font fault) = IsFaultOfFont bytes fault
IsFaultOfCheck certificate bytes (fault.Form place) =
    (d : FontData) × Reads bytes d × IsChecked d certificate (Err place)
IsFaultOfCheck certificate bytes (fault.Exhausted by) = Unit {0}
IsFaultOfCheck certificate bytes other = ⊥

-- The bytes have no such font file, for their first fault, unless memory ran out; or the file has no
-- verdict, for a reason of this kind.
abbrev pub IsNoVerdict : (List ℕ → AnswerFault → Type 0) → ℕ → List ℕ → NoVerdict → Type 0
IsNoVerdict IsReason face bytes (why.File fault) =
    fault ≢ collection.OutOfMemory alloc_error → file_fault face bytes ≡ Some fault
IsNoVerdict IsReason face bytes (why.Font fault) =
    (file_fault face bytes ≡ None) × IsReason (font_file face bytes) fault

-- The answer is why there is no verdict on a face, in numbers, and nothing is listed.
pub record AnswersNoVerdict (IsReason : List ℕ → AnswerFault → Type 0) (face : ℕ)
    (bytes : List ℕ) (answer : HintcheckAnswer) (old new : List HintcheckRefusal) : Type 0 where
  pub why : NoVerdict
  pub is_why : IsNoVerdict IsReason face bytes why
  pub in_numbers : answer ≡ unanswered why answer.profile answer.steps
  pub unlisted : new ≡ old
