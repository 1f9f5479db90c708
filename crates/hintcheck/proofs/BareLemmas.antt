-- The verdict on one glyph program, whose words are spelled, or why there is none.
use Rattle.std.proofs.Common.{◌≡◌, ◌≢◌, ℕ, List, [], IfErr, None, Option, Some, Result, Ok, Err, inl, inr, refl}
use Rattle.tt_font.specs.Conditions.{Condition, maxp_fault}
use Rattle.tt_font.specs.Reading.{GlyphData}
use Rattle.tt_setting.specs.declared.budget.Budget.{Budget}
use Rattle.tt_setting.specs.declared.exhausted.Exhausted.TheVariants as exhausted
use Rattle.hintcheck_report.specs.declared.answer_fault.AnswerFault.{AnswerFault}
use Rattle.hintcheck_report.specs.declared.answer_fault.AnswerFault.TheVariants as fault
use Rattle.hintcheck_fonts.specs.Requests.{IsSafeAsked}
use Rattle.hintcheck_fonts.specs.declared.request.Request.{Request}
use Rattle.hintcheck_fonts.specs.declared.request.Request.TheVariants as request
use Rattle.hintcheck_programs.specs.BarePrograms.{bare_font, glyph_with}
use Rattle.hintcheck_programs.specs.BudgetAnswers.{BareTellsTableFault, IsNotExceeded, VerdictTellsBudget}
use Rattle.hintcheck_programs.specs.Verdicts.{Judgement}
use Rattle.hintcheck_words.specs.HexWords.{Spells}
use Rattle.hintcheck_words.specs.Requests.{bare}
use Rattle.hintcheck_words.specs.declared.words.Profile.{Profile}
use Rattle.hintcheck_words.specs.declared.words.Profile.TheVariants.{Both, Strict, Symbolic}
use Rattle.hintcheck_report.specs.declared.refused.Refused.{Refused}
use Rattle.hintcheck.specs.CommandFaults.{AreHexWords}
use Rattle.hintcheck.specs.MeansSafe.{IsBareVerdict, IsExactBareBy, IsRefusedBareBy, IsRequestOf, IsSafeBareBy}
use Rattle.hintcheck.specs.Representation.Answers.{IsFaultOfTable, IsVerdictFor}

-- why there is no verdict within a budget that isn't exceeded before
pub table_fault : {T : Type 0} (old new : Budget) (condition : Condition) (r : Result T AnswerFault) → IsNotExceeded old → BareTellsTableFault old condition r → VerdictTellsBudget new r → IfErr r (IsFaultOfTable condition)
table_fault old new condition (Ok done) free tells budget = tt
table_fault old new condition (Err (fault.Font f)) free tells budget = tells
table_fault old new condition (Err (fault.Exhausted exhausted.Budget)) free tells budget = tells free
table_fault old new condition (Err (fault.Exhausted exhausted.Memory)) free tells budget = tells
table_fault old new condition (Err (fault.Form place)) free tells budget = absurd budget
table_fault old new condition (Err fault.Read) free tells budget = absurd budget
table_fault old new condition (Err fault.Write) free tells budget = absurd budget
table_fault old new condition (Err (fault.Print failed)) free tells budget = absurd budget

safe_bare : (profile : Profile) (by : Request) (cvt : ℕ) (table : List ℕ) (glyph : GlyphData) → IsRequestOf profile by → IsSafeAsked by (bare_font table cvt glyph) glyph → IsSafeBareBy profile cvt table glyph
safe_bare (Strict most) request.Strict cvt table glyph asked safe = safe
safe_bare (Strict most) (request.Symbolic steps) cvt table glyph asked safe = absurd asked
safe_bare (Symbolic most) request.Strict cvt table glyph asked safe = absurd asked
safe_bare (Symbolic most) (request.Symbolic steps) cvt table glyph asked safe = safe
safe_bare (Both most) request.Strict cvt table glyph asked safe = inl safe
safe_bare (Both most) (request.Symbolic steps) cvt table glyph asked safe = inr safe

refused_bare : (profile : Profile) (cvt : ℕ) (table : List ℕ) (glyph : GlyphData) (refused : List Refused) → IsExactBareBy profile cvt table glyph refused → refused ≢ [] → IsRefusedBareBy profile cvt table glyph
refused_bare (Strict most) cvt table glyph refused exact some = λ good. some (exact.0.1 good)
refused_bare (Symbolic most) cvt table glyph refused exact some = tt
refused_bare (Both most) cvt table glyph refused exact some = tt

pub bare_given : (maxp : List ℕ) (cvt points contours : ℕ) (word : List ℕ) (profile : Profile) (by : Request) (v : Judgement) (table bytes : List ℕ) → Spells maxp table → Spells word bytes → AreHexWords maxp word → maxp_fault table ≡ None
    → IsBareVerdict profile by cvt v table (glyph_with points contours bytes) → IsVerdictFor (bare maxp cvt points contours (Some word) profile) by v
bare_given maxp cvt points contours word profile by v table bytes maxp_spelled word_spelled words none is =
    let glyph : GlyphData = glyph_with points contours bytes in
    record {
      given = record { table = table; table_spelled = maxp_spelled; glyph = glyph; points_are = refl; contours_are = refl; program_spelled = word_spelled; holds = is };
      safe = λ empty. record { table = table; table_spelled = maxp_spelled; glyph = glyph; points_are = refl; contours_are = refl; program_spelled = word_spelled; holds = safe_bare profile by cvt table glyph is.asked (is.safe empty) };
      refused = λ some. record { table = table; table_spelled = maxp_spelled; glyph = glyph; points_are = refl; contours_are = refl; program_spelled = word_spelled; holds = refused_bare profile cvt table glyph v.refused is.exact some };
      none = record { words = words; table = table; spelled = maxp_spelled; none = none };
    }
