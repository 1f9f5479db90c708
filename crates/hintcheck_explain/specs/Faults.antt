-- What explaining tells of failed writes, and of what the search found.
use Rattle.std.specs.Prelude.{◌≡◌, ℕ, Result, Ok, Err}
use Rattle.tt_setting.specs.declared.setting.Setting.{Setting as Subject}
use Rattle.tt_setting.specs.Refusals.{reason_of}
use Rattle.tt_setting.specs.declared.failed.Failed.{Failed}
use Rattle.tt_setting.specs.declared.spot.Spot.{Spot}
use Rattle.tt_setting.specs.declared.refusal.Refusal.TheVariants as program
use Rattle.tt_find.specs.FoundSubjects.{IsJustifiedFor, IsLeastFor, TellsNoneIsGood}
use Rattle.tt_find.specs.declared.finder.Found.{Found}
use Rattle.tt_setting.specs.declared.name.Name.{Name}
use Rattle.tt_stream.specs.Streams.{CountsPrintFailure}
use Rattle.hintcheck_report.specs.Places.{reported_at}
use Rattle.hintcheck_report.specs.declared.refused.Refused.{Refused}
use Rattle.hintcheck_explain.specs.declared.asked.Explained.{Explained}
use Rattle.hintcheck_explain.specs.declared.asked.Explained.TheVariants as explained
use Rattle.hintcheck_report.specs.declared.answer_fault.AnswerFault.{AnswerFault}
use Rattle.hintcheck_report.specs.declared.answer_fault.AnswerFault.TheVariants as fault

-- the count of failed writes goes up by one exactly where the fault is a failed write; there are no
-- other faults than those of printing, and that memory or the budget ran out
abbrev pub TellsFailure : {T : Type 0} → Result T AnswerFault → ℕ → ℕ → Type 0
TellsFailure (Ok done) old new = new ≡ old
TellsFailure (Err (fault.Print failed)) old new = CountsPrintFailure (Err failed) old new
TellsFailure (Err (fault.Exhausted by)) old new = new ≡ old
TellsFailure (Err other) old new = ⊥

-- some family can be filled up to the least good one
abbrev pub HasLeast : Subject → Type 0
HasLeast x = (found : Found) × IsLeastFor x found

-- A place, by spot and offset, at which it is right to refuse the program of this name, and the test
-- that fails, which gives the reason: no family is good for it, unless its end alone isn't reached.
-- This is what is reported of it.
pub record HasRefusal (x : Subject) (called : Name) (r : Refused) : Type 0 where
  pub spot : Spot
  pub offset : ℕ
  pub failed : Failed
  pub justified : IsJustifiedFor x (program.Refused spot offset failed)
  pub none_good : TellsNoneIsGood x (program.Refused spot offset failed)
  pub reported : r ≡ reported_at called spot offset (reason_of failed)

-- what is answered of the program of this name: it is accepted, or refused so
abbrev pub IsAnsweredFor : Subject → Name → Explained → Type 0
IsAnsweredFor x called explained.Accepted = HasLeast x
IsAnsweredFor x called (explained.Refused r) = HasRefusal x called r
