-- What comes of a request: an answer with its exit status; a verdict, or why there is none.
use Rattle.std.specs.Prelude.{◌≡◌, ◌≢◌, ◌≤◌, ◌⊎◌, ℕ, List, [], None, Option, Some}
use Rattle.hintcheck_words.specs.Requests.{Request}
use Rattle.hintcheck_words.specs.declared.words.Profile.{Profile}
use Rattle.hintcheck.specs.CommandFaults.{HasNoFault, HasToldFault, IsFaultOfRequest}
use Rattle.hintcheck.specs.Commands.{IsNoWriteFault}
use Rattle.hintcheck.specs.MeansSafe.{HoldAcceptedBy, HoldUnacceptedBy, IsRefusedRequest, IsSafeRequest, IsVerdictAsked}
use Rattle.hintcheck.specs.Printed.{Prints}
use Rattle.hintcheck.specs.declared.commands.faults.CommandFault.{CommandFault}
use Rattle.hintcheck_report.specs.declared.answer_fault.AnswerFault.{AnswerFault}
use Rattle.hintcheck_report.specs.declared.answer_fault.AnswerFault.TheVariants as fault
use Rattle.hintcheck_programs.specs.BarePrograms.{IsMemory}
use Rattle.tt_font.specs.Conditions.{Condition}
use Rattle.hintcheck_fonts.specs.declared.request.Request.{Request as VerdictRequest}
use Rattle.hintcheck_programs.specs.Verdicts.{Judgement}

-- The request was answered with this exit status, and the answer was printed. Where the status is 0,
-- what is asked for is safe; where it is 1, it is refused; where it is more, what is printed tells a
-- fault, and otherwise there is none.
pub record IsAnswered (request : Request) (status : ℕ) (old new : Option (List ℕ)) : Type 0 where
  pub few : status ≤ 3
  pub safe : status ≡ 0 → IsSafeRequest request
  pub refused : status ≡ 1 → IsRefusedRequest request
  pub told : 2 ≤ status → HasToldFault request status
  pub none : status ≤ 1 → HasNoFault request
  pub printed : Prints request status old new

-- What the exit status of an explanation of the program with this name tells: where it is 0, some
-- bytes hold a font whose program of this name is accepted by this profile; where it is 1, one whose
-- program of this name is refused, or one before it.
pub record IsExplained (profile : Profile) (word : List ℕ) (status : ℕ) : Type 0 where
  pub few : status ≤ 3
  pub accepted : status ≡ 0 → (bytes : List ℕ) × HoldAcceptedBy profile bytes word
  pub refused : status ≡ 1 → (bytes : List ℕ) × HoldUnacceptedBy profile bytes word

-- The verdict, made as is told, is the one that the request asks for. Where it refuses no program, what is asked for is
-- safe, and otherwise it is refused; the request has no fault.
pub record IsVerdictFor (request : Request) (by : VerdictRequest) (judgement : Judgement) : Type 0 where
  pub given : IsVerdictAsked request by judgement
  pub safe : judgement.refused ≡ [] → IsSafeRequest request
  pub refused : judgement.refused ≢ [] → IsRefusedRequest request
  pub none : HasNoFault request

-- why there is no verdict for the request: a fault of it that is no failed write to the output
abbrev pub IsNoVerdictFor : Request → CommandFault → Type 0
IsNoVerdictFor request reported = IsFaultOfRequest request reported × IsNoWriteFault reported

-- why there is no verdict on one glyph program, once its words are spelled: the fault of the table; or
-- memory or the budget ran out where it has none
abbrev pub IsFaultOfTable : Condition → AnswerFault → Type 0
IsFaultOfTable condition (fault.Font f) =
    (condition ≡ Some f) ⊎ (IsMemory f × (condition ≡ None))
IsFaultOfTable condition (fault.Exhausted by) = condition ≡ None
IsFaultOfTable condition other = ⊥
