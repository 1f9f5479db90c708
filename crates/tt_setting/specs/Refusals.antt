-- Refusals: of an instruction at its place, and for which reason. (Own.)
use Rattle.std.specs.Prelude.{ℕ, Option, None, Some}
use Rattle.tt_code.specs.declared.kinds.Reference.{Reference}
use Rattle.tt_code.specs.declared.kinds.Reference.TheVariants as reference
use Rattle.tt_code.specs.declared.reason.Reason.{Reason}
use Rattle.tt_code.specs.declared.reason.Reason.TheVariants as reason
use Rattle.tt_setting.specs.declared.exhausted.Exhausted.TheVariants.{Budget, Memory}
use Rattle.tt_setting.specs.declared.failed.Failed.{Failed}
use Rattle.tt_setting.specs.declared.failed.Failed.TheVariants.{Only, TooFew, NoElement, TooDeep, Unknown, UnknownIn, MayBeOutside, MayBeOutsideIn, NoPoint, NoReferencePoint, NoControlValue, NoStorageCell, NoZone, NoContour, NegativeCount, NegativeLoop, LowIndex, NoTarget, NoFunction, Undefined, Running, OtherDepth}
use Rattle.tt_setting.specs.declared.failed.Register.{Register}
use Rattle.tt_setting.specs.declared.failed.Register.TheVariants as register
use Rattle.tt_setting.specs.declared.refusal.Refusal.{Refusal}
use Rattle.tt_setting.specs.declared.refusal.Refusal.TheVariants.{Refused, Exhausted}
use Rattle.tt_setting.specs.declared.spot.Spot.{Spot}
use Rattle.tt_setting.specs.declared.step_fault.StepFault.{StepFault}
use Rattle.tt_setting.specs.declared.step_fault.StepFault.TheVariants as step

-- the reason for which a program is refused where this test fails
abbrev pub reason_of : Failed → Reason
reason_of (Only r) = r
reason_of (TooFew depth) = reason.Underflow
reason_of (NoElement index) = reason.Underflow
reason_of (TooDeep depth) = reason.Overflow
reason_of (Unknown role under) = reason.UnknownOperand
reason_of (UnknownIn register) = reason.UnknownOperand
reason_of (MayBeOutside role z under) = reason.UnknownOperand
reason_of (MayBeOutsideIn register z) = reason.UnknownOperand
reason_of (NoPoint z number) = reason.Point
reason_of (NoReferencePoint register z number) = reason.Point
reason_of (NoControlValue index) = reason.Cvt
reason_of (NoStorageCell index) = reason.Storage
reason_of (NoZone number) = reason.Zone
reason_of (NoContour z number) = reason.Contour
reason_of (NegativeCount count) = reason.Count
reason_of (NegativeLoop count) = reason.Count
reason_of (LowIndex index) = reason.Count
reason_of (NoTarget by) = reason.Target
reason_of (NoFunction number) = reason.Function
reason_of (Undefined number) = reason.Function
reason_of (Running number) = reason.Recursion
reason_of (OtherDepth depth) = reason.DepthMismatch

-- a reference point as a number of the graphics state
abbrev pub register_of : Reference → Register
register_of reference.Rp0 = register.Rp0
register_of reference.Rp1 = register.Rp1
register_of reference.Rp2 = register.Rp2

-- what holds of the test that fails; where memory ran out, nothing has to hold
abbrev pub ForFailed : StepFault → (Failed → Type 0) → Type 0
ForFailed (step.Refused f) P = P f
ForFailed (step.OutOfMemory e) P = Unit {0}

-- what holds of its reason
abbrev pub ForReason : StepFault → (Reason → Type 0) → Type 0
ForReason (step.Refused f) P = P (reason_of f)
ForReason (step.OutOfMemory e) P = Unit {0}

-- the refusal of the instruction at this place, which is refused so
abbrev pub refusal_at : Spot → ℕ → StepFault → Refusal
refusal_at spot offset (step.Refused failed) = Refused spot offset failed
refusal_at spot offset (step.OutOfMemory error) = Exhausted Memory

-- memory ran out
abbrev pub IsOutOfMemory : StepFault → Type 0
IsOutOfMemory fault = ForFailed fault (λ _. ⊥)

-- the reason of a refusal, if the program is refused
abbrev pub told_reason : Refusal → Option Reason
told_reason (Refused spot offset failed) = Some (reason_of failed)
told_reason (Exhausted by) = None

-- what ends the work isn't a budget
abbrev pub IsOfNoBudget : Refusal → Type 0
IsOfNoBudget (Refused spot offset failed) = Unit {0}
IsOfNoBudget (Exhausted Memory) = Unit {0}
IsOfNoBudget (Exhausted Budget) = ⊥

-- the same answer of work that has no budget: whatever ended the work is told as memory
abbrev pub unlimited : Refusal → Refusal
unlimited (Refused spot offset failed) = Refused spot offset failed
unlimited (Exhausted by) = Exhausted Memory

-- what holds of a refusal, and of memory that ran out, holds of the same answer without a budget
pub unlimited_keeps : (P : Refusal → Type 0) → P (Exhausted Memory) → (fault : Refusal) → P fault
    → P (unlimited fault)
unlimited_keeps P memory (Refused spot offset failed) holds = holds
unlimited_keeps P memory (Exhausted by) holds = memory
