-- What holds of a failed test, of its reason, and of its refusal at a place.
use Rattle.std.proofs.Common.{◌≡◌, ℕ, sym, subst}
use Rattle.tt_code.specs.declared.reason.Reason.{Reason}
use Rattle.tt_setting.specs.declared.failed.Failed.{Failed}
use Rattle.tt_setting.specs.declared.refusal.Refusal.{Refusal}
use Rattle.tt_setting.specs.declared.spot.Spot.{Spot}
use Rattle.tt_setting.specs.declared.step_fault.StepFault.{StepFault}
use Rattle.tt_setting.specs.declared.step_fault.StepFault.TheVariants.{Refused, OutOfMemory}
use Rattle.tt_setting.specs.Refusals.{ForFailed, ForReason, IsOfNoBudget, reason_of, refusal_at}

pub for_reason : (e : StepFault) (P Q : Reason → Type 0) → ((r : Reason) → P r → Q r) → ForReason e P → ForReason e Q
for_reason (Refused r) P Q f h = f (reason_of r) h
for_reason (OutOfMemory m) P Q f h = tt

-- what is told of a failed test says why the program is refused
pub failed_reason : (e : StepFault) (P : Failed → Type 0) (Q : Reason → Type 0) → ((f : Failed) → P f → Q (reason_of f)) → ForFailed e P → ForReason e Q
failed_reason (Refused f) P Q h told = h f told
failed_reason (OutOfMemory m) P Q h told = tt

-- the refusal of a step at a place is of no budget
pub refused_within : (spot : Spot) (offset : ℕ) (e : StepFault) (fault : Refusal) → fault ≡ refusal_at spot offset e → IsOfNoBudget fault
refused_within spot offset (Refused failed) fault is = let N : Refusal → Type 0 = λ x. IsOfNoBudget x in subst N (sym is) tt
refused_within spot offset (OutOfMemory m) fault is = let N : Refusal → Type 0 = λ x. IsOfNoBudget x in subst N (sym is) tt
