-- The hint machine with its control values. Its steps are those of the hint machine in which some
-- of the numbers that are any there are these. (Apple TrueType Reference Manual, "The TrueType
-- instruction set": RCVT, WCVTP, WCVTF, DELTAC, MAX, MIN, MUL, DIV, FLOOR and CEILING.) Numbers in
-- 26.6 are counted in sixty-fourths. Own: control values are read as they are written.
use Rattle.std.specs.Prelude.{◌≡◌, ◌⊎◌, ℕ, ◌+◌, ◌<◌, ℤ, pos, ◌+ℤ◌, ◌-ℤ◌, ◌*ℤ◌, ◌≤ℤ◌, ◌<ℤ◌, List, [], ◌∷◌, drop, Option, None, Some}
use Rattle.std.specs.Int.{int_max, int_min}
use Rattle.tt_code.specs.Cut.{Instruction}
use Rattle.tt_code.specs.Settings.{Setting}
use Rattle.tt_code.specs.Table.{refinement_of}
use Rattle.tt_code.specs.declared.kinds.Refinement.{Refinement}
use Rattle.tt_code.specs.declared.kinds.Refinement.TheVariants.{ReadsControl, WritesControl, ChangesControl, ChangesControls, Greatest, Least, Product, Quotient, Floor, Ceiling}
use Rattle.tt_code.specs.States.{Machine, IsNumber}
use Rattle.tt_code.specs.Changes.{natural, with_stored}
use Rattle.tt_code.specs.Runs.{Choices, Faults, Steps, fetched}
use Rattle.tt_code.specs.declared.reason.Reason.{Reason}

-- the machine, and its control values by index
pub record CvtMachine : Type 0 where
  pub machine : Machine
  pub controls : ℕ → ℤ

-- the same control values
abbrev pub SameControls : (ℕ → ℤ) → (ℕ → ℤ) → Type 0
SameControls old new = (i : ℕ) → new i ≡ old i

-- numbers of the machine, the same as before except where it says otherwise
pub record ChangesOnly (Changed : ℕ → Type 0) (old new : ℕ → ℤ) : Type 0 where
  pub are_numbers : (i : ℕ) → IsNumber (new i)
  pub same : (i : ℕ) → (Changed i → ⊥) → new i ≡ old i

-- one of the first pairs on a stack, of an index and a number, has this index
pub record IsPaired (count : ℕ) (stack : List ℤ) (k : ℕ) : Type 0 where
  pub place : ℕ
  pub within : place < count
  pub index : ℤ
  pub below : List ℤ
  pub at : drop (place + place) stack ≡ index ∷ below
  pub is : k ≡ natural index

-- MUL is exact where an operand is a whole number of units of 64, and the product is a number of
-- the machine
pub record IsProduct (a b z : ℤ) : Type 0 where
  pub first_whole : (k : ℤ) → a ≡ k *ℤ pos 64 → IsNumber (k *ℤ b) → z ≡ k *ℤ b
  pub second_whole : (k : ℤ) → b ≡ k *ℤ pos 64 → IsNumber (k *ℤ a) → z ≡ k *ℤ a

-- a multiple or a divisor of 64
abbrev pub IsCommensurable : ℤ → Type 0
IsCommensurable b = (k : ℤ) × ((b ≡ k *ℤ pos 64) ⊎ (pos 64 ≡ k *ℤ b))

-- DIV gives the quotient, or a number beside it, by less than 1, where the divisor is above 0 and a
-- multiple or a divisor of 64, and 64 times the dividend is a number of the machine
pub record IsQuotient (a b z : ℤ) : Type 0 where
  pub near : pos 0 <ℤ b → IsCommensurable b → IsNumber (a *ℤ pos 64)
      → (((a *ℤ pos 64) -ℤ b) <ℤ (z *ℤ b)) × ((z *ℤ b) <ℤ ((a *ℤ pos 64) +ℤ b))

-- the greatest multiple of 64 that isn't above the number
pub record IsFloor (a z : ℤ) : Type 0 where
  pub multiple : ℤ
  pub is_multiple : z ≡ multiple *ℤ pos 64
  pub below : z ≤ℤ a
  pub greatest : a <ℤ (z +ℤ pos 64)

-- the least multiple of 64 that isn't below the number
pub record IsCeiling (a z : ℤ) : Type 0 where
  pub multiple : ℤ
  pub is_multiple : z ≡ multiple *ℤ pos 64
  pub above : a ≤ℤ z
  pub least : z <ℤ (a +ℤ pos 64)

-- what such an instruction does with the stack and the control values that it finds
abbrev pub Refines : Refinement → List ℤ → (ℕ → ℤ) → Choices → (ℕ → ℤ) → Type 0
Refines ReadsControl (i ∷ stack) old choices new =
    (choices 0 ≡ old (natural i)) × SameControls old new
Refines WritesControl (z ∷ i ∷ stack) old choices new =
    (k : ℕ) → new k ≡ with_stored (natural i) z old k
Refines ChangesControl (z ∷ i ∷ stack) old choices new = ChangesOnly (λ k. k ≡ natural i) old new
Refines ChangesControls (n ∷ stack) old choices new =
    ChangesOnly (IsPaired (natural n) stack) old new
Refines Greatest (b ∷ a ∷ stack) old choices new =
    (choices 0 ≡ int_max a b) × SameControls old new
Refines Least (b ∷ a ∷ stack) old choices new =
    (choices 0 ≡ int_min a b) × SameControls old new
Refines Product (b ∷ a ∷ stack) old choices new = IsProduct a b (choices 0) × SameControls old new
Refines Quotient (b ∷ a ∷ stack) old choices new =
    IsQuotient a b (choices 0) × SameControls old new
Refines Floor (a ∷ stack) old choices new = IsFloor a (choices 0) × SameControls old new
Refines Ceiling (a ∷ stack) old choices new =
    ((c : ℤ) → IsCeiling a c → IsNumber c → choices 0 ≡ c) × SameControls old new
Refines _ stack old choices new = SameControls old new

-- what the instruction that is there does with them
abbrev pub Allows : Option Instruction → List ℤ → (ℕ → ℤ) → Choices → (ℕ → ℤ) → Type 0
Allows None stack old choices new = SameControls old new
Allows (Some []) stack old choices new = SameControls old new
Allows (Some (code ∷ rest)) stack old choices new =
    Refines (refinement_of code) stack old choices new

-- one step of this machine is a step of the hint machine
pub record CvtSteps (s : Setting) (old new : CvtMachine) : Type 0 where
  pub steps : Steps s old.machine new.machine
  pub allowed :
      Allows (fetched s old.machine) old.machine.stack old.controls steps.choices new.controls

-- runs of any number of steps
pub data CvtRuns (s : Setting) : CvtMachine → CvtMachine → Type 0 where
  here : (m : CvtMachine) → CvtRuns s m m
  step : (a b c : CvtMachine) → CvtSteps s a b → CvtRuns s b c → CvtRuns s a c

-- no run from any of these machines reaches a fault
abbrev pub CvtNeverFaults : Setting → (CvtMachine → Type 0) → Type 0
CvtNeverFaults s Starts =
    (m n : CvtMachine) (r : Reason) → Starts m → CvtRuns s m n → Faults s n.machine r → ⊥
