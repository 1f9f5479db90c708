-- Good families, described by machines: what a family of abstract states, one at each of some
-- places, has to be for a program.
use Rattle.std.specs.Prelude.{◌≡◌, ◌↔◌, ℕ, ◌≤◌, List, Option, Some, Err, false, length, slice_get}
use Rattle.tt_code.specs.Runs.{Faults, Steps, outcome}
use Rattle.tt_code.specs.Settings.{Setting}
use Rattle.tt_code.specs.States.{Machine}
use Rattle.tt_code.specs.declared.machine.Frame.{Frame}
use Rattle.tt_code.specs.declared.reason.Reason.{Reason}
use Rattle.tt_abs.specs.declared.state.State.{State}
use Rattle.tt_abs.specs.Contexts.{FramesFit}
use Rattle.tt_abs.specs.Cells.{Abstract}
use Rattle.tt_abs.specs.Covers.{IsRefused, MOST_CONTEXTS, StandsFor, has_body_twice}
use Rattle.tt_setting.specs.Entries.{Ascends}
use Rattle.tt_abs.specs.Families.{IsFamilyInRange, IsGood}
use Rattle.tt_abs.specs.Ranges.{AreInRange}
use Rattle.tt_setting.specs.Ranges.{IsSettingInRange}
use Rattle.tt_abs.specs.Soundness.{IsCoveredBy, IsSafe}
use Rattle.tt_setting.specs.Functions.{StartsWith}
use Rattle.tt_setting.specs.Ranges.{AreProgramsShort}
use Rattle.tt_abs.specs.StateFlow.{Place, flow_of}
use Rattle.tt_abs.specs.States.{state_order}
use Rattle.tt_abs.specs.Transfers.{outcome_on_cells}

-- What an abstract state becomes, computed on its cells, is what the machines that it covers
-- become, at each place whose calls run no body twice (the programs are short, and the stack is in
-- range). It is refused only where one of them faults or comes to run a body twice, or where they
-- come to too many lists of frames; otherwise it gives the smallest covers of what they become.
abbrev pub OutcomeStandsForMachines : Type 0
OutcomeStandsForMachines =
    (s : Setting) (fs : List Frame) (at : ℕ) (a : Abstract) → AreProgramsShort s
    → AreInRange a.stack → has_body_twice fs ≡ false
    → StandsFor a fs at (outcome s) (outcome_on_cells s fs at a)

-- in the same cases, the outcome on cells is refused exactly where there is one of these causes
abbrev pub IsRefusedExactly : Type 0
IsRefusedExactly =
    (s : Setting) (fs : List Frame) (at : ℕ) (a : Abstract) → AreProgramsShort s
    → AreInRange a.stack → has_body_twice fs ≡ false
    → ((r : Reason) × (outcome_on_cells s fs at a ≡ Err r)) ↔ IsRefused a fs at (outcome s)

-- the family has a state in this context
abbrev pub HasStateIn : (Place → Option State) → List Frame → Type 0
HasStateIn family frames = (offset : ℕ) × (a : State) × (family (frames, offset) ≡ Some a)

-- no two of the contexts are the same, and in each the family has a state
pub record AreContextsOf (family : Place → Option State)
    (contexts : List (List Frame)) : Type 0 where
  pub apart : (i j : ℕ) (fs : List Frame) → slice_get contexts i ≡ Some fs
      → slice_get contexts j ≡ Some fs → i ≡ j
  pub each : (i : ℕ) (fs : List Frame) → slice_get contexts i ≡ Some fs → HasStateIn family fs

-- The states are in range; each is in a context whose calls are in their turns and run no body
-- twice; there are at most 65,535 of these contexts.
pub record IsFamilyByContext (family : Place → Option State) : Type 0 where
  pub in_range : IsFamilyInRange state_order family
  pub calls : (p : Place) (a : State) → family p ≡ Some a → FramesFit p.0
  pub few : (contexts : List (List Frame)) → AreContextsOf family contexts
      → length contexts ≤ MOST_CONTEXTS

-- The family covers every machine that starts; no machine that it covers faults; it covers each
-- successor of one that it covers.
pub record CoversSteps (s : Setting) (functions : List (ℕ × ℕ))
    (family : Place → Option State) : Type 0 where
  pub starts : (m : Machine) → StartsWith functions m → IsCoveredBy family m
  pub safe : (m : Machine) (r : Reason) → IsCoveredBy family m → Faults s m r → ⊥
  pub closed : (m n : Machine) → IsCoveredBy family m → Steps s m n → IsCoveredBy family n

-- a family by context (`IsFamilyByContext`) is good exactly if it covers the machine's steps
abbrev pub IsGoodByMachines : Type 0
IsGoodByMachines =
    (s : Setting) (functions : List (ℕ × ℕ)) (family : Place → Option State) → IsSettingInRange s
    → AreProgramsShort s → Ascends functions
    → IsFamilyByContext family
    → IsGood state_order (flow_of s functions) family ↔ CoversSteps s functions family

-- a family that is good covers every machine that a run comes to, and none of these faults
abbrev pub GoodFamiliesAreSafe : Type 0
GoodFamiliesAreSafe =
    (s : Setting) (functions : List (ℕ × ℕ)) (family : Place → Option State)
    → IsSettingInRange s → AreProgramsShort s → Ascends functions
    → IsGood state_order (flow_of s functions) family → IsSafe s functions family
