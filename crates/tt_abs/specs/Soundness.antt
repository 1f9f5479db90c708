-- What a family of abstract states by place says about a program's runs.
use Rattle.std.specs.Prelude.{◌≡◌, ℕ, List, Option, Some}
use Rattle.tt_code.specs.Runs.{Faults, IsFresh, Runs}
use Rattle.tt_code.specs.Settings.{Setting}
use Rattle.tt_code.specs.States.{Machine}
use Rattle.tt_code.specs.declared.reason.Reason.{Reason}
use Rattle.tt_abs.specs.declared.state.State.{State}
use Rattle.tt_setting.specs.Functions.{CoversFunctions}
use Rattle.tt_abs.specs.Cells.{CoversState}
use Rattle.tt_abs.specs.StateFlow.{Place}
use Rattle.tt_abs.specs.States.{abstract_of}
use Rattle.tt_setting.specs.Functions.{StartsWith}

-- the family's state at the machine's place covers it
abbrev pub IsCoveredBy : (Place → Option State) → Machine → Type 0
IsCoveredBy family m =
    (u : State) × (family (m.frames, m.offset) ≡ Some u) × CoversState (abstract_of u) m

-- every machine that a run comes to is covered, and doesn't fault
abbrev pub IsSafe : Setting → List (ℕ × ℕ) → (Place → Option State) → Type 0
IsSafe s functions family =
    (m n : Machine) → StartsWith functions m → Runs s m n
    → IsCoveredBy family n × ((r : Reason) → Faults s n r → ⊥)
