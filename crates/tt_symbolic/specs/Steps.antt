-- What it means that an instruction was carried out on a symbolic state.
use Rattle.std.specs.Prelude.{◌≡◌, ◌+◌, ℕ, suc, List, ◌∷◌, length}
use Rattle.tt_code.specs.Cut.{Instruction}
use Rattle.tt_code.specs.Settings.{Setting as MachineSetting}
use Rattle.tt_code.specs.Table.{effect_of}
use Rattle.tt_code.specs.Runs.{does, fetched, outcome}
use Rattle.tt_setting.specs.declared.setting.Setting.{Setting}
use Rattle.tt_setting.specs.Settings.{setting_of}
use Rattle.tt_code.specs.Table.{refinement_of}
use Rattle.tt_symbolic_state.specs.CvtMachine.{Allows, Refines}
use Rattle.tt_symbolic_state.specs.declared.state.State.{State}
use Rattle.tt_symbolic.specs.Sound.{Allowing, Sound}

-- what the instruction of this code allows
abbrev pub refined_by : ℕ → Allowing
refined_by code m old choices new = Refines (refinement_of code) m.stack old choices new

-- the instruction of these bytes was carried out, and leads to the new state's place
abbrev pub Dispatches : Setting → Instruction → State → State → Type 0
Dispatches setting bytes old new =
    (code : ℕ) (rest : List ℕ) → bytes ≡ code ∷ rest
    → Sound
    (λ m. does (setting_of setting) m (effect_of code) rest (m.offset + suc (length rest)))
    (refined_by code) old new

-- which choices and new control values the machine may have
abbrev pub allows : MachineSetting → Allowing
allows s m old choices new = Allows (fetched s m) m.stack old choices new

-- the instruction that is there was carried out: no machine that the old state shows faults, and
-- the new state shows each machine that such a one becomes
abbrev pub StepsTo : Setting → State → State → Type 0
StepsTo setting old new =
    Sound (outcome (setting_of setting)) (allows (setting_of setting)) old new
