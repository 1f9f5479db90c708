-- The machines with which a program starts.
use Rattle.std.specs.Prelude.{◌≡◌, ℕ, List, Some, slice_get}
use Rattle.tt_code.specs.Runs.{IsFresh}
use Rattle.tt_setting.specs.Functions.{CoversFunctions}
use Rattle.tt_symbolic_state.specs.CvtMachine.{CvtMachine}
use Rattle.tt_symbolic_state.specs.Shows.{IsShown, ShowsArea}
use Rattle.tt_symbolic_state.specs.Values.{Fits, Valuation}
use Rattle.tt_symbolic_state.specs.declared.state.State.{State}
use Rattle.tt_symbolic_check.specs.declared.start.Start.{Start}

-- a program starts with the machine, and the start shows its memory and its functions
pub record StartsAs (start : Start) (m : CvtMachine) : Type 0 where
  pub fresh : IsFresh m.machine
  pub valuation : Valuation
  pub fits : Fits start.ranges.items valuation
  pub storage : ShowsArea valuation start.storage m.machine.registers.storage
  pub controls_are : ShowsArea valuation start.controls m.controls
  pub functions : CoversFunctions start.functions m.machine.functions

-- the same of one of the starts
pub record StartsFrom (starts : List Start) (m : CvtMachine) : Type 0 where
  pub index : ℕ
  pub start : Start
  pub found : slice_get starts index ≡ Some start
  pub is_one : StartsAs start m

-- the state shows each machine with which a program starts
pub record IsStartState (start : Start) (a : State) : Type 0 where
  pub shows : (m : CvtMachine) → StartsAs start m → IsShown a m.machine m.controls

-- the start has the state's memory and functions
pub record IsAfter (end : State) (start : Start) : Type 0 where
  pub storage : start.storage ≡ end.storage
  pub controls_are : start.controls ≡ end.controls
  pub functions : start.functions ≡ end.functions
  pub ranges : start.ranges.items ≡ end.ranges.items

-- a program starts with the second machine, with the memory and the functions of the first
pub record StartsAfter (m n : CvtMachine) : Type 0 where
  pub fresh : IsFresh n.machine
  pub storage : n.machine.registers.storage ≡ m.machine.registers.storage
  pub controls_are : n.controls ≡ m.controls
  pub functions : n.machine.functions ≡ m.machine.functions

-- the start shows each machine with which a program starts after one that the state shows
abbrev pub ShowsAfter : State → Start → Type 0
ShowsAfter end start =
    (m n : CvtMachine) → IsShown end m.machine m.controls → StartsAfter m n → StartsAs start n

-- the second start shows each machine with which a program starts that the first shows
abbrev pub StartCovers : Start → Start → Type 0
StartCovers one other = (m : CvtMachine) → StartsAs one m → StartsAs other m
