-- Stacks of which each mostly has the lowest cells of the one before. Only private contracts of
-- reading need it.
use Rattle.std.specs.Prelude.{◌≡◌, ℕ, ◌≤◌, List, length, reverse, take}
use Rattle.tt_abs.specs.declared.state.State.{State}
use Rattle.tt_abs.specs.States.{state_order}
use Rattle.tt_cert.specs.declared.stack_text.StackText.{StackText}
use Rattle.tt_cert.specs.declared.states.LastState.{LastState}
use Rattle.tt_cert.specs.Representation.Blocks.{AreKept}
use Rattle.tt_cert.specs.Representation.KeptTexts.{IsStackText, end_of}

-- the texts of the lowest `count` cells, which are at most `most`, are read ahead
pub record AreAhead (text ends ahead : List ℕ) (most count : ℕ) : Type 0 where
  pub few : count ≤ most
  pub kept : count ≤ length ends
  pub there : end_of ends count ≤ length ahead
  pub same : take (end_of ends count) ahead ≡ take (end_of ends count) text

-- the text of a state's stack is kept, and the state is in range
pub record IsStackKept (text : StackText) (state : State) : Type 0 where
  pub cells : IsStackText text (reverse state.stack)
  pub in_range : state_order.InRange state

-- the state is in range, and its stack and its functions are those that are kept beside it
pub record IsLast (last : LastState) : Type 0 where
  pub stack : IsStackKept last.stack.text last.state
  pub functions : AreKept last.functions.text.items last.functions.list.items
  pub known : last.state.functions ≡ last.functions.list.items
