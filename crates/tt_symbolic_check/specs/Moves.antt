-- Which moves of a walk are fair: a guide may choose any of them.
use Rattle.std.specs.Prelude.{◌≡◌, ℕ, List, Some, slice_get}
use Rattle.tt_symbolic_state.specs.declared.state.State.{State}
use Rattle.tt_symbolic_check.specs.Covering.{Covers}
use Rattle.tt_symbolic_check.specs.declared.guide.Move.{Move}
use Rattle.tt_symbolic_check.specs.declared.guide.Move.TheVariants as move
use Rattle.tt_symbolic_check.specs.declared.walk.Pending.{Pending}
use Rattle.tt_symbolic_check.specs.declared.walk.Walk.{Walk}

-- what waits at a place covers the state
abbrev pub IsCoveredAt : List Pending → ℕ → State → Type 0
IsCoveredAt pending place a =
    (other : Pending) → slice_get pending place ≡ Some other → Covers a other.state.value

-- the state covers what waits at a place
abbrev pub CoversAt : List Pending → ℕ → State → Type 0
CoversAt pending place joined =
    (other : Pending) → slice_get pending place ≡ Some other → Covers other.state.value joined

-- the head of this number covers the state
abbrev pub IsCoveredByHead : List State → ℕ → State → Type 0
IsCoveredByHead heads place a =
    (head : State) → slice_get heads place ≡ Some head → Covers a head

-- A move is fair for a state: each state that is to stand for another one covers it. A move for which
-- none stands for another is fair.
abbrev pub IsFair : Walk → State → Move → Type 0
IsFair walk a (move.Widen wider place) = Covers a wider.value
IsFair walk a (move.Meet place) = IsCoveredAt walk.pending.items place a
IsFair walk a (move.Join place joined) =
    Covers a joined.value × CoversAt walk.pending.items place joined.value
IsFair walk a (move.Stop place) = IsCoveredByHead walk.heads.items place a
IsFair walk a other = Unit {0}
