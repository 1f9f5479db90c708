use Rattle.std.proofs.Common.{pos, subst, ℕ, ◌≡◌, ◌∷◌, drop, ◌+◌, ◌<◌, arith}
use Rattle.tt_symbolic_state.specs.Values.{value}
use Rattle.tt_symbolic_state.specs.Shows.{values}
use Rattle.tt_symbolic.proofs.AreaFacts.{taken_is}
use Rattle.tt_symbolic_cells.proofs.Takings.{under_is}
use Rattle.tt_symbolic.proofs.changes.taken.Goals as goal

pub returns-in-Some : goal.returns-in-Some
returns-in-Some c = λ v.
    let S = values v c.args.stack.now in
    let lt : c.args.position < c.args.count = omega arith in
    taken_is S c.args.count c.args.position (value v c.in-Some.cell) (pos 1) (drop (c.args.position + 1) S) (under_is v c.args.stack.now c.args.position c.in-Some.cell (subst (λ (k : ℕ). drop k c.args.stack.now ≡ c.in-Some.cell ∷ drop (k + 1) c.args.stack.now) c.from-place.ensures c.in-Some.ensures.cell)) lt
