use Rattle.std.proofs.Common.{arith}
use Rattle.tt_abs.proofs.CodeLists.{below_from_codes, codes_from_below}
use Rattle.tt_abs.proofs.cell_codes.are_below.Goals as goal

pub returns : goal.returns
returns c = (
  λ h. below_from_codes c.args.mine.now c.args.theirs.now c.loop-i.invariant.depth (λ k lt. c.loop-i.invariant.cells.0 h k (omega arith)),
  λ p. c.loop-i.invariant.cells.1 (λ k lt. codes_from_below c.args.mine.now c.args.theirs.now p k (omega arith)),
)
