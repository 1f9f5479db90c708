use Rattle.std.proofs.Common.{arith, refl}
use Rattle.std.proofs.lemmas.List.{ext_get_or}
use Rattle.tt_abs.specs.declared.cells.Cell.TheVariants.{Unknown}
use Rattle.tt_abs.proofs.stack.cells_equal.Goals as goal

pub returns : goal.returns
returns c = (
  λ _. ext_get_or Unknown c.args.mine.now c.args.theirs.now c.loop-i.invariant.depth (λ k lt. c.loop-i.invariant.cells k (omega arith)),
  λ _. refl,
)
