use Rattle.std.proofs.Common.{◌≡◌, ap, arith, below_more, get_or}
use Rattle.std.proofs.lemmas.Bool.{eq-eqb, eqb-true}
use Rattle.std.proofs.lemmas.List.{ext_get_or}
use Rattle.tt_setting.proofs.SameEntries.{no_difference}
use Rattle.tt_abs.proofs.cell_codes.are_equal.Goals as goal

pub loop-i-preserved : goal.loop-i-preserved
loop-i-preserved c =
    let mine = c.args.mine.now in
    let theirs = c.args.theirs.now in
    let i = c.loop-i.i in
    let more = no_difference c.loop-i.difference (get_or mine i 0) (get_or theirs i 0) in record {
      depth = c.loop-i.invariant.depth;
      none = (
        λ e. below_more (λ k. get_or mine k 0 ≡ get_or theirs k 0) i (c.loop-i.invariant.none.0 (more.0 e).0) (more.0 e).1,
        λ h. more.1 (c.loop-i.invariant.none.1 (λ k lt. h k (omega arith)), h i (omega arith)),
      );
    }

pub returns : goal.returns
returns c = (
  λ h. ext_get_or 0 c.args.mine.now c.args.theirs.now c.requires (λ k lt. c.loop-i.invariant.none.0 (eqb-true _ _ h) k (omega arith)),
  λ e. eq-eqb _ _ (c.loop-i.invariant.none.1 (λ k lt. ap (λ x. get_or x k 0) e)),
)
