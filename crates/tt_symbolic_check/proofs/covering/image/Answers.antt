use Rattle.std.proofs.Common.{rules}
use Rattle.std.specs.Prelude.{FitsSigned}
use Rattle.std.specs.Int.{w32}
use Rattle.std.proofs.lemmas.Int.{to_z-of_z}
use Rattle.tt_symbolic_check.proofs.Agreeing.{image_is}
use Rattle.tt_symbolic_check.proofs.covering.image.Goals as goal

pub returns : goal.returns
returns c = λ v.
    let f : FitsSigned w32 c.args.theirs.factor = search rules in
    let o : FitsSigned w32 c.args.theirs.offset = search rules in
    image_is v c.args.theirs.factor c.args.theirs.offset _ _ _ _ (c.in_ok-shifted.ensures v) (simp to_z-of_z at (c.known.ensures v)) (simp to_z-of_z at (c.in_ok-given.ensures v))
