use Rattle.std.proofs.Common.{arith}
use Rattle.std.proofs.lemmas.Int.{ints}
use Rattle.tt_symbolic_check.proofs.covering.is_image_within.Goals as goal

pub returns-then-low-from : goal.returns-then-low-from
returns-then-low-from c = λ e. rw c.in-Some.is (record { within = λ v fits. let b = c.in-Some-bounds.ensures v fits in (omega (arith, ints), omega (arith, ints)) })
