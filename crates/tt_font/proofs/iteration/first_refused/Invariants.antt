use Rattle.std.proofs.Common.{◌≡◌, None}
use Rattle.tt_font.specs.Numbers.{first_below}
use Rattle.tt_font.specs.Representation.OutlineSizes.{size_at, size_refuses}
use Rattle.tt_font.proofs.iteration.first_refused.Given as goal

abbrev pub invariant-loop-id : goal.invariant-loop-id
invariant-loop-id l = first_below (λ id. size_refuses (size_at l.sizes id)) l.id ≡ None
