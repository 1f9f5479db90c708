use Rattle.std.proofs.Common.{take}
use Rattle.std.specs.List.{All}
use Rattle.tt_symbolic.specs.Representation.Areas.{IsOutside}
use Rattle.tt_symbolic.proofs.kept.is_none_between.Given as goal

abbrev pub invariant-loop-number : goal.invariant-loop-number
invariant-loop-number l = All (λ i. IsOutside l.low l.high i) (take l.number-index l.numbers)
