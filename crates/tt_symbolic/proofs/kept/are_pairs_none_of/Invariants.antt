use Rattle.tt_symbolic.specs.Representation.Keeping.{ArePairsNoneOf}
use Rattle.tt_symbolic.proofs.kept.are_pairs_none_of.Given as goal

abbrev pub invariant-loop-pair : goal.invariant-loop-pair
invariant-loop-pair l = ArePairsNoneOf l.numbers l.pair l.state
