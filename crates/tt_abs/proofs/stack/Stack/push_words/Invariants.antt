use Rattle.std.proofs.Common.{◌≡◌, length, map}
use Rattle.tt_code.specs.Computing.{words}
use Rattle.tt_abs.specs.Transfers.{cells_on}
use Rattle.tt_abs.specs.declared.cells.Cell.TheVariants.{Known}
use Rattle.tt_abs.proofs.stack.Stack.push_words.Given as goal

abbrev pub invariant-loop-rest : goal.invariant-loop-rest
invariant-loop-rest l = cells_on (map Known (words l.rest)) l.self ≡ cells_on (map Known (words l.fn.bytes)) l.fn.self

abbrev pub decreases-loop-rest : goal.decreases-loop-rest
decreases-loop-rest l = length l.rest
