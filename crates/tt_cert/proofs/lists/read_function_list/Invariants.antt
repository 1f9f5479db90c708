use Rattle.tt_setting.specs.Entries.{Ascends}
use Rattle.tt_cert.proofs.Blocks.{IsReadingBlocks}
use Rattle.tt_cert.proofs.lists.read_function_list.Given as goal

abbrev pub invariant-blocks-2 : goal.invariant-blocks-2
invariant-blocks-2 g l =
    IsReadingBlocks (g.S.Source.remaining l.fn.source) (g.S.Source.remaining l.source)
    l.fn.place l.fn.count l.functions.items l.left l.at
    (g.S.Source.failures l.fn.source) (g.S.Source.failures l.source) × Ascends l.functions.items

abbrev pub decreases-blocks-2 : goal.decreases-blocks-2
decreases-blocks-2 g l = l.left
