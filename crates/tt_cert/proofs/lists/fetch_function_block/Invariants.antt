use Rattle.std.proofs.Common.{◌-◌}
use Rattle.tt_setting.specs.Entries.{Ascends}
use Rattle.tt_cert.proofs.Blocks.{IsBlock}
use Rattle.tt_cert.proofs.lists.fetch_function_block.Given as goal

abbrev pub invariant-fill : goal.invariant-fill
invariant-fill g l =
    IsBlock (g.S.Source.remaining l.fn.source) (g.S.Source.remaining l.source) l.fn.functions.items l.functions.items l.fn.place l.fn.count l.filled l.taken l.bytes
    (g.S.Source.failures l.fn.source) (g.S.Source.failures l.source) × (Ascends l.fn.functions.items → Ascends l.functions.items)

abbrev pub decreases-fill : goal.decreases-fill
decreases-fill g l = l.wanted - l.filled
