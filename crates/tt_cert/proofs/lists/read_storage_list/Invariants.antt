use Rattle.tt_cert.specs.Reading.{stored_at}
use Rattle.tt_setting.specs.Entries.{Ascends}
use Rattle.tt_cert.proofs.Loops.{IsReading}
use Rattle.tt_cert.proofs.lists.read_storage_list.Given as goal

abbrev pub invariant-cells : goal.invariant-cells
invariant-cells g l =
    IsReading (stored_at) (g.S.Source.remaining l.fn.source) (g.S.Source.remaining l.source)
    l.fn.place l.cells.items l.fn.count l.counter l.at
    (g.S.Source.failures l.fn.source) (g.S.Source.failures l.source) × Ascends l.cells.items
