use Rattle.std.proofs.lemmas.Result.{err_from_is_err_and}
use Rattle.tt_cert.proofs.Ahead.{cell_fails, one_cell}
use Rattle.std.proofs.Common.{◌+◌, ◌-◌, length, arith}
use Rattle.tt_cert.specs.Reading.{cell_at}
use Rattle.tt_cert.proofs.Stops.{stops_next}
use Rattle.tt_cert.proofs.lists.read_one_cell.Goals as goal

pub returns-in_err-cell-clause-reads : goal.returns-in_err-cell-clause-reads
returns-in_err-cell-clause-reads g c =
    let p = err_from_is_err_and c.from_residual.result c.from_residual.ensures.1 in
    rw (p.1, p.2) (cell_fails c.in_err-cell.field-0.0 _ (g.S.Source.remaining c.read_cell.new.source) _ c.args.cells.now.items c.args.place c.args.count c.requires c.in_err-cell.ensures.reads)

pub returns-clause-reads : goal.returns-clause-reads
returns-clause-reads g c =
    one_cell _ _ _ _ c.args.place c.in_ok-cell.after c.args.count c.in_ok-cell.cell c.requires c.in_ok-cell.ensures.reads c.in_ok-push.ensures.items

pub returns-in_err-cell-clause-stopped : goal.returns-in_err-cell-clause-stopped
returns-in_err-cell-clause-stopped g c =
    let p = err_from_is_err_and c.from_residual.result c.from_residual.ensures.1 in
    let before = c.args.cells.now.items in
    rw (p.1, p.2) (stops_next (λ _. cell_at) before (c.args.count - length before) (c.args.count - (length before + 1)) _ _ _ c.in_err-cell.field-0.0 (omega (arith, c.requires))
    c.in_err-cell.ensures.stopped)
