use Rattle.std.proofs.lemmas.Result.{err_from_is_err_and}
use Rattle.tt_stream.proofs.Beginnings.{consumes_then}
use Rattle.tt_cert.specs.Reading.{stored_at}
use Rattle.tt_cert.proofs.Loops.{reads_all, reads_fail, reads_on, reads_stop}
use Rattle.std.proofs.Common.{sym, subst}
use Rattle.tt_setting.specs.Entries.{Ascends}
use Rattle.tt_cert.proofs.Ascends.{Ascends-push}
use Rattle.tt_cert.proofs.SteadyUnits.{stored_steady}
use Rattle.tt_cert.proofs.lists.read_storage_list.Goals as goal

pub returns-in_err-cell-clause-reads : goal.returns-in_err-cell-clause-reads
returns-in_err-cell-clause-reads g c =
    let p = err_from_is_err_and c.from_residual.result c.from_residual.ensures.1 in
    rw (p.1, p.2) (λ known. reads_fail (stored_at) _ _ _ c.cells.cells.items c.args.count c.cells.counter c.cells.at _ _ c.in_err-cell.field-0.0 c.cells.invariant.0 c.cells-test.true (rw c.deref.ensures.value at c.in_err-cell.ensures.reads) known)

pub returns-in_err-cell-clause-beginning : goal.returns-in_err-cell-clause-beginning
returns-in_err-cell-clause-beginning g c = consumes_then _ _ _ c.cells.invariant.0.beginning c.read_stored.ensures.beginning

pub returns-in_err-push-clause-beginning : goal.returns-in_err-push-clause-beginning
returns-in_err-push-clause-beginning g c = consumes_then _ _ _ c.cells.invariant.0.beginning c.read_stored.ensures.beginning

pub cells-preserved : goal.cells-preserved
cells-preserved g c = (
  reads_on (stored_at) _ _ _ _ c.cells.cells.items _ c.args.count c.cells.counter c.cells.at c.in_ok-cell.after _ _ _ c.in_ok-cell.cell (stored_steady c.cells.cells.items) c.cells.invariant.0 c.cells-test.true (rw c.deref.ensures.value at c.in_ok-cell.ensures.reads) c.read_stored.ensures.beginning c.in_ok-cell.ensures.failures c.in_ok-push.ensures.items,
  subst Ascends (sym c.in_ok-push.ensures.items) (Ascends-push _ _ c.cells.invariant.1 (rw c.deref.ensures.value at c.in_ok-cell.ensures.above)),
)

pub returns-clause-reads : goal.returns-clause-reads
returns-clause-reads g c = reads_all (stored_at) _ _ _ c.cells.cells.items c.args.count c.cells.counter c.cells.at _ _ c.cells.invariant.0 c.cells-test.false

pub returns-in_err-cell-clause-stopped : goal.returns-in_err-cell-clause-stopped
returns-in_err-cell-clause-stopped g c =
    let p = err_from_is_err_and c.from_residual.result c.from_residual.ensures.1 in
    rw (p.1, p.2) (reads_stop (stored_at) _ _ _ _ c.cells.cells.items c.args.count c.cells.counter c.cells.at _ _ c.in_err-cell.field-0.0 c.cells.invariant.0 c.cells-test.true (rw c.deref.ensures.value at c.in_err-cell.ensures.stopped))
