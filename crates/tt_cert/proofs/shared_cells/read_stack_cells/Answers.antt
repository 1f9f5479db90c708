use Rattle.std.proofs.Common.{◌∙◌, ap, arith, reverse}
use Rattle.std.proofs.lemmas.List.{length-reverse}
use Rattle.std.proofs.lemmas.Result.{err_from_is_err_and}
use Rattle.tt_abs.specs.declared.state.State.{State}
use Rattle.tt_stream.proofs.Beginnings.{consumes_then}
use Rattle.tt_cert.proofs.Cells.{cells_all, cells_begun, cells_fail, cells_on, cells_stop}
use Rattle.tt_cert.proofs.shared_cells.read_stack_cells.Goals as goal

pub cells-init : goal.cells-init
cells-init g c = (
  cells_begun _ _ _ _ c.args.count _ _ _ (rw c.from-count.ensures at c.take_shared-at.ensures.reads) c.take_shared-at.ensures.beginning c.take_shared-at.ensures.failures,
  c.take_shared-at.ensures.kept,
  c.take_shared-at.ensures.others,
)

pub cells-preserved : goal.cells-preserved
cells-preserved g c = (
  cells_on _ _ (g.S.Source.remaining c.read_new.new.source) _ (reverse c.cells.state.stack) (reverse c.read_new.new.state.stack) c.args.count _ c.in_ok-at.at _ _ _ c.cells.invariant.0
      (rw c.from-count.ensures at c.in_ok-at.ensures.reads) c.read_new.ensures.beginning c.in_ok-at.ensures.failures,
  c.in_ok-at.ensures.kept,
  c.in_ok-at.ensures.others ∙ ap (λ (s : State). record s { stack = c.read_new.new.state.stack }) c.cells.invariant.2,
)

pub returns-clause-reads : goal.returns-clause-reads
returns-clause-reads g c =
    cells_all _ _ _ (reverse c.cells.state.stack) c.args.count _ _ _ c.cells.invariant.0
    (omega (arith, c.cells-test.false, c.depth.ensures, c.from-count.ensures, length-reverse c.cells.state.stack))

pub returns-in_err-at-clause-reads : goal.returns-in_err-at-clause-reads
returns-in_err-at-clause-reads g c =
    let p = err_from_is_err_and c.from_residual.result c.from_residual.ensures.1 in
    rw (p.1, p.2) (cells_fail c.in_err-at.field-0.0 _ _ (g.S.Source.remaining c.read_new.new.source) _ (reverse c.cells.state.stack) (reverse c.read_new.new.state.stack) c.args.count _ _ _ c.cells.invariant.0
    (rw c.from-count.ensures at c.in_err-at.ensures.reads))

pub returns-in_err-at-clause-stopped : goal.returns-in_err-at-clause-stopped
returns-in_err-at-clause-stopped g c =
    let p = err_from_is_err_and c.from_residual.result c.from_residual.ensures.1 in
    rw (p.1, p.2) (cells_stop c.in_err-at.field-0.0 _ _ _ _ (reverse c.cells.state.stack) c.args.count _ _ _ c.cells.invariant.0 (rw c.from-count.ensures at c.in_err-at.ensures.stopped))

pub returns-in_err-at-clause-beginning : goal.returns-in_err-at-clause-beginning
returns-in_err-at-clause-beginning g c = consumes_then _ _ _ c.cells.invariant.0.beginning c.read_new.ensures.beginning
