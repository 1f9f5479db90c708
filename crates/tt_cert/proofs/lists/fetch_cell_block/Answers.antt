use Rattle.std.proofs.Common.{ℕ, List, Err, arith, refl}
use Rattle.std.proofs.lemmas.Result.{err_from_is_err_and}
use Rattle.tt_stream.proofs.Beginnings.{consumes_then}
use Rattle.tt_cert.specs.Representation.Blocks.{AreCellsTaken, TakesCells}
use Rattle.tt_cert.proofs.Blocks.{at_held}
use Rattle.tt_cert.proofs.Cells.{IsWanted, block_end, block_on, block_refused, block_rest, block_stops, cells_stops, rest_short, rest_stopped}
use Rattle.tt_cert.proofs.lists.fetch_cell_block.Goals as goal

pub returns-in_err-more-clause-beginning : goal.returns-in_err-more-clause-beginning
returns-in_err-more-clause-beginning g c = consumes_then _ _ _ c.fill.invariant.beginning c.read_more.ensures.beginning

pub returns-then-more-eq0-clause-reads : goal.returns-then-more-eq0-clause-reads
returns-then-more-eq0-clause-reads g c =
    let fit : IsWanted c.args.cells.now.items c.args.count c.min-wanted.result =
    (omega (arith, c.min-wanted.ensures, c.len.ensures, c.requires), omega (arith, c.min-wanted.ensures, c.len.ensures), omega (arith, c.min-wanted.ensures)) in
    block_end _ _ (g.S.Source.remaining c.read_more.new.source) _ c.fill.cells.items _ _ _ _ _ _ _ _ c.read_more.new.buf _ _ c.fill.invariant fit c.in_ok-more.ensures.fills
    c.if-more-eq0.true c.fill-test.true c.saturating_add.ensures

pub returns-in_err-over-clause-reads : goal.returns-in_err-over-clause-reads
returns-in_err-over-clause-reads g c =
    let fit : IsWanted c.args.cells.now.items c.args.count c.min-wanted.result =
    (omega (arith, c.min-wanted.ensures, c.len.ensures, c.requires), omega (arith, c.min-wanted.ensures, c.len.ensures), omega (arith, c.min-wanted.ensures)) in
    let p = err_from_is_err_and c.from_residual-in_err-over.result c.from_residual-in_err-over.ensures.1 in
    let e = c.in_err-over.field-0.0 in
    let xs = c.fill.cells.items in
    let ys = c.take_cells.new.cells.items in
    rw (p.1, p.2) (block_refused e _ _ _ _ xs ys _ _ _ _ _ _ _ c.read_more.new.buf _ _ c.fill.invariant fit c.in_ok-more.ensures.fills
    (at_held (λ (place : ℕ) (bytes : List ℕ). TakesCells (Err e) xs ys place bytes) _ _ _ _ _ (omega (arith, c.fill.invariant.order)) c.saturating_add-at.ensures c.in_err-over.ensures))

pub returns-in_err-over-clause-beginning : goal.returns-in_err-over-clause-beginning
returns-in_err-over-clause-beginning g c = consumes_then _ _ _ c.fill.invariant.beginning c.read_more.ensures.beginning

pub fill-preserved : goal.fill-preserved
fill-preserved g c =
    let fit : IsWanted c.args.cells.now.items c.args.count c.min-wanted.result =
    (omega (arith, c.min-wanted.ensures, c.len.ensures, c.requires), omega (arith, c.min-wanted.ensures, c.len.ensures), omega (arith, c.min-wanted.ensures)) in
    let xs = c.fill.cells.items in
    let ys = c.take_cells.new.cells.items in
    block_on _ _ _ _ xs ys _ _ _ _ _ _ _ _ _ c.read_more.new.buf _ _ _ c.fill.invariant fit c.in_ok-more.ensures.fills
    (at_held (AreCellsTaken c.in_ok-over.over xs ys) _ _ _ _ _ (omega (arith, c.fill.invariant.order)) c.saturating_add-at.ensures c.in_ok-over.ensures)
    c.read_more.ensures.beginning c.in_ok-more.ensures.failures refl

pub read_rest_of_cell-requires : goal.read_rest_of_cell-requires
read_rest_of_cell-requires g c =
    rest_short _ _ _ _ _ _ _ _ _ _ _ _ c.fill.invariant (omega (arith, c.min-wanted.ensures)) (omega (arith, c.if-taken-filled.false, c.fill.invariant.order))

pub returns-clause-reads : goal.returns-clause-reads
returns-clause-reads g c =
    let fit : IsWanted c.args.cells.now.items c.args.count c.min-wanted.result =
    (omega (arith, c.min-wanted.ensures, c.len.ensures, c.requires), omega (arith, c.min-wanted.ensures, c.len.ensures), omega (arith, c.min-wanted.ensures)) in
    block_rest c.read_rest_of_cell.result _ _ _ _ _ _ _ _ _ _ _ _ _ _ _ _ c.fill.invariant fit (omega (arith, c.if-taken-filled.false, c.fill.invariant.order))
    c.saturating_add-after.ensures refl c.read_rest_of_cell.ensures.reads

pub returns-clause-beginning : goal.returns-clause-beginning
returns-clause-beginning g c = consumes_then _ _ _ c.fill.invariant.beginning c.read_rest_of_cell.ensures.beginning

pub returns-in_err-more-clause-stopped : goal.returns-in_err-more-clause-stopped
returns-in_err-more-clause-stopped g c =
    let fit : IsWanted c.args.cells.now.items c.args.count c.min-wanted.result =
    (omega (arith, c.min-wanted.ensures, c.len.ensures, c.requires), omega (arith, c.min-wanted.ensures, c.len.ensures), omega (arith, c.min-wanted.ensures)) in
    let p = err_from_is_err_and c.from_residual.result c.from_residual.ensures.1 in
    rw (p.1, p.2) (block_stops _ _ _ _ c.fill.cells.items _ _ _ _ _ _ _ _ c.fill.invariant fit c.fill-test.true c.in_err-more.ensures.kept)

pub returns-in_err-over-clause-stopped : goal.returns-in_err-over-clause-stopped
returns-in_err-over-clause-stopped g c =
    let p = err_from_is_err_and c.from_residual-in_err-over.result c.from_residual-in_err-over.ensures.1 in
    rw (p.1, p.2) (cells_stops c.in_err-over.field-0.0 _ _ _ _ _ _ _ _ c.in_err-over.ensures)

pub returns-clause-stopped : goal.returns-clause-stopped
returns-clause-stopped g c =
    let fit : IsWanted c.args.cells.now.items c.args.count c.min-wanted.result =
    (omega (arith, c.min-wanted.ensures, c.len.ensures, c.requires), omega (arith, c.min-wanted.ensures, c.len.ensures), omega (arith, c.min-wanted.ensures)) in
    rest_stopped c.read_rest_of_cell.result _ _ _ _ c.fill.cells.items _ _ _ _ _ _ _ _ _ c.fill.invariant fit (omega (arith, c.if-taken-filled.false, c.fill.invariant.order))
    refl c.read_rest_of_cell.ensures.few
