use Rattle.std.proofs.Common.{ℕ, List, Err, arith, refl}
use Rattle.std.proofs.lemmas.Result.{err_from_is_err_and}
use Rattle.tt_stream.proofs.Beginnings.{consumes_then}
use Rattle.tt_cert.specs.Representation.Blocks.{AreTaken, Takes}
use Rattle.tt_cert.proofs.Blocks.{at_held, fill_end, fill_on, fill_refused, fill_stops, takes_stops}
use Rattle.tt_cert.proofs.lists.fetch_function_block.Goals as goal

pub returns-in_err-more-clause-beginning : goal.returns-in_err-more-clause-beginning
returns-in_err-more-clause-beginning g c = consumes_then _ _ _ c.fill.invariant.0.beginning c.read_more.ensures.beginning

pub returns-then-more-eq0-clause-reads : goal.returns-then-more-eq0-clause-reads
returns-then-more-eq0-clause-reads g c =
    fill_end _ _ (g.S.Source.remaining c.read_more.new.source) _ c.fill.functions.items _ _ _ _ _ _ _ c.read_more.new.buf _ _ c.fill.invariant.0 c.in_ok-more.ensures.fills
    c.if-more-eq0.true c.fill-test.true (omega (arith, c.requires)) c.saturating_add.ensures

pub returns-in_err-over-clause-reads : goal.returns-in_err-over-clause-reads
returns-in_err-over-clause-reads g c =
    let p = err_from_is_err_and c.from_residual-in_err-over.result c.from_residual-in_err-over.ensures.1 in
    let e = c.in_err-over.field-0.0 in
    let xs = c.fill.functions.items in
    let ys = c.take_functions.new.functions.items in
    rw (p.1, p.2) (fill_refused e _ _ _ _ xs ys _ _ _ _ _ _ c.read_more.new.buf _ _ c.fill.invariant.0 c.in_ok-more.ensures.fills
    (at_held (λ (place : ℕ) (bytes : List ℕ). Takes (Err e) xs ys place bytes) _ _ _ _ _ (omega (arith, c.fill.invariant.0.order)) c.saturating_add-at.ensures c.in_err-over.ensures.takes))

pub returns-in_err-over-clause-beginning : goal.returns-in_err-over-clause-beginning
returns-in_err-over-clause-beginning g c = consumes_then _ _ _ c.fill.invariant.0.beginning c.read_more.ensures.beginning

pub fill-preserved : goal.fill-preserved
fill-preserved g c =
    let xs = c.fill.functions.items in
    let ys = c.take_functions.new.functions.items in (
      fill_on _ _ _ _ xs ys _ _ _ _ _ _ _ _ c.read_more.new.buf _ _ _ c.fill.invariant.0 c.in_ok-more.ensures.fills
          (at_held (AreTaken c.in_ok-over.over xs ys) _ _ _ _ _ (omega (arith, c.fill.invariant.0.order)) c.saturating_add-at.ensures c.in_ok-over.ensures.takes)
          c.read_more.ensures.beginning c.in_ok-more.ensures.failures refl,
      λ ascends. c.in_ok-over.ensures.ascends (c.fill.invariant.1 ascends),
    )

pub returns-in_err-more-clause-stopped : goal.returns-in_err-more-clause-stopped
returns-in_err-more-clause-stopped g c =
    let p = err_from_is_err_and c.from_residual.result c.from_residual.ensures.1 in
    rw (p.1, p.2) (fill_stops _ _ _ _ c.fill.functions.items _ _ _ _ _ _ _ c.fill.invariant.0 c.fill-test.true (omega (arith, c.requires)) c.in_err-more.ensures.kept)

pub returns-in_err-over-clause-stopped : goal.returns-in_err-over-clause-stopped
returns-in_err-over-clause-stopped g c =
    let p = err_from_is_err_and c.from_residual-in_err-over.result c.from_residual-in_err-over.ensures.1 in
    rw (p.1, p.2) (takes_stops c.in_err-over.field-0.0 _ _ _ _ _ _ _ _ c.in_err-over.ensures.takes)
