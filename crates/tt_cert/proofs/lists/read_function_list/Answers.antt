use Rattle.std.proofs.Common.{arith, refl}
use Rattle.std.proofs.lemmas.Result.{err_from_is_err_and}
use Rattle.tt_stream.proofs.Beginnings.{consumes_then}
use Rattle.tt_cert.proofs.Blocks.{blocks_all, blocks_fail, blocks_on, blocks_stop}
use Rattle.tt_cert.proofs.lists.read_function_list.Goals as goal

pub returns-in_err-at-clause-reads : goal.returns-in_err-at-clause-reads
returns-in_err-at-clause-reads g c =
    let p = err_from_is_err_and c.from_residual.result c.from_residual.ensures.1 in
    rw (p.1, p.2) (λ known. blocks_fail _ _ (g.S.Source.remaining c.read_function_block.new.source) _ _ _ c.read_function_block.new.functions.items _ _ c.min-block.result _ _ _ c.blocks-2.invariant.0 (omega (arith, c.min-block.ensures)) c.in_err-at.ensures.reads known)

pub returns-in_err-at-clause-beginning : goal.returns-in_err-at-clause-beginning
returns-in_err-at-clause-beginning g c = consumes_then _ _ _ c.blocks-2.invariant.0.beginning c.read_function_block.ensures.beginning

pub blocks-2-preserved : goal.blocks-2-preserved
blocks-2-preserved g c = (
  blocks_on _ _ _ _ _ _ _ _ _ _ _ c.min-block.result _ _ _ c.blocks-2.invariant.0 (omega (arith, c.min-block.ensures)) refl c.in_ok-at.ensures.reads c.read_function_block.ensures.beginning c.in_ok-at.ensures.failures,
  c.in_ok-at.ensures.ascends c.blocks-2.invariant.1,
)

pub returns-clause-reads : goal.returns-clause-reads
returns-clause-reads g c = blocks_all _ _ _ _ _ _ _ _ _ c.blocks-2.invariant.0 (omega (arith, c.blocks-2-test.false))

pub returns-in_err-at-clause-stopped : goal.returns-in_err-at-clause-stopped
returns-in_err-at-clause-stopped g c =
    let p = err_from_is_err_and c.from_residual.result c.from_residual.ensures.1 in
    rw (p.1, p.2) (blocks_stop _ _ _ _ _ c.blocks-2.functions.items _ _ c.min-block.result _ _ c.in_err-at.field-0.0 c.blocks-2.invariant.0 (omega (arith, c.min-block.ensures)) c.in_err-at.ensures.stopped)
