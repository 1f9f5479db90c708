use Rattle.std.proofs.Common.{arith, ap, length, length-append, sym, subst}
use Rattle.std.proofs.lemmas.Result.{err_from_is_err_and}
use Rattle.tt_stream.proofs.Beginnings.{consumes_then}
use Rattle.tt_cert.specs.Reading.{context_at}
use Rattle.tt_cert.proofs.Loops.{reads_all, reads_fail, reads_on, reads_stop}
use Rattle.tt_cert.specs.Rules.{AreContexts}
use Rattle.tt_cert.specs.Sections.{Context}
use Rattle.tt_cert.proofs.ContextLists.{AreContexts-push, HaveParents-from}
use Rattle.tt_cert.proofs.SteadyUnits.{context_steady}
use Rattle.tt_cert.proofs.contexts.read_context_list.Goals as goal

pub returns-in_err-at-clause-reads : goal.returns-in_err-at-clause-reads
returns-in_err-at-clause-reads g c =
    let p = err_from_is_err_and c.from_residual-in_err-at.result c.from_residual-in_err-at.ensures.1 in
    rw (p.1, p.2) (λ known. reads_fail (context_at) _ _ _ c.contexts.contexts.items c.args.count c.contexts.counter c.contexts.at _ _ c.in_err-at.field-0.0 c.contexts.invariant.0 c.contexts-test.true (rw c.in_ok-reserve.ensures.items at c.in_err-at.ensures.reads) known)

pub returns-in_err-at-clause-beginning : goal.returns-in_err-at-clause-beginning
returns-in_err-at-clause-beginning g c = consumes_then _ _ _ c.contexts.invariant.0.beginning c.read_context.ensures.beginning

pub contexts-preserved : goal.contexts-preserved
contexts-preserved g c =
    let one = rw c.in_ok-reserve.ensures.items at c.in_ok-at.ensures.reads in
    let follows = rw c.in_ok-reserve.ensures.items at c.in_ok-at.ensures.follows in (
      reads_on (context_at) _ _ _ _ c.contexts.contexts.items _ c.args.count c.contexts.counter c.contexts.at c.in_ok-at.at _ _ _ one.value (context_steady c.contexts.contexts.items)
          c.contexts.invariant.0 c.contexts-test.true one.gives c.read_context.ensures.beginning c.in_ok-at.ensures.failures one.pushed,
      (
        omega (arith, c.contexts.invariant.1.0, ap length one.pushed, length-append {A = Context}),
        subst AreContexts (sym one.pushed) (AreContexts-push _ _ c.contexts.invariant.1.1 (follows one.value one.pushed)),
      ),
    )

pub returns-clause-reads : goal.returns-clause-reads
returns-clause-reads g c = reads_all (context_at) _ _ _ c.contexts.contexts.items c.args.count c.contexts.counter c.contexts.at _ _ c.contexts.invariant.0 c.contexts-test.false

pub read_context-requires-clause-parents : goal.read_context-requires-clause-parents
read_context-requires-clause-parents g c = rw c.in_ok-reserve.ensures.items (HaveParents-from c.contexts.contexts.items c.contexts.invariant.1.1)

pub returns-in_err-at-clause-stopped : goal.returns-in_err-at-clause-stopped
returns-in_err-at-clause-stopped g c =
    let p = err_from_is_err_and c.from_residual-in_err-at.result c.from_residual-in_err-at.ensures.1 in
    rw (p.1, p.2) (reads_stop (context_at) _ _ _ _ c.contexts.contexts.items c.args.count c.contexts.counter c.contexts.at _ _ c.in_err-at.field-0.0 c.contexts.invariant.0 c.contexts-test.true (rw c.in_ok-reserve.ensures.items at c.in_err-at.ensures.stopped))
