use Rattle.std.proofs.Common.{length, refl, sym, ap, subst, ◌∙◌}
use Rattle.std.specs.Prelude.{option_map}
use Rattle.std.proofs.lemmas.Result.{err_from_is_err_and}
use Rattle.tt_stream.proofs.Beginnings.{consumes_then}
use Rattle.tt_cert.specs.Answers.{Fails, StopsAtEnd, input_at}
use Rattle.tt_cert.specs.Readers.{Answer, Input}
use Rattle.tt_cert.specs.Reading.{entry_at}
use Rattle.tt_cert.specs.Rules.{last_point}
use Rattle.tt_cert.specs.Sections.{Entry}
use Rattle.tt_cert.proofs.Loops.{reads_all, reads_fail, reads_none, reads_on, reads_stop}
use Rattle.tt_cert.proofs.Ascends.{last_pushed}
use Rattle.tt_cert.proofs.SteadyUnits.{entry_same, entry_steady}
use Rattle.tt_cert.proofs.states.read_state_list.Goals as goal

pub states-init : goal.states-init
states-init g c = (
  reads_none (entry_at c.args.form (length c.args.builder.contexts)) (g.S.Source.remaining c.args.source.now) c.args.place c.args.builder.states c.args.count
      (g.S.Source.failures c.args.source.now) c.requires.empty,
  refl,
  sym (ap last_point c.requires.empty),
  c.requires.before,
)

pub returns-in_err-point-clause-reads : goal.returns-in_err-point-clause-reads
returns-in_err-point-clause-reads g c =
    let p = err_from_is_err_and c.from_residual.result c.from_residual.ensures.1 in
    let same = ap (λ (read : Input → Answer Entry). read (input_at c.states.at (g.S.Source.remaining c.states.source))) (entry_same c.args.form c.contexts-contexts.result (length c.args.builder.contexts) c.states.last c.states.builder.states c.contexts-contexts.ensures.value c.states.invariant.2) in
    rw (p.1, p.2) (λ known. reads_fail (entry_at c.args.form (length c.args.builder.contexts)) _ _ _ c.states.builder.states c.args.count c.states.counter c.states.at _ _
    c.in_err-point.field-0.0 c.states.invariant.0 c.states-test.true (λ k. subst (Fails c.in_err-point.field-0.0) same (c.in_err-point.ensures.reads k)) known)

pub returns-in_err-point-clause-beginning : goal.returns-in_err-point-clause-beginning
returns-in_err-point-clause-beginning g c = consumes_then _ _ _ c.states.invariant.0.beginning c.read_entry.ensures.beginning

pub returns-in_err-add_state-clause-beginning : goal.returns-in_err-add_state-clause-beginning
returns-in_err-add_state-clause-beginning g c = consumes_then _ _ _ c.states.invariant.0.beginning c.read_entry.ensures.beginning

pub states-preserved : goal.states-preserved
states-preserved g c =
    let same = ap (λ (read : Input → Answer Entry). read (input_at c.states.at (g.S.Source.remaining c.states.source))) (entry_same c.args.form c.contexts-contexts.result (length c.args.builder.contexts) c.states.last c.states.builder.states c.contexts-contexts.ensures.value c.states.invariant.2) in
    let entry : Entry = (c.in_ok-point.point, c.read_entry.new.state.state) in (
      reads_on (entry_at c.args.form (length c.args.builder.contexts)) _ _ _ _ c.states.builder.states _ c.args.count c.states.counter c.states.at c.in_ok-point.after _ _ _ entry
          (entry_steady c.args.form (length c.args.builder.contexts) c.states.builder.states)
          c.states.invariant.0 c.states-test.true (λ k. let r = c.in_ok-point.ensures.reads k in (r.0, sym same ∙ r.1)) c.read_entry.ensures.beginning c.in_ok-point.ensures.failures
          c.in_ok-add_state.ensures.added,
      c.in_ok-add_state.ensures.contexts ∙ c.states.invariant.1,
      sym (ap last_point c.in_ok-add_state.ensures.added ∙ ap (option_map (λ (e : Entry). e.0)) (last_pushed c.states.builder.states entry)),
      c.in_ok-point.ensures.kept,
    )

pub returns-clause-reads : goal.returns-clause-reads
returns-clause-reads g c =
    reads_all (entry_at c.args.form (length c.args.builder.contexts)) _ _ _ c.states.builder.states c.args.count c.states.counter c.states.at _ _ c.states.invariant.0 c.states-test.false

pub returns-in_err-point-clause-stopped : goal.returns-in_err-point-clause-stopped
returns-in_err-point-clause-stopped g c =
    let p = err_from_is_err_and c.from_residual.result c.from_residual.ensures.1 in
    let one = entry_at c.args.form (length c.args.builder.contexts) in
    let e = c.in_err-point.field-0.0 in
    let same = entry_same c.args.form c.contexts-contexts.result (length c.args.builder.contexts) c.states.last c.states.builder.states c.contexts-contexts.ensures.value c.states.invariant.2 in
    rw (p.1, p.2) (reads_stop one _ _ _ _ c.states.builder.states c.args.count c.states.counter c.states.at _ _ e c.states.invariant.0 c.states-test.true
    (subst (λ (read : Input → Answer Entry). StopsAtEnd c.states.at (g.S.Source.remaining c.states.source) (g.S.Source.remaining c.read_entry.new.source) read e) same c.in_err-point.ensures.stopped))
