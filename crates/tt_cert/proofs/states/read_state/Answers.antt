use Rattle.std.proofs.Common.{◌∙◌, ap, sym}
use Rattle.std.proofs.lemmas.Result.{err_from_is_err_and}
use Rattle.tt_stream.proofs.Beginnings.{consumes_then}
use Rattle.tt_abs.specs.declared.state.State.{State}
use Rattle.tt_cert.specs.Reading.{functions_at, graphics_at, parts_at, stack_at, state_at, state_from, storage_at}
use Rattle.tt_cert.proofs.SharedCells.{rest_kept, state_steps}
use Rattle.tt_cert.proofs.Stops.{stops_first, stops_made, stops_second}
use Rattle.tt_cert.proofs.SteadyUnits.{after_graphics, after_stack, functions_steady, graphics_steady, stack_steady}
use Rattle.tt_cert.proofs.states.read_state.Goals as goal

pub returns-in_err-graphics-clause-beginning : goal.returns-in_err-graphics-clause-beginning
returns-in_err-graphics-clause-beginning g c = consumes_then _ _ _ c.read_stack.ensures.beginning c.read_graphics.ensures.beginning

pub returns-in_err-at-2-clause-beginning : goal.returns-in_err-at-2-clause-beginning
returns-in_err-at-2-clause-beginning g c = consumes_then _ _ _ (consumes_then _ _ _ c.read_stack.ensures.beginning c.read_graphics.ensures.beginning) c.read_functions.ensures.beginning

pub returns-in_err-after-clause-beginning : goal.returns-in_err-after-clause-beginning
returns-in_err-after-clause-beginning g c = consumes_then _ _ _ (consumes_then _ _ _ (consumes_then _ _ _ c.read_stack.ensures.beginning c.read_graphics.ensures.beginning) c.read_functions.ensures.beginning) c.read_storage.ensures.beginning

pub returns-in_err-set_rest-clause-beginning : goal.returns-in_err-set_rest-clause-beginning
returns-in_err-set_rest-clause-beginning g c = consumes_then _ _ _ (consumes_then _ _ _ (consumes_then _ _ _ c.read_stack.ensures.beginning c.read_graphics.ensures.beginning) c.read_functions.ensures.beginning) c.read_storage.ensures.beginning

pub returns-clause-beginning : goal.returns-clause-beginning
returns-clause-beginning g c = consumes_then _ _ _ (consumes_then _ _ _ (consumes_then _ _ _ c.read_stack.ensures.beginning c.read_graphics.ensures.beginning) c.read_functions.ensures.beginning) c.read_storage.ensures.beginning

pub returns-in_err-at-clause-stopped : goal.returns-in_err-at-clause-stopped
unfolding state_at
returns-in_err-at-clause-stopped g c =
    let p = err_from_is_err_and c.from_residual.result c.from_residual.ensures.1 in
    let e = c.in_err-at.field-0.0 in
    rw (p.1, p.2) (stops_made state_from (parts_at c.args.form) _ _ _ e
    (stops_first stack_at (λ _. after_stack c.args.form) _ _ _ e c.in_err-at.ensures.stopped))

pub returns-in_err-graphics-clause-stopped : goal.returns-in_err-graphics-clause-stopped
unfolding state_at
returns-in_err-graphics-clause-stopped g c =
    let p = err_from_is_err_and c.from_residual-in_err-graphics.result c.from_residual-in_err-graphics.ensures.1 in
    let e = c.in_err-graphics.field-0.0 in
    rw (p.1, p.2) (stops_made state_from (parts_at c.args.form) _ _ _ e
    (stops_second stack_at (λ _. after_stack c.args.form) _ _ _ _ _ _ e stack_steady c.in_ok-at.ensures.reads
    (stops_first graphics_at (λ _. after_graphics c.args.form) _ _ _ e c.in_err-graphics.ensures.stopped)))

pub returns-in_err-at-2-clause-stopped : goal.returns-in_err-at-2-clause-stopped
unfolding state_at
returns-in_err-at-2-clause-stopped g c =
    let p = err_from_is_err_and c.from_residual-in_err-at-2.result c.from_residual-in_err-at-2.ensures.1 in
    let e = c.in_err-at-2.field-0.0 in
    rw (p.1, p.2) (stops_made state_from (parts_at c.args.form) _ _ _ e
    (stops_second stack_at (λ _. after_stack c.args.form) _ _ _ _ _ _ e stack_steady c.in_ok-at.ensures.reads
    (stops_second graphics_at (λ _. after_graphics c.args.form) _ _ _ _ _ _ e graphics_steady c.in_ok-graphics.ensures.reads
    (stops_first functions_at (λ _. storage_at c.args.form) _ _ _ e c.in_err-at-2.ensures.stopped))))

pub returns-in_err-after-clause-stopped : goal.returns-in_err-after-clause-stopped
unfolding state_at
returns-in_err-after-clause-stopped g c =
    let p = err_from_is_err_and c.from_residual-in_err-after.result c.from_residual-in_err-after.ensures.1 in
    let e = c.in_err-after.field-0.0 in
    rw (p.1, p.2) (stops_made state_from (parts_at c.args.form) _ _ _ e
    (stops_second stack_at (λ _. after_stack c.args.form) _ _ _ _ _ _ e stack_steady c.in_ok-at.ensures.reads
    (stops_second graphics_at (λ _. after_graphics c.args.form) _ _ _ _ _ _ e graphics_steady c.in_ok-graphics.ensures.reads
    (stops_second functions_at (λ _. storage_at c.args.form) _ _ _ _ _ _ e functions_steady c.in_ok-at-2.ensures.reads c.in_err-after.ensures.stopped))))

pub set_rest-requires-clause-same : goal.set_rest-requires-clause-same
set_rest-requires-clause-same g c = λ yes.
    ap (λ (s : State). s.functions) c.in_ok-at.ensures.others ∙ c.requires.known ∙ sym (c.in_ok-at-2.ensures.same yes)

pub returns-clause-reads : goal.returns-clause-reads
returns-clause-reads g c = λ known.
    let a = c.in_ok-at.ensures.reads known in
    let b = c.in_ok-graphics.ensures.reads a.0 in
    let d = c.in_ok-at-2.ensures.reads b.0 in
    let e = c.in_ok-after.ensures.reads d.0 in
    (e.0, state_steps _ _ _ _ _ _ _ _ _ _ _ a.1 b.1 d.1 e.1 (rw c.deref.ensures.value at c.in_ok-set_rest.ensures.set))

pub returns-clause-kept : goal.returns-clause-kept
returns-clause-kept g c =
    let was = c.read_stack.new.state in
    let now = c.set_rest.new.state in
    let set = c.in_ok-set_rest.ensures.set in
    record {
      stack = rest_kept _ was now c.in_ok-at.ensures.kept (ap (λ (s : State). s.stack) set) (c.in_ok-set_rest.ensures.in_range c.in_ok-at.ensures.kept.in_range);
      functions = c.in_ok-at-2.ensures.kept;
      known = ap (λ (s : State). s.functions) set;
    }
