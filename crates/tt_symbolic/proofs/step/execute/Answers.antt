use Rattle.std.proofs.Common.{List, refl, sym, subst, ap, ◌∙◌, ℕ, ◌+◌}
use Rattle.tt_code.specs.Entries.{view}
use Rattle.tt_code.specs.Computing.{shuffled}
use Rattle.tt_symbolic_state.specs.declared.cell.Range.{Range}
use Rattle.tt_symbolic_cells.specs.Stacking.{Restacks}
use Rattle.tt_symbolic.specs.Representation.Plain.{line_of}
use Rattle.tt_symbolic.proofs.Results.{on_ok}
use Rattle.tt_symbolic.proofs.Steppings.{computed_dispatches, control_dispatches, data_dispatches, line_dispatches, stack_dispatches}
use Rattle.tt_symbolic.proofs.step.execute.Goals as goal

pub returns-in-Control : goal.returns-in-Control
returns-in-Control c = on_ok c.execute_control.result _ _ (control_dispatches c.args.setting.now c.args.instr.now c.code-code.result c.code-code.ensures c.args.state.now c.execute_control.new.state c.in-Control.operation (sym c.entry-effect.ensures ∙ ap view c.in-Control.is)) c.execute_control.ensures

pub execute_line-requires : goal.execute_line-requires
execute_line-requires c = sym c.entry-effect.ensures ∙ ap view c.in-Plain.is

pub returns-in-Plain : goal.returns-in-Plain
returns-in-Plain c = on_ok c.execute_line.result _ _ (line_dispatches c.args.setting.now c.args.instr.now c.code-code.result c.code-code.ensures c.args.state.now c.execute_line.new.state c.in-Some.next (c.in-Some.ensures.1 ∙ ap (λ (n : ℕ). c.args.state.now.offset + n) c.len.ensures) (line_of c.in-Plain.line) (sym c.entry-effect.ensures ∙ ap view c.in-Plain.is)) c.execute_line.ensures

pub returns-in_ok-push_data-in-Push : goal.returns-in_ok-push_data-in-Push
returns-in_ok-push_data-in-Push c = data_dispatches c.args.setting.now c.args.instr.now c.code-code.result c.code-code.ensures c.args.state.now (record c.args.state.now { offset = c.in-Some.next; stack = c.push_data.new.stack }) c.in-Some.next (c.in-Some.ensures.1 ∙ ap (λ (n : ℕ). c.args.state.now.offset + n) c.len.ensures)
    c.in-Push.push c.data.result.now (sym c.entry-effect.ensures ∙ ap view c.in-Push.is) c.data.ensures refl c.in_ok-push_data-in-Push.ensures

pub returns-in-Stack : goal.returns-in-Stack
returns-in-Stack c = on_ok c.shuffle.result _ _ (λ h. stack_dispatches c.args.setting.now c.args.instr.now c.code-code.result c.code-code.ensures c.args.state.now (record c.args.state.now { offset = c.in-Some.next; stack = c.shuffle.new.stack }) c.in-Some.next (c.in-Some.ensures.1 ∙ ap (λ (n : ℕ). c.args.state.now.offset + n) c.len.ensures)
    c.in-Stack.operation (sym c.entry-effect.ensures ∙ ap view c.in-Stack.is) refl (subst (λ (a : List Range). Restacks (shuffled c.in-Stack.operation) a c.args.state.now.stack c.shuffle.new.stack) c.as_slice.ensures.value h)) c.shuffle.ensures

pub returns-in-Arithmetic : goal.returns-in-Arithmetic
returns-in-Arithmetic c = on_ok c.compute.result _ _ (computed_dispatches c.args.setting.now c.args.instr.now c.code-code.result c.code-code.ensures c.args.state.now c.compute.new.state c.in-Some.next (c.in-Some.ensures.1 ∙ ap (λ (n : ℕ). c.args.state.now.offset + n) c.len.ensures) c.in-Arithmetic.operation (sym c.entry-effect.ensures ∙ ap view c.in-Arithmetic.is)) c.compute.ensures
