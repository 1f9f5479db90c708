use Rattle.std.proofs.Common.{sym, ◌∙◌, ap, length, refl, Ok}
use Rattle.std.proofs.lemmas.Result.{IfErr-weaker}
use Rattle.tt_code.specs.Table.{Plain, Stack, Computes, Controls, Pushes, effect_of}
use Rattle.tt_code.specs.Entries.{view}
use Rattle.tt_setting.specs.Settings.{frames_of, setting_of}
use Rattle.tt_abs.specs.States.{abstract_of}
use Rattle.tt_abs.specs.Representation.Steps.{IsRoleOfLine, line_of}
use Rattle.tt_abs.specs.Representation.Taken.{IsNoRole}
use Rattle.tt_abs.proofs.RolesTold.{code_told}
use Rattle.tt_abs.specs.Transfers.{pushed_cells, plain_cells, shuffled_cells, computed_cells}
use Rattle.tt_abs.specs.Failures.{IsRoleOfControl, IsRoleOfShuffle}
use Rattle.tt_abs.proofs.TableRows.{rows_of_one_kind, rows_tested}
use Rattle.tt_abs.proofs.StepLemmas.{push_done, acts, acts_not, first_code, passed_on}
use Rattle.tt_setting.proofs.RefusalLemmas.{for_reason}
use Rattle.tt_abs.proofs.instruction.dispatch.Goals.{in-Plain+in_ok-execute_plain-in-Plain, in-Push+in_ok-push_data-in-Push, in-Stack+in_ok-shuffle-in-Stack, in-Arithmetic+in_ok-compute-in-Arithmetic}
use Rattle.tt_abs.proofs.Told.{for_failed, stack_fault_told}
use Rattle.tt_abs.proofs.instruction.dispatch.Goals as goal

pub execute_plain-requires : goal.execute_plain-requires
execute_plain-requires c =
    let plain = sym c.entry.ensures ∙ ap view c.in-Plain.is in record {
      tested = rows_tested c.code.result (line_of c.in-Plain.line) plain;
      one_kind = rows_of_one_kind c.code.result (line_of c.in-Plain.line) plain;
    }

pub returns-in_err-shuffle-in-Stack-clause-refused : goal.returns-in_err-shuffle-in-Stack-clause-refused
returns-in_err-shuffle-in-Stack-clause-refused c =
    passed_on c.from_residual-in_err-shuffle-in-Stack.result c.in_err-shuffle-in-Stack.field-0.0 _
    (for_reason c.in_err-shuffle-in-Stack.field-0.0 _ _
    (λ q h code rest e.
    acts_not (setting_of c.args.setting.now) (frames_of c.args.point.now) c.args.point.now.offset (abstract_of c.args.state.now) (Stack c.in-Stack.operation) code rest
    (shuffled_cells c.in-Stack.operation (abstract_of c.args.state.now)) q
    (ap effect_of (first_code c.args.instr.now c.code.result code rest c.code.ensures e) ∙ sym c.entry.ensures ∙ ap view c.in-Stack.is) (λ next. refl) (h (abstract_of c.args.state.now)))
    c.in_err-shuffle-in-Stack.ensures.refused)
    c.from_residual-in_err-shuffle-in-Stack.ensures.1

pub returns-in_err-compute-in-Arithmetic-clause-refused : goal.returns-in_err-compute-in-Arithmetic-clause-refused
returns-in_err-compute-in-Arithmetic-clause-refused c =
    passed_on c.from_residual-in_err-compute-in-Arithmetic.result c.in_err-compute-in-Arithmetic.field-0.0 _
    (for_reason c.in_err-compute-in-Arithmetic.field-0.0 _ _
    (λ q h code rest e.
    acts_not (setting_of c.args.setting.now) (frames_of c.args.point.now) c.args.point.now.offset (abstract_of c.args.state.now) (Computes c.in-Arithmetic.operation) code rest
    (computed_cells c.in-Arithmetic.operation (abstract_of c.args.state.now)) q
    (ap effect_of (first_code c.args.instr.now c.code.result code rest c.code.ensures e) ∙ sym c.entry.ensures ∙ ap view c.in-Arithmetic.is) (λ next. refl) (h (abstract_of c.args.state.now)))
    c.in_err-compute-in-Arithmetic.ensures.refused)
    c.from_residual-in_err-compute-in-Arithmetic.ensures.1

pub returns-clause-ok : goal.returns-clause-ok
returns-clause-ok c = λ code rest e.
    let same = ap effect_of (first_code c.args.instr.now c.code.result code rest c.code.ensures e) ∙ sym c.entry.ensures in
    let size = c.len.ensures ∙ ap length e in
    let S = setting_of c.args.setting.now in
    let fs = frames_of c.args.point.now in
    let at = c.args.point.now.offset in
    let a = abstract_of c.args.state.now in
    elim c.match-entry.branch [
      | in-Plain+in_ok-execute_plain-in-Plain w ↦
          acts S fs at a (abstract_of c.match-entry.state) (Plain (line_of w.in-Plain.line)) code rest c.len.result (plain_cells S a (line_of w.in-Plain.line)) (same ∙ ap view w.in-Plain.is) (λ next. refl)
          (w.in_ok-execute_plain-in-Plain.ensures.ok ∙ ap (λ s. Ok (abstract_of s)) (sym w.state-is)) size
      | in-Push+in_ok-push_data-in-Push w ↦
          acts S fs at a (abstract_of c.match-entry.state) (Pushes w.in-Push.push) code rest c.len.result (Ok (pushed_cells w.in-Push.push a rest)) (same ∙ ap view w.in-Push.is) (λ next. refl)
          (push_done c.args.state.now c.match-entry.state c.args.instr.now code rest w.in-Push.push w.data.result.now w.push_data.new.stack e (same ∙ ap view w.in-Push.is) w.data.ensures
          w.in_ok-push_data-in-Push.ensures w.state-is) size
      | in-Stack+in_ok-shuffle-in-Stack w ↦
          acts S fs at a (abstract_of c.match-entry.state) (Stack w.in-Stack.operation) code rest c.len.result (shuffled_cells w.in-Stack.operation a) (same ∙ ap view w.in-Stack.is) (λ next. refl)
          (w.in_ok-shuffle-in-Stack.ensures.ok a ∙ ap (λ s. Ok (abstract_of s)) (sym w.state-is)) size
      | in-Arithmetic+in_ok-compute-in-Arithmetic w ↦
          acts S fs at a (abstract_of c.match-entry.state) (Computes w.in-Arithmetic.operation) code rest c.len.result (computed_cells w.in-Arithmetic.operation a) (same ∙ ap view w.in-Arithmetic.is) (λ next. refl)
          (w.in_ok-compute-in-Arithmetic.ensures.ok a ∙ ap (λ s. Ok (abstract_of s)) (sym w.state-is)) size
    ]

pub returns-in_err-execute_plain-in-Plain-clause-told : goal.returns-in_err-execute_plain-in-Plain-clause-told
returns-in_err-execute_plain-in-Plain-clause-told c =
    passed_on c.from_residual.result c.in_err-execute_plain-in-Plain.field-0.0 _
    (code_told (IsRoleOfLine c.args.setting.now c.args.state.now c.in-Plain.line) c.args.setting.now c.args.point.now c.args.state.now _ c.args.instr.now c.code.result (Plain (line_of c.in-Plain.line))
    c.in_err-execute_plain-in-Plain.field-0.0 c.code.ensures (sym c.entry.ensures ∙ ap view c.in-Plain.is) (λ r n h. h)
    (for_failed c.in_err-execute_plain-in-Plain.field-0.0 _ _ (λ f h. h (frames_of c.args.point.now) c.args.point.now.offset _) c.in_err-execute_plain-in-Plain.ensures.told))
    c.from_residual.ensures.1

pub returns-in_err-shuffle-in-Stack-clause-told : goal.returns-in_err-shuffle-in-Stack-clause-told
returns-in_err-shuffle-in-Stack-clause-told c =
    passed_on c.from_residual-in_err-shuffle-in-Stack.result c.in_err-shuffle-in-Stack.field-0.0 _
    (code_told (IsRoleOfShuffle c.in-Stack.operation) c.args.setting.now c.args.point.now c.args.state.now _ c.args.instr.now c.code.result (Stack c.in-Stack.operation)
    c.in_err-shuffle-in-Stack.field-0.0 c.code.ensures (sym c.entry.ensures ∙ ap view c.in-Stack.is) (λ r n h. h)
    (stack_fault_told (IsRoleOfShuffle c.in-Stack.operation) c.args.setting.now c.args.point.now c.args.state.now _ _ c.in_err-shuffle-in-Stack.ensures.told))
    c.from_residual-in_err-shuffle-in-Stack.ensures.1

pub returns-in_err-compute-in-Arithmetic-clause-told : goal.returns-in_err-compute-in-Arithmetic-clause-told
returns-in_err-compute-in-Arithmetic-clause-told c =
    passed_on c.from_residual-in_err-compute-in-Arithmetic.result c.in_err-compute-in-Arithmetic.field-0.0 _
    (code_told IsNoRole c.args.setting.now c.args.point.now c.args.state.now _ c.args.instr.now c.code.result (Computes c.in-Arithmetic.operation)
    c.in_err-compute-in-Arithmetic.field-0.0 c.code.ensures (sym c.entry.ensures ∙ ap view c.in-Arithmetic.is) (λ r n h. absurd h)
    (stack_fault_told IsNoRole c.args.setting.now c.args.point.now c.args.state.now _ _ c.in_err-compute-in-Arithmetic.ensures.told))
    c.from_residual-in_err-compute-in-Arithmetic.ensures.1

pub returns-in-Control-clause-told : goal.returns-in-Control-clause-told
returns-in-Control-clause-told c =
    IfErr-weaker c.execute_control.result _ _ (λ e. code_told (IsRoleOfControl c.in-Control.operation) c.args.setting.now c.args.point.now c.args.state.now _ c.args.instr.now c.code.result (Controls c.in-Control.operation)
    e c.code.ensures (sym c.entry.ensures ∙ ap view c.in-Control.is) (λ r n h. h)) c.execute_control.ensures.told
