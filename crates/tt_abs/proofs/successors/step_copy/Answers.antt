use Rattle.std.proofs.Common.{◌≡◌, ◌<◌, ◌≤◌, ◌^◌, ◌∙◌, ap, length, subst, sym, arith}
use Rattle.tt_code.specs.Cut.{size}
use Rattle.tt_code.specs.Settings.{program_of}
use Rattle.tt_abs.specs.Transfers.{outcome_on_cells}
use Rattle.tt_abs.specs.Moves.{nexts_of}
use Rattle.tt_setting.specs.Settings.{frames_of, setting_of}
use Rattle.tt_abs.specs.States.{abstract_of}
use Rattle.tt_abs.proofs.Everything.{outcome_gives, outcome_refused}
use Rattle.tt_abs.proofs.Offsets.{starts_within}
use Rattle.tt_abs.proofs.StateParts.{stack_to}
use Rattle.tt_setting.proofs.RefusalLemmas.{for_reason}
use Rattle.tt_abs.proofs.StepLemmas.{passed_on}
use Rattle.tt_abs.specs.Failures.{Tells}
use Rattle.tt_abs.specs.declared.state.State.{State}
use Rattle.tt_abs.proofs.Told.{for_failed}
use Rattle.tt_abs.proofs.successors.step_copy.Goals as goal

pub returns-clause-gives : goal.returns-clause-gives
returns-clause-gives c =
    let S = setting_of c.args.setting.now in
    let fs = frames_of c.args.point.now in
    let at = c.args.point.now.offset in
    let within : at ≤ size (program_of S fs) = starts_within S fs at c.requires.starts in
    let end : c.len.result ≡ size (program_of S fs) = c.len.ensures.value ∙ ap size c.program.ensures in
    let small : at < 2 ^ 31 = omega (arith, c.len.ensures.small) in
    outcome_gives S fs at (abstract_of c.args.state.now) (nexts_of fs c.in_ok-moves.moves (abstract_of c.step.new.state)) small (stack_to c.args.state.now.stack c.requires.in_range.0) c.requires.once
    (ap (λ s. outcome_on_cells S fs at (abstract_of s)) (sym c.in_ok-next.ensures) ∙ c.in_ok-moves.ensures.ok)

pub returns-in_err-moves-clause-refused : goal.returns-in_err-moves-clause-refused
returns-in_err-moves-clause-refused c =
    let S = setting_of c.args.setting.now in
    let fs = frames_of c.args.point.now in
    let at = c.args.point.now.offset in
    let within : at ≤ size (program_of S fs) = starts_within S fs at c.requires.starts in
    let end : c.len.result ≡ size (program_of S fs) = c.len.ensures.value ∙ ap size c.program.ensures in
    let small : at < 2 ^ 31 = omega (arith, c.len.ensures.small) in
    passed_on c.from_residual-in_err-moves.result c.in_err-moves.field-0.0 _
    (for_reason c.in_err-moves.field-0.0 _ _
    (λ q h. outcome_refused S fs at (abstract_of c.args.state.now) q small (stack_to c.args.state.now.stack c.requires.in_range.0) c.requires.once
    (ap (λ s. outcome_on_cells S fs at (abstract_of s)) (sym c.in_ok-next.ensures) ∙ h)) c.in_err-moves.ensures.refused)
    c.from_residual-in_err-moves.ensures.1

pub returns-in_err-moves-clause-told : goal.returns-in_err-moves-clause-told
returns-in_err-moves-clause-told c =
    let S = setting_of c.args.setting.now in
    let fs = frames_of c.args.point.now in
    let at = c.args.point.now.offset in
    passed_on c.from_residual-in_err-moves.result c.in_err-moves.field-0.0 _
    (for_failed c.in_err-moves.field-0.0 _ _
    (λ f h.
    let left = length c.step.new.state.stack in
    let P : State → Type 0 = λ s. Tells S fs at (abstract_of s) left f in (left, subst P c.in_ok-next.ensures h)) c.in_err-moves.ensures.told)
    c.from_residual-in_err-moves.ensures.1
