use Rattle.std.proofs.Common.{sym, ◌∙◌, ap, None, Some}
use Rattle.tt_code.specs.Settings.{body_of, is_body}
use Rattle.tt_setting.specs.Settings.{frames_of, setting_of}
use Rattle.tt_abs.specs.States.{abstract_of}
use Rattle.tt_abs.proofs.StepLemmas.{no_start, none_is_body, starts_is}
use Rattle.tt_abs.proofs.instruction.step_at.Goals as goal

pub returns-in_default-clause-refused : goal.returns-in_default-clause-refused
returns-in_default-clause-refused c =
    let S = setting_of c.args.setting.now in
    let fs = frames_of c.args.point.now in
    let at = c.args.point.now.offset in
    no_start S fs at (abstract_of c.args.state.now)
    (starts_is S fs at c.program-program.result.now None c.program-program.ensures c.in_default.ensures.body ∙ none_is_body (body_of fs))

pub returns-then-not-is_same_body-clause-refused : goal.returns-then-not-is_same_body-clause-refused
returns-then-not-is_same_body-clause-refused c =
    let S = setting_of c.args.setting.now in
    let fs = frames_of c.args.point.now in
    let at = c.args.point.now.offset in
    no_start S fs at (abstract_of c.args.state.now)
    (starts_is S fs at c.program-program.result.now (Some c.in-Some.body) c.program-program.ensures c.in-Some.ensures.body
    ∙ ap (λ b. is_body b (Some c.in-Some.body)) (sym c.body_of.ensures) ∙ sym c.is_same_body.ensures ∙ c.if-not-is_same_body.true)
