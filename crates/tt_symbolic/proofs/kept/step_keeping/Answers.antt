use Rattle.std.proofs.Common.{refl, rules, sym, ◌∙◌}
use Rattle.tt_setting.specs.declared.setting.Point.{Point}
use Rattle.tt_symbolic.specs.Representation.Leading.{IsAt}
use Rattle.tt_symbolic.proofs.Controls.{at_frames}
use Rattle.tt_symbolic.proofs.Keepings.{steps_keep}
use Rattle.tt_symbolic.proofs.Steppings.{steps}
use Rattle.tt_symbolic.proofs.kept.step_keeping.Goals as goal

pub execute-requires : goal.execute-requires
execute-requires c = record { offset_is = refl; same_body = at_frames c.innermost-frame.result c.as_slice.result.now _ c.as_slice.ensures c.innermost-frame.ensures }

pub returns-then-writes_none-clause-steps : goal.returns-then-writes_none-clause-steps
returns-then-writes_none-clause-steps c =
    let point : Point = record { frames = c.as_slice.result; offset = c.args.state.now.offset } in
    let at : IsAt point c.args.state.now = record { offset_is = refl; same_body = at_frames c.innermost-frame.result c.as_slice.result.now _ c.as_slice.ensures c.innermost-frame.ensures } in
    steps c.args.setting.now point c.in-Some.instr c.args.state.now c.execute.new.state at (sym c.instruction.ensures ∙ c.in-Some.is) c.in_ok-execute.ensures c.code.result c.code.ensures (search rules)

pub returns-then-writes_none-clause-keeps : goal.returns-then-writes_none-clause-keeps
returns-then-writes_none-clause-keeps c =
    let point : Point = record { frames = c.as_slice.result; offset = c.args.state.now.offset } in
    let at : IsAt point c.args.state.now = record { offset_is = refl; same_body = at_frames c.innermost-frame.result c.as_slice.result.now _ c.as_slice.ensures c.innermost-frame.ensures } in
    steps_keep c.args.setting.now point c.args.kept.now c.in-Some.instr c.code.result c.args.state.now at (sym c.instruction.ensures ∙ c.in-Some.is) c.code.ensures (c.keeps_entries-writes_none.ensures.storage (search rules)) (c.keeps_entries-writes_none.ensures.controls (search rules))
