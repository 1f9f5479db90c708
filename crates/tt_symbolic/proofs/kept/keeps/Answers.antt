use Rattle.std.proofs.Common.{refl, sym, ◌∙◌}
use Rattle.tt_setting.specs.declared.setting.Point.{Point}
use Rattle.tt_symbolic.specs.Representation.Leading.{IsAt}
use Rattle.tt_symbolic.proofs.Controls.{at_frames}
use Rattle.tt_symbolic.proofs.Keepings.{steps_keep}
use Rattle.tt_symbolic.proofs.kept.keeps.Goals as goal

pub returns-in-Some : goal.returns-in-Some
returns-in-Some c = λ e.
    let point : Point = record { frames = c.as_slice.result; offset = c.args.state.now.offset } in
    let at : IsAt point c.args.state.now = record { offset_is = refl; same_body = at_frames c.innermost-frame.result c.as_slice.result.now _ c.as_slice.ensures c.innermost-frame.ensures } in
    steps_keep c.args.setting.now point c.args.kept.now c.in-Some.instr c.code.result c.args.state.now at (sym c.instruction.ensures ∙ c.in-Some.is) c.code.ensures (c.keeps_entries.ensures.storage e) (c.keeps_entries.ensures.controls e)
