use Rattle.std.proofs.Common.{◌≡◌, ◌∙◌, ap, false, refl, sym}
use Rattle.tt_code.specs.Settings.{is_main_end}
use Rattle.tt_setting.specs.Settings.{setting_of}
use Rattle.tt_setting.proofs.RefusalLemmas.{for_reason, refused_within}
use Rattle.tt_family.proofs.Checked.{frames_back, refusal_moved}
use Rattle.tt_find.specs.Representation.Solvers.{IsRefusedAt, here_of}
use Rattle.tt_family.specs.Contents.{frames_at}
use Rattle.tt_find.proofs.Steps.{refused_names}
use Rattle.tt_find.proofs.carry.step_state.Goals as goal

pub returns-in-Err-clause-refused : goal.returns-in-Err-clause-refused
returns-in-Err-clause-refused c =
    let S = setting_of c.args.setting.now in
    let fs = frames_at c.args.builder.now.contexts c.args.walk.now.context in
    let p = here_of c.args.builder.now c.args.walk.now c.args.offset in
    let back = frames_back c.as_slice.result.now _ fs c.as_slice.ensures.value c.requires.walk.calls in
    let running : is_main_end S fs c.args.offset ≡ false = ap (λ f. is_main_end S f c.args.offset) (sym back) ∙ sym c.is_end.ensures ∙ c.if-is_end.false in
    refused_names (IsRefusedAt S p c.args.walk.now.state) p c.in-Err.fault c.refused.result c.refused.ensures
    (for_reason c.in-Err.fault _ (IsRefusedAt S p c.args.walk.now.state p) (λ r h.
    record { place = refl; refused = record { running = running; refused = refusal_moved S fs _ c.args.offset _ c.args.walk.now.state _ back refl refl r h } }) c.in-Err.ensures.refused)

pub returns-in-Err-clause-within : goal.returns-in-Err-clause-within
returns-in-Err-clause-within c = refused_within _ c.args.offset c.in-Err.fault c.refused.result c.refused.ensures
