use Rattle.std.proofs.Common.{ℕ, List, ◌∙◌, subst, sym}
use Rattle.tt_setting.specs.EntryLists.{IsAt, IsGap}
use Rattle.tt_setting.proofs.EntryEdits.{without-at, without-gap}
use Rattle.tt_setting.proofs.sorted_map.remove_entry.Goals as goal

pub returns-in-Ok : goal.returns-in-Ok
returns-in-Ok g c =
    let At = λ (es : List (ℕ × g.row.T.Denot)). IsAt c.args.number es c.in-Ok.at in
    c.remove.ensures.items
    ∙ sym (without-at c.args.number c.args.entries.now.items c.in-Ok.at c.requires (subst At c.as_slice.ensures.value c.in-Ok.ensures.place))

pub returns-in_default : goal.returns-in_default
returns-in_default g c =
    let Gap = λ (es : List (ℕ × g.row.T.Denot)). IsGap c.args.number es c.in_default.field-0 in
    sym (without-gap c.args.number c.args.entries.now.items c.in_default.field-0 (subst Gap c.as_slice.ensures.value c.in_default.ensures.place))
