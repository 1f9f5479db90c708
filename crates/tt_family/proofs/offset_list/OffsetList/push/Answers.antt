use Rattle.std.proofs.Common.{sym, subst}
use Rattle.tt_setting.specs.Entries.{Ascends}
use Rattle.tt_family.specs.Representation.SlotLists.{Offsets, AreBelow}
use Rattle.tt_family.proofs.ListEnds.{ascends_pushed}
use Rattle.tt_family.proofs.offset_list.OffsetList.push.Goals as goal

pub invariant_of-self-2 : goal.invariant_of-self-2
invariant_of-self-2 c =
    let R : Offsets → Type 0 = λ list. Ascends list in
    let B : Offsets → Type 0 = λ list. AreBelow c.args.offset list in
    subst R (sym c.in_ok-push.ensures.items)
    (ascends_pushed c.args.offset c.args.slot c.self.inside.points.items c.self.invariant (subst B (sym c.self.view_is) c.requires))
