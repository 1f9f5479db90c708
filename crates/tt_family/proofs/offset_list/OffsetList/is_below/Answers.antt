use Rattle.std.specs.Prelude.{◌↔◌, ◌-◌, IsTrue, length, nat_lt, slice_get}
use Rattle.std.proofs.Common.{◌∙◌, ap, subst}
use Rattle.tt_family.specs.Representation.SlotLists.{Offsets, AreBelow}
use Rattle.tt_family.proofs.ListEnds.{tests_last}
use Rattle.tt_family.proofs.offset_list.OffsetList.is_below.Goals as goal

pub returns-in-Some : goal.returns-in-Some
returns-in-Some c =
    let B : Offsets → Type 0 = λ list. IsTrue (nat_lt c.in-Some.last.now.0 c.args.offset) ↔ AreBelow c.args.offset list in
    subst B c.self.view_is
    (tests_last c.args.offset c.self.inside.points.items c.in-Some.last.now c.self.invariant
    (c.in-Some.ensures.value ∙ ap (λ (list : Offsets). slice_get list (length list - 1)) c.deref.ensures.value))
