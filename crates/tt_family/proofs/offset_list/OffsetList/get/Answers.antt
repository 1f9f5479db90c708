use Rattle.std.specs.Prelude.{◌-◌, length, slice_get}
use Rattle.std.proofs.Common.{sym, ◌∙◌, ap}
use Rattle.tt_setting.specs.Entries.{listed}
use Rattle.tt_family.specs.Representation.SlotLists.{Offsets}
use Rattle.tt_family.proofs.ListEnds.{listed_last}
use Rattle.tt_family.proofs.offset_list.OffsetList.get.Goals as goal

pub returns-in-Some : goal.returns-in-Some
returns-in-Some c =
    sym (listed_last c.args.offset c.self.inside.points.items c.in-Some.last.now c.self.invariant
    (c.in-Some.ensures.value ∙ ap (λ (list : Offsets). slice_get list (length list - 1)) c.deref.ensures.value) c.if-last-offset.true)
    ∙ ap (λ list. listed list c.args.offset) c.self.view_is
