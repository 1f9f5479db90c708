use Rattle.std.specs.Prelude.{◌≡◌, ℕ, List, slice_index_or, nat_lt, true, length}
use Rattle.std.proofs.Common.{arith, sym, ◌∙◌, ap, subst}
use Rattle.std.proofs.lemmas.Bool.{ltb-false, ltb-true}
use Rattle.tt_setting.specs.Entries.{listed}
use Rattle.tt_family.specs.Places.{states_of}
use Rattle.tt_family.specs.Representation.SlotLists.{Offsets, AreBelow, list_of}
use Rattle.tt_family.proofs.SlotLists.{list_read, found_beyond, found_below, found_in_list, found_beside}
use Rattle.tt_family.proofs.slot_index.SlotIndex.get.Goals as goal

-- the list that was read from a slice of the lists
list_of_slice : (lists slice : List Offsets) (c : ℕ) (list : Offsets) → slice ≡ lists → true ≡ nat_lt c (length slice) → list ≡ slice_index_or slice c list → list ≡ list_of lists c
list_of_slice lists slice c list same within read =
    sym (list_read slice c list (ltb-true c (length slice) (sym within)) read) ∙ ap (λ l. list_of l c) same

pub returns-in_default : goal.returns-in_default
returns-in_default c =
    let le = ltb-false _ _ (sym c.in_default.ensures.lookup.0) in
    let long = c.deref.ensures.len in
    sym (found_beyond c.self.inside.lists.items c.self.inside.rest.entries c.self.invariant.0 c.args.context c.args.offset (omega arith))
    ∙ ap (λ points. states_of points (c.args.context, c.args.offset)) c.self.view_is

pub returns-then-is_below : goal.returns-then-is_below
returns-then-is_below c =
    let list = list_of_slice c.self.inside.lists.items c.deref.result.now c.args.context c.in-Some.list.now c.deref.ensures.value c.in-Some.ensures.lookup.0 c.in-Some.ensures.lookup.1 in
    let B : Offsets → Type 0 = λ r. AreBelow c.args.offset r in
    sym (found_below c.self.inside.lists.items c.self.inside.rest.entries c.self.invariant.0 c.args.context c.args.offset (subst B list (c.is_below.ensures.0 c.if-is_below.true)))
    ∙ ap (λ points. states_of points (c.args.context, c.args.offset)) c.self.view_is

pub returns-in-Some-get : goal.returns-in-Some-get
returns-in-Some-get c =
    let list = list_of_slice c.self.inside.lists.items c.deref.result.now c.args.context c.in-Some.list.now c.deref.ensures.value c.in-Some.ensures.lookup.0 c.in-Some.ensures.lookup.1 in
    sym (found_in_list c.self.inside.lists.items c.self.inside.rest.entries c.self.invariant.0 c.args.context c.args.offset c.in-Some-get.slot
    (ap (λ r. listed r c.args.offset) (sym list) ∙ sym c.in-Some-get.ensures))
    ∙ ap (λ points. states_of points (c.args.context, c.args.offset)) c.self.view_is

pub returns-in-None : goal.returns-in-None
returns-in-None c =
    let list = list_of_slice c.self.inside.lists.items c.deref.result.now c.args.context c.in-Some.list.now c.deref.ensures.value c.in-Some.ensures.lookup.0 c.in-Some.ensures.lookup.1 in
    c.copied.ensures ∙ c.get-in-None.ensures.value
    ∙ sym (found_beside c.self.inside.lists.items c.self.inside.rest.entries c.self.invariant.0 c.args.context c.args.offset
    (ap (λ r. listed r c.args.offset) (sym list) ∙ sym c.in-None.ensures))
    ∙ ap (λ points. states_of points (c.args.context, c.args.offset)) c.self.view_is
