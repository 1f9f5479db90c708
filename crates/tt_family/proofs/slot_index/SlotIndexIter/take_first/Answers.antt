use Rattle.std.specs.Prelude.{◌≡◌, false, Option}
use Rattle.std.proofs.Common.{sym, ◌∙◌, subst}
use Rattle.tt_family.specs.Representation.SlotLists.{Point, AreApart, comes_first, merged, with_first}
use Rattle.tt_family.proofs.SlotWalks.{other_taken_apart, other_taken, first_taken_apart, first_taken}
use Rattle.tt_family.proofs.slot_index.SlotIndexIter.take_first.Goals as goal

pub invariant_of-self : goal.invariant_of-self
invariant_of-self c =
    other_taken_apart c.self.inside.first c.self.inside.other c.self.inside.lists c.self.inside.rest c.self.invariant (sym c.is_first.ensures ∙ c.if-is_first.true)
    c.next_in-self-inside.result c.next_in-self-inside.new.rest c.next_in-self-inside.ensures.none c.next_in-self-inside.ensures.some

pub returns-then-is_first-clause-some : goal.returns-then-is_first-clause-some
returns-then-is_first-clause-some c =
    other_taken c.self.inside.first c.self.inside.other c.self.inside.lists c.self.inside.rest c.self.invariant (sym c.is_first.ensures ∙ c.if-is_first.true)
    c.next_in-self-inside.result c.next_in-self-inside.new.rest c.next_in-self-inside.ensures.none c.next_in-self-inside.ensures.some _ c.self.view_is

pub invariant_of-self-2 : goal.invariant_of-self-2
invariant_of-self-2 c =
    let e = c.in_ok-point.point in
    let A : Option Point → Type 0 = λ o. AreApart (with_first o c.self.inside.lists) (with_first c.self.inside.other c.self.inside.rest) in
    let B : Option Point → Type 0 = λ o. comes_first c.self.inside.other o ≡ false in
    first_taken_apart e c.self.inside.other c.self.inside.lists c.self.inside.rest (subst A c.in_ok-point.was c.self.invariant)
    (subst B c.in_ok-point.was (sym c.is_first.ensures ∙ c.if-is_first.false))
    c.take_first-self-inside.result c.take_first-self-inside.new.self c.take_first-self-inside.ensures.none c.take_first-self-inside.ensures.some

pub returns-clause-some : goal.returns-clause-some
returns-clause-some c =
    let e = c.in_ok-point.point in
    let A : Option Point → Type 0 = λ o. AreApart (with_first o c.self.inside.lists) (with_first c.self.inside.other c.self.inside.rest) in
    let B : Option Point → Type 0 = λ o. comes_first c.self.inside.other o ≡ false in
    let M : Option Point → Type 0 = λ o. merged (with_first o c.self.inside.lists) (with_first c.self.inside.other c.self.inside.rest) ≡ c.args.self.now in
    first_taken e c.self.inside.other c.self.inside.lists c.self.inside.rest (subst A c.in_ok-point.was c.self.invariant)
    (subst B c.in_ok-point.was (sym c.is_first.ensures ∙ c.if-is_first.false))
    c.take_first-self-inside.result c.take_first-self-inside.new.self c.take_first-self-inside.ensures.none c.take_first-self-inside.ensures.some
    c.args.self.now (subst M c.in_ok-point.was c.self.view_is)
