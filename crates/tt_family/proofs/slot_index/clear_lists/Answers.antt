use Rattle.std.specs.Prelude.{◌≡◌, ℕ, ◌<◌, [], length, min}
use Rattle.std.proofs.Common.{arith, ◌∙◌, ap, subst}
use Rattle.std.proofs.lemmas.List.{length-set, length-take}
use Rattle.tt_family.specs.Representation.SlotLists.{list_of}
use Rattle.tt_family.proofs.SlotLists.{empty_behind_kept, empty_behind_set, empty_before_set, all_lists_empty}
use Rattle.tt_family.proofs.slot_index.clear_lists.Goals as goal

pub loop-context-init : goal.loop-context-init
loop-context-init c = record {
  fits = let long = ap length c.truncate.ensures.items ∙ length-take 64 c.args.lists.now.items in omega arith;
  before = λ i lt. absurd (omega arith);
  behind = empty_behind_kept 64 c.args.used c.min-context-end.result c.args.lists.now.items c.truncate.new.self.items c.requires c.truncate.ensures.items
      (let long : c.len.result ≡ length c.truncate.new.self.items = let len = c.len.ensures in omega arith in c.min-context-end.ensures ∙ ap (λ n. min c.args.used n) long);
}

pub loop-context-preserved : goal.loop-context-preserved
loop-context-preserved c = record {
  fits = let fits = c.loop-context.invariant.fits in let long = length-set c.loop-context.lists.items c.loop-context.context c.clear.new.self in omega arith;
  before = empty_before_set c.loop-context.lists.items c.loop-context.context c.min-context-end.result c.clear.new.self c.loop-context.invariant.before c.loop-context.invariant.behind
      c.loop-context-test.true c.clear.ensures;
  behind = empty_behind_set c.loop-context.lists.items c.loop-context.context c.min-context-end.result c.clear.new.self c.loop-context-test.true c.loop-context.invariant.behind;
}

pub returns-clause-empty : goal.returns-clause-empty
returns-clause-empty c =
    let B : ℕ → Type 0 = λ n. (i : ℕ) → i < n → list_of c.loop-context.lists.items i ≡ [] in
    let far : c.loop-context.context ≡ c.min-context-end.result = let end = c.loop-context.auto.context-end in let done = c.loop-context-test.false in omega arith in
    all_lists_empty c.loop-context.lists.items c.min-context-end.result (subst B far c.loop-context.invariant.before) c.loop-context.invariant.behind
