use Rattle.std.proofs.Common.{arith, ap, length, ◌∙◌, ◌++◌, ◌∷◌, []}
use Rattle.std.proofs.lemmas.Bool.Decides.{nat_tests}
use Rattle.tt_family.proofs.Queues.{IsQueue-first, IsQueue-step}
use Rattle.tt_family.proofs.FileOrders.{IsFileOrder-from, few_found, read_at, within}
use Rattle.tt_family.proofs.builder.Builder.file_order.Goals as goal
use Rattle.tt_family.proofs.builder.Builder.file_order.Goals.{else-loop-i-test, then-loop-i-test+in_default}

pub loop-i-init : goal.loop-i-init
loop-i-init c = record { queue = IsQueue-first c.self.inside.index _ (c.in_ok-push.ensures.items ∙ ap (λ l. l ++ 0 ∷ []) c.new-order.ensures.items) }

pub push_children-requires : goal.push_children-requires
push_children-requires c =
    let t = c.in-Some.ensures.lookup.0 in
    let at = read_at _ _ c.loop-i.i c.in-Some.parent.now c.deref.ensures.value c.in-Some.ensures.lookup.1 (grind (arith, nat_tests)) in
    let lt = within _ _ _ _ c.self.view_is c.self.invariant c.loop-i.order.items c.loop-i.i c.loop-i.invariant.queue c.loop-i.i c.in-Some.parent.now at in
    let few = c.contexts-i-end.ensures.family.few in
    omega arith

pub loop-i-preserved : goal.loop-i-preserved
loop-i-preserved c =
    let t = c.in-Some.ensures.lookup.0 in
    let at = read_at _ _ c.loop-i.i c.in-Some.parent.now c.deref.ensures.value c.in-Some.ensures.lookup.1 (grind (arith, nat_tests)) in
    record {
      queue = IsQueue-step c.self.inside.index c.loop-i.order.items _ c.loop-i.i c.in-Some.parent.now c.loop-i.invariant.queue c.push_children.ensures.ordered at
          c.in_ok-push_children.ensures.pushed;
    }

pub returns : goal.returns
returns c =
    IsFileOrder-from _ _ _ _ c.self.view_is c.self.invariant c.loop-i.order.items c.loop-i.i c.loop-i.invariant.queue
    (elim c.loop-i-test.branch [
      | else-loop-i-test w ↦
          let few = few_found _ _ _ _ c.self.view_is c.self.invariant c.loop-i.order.items c.loop-i.i c.loop-i.invariant.queue in
          let end = w.loop-i-test in
          let count = c.contexts-i-end.ensures.value in
          omega arith
      | then-loop-i-test+in_default w ↦
          let t = w.in_default.ensures.lookup.0 in
          let same = ap length w.deref.ensures.value in
          grind (arith, nat_tests)
    ])
