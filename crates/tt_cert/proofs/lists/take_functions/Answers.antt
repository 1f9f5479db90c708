use Rattle.std.proofs.Common.{◌≡◌, ℕ, ◌-◌, arith, ap, drop, length, sym, subst, ◌∙◌}
use Rattle.tt_setting.specs.Entries.{Ascends}
use Rattle.tt_cert.proofs.Blocks.{suffix_on, taking_breaks, taking_more, taking_none}
use Rattle.tt_cert.proofs.Ascends.{Ascends-push}
use Rattle.tt_cert.proofs.lists.take_functions.Goals as goal

pub returns-then-not-is_next-clause-takes : goal.returns-then-not-is_next-clause-takes
returns-then-not-is_next-clause-takes c =
    let cut = c.in-Some.ensures.cases in
    taking_breaks _ _ _ _ _ _ c.in-Some.unit.now c.pair_of-function.result c.functions.invariant.0 (omega (arith, cut.2)) cut.0 c.pair_of-function.ensures
    (rw c.deref.ensures.value at (sym c.is_next.ensures ∙ c.if-not-is_next.true))

pub functions-preserved : goal.functions-preserved
functions-preserved c =
    let cut = c.in-Some.ensures.cases in
    let above = rw c.deref.ensures.value at (sym c.is_next.ensures ∙ c.if-not-is_next.false) in (
      taking_more _ _ _ _ _ _ _ _ _ c.in-Some.unit.now c.pair_of-function.result c.functions.invariant.0 (omega (arith, cut.2)) cut.0 cut.1 c.pair_of-function.ensures above
          c.in_ok-push.ensures.items c.saturating_add-at.ensures,
      λ ascends. subst Ascends (sym c.in_ok-push.ensures.items) (Ascends-push _ _ (c.functions.invariant.1 ascends) above),
      suffix_on _ _ _ 6 c.functions.invariant.2 cut.1 (omega (arith, cut.2)),
    )

pub functions-init : goal.functions-init
functions-init c =
    let bytes = c.args.bytes.now in
    let none : 0 ≡ length bytes - length bytes = omega arith in (
      rw c.reserve.ensures.items (taking_none c.args.functions.now.items c.args.place bytes c.ranges.place.fits),
      λ ascends. rw c.reserve.ensures.items ascends,
      ap (λ (k : ℕ). drop k bytes) none,
    )
