-- What follows from the laws of an order.
use Rattle.std.specs.Prelude.{◌≡◌, Bool, true, false, not, IsTrue, IsFalse, ◌↔◌}
use Rattle.std.proofs.Common.{refl, subst}
use Rattle.tt_abs.specs.Orders.{Order, OrderLaws, IsLeastAbove}

-- a join changes the value exactly if the other one wasn't below it
pub unchanged_by_below : {S : Type 0} {o : Order S} → OrderLaws o → (a b c : S) (r : Bool)
    → o.InRange a
    → IsLeastAbove o a b c → (IsTrue r ↔ o.Below b a) → IsFalse (not r) ↔ (c ≡ a)
unchanged_by_below {S} {o} laws a b c true in_a least says = (
  λ _.
      laws.antisymmetric c a least.in_range in_a
      (least.least a in_a (laws.reflexive a) (says.0 refl)) least.left,
  λ _. refl,
)
unchanged_by_below {S} {o} laws a b c false in_a least says = (
  λ h. cc,
  λ e.
      let P : S → Type 0 = λ x. o.Below b x in
      let bad : false ≡ true = says.1 (subst P e least.right) in cc,
)

-- a value is the least above itself and one below it
pub least_is_first : {S : Type 0} {o : Order S} → OrderLaws o → (a b : S) → o.InRange a
    → o.Below b a → IsLeastAbove o a b a
least_is_first laws a b in_a below =
    record { in_range = in_a; left = laws.reflexive a; right = below; least = λ d _ p _. p }
