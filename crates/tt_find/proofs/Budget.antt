-- Updates within the budget.
use Rattle.std.specs.Prelude.{◌≡◌, ◌≢◌, ℕ, ◌+◌, ◌*◌, ◌-◌, ◌≤◌, ◌<◌, Bool, true, false, cond, Option, Some, None, List, [], ◌∷◌, length}
use Rattle.std.specs.List.{sum_by}
use Rattle.std.specs.Map.{values_of}
use Rattle.std.proofs.Common.{refl, sym, ◌∙◌, ap, subst, arith, mul-le-mul_right}
use Rattle.std.proofs.lemmas.List.Sums.{sum_by-cons}
use Rattle.tt_abs.specs.declared.state.State.{State}
use Rattle.tt_abs.specs.Orders.{Order, OrderLaws}
use Rattle.tt_abs.specs.Families.{IsFamilyInRange}
use Rattle.tt_abs.specs.StateFlow.{Place}
use Rattle.tt_family.specs.Contents.{Contents, IsFamily, family_of, number_of, total}
use Rattle.tt_family.specs.Places.{PutGives, PutsAt, states_of}
use Rattle.tt_family.specs.Puts.{Reweighs, place_of, weigh}
use Rattle.tt_find.specs.Representation.Solvers.{IsWithinBudget}

-- how many states there are, as a sum
pub sum_ones : (xs : List ((ℕ × ℕ) × State)) → sum_by (λ _. 1) (values_of xs) ≡ length xs
sum_ones [] = refl
sum_ones (x ∷ xs) = let ih = sum_ones xs in let e = sum_by-cons (λ (_ : State). 1) x.1 (values_of xs) in omega arith

module _ (o : Order State) (order : OrderLaws o) (h : ℕ) where
  spent_from : (points points' left left' updates : ℕ) (x y : Option State) (t : State) (changed : Bool) → PutGives o x t y changed → ((s : State) → x ≡ Some s → o.InRange s) → o.left t ≤ h
      → left' + weigh o.left x ≡ left + weigh o.left y → points' + weigh (λ _. 1) x ≡ points + weigh (λ _. 1) y
      → updates + left ≤ points * (1 + h) → points ≤ updates
      → (updates + cond changed 1 0 + left' ≤ points' * (1 + h)) × (points' ≤ updates + cond changed 1 0)
  spent_from points points' left left' updates None None t changed gives ranged low l p spent counted = absurd gives
  spent_from points points' left left' updates None (Some u) t changed gives ranged low l p spent counted =
      let e : o.left u ≡ o.left t = ap o.left gives.0 in
      let pe : points' ≡ points + 1 = omega arith in
      let pm : points' * (1 + h) ≡ (points + 1) * (1 + h) = ap (λ x. x * (1 + h)) pe in
      let one : ◌≡◌ {A = ℕ} (cond changed 1 0) 1 = ap (λ (b : Bool). cond {A = ℕ} b 1 0) gives.1 in
      (omega arith, omega arith)
  spent_from points points' left left' updates (Some a) None t changed gives ranged low l p spent counted = absurd gives
  spent_from points points' left left' updates (Some a) (Some u) t true gives ranged low l p spent counted =
      let pe : points' ≡ points = omega arith in
      let pm : points' * (1 + h) ≡ points * (1 + h) = ap (λ x. x * (1 + h)) pe in
      let falls : o.left u ≤ o.left a = order.left_falls a u (ranged a refl) gives.0.in_range gives.0.left in
      let apart : o.left u ≢ o.left a = λ e. let one : a ≡ u = order.left_strict a u (ranged a refl) gives.0.in_range gives.0.left e in
      let no_such : true ≡ false = gives.1.1 (sym one) in cc in
      (omega arith, omega arith)
  spent_from points points' left left' updates (Some a) (Some u) t false gives ranged low l p spent counted =
      let pe : points' ≡ points = omega arith in
      let pm : points' * (1 + h) ≡ points * (1 + h) = ap (λ x. x * (1 + h)) pe in
      let one : u ≡ a = gives.1.0 refl in
      let e : o.left u ≡ o.left a = ap o.left one in
      (omega arith, omega arith)

  pub budget_put : (v v' : Contents) (c off : ℕ) (t : State) (updates : ℕ) (changed : Bool)
      → IsFamilyInRange o (family_of v) → o.left t ≤ h → IsWithinBudget o h v updates
      → PutsAt o (family_of v) (family_of v') (place_of v c off) t changed → Reweighs v v' (place_of v c off)
      → IsWithinBudget o h v' (updates + cond changed 1 0)
  budget_put v v' c off t updates changed ranged low budget put sums =
      let ones = sum_ones v.states in
      let ones' = sum_ones v'.states in
      let both = spent_from (total (λ _. 1) v) (total (λ _. 1) v') (total o.left v) (total o.left v') updates (family_of v (place_of v c off)) (family_of v' (place_of v c off)) t changed
      put.here (λ s is. ranged (place_of v c off) s is) low (sums o.left) (sums (λ _. 1))
      (let s = budget.spent in let m = ap (λ x. x * (1 + h)) ones in omega arith) (let n = budget.counted in omega arith) in
      let s = both.0 in
      let n = both.1 in
      let m = ap (λ x. x * (1 + h)) ones' in
      record { spent = omega arith; counted = omega arith }

  -- only the start
  pub budget_start : (v v' : Contents) (t : State) (changed : Bool) → v.states ≡ [] → o.left t ≤ h → PutsAt o (family_of v) (family_of v') (place_of v 0 0) t changed
      → Reweighs v v' (place_of v 0 0) → IsWithinBudget o h v' (0 + cond changed 1 0)
  budget_start v v' t changed states low put sums =
      let blank = λ (p : Place). ap (λ (x : List ((ℕ × ℕ) × State)). states_of x (number_of v.contexts p.0, p.1)) states in
      budget_put v v' 0 0 t 0 changed (λ p s at. absurd (let no_such : None ≡ Some s = sym (blank p) ∙ at in cc)) low
      (record {
        spent = let e : total o.left v ≡ 0 = ap (λ (x : List ((ℕ × ℕ) × State)). sum_by o.left (values_of x)) states in omega arith;
        counted = let e : length v.states ≡ 0 = ap length states in omega arith;
      })
      put sums

  -- no count of updates is too great
  pub updates_fit : (v : Contents) (updates : ℕ) → IsFamily v → IsWithinBudget o h v updates → updates ≤ 4294967295 * (1 + h)
  updates_fit v updates family budget =
      let most = mul-le-mul_right (1 + h) family.fits in
      let s = budget.spent in
      omega arith

  -- states that are the same cost the same
  pub budget_same : (v v' : Contents) (updates : ℕ) → v'.states ≡ v.states → IsWithinBudget o h v updates → IsWithinBudget o h v' updates
  budget_same v v' updates same budget =
      let B : List ((ℕ × ℕ) × State) → Type 0 = λ x. IsWithinBudget o h (record { contexts = v'.contexts; states = x }) updates in
      let b : B v.states = record { spent = budget.spent; counted = budget.counted } in
      let b' : B v'.states = subst B (sym same) b in
      record { spent = b'.spent; counted = b'.counted }

pub room_for : (h updates : ℕ) → h < 4294967295 → updates ≤ 4294967295 * (1 + h) → updates < 18446744073709551615
room_for h updates low fit = let most = mul-le-mul_right 4294967295 low in omega arith

pub measure_falls : (h updates updates' marks popped marks' : ℕ) → updates' ≤ 4294967295 * (1 + h) → popped + 1 ≡ marks → marks' + updates ≤ popped + updates'
    → updates ≤ updates' → 2 * (4294967295 * (1 + h) - updates') + marks' < 2 * (4294967295 * (1 + h) - updates) + marks
measure_falls h updates updates' marks popped marks' fit one more ascends = omega arith
