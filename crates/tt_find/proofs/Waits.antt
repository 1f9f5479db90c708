-- The points that wait, while one is put in or the first is taken out.
use Rattle.std.specs.Prelude.{◌≡◌, ◌≢◌, ◌||◌, ℕ, ◌+◌, ◌≤◌, Bool, true, false, IfSome, Option, Some, None, List, [], ◌∷◌, length}
use Rattle.std.specs.declared.cmp.Ordering.{Ordering}
use Rattle.std.specs.declared.cmp.Ordering.TheVariants.{Less, Equal, Greater}
use Rattle.std.specs.Cmp.{IsTotalOrder, nat_cmp_total, on_total, then_total}
use Rattle.std.specs.List.{All}
use Rattle.std.specs.Ordering.{is_eq, match_ordering, ordering_reverse}
use Rattle.std.specs.BTreeMap.{is_at}
use Rattle.std.specs.BTreeMap.Range.{IsLtBy}
use Rattle.std.specs.BTreeSet.{BTreeSet, insert_key}
use Rattle.std.proofs.Common.{refl, sym, ◌∙◌, ap, subst, arith, inl, inr}
use Rattle.std.proofs.lemmas.Cmp.{tied_itself}
use Rattle.std.proofs.lemmas.List.Folds.{list_any_none}
use Rattle.std.proofs.lemmas.Map.Views.{All-insert_key}
use Rattle.tt_family.specs.Places.{has_point, place_cmp}
use Rattle.tt_family.proofs.Puts.{cases_place, places_apart}
use Rattle.tt_find.specs.Representation.Worklist.{AreInOrder, waiting_of}
use Rattle.tt_find.specs.Representation.Solvers.{WaitsMore}

place_total : IsTotalOrder place_cmp
place_total = then_total (on_total (λ (t : ℕ × ℕ). t.0) nat_cmp_total) (on_total (λ (t : ℕ × ℕ). t.1) nat_cmp_total)

-- one more point in front
pub point_here : (k : ℕ × ℕ) (marks : List (ℕ × ℕ)) → has_point (k ∷ marks) k ≡ true
point_here k marks = ap (λ b. is_eq b || has_point marks k) (tied_itself place_total k)

pub point_behind : (p k : ℕ × ℕ) (marks : List (ℕ × ℕ)) → k ≢ p → has_point (p ∷ marks) k ≡ has_point marks k
point_behind p k marks apart = ap (λ b. b || has_point marks k) (places_apart k p (λ e. apart (sym e)))

-- one more point at its place
insert_key-here : (marks : List (ℕ × ℕ)) (k : ℕ × ℕ) → has_point (insert_key place_cmp marks k) k ≡ true
insert_key-here [] k = point_here k []
insert_key-here (x ∷ xs) k = by (place_cmp k x) refl (insert_key-here xs k)
  where
    by : (r : Ordering) → place_cmp k x ≡ r → has_point (insert_key place_cmp xs k) k ≡ true
        → has_point (match_ordering r (k ∷ x ∷ xs) (x ∷ xs) (x ∷ insert_key place_cmp xs k)) k ≡ true
    by Less e h = point_here k (x ∷ xs)
    by Equal e h = ap (λ b. is_eq b || has_point xs k) e
    by Greater e h = ap (λ b. is_eq b || has_point (insert_key place_cmp xs k) k) e ∙ h

insert_key-elsewhere : (marks : List (ℕ × ℕ)) (k q : ℕ × ℕ) → q ≢ k → has_point (insert_key place_cmp marks k) q ≡ has_point marks q
insert_key-elsewhere [] k q apart = point_behind k q [] apart
insert_key-elsewhere (x ∷ xs) k q apart = by (place_cmp k x) (insert_key-elsewhere xs k q apart)
  where
    by : (r : Ordering) → has_point (insert_key place_cmp xs k) q ≡ has_point xs q
        → has_point (match_ordering r (k ∷ x ∷ xs) (x ∷ xs) (x ∷ insert_key place_cmp xs k)) q ≡ has_point (x ∷ xs) q
    by Less h = point_behind k q (x ∷ xs) apart
    by Equal h = refl
    by Greater h = ap (λ b. is_at (place_cmp q) x || b) h

pub length-insert_key : (marks : List (ℕ × ℕ)) (k : ℕ × ℕ) → length (insert_key place_cmp marks k) ≤ length marks + 1
length-insert_key [] k = omega arith
length-insert_key (x ∷ xs) k = by (place_cmp k x) (length-insert_key xs k)
  where
    by : (r : Ordering) → length (insert_key place_cmp xs k) ≤ length xs + 1
        → length (match_ordering r (k ∷ x ∷ xs) (x ∷ xs) (x ∷ insert_key place_cmp xs k)) ≤ length (x ∷ xs) + 1
    by Less h = omega arith
    by Equal h = omega arith
    by Greater h = omega arith

-- a smaller point becomes the first, and the first one of the others
pub order_replaced : (p q : ℕ × ℕ) (old new : BTreeSet (ℕ × ℕ)) → Less ≡ place_cmp p q → AreInOrder (Some q) old → new.keys ≡ insert_key place_cmp old.keys q → AreInOrder (Some p) new
order_replaced p q old new less all added =
    let A : List (ℕ × ℕ) → Type 0 = λ x. All (IsLtBy place_cmp p) x in
    let below : All (IsLtBy place_cmp p) old.keys = λ k d lt. place_total.trans p q _ (sym less) (all k d lt) in
    subst A (sym added) (All-insert_key place_cmp q (IsLtBy place_cmp p) old.keys below (sym less))

-- a greater point becomes one of the others
pub order_grown : (p q : ℕ × ℕ) (old new : BTreeSet (ℕ × ℕ)) → Greater ≡ place_cmp p q → AreInOrder (Some q) old → new.keys ≡ insert_key place_cmp old.keys p → AreInOrder (Some q) new
order_grown p q old new more all added =
    let A : List (ℕ × ℕ) → Type 0 = λ x. All (IsLtBy place_cmp q) x in
    let below : place_cmp q p ≡ Less = place_total.antisymm q p ∙ ap ordering_reverse (sym more) in
    subst A (sym added) (All-insert_key place_cmp p (IsLtBy place_cmp q) old.keys all below)

pub waiting_inserted : (marked marked' : List (ℕ × ℕ)) (k : ℕ × ℕ) (changed : Bool) → changed ≡ true → marked' ≡ insert_key place_cmp marked k → WaitsMore marked marked' k changed
waiting_inserted marked marked' k changed now is =
    let M : List (ℕ × ℕ) → Type 0 = λ x. WaitsMore marked x k changed in
    subst M (sym is) (record {
      more = λ q old. elim (cases_place q k) [
        | inl same ↦ ap (has_point (insert_key place_cmp marked k)) same ∙ insert_key-here marked k
        | inr apart ↦ insert_key-elsewhere marked k q apart ∙ old
      ];
      here = λ _. insert_key-here marked k;
      back = λ q new. elim (cases_place q k) [ inl same ↦ inr (same, now) | inr apart ↦ inl (sym (insert_key-elsewhere marked k q apart) ∙ new) ];
    })

-- where no point waits this one doesn't
pub none_waiting : (marked : List (ℕ × ℕ)) (k : ℕ × ℕ) → marked ≡ [] → has_point marked k ≡ true → ⊥
none_waiting marked k none hit =
    let empty : has_point marked k ≡ false = ap (λ (x : List (ℕ × ℕ)). has_point x k) none in
    let no_such : true ≡ false = sym hit ∙ empty in cc

-- the first point is none of the others
pub first_apart : (p : ℕ × ℕ) (rest : BTreeSet (ℕ × ℕ)) → AreInOrder (Some p) rest → has_point rest.keys p ≡ false
first_apart p rest all = list_any_none (is_at (place_cmp p)) rest.keys (λ k d lt. ap is_eq (all k d lt))

-- the same where the next one takes its place
pub popped_apart : (p : ℕ × ℕ) (old new : BTreeSet (ℕ × ℕ)) (next : Option (ℕ × ℕ)) → AreInOrder (Some p) old → IfSome next (λ k. old.keys ≡ k ∷ new.keys)
    → has_point (waiting_of next new) p ≡ false
popped_apart p old new None all removal = refl
popped_apart p old new (Some k) all removal = ap (λ (x : List (ℕ × ℕ)). has_point x p) (sym removal) ∙ first_apart p old all
