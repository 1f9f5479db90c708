-- Entries by their places: what a search finds, and what an entry put at a place or taken from it makes of a sorted map.
use Rattle.std.proofs.Common.{◌≡◌, ℕ, zero, suc, ◌<◌, ◌≤◌, Bool, cond, not, nat_eq, if◌then◌else◌, List, [], ◌∷◌, length, get_or, set, refl, sym, ◌∙◌, ap, subst, arith, inl, inr}
use Rattle.std.specs.Prelude.{None, Some, Result, Ok, Err, MatchResult, OnOk, OnErr}
use Rattle.std.specs.List.{AllByRecursion, insert, remove}
use Rattle.std.specs.List.Sorted.{IsNonDecreasingBy, IsSearchInRange, IsBinarySearchResult}
use Rattle.std.specs.Ordering.{nat_cmp, ordering_index}
use Rattle.std.specs.declared.cmp.Ordering.TheVariants.{Less, Equal, Greater}
use Rattle.std.proofs.lemmas.Bool.{cases_order, eq-eqb, ne_eqb, lt-ltb, le-ltb}
use Rattle.std.proofs.lemmas.Bool.Decides.{nat_tests}
use Rattle.tt_setting.specs.Entries.{Ascends, listed, with_entry, without_entry}
use Rattle.tt_setting.specs.EntryLists.{IsAt, IsGap}
use Rattle.tt_setting.specs.EntryLaws.{listed-here, listed-there, all-above, none-below}

-- What a search finds.

pub listed-at : {V : Type 0} (n : ℕ) (xs : List (ℕ × V)) (i : ℕ) (d : ℕ × V) → IsAt n xs i → listed xs n ≡ Some (get_or xs i d).1
listed-at n [] i d h = absurd h
listed-at n (x ∷ xs) zero d h = listed-here x xs n h
listed-at n (x ∷ xs) (suc i) d h = listed-there x xs n (λ q. let a = h.0 in omega arith) ∙ listed-at n xs i d h.1

pub listed-gap : {V : Type 0} (n : ℕ) (xs : List (ℕ × V)) (i : ℕ) → IsGap n xs i → listed xs n ≡ None
listed-gap n xs zero h = none-below n xs h
listed-gap n [] (suc i) h = absurd h
listed-gap n (x ∷ xs) (suc i) h = listed-there x xs n (λ q. let a = h.0 in omega arith) ∙ listed-gap n xs i h.1

pub all-at : {V : Type 0} (m : ℕ) (xs : List (ℕ × V)) (i : ℕ) (d : ℕ × V) → AllByRecursion (λ e. m < e.0) xs → i < length xs → m < (get_or xs i d).0
all-at m [] i d h lt = absurd (omega arith)
all-at m (x ∷ xs) zero d h lt = h.0
all-at m (x ∷ xs) (suc i) d h lt = all-at m xs i d h.1 (omega arith)

pub at-from_search : {V : Type 0} (n : ℕ) (xs : List (ℕ × V)) (i : ℕ) → Ascends xs → i < length xs → ((d : ℕ × V) → (get_or xs i d).0 ≡ n) → IsAt n xs i
at-from_search n [] i r lt h = absurd (omega arith)
at-from_search n (x ∷ xs) zero r lt h = h x
at-from_search n (x ∷ xs) (suc i) r lt h =
    (let a = all-at x.0 xs i x r.0 (omega arith) in let e = h x in omega arith, at-from_search n xs i r.1 (omega arith) h)

all-from : {V : Type 0} (n : ℕ) (xs : List (ℕ × V)) → ((k : ℕ) (d : ℕ × V) → k < length xs → n < (get_or xs k d).0) → AllByRecursion (λ e. n < e.0) xs
all-from n [] h = tt
all-from n (x ∷ xs) h = (h 0 x (omega arith), all-from n xs (λ k d lt. h (suc k) d (omega arith)))

pub gap-from_search : {V : Type 0} (n : ℕ) (xs : List (ℕ × V)) (i : ℕ) → i ≤ length xs
    → ((k : ℕ) (d : ℕ × V) → k < i → (get_or xs k d).0 < n) → ((k : ℕ) (d : ℕ × V) → i ≤ k → k < length xs → n < (get_or xs k d).0) → IsGap n xs i
gap-from_search n xs zero le below above = all-from n xs (λ k d lt. above k d (omega arith) lt)
gap-from_search n [] (suc i) le below above = omega arith
gap-from_search n (x ∷ xs) (suc i) le below above =
    (below 0 x (omega arith), gap-from_search n xs i (omega arith) (λ k d lt. below (suc k) d (omega arith)) (λ k d low lt. above (suc k) d (omega arith) (omega arith)))

pub numbers-rise : {V : Type 0} (xs : List (ℕ × V)) → Ascends xs → (i j : ℕ) (d : ℕ × V) → i ≤ j → j < length xs → (get_or xs i d).0 ≤ (get_or xs j d).0
numbers-rise [] r i j d le lt = absurd (omega arith)
numbers-rise (x ∷ xs) r zero zero d le lt = omega arith
numbers-rise (x ∷ xs) r zero (suc j) d le lt = let a = all-at x.0 xs j d r.0 (omega arith) in omega arith
numbers-rise (x ∷ xs) r (suc i) zero d le lt = absurd (omega arith)
numbers-rise (x ∷ xs) r (suc i) (suc j) d le lt = numbers-rise xs r.1 i j d (omega arith) (omega arith)

index-ascends : (a b n : ℕ) → a ≤ b → ordering_index (nat_cmp a n) ≤ ordering_index (nat_cmp b n)
index-ascends a b n le = grind (arith, nat_tests)

pub searchable : {V : Type 0} (n : ℕ) (xs : List (ℕ × V)) → Ascends xs → IsNonDecreasingBy (λ e. ordering_index (nat_cmp e.0 n)) xs
searchable n xs r i j d le lt = index-ascends (get_or xs i d).0 (get_or xs j d).0 n (numbers-rise xs r i j d le lt)

pub less-than : (a n : ℕ) → nat_cmp a n ≡ Less → a < n
less-than a n h = grind (arith, nat_tests)

pub equal-to : (a n : ℕ) → nat_cmp a n ≡ Equal → a ≡ n
equal-to a n h = grind (arith, nat_tests)

pub greater-than : (a n : ℕ) → nat_cmp a n ≡ Greater → n < a
greater-than a n h = grind (arith, nat_tests)

pub place-from_search : {V : Type 0} (n : ℕ) (xs : List (ℕ × V)) (r : Result ℕ ℕ) → Ascends xs → IsSearchInRange r (length xs) → IsBinarySearchResult (λ e. nat_cmp e.0 n) xs r
    → MatchResult r (IsAt n xs) (IsGap n xs)
place-from_search n xs (Ok i) ascends range is = at-from_search n xs i ascends range (λ d. equal-to (get_or xs i d).0 n (is d))
place-from_search n xs (Err i) ascends range is =
    let point = is (searchable n xs ascends) in
    gap-from_search n xs i range
    (λ k d lt. less-than (get_or xs k d).0 n (point.0 k d (omega arith) lt))
    (λ k d low lt. greater-than (get_or xs k d).0 n (point.1 k d low lt))

-- An entry put at its place.

with-first : {V : Type 0} (n : ℕ) (v : V) (e : ℕ × V) (es : List (ℕ × V)) → n < e.0 → with_entry n v (e ∷ es) ≡ (n, v) ∷ e ∷ es
with-first n v e es lt = ap (λ (b : Bool). if b then (n, v) ∷ e ∷ es else (if nat_eq n e.0 then (n, v) ∷ es else e ∷ with_entry n v es)) (lt-ltb n e.0 lt)

with-instead : {V : Type 0} (n : ℕ) (v : V) (e : ℕ × V) (es : List (ℕ × V)) → e.0 ≡ n → with_entry n v (e ∷ es) ≡ (n, v) ∷ es
with-instead n v e es same =
    ap (λ (b : Bool). if b then (n, v) ∷ e ∷ es else (if nat_eq n e.0 then (n, v) ∷ es else e ∷ with_entry n v es)) (le-ltb n e.0 (omega arith))
    ∙ ap (λ (b : Bool). if b then (n, v) ∷ es else e ∷ with_entry n v es) (eq-eqb n e.0 (sym same))

with-behind : {V : Type 0} (n : ℕ) (v : V) (e : ℕ × V) (es : List (ℕ × V)) → e.0 < n → with_entry n v (e ∷ es) ≡ e ∷ with_entry n v es
with-behind n v e es lt =
    ap (λ (b : Bool). if b then (n, v) ∷ e ∷ es else (if nat_eq n e.0 then (n, v) ∷ es else e ∷ with_entry n v es)) (le-ltb n e.0 (omega arith))
    ∙ ap (λ (b : Bool). if b then (n, v) ∷ es else e ∷ with_entry n v es) (ne_eqb n e.0 (λ q. omega arith))

pub with-at : {V : Type 0} (n : ℕ) (v : V) (xs : List (ℕ × V)) (i : ℕ) → IsAt n xs i → with_entry n v xs ≡ set xs i (n, v)
with-at n v [] i h = absurd h
with-at n v (x ∷ xs) zero h = with-instead n v x xs h
with-at n v (x ∷ xs) (suc i) h = with-behind n v x xs h.0 ∙ ap (λ r. x ∷ r) (with-at n v xs i h.1)

pub with-gap : {V : Type 0} (n : ℕ) (v : V) (xs : List (ℕ × V)) (i : ℕ) → IsGap n xs i → with_entry n v xs ≡ insert xs i (n, v)
with-gap n v [] zero h = refl
with-gap n v (x ∷ xs) zero h = with-first n v x xs h.0
with-gap n v [] (suc i) h = absurd h
with-gap n v (x ∷ xs) (suc i) h = with-behind n v x xs h.0 ∙ ap (λ r. x ∷ r) (with-gap n v xs i h.1)

all-with : {V : Type 0} (m n : ℕ) (v : V) (xs : List (ℕ × V)) → m < n → AllByRecursion (λ e. m < e.0) xs → AllByRecursion (λ e. m < e.0) (with_entry n v xs)
all-with m n v [] lt h = (lt, tt)
all-with {V} m n v (x ∷ xs) lt h =
    let P : List (ℕ × V) → Type 0 = λ es. AllByRecursion (λ e. m < e.0) es in
    elim (cases_order x.0 n) [
      | inl same ↦ subst P (sym (with-instead n v x xs same)) (lt, h.1)
      | inr other ↦ elim other [
        | inl less ↦ subst P (sym (with-behind n v x xs less)) (h.0, all-with m n v xs lt h.1)
        | inr more ↦ subst P (sym (with-first n v x xs more)) (lt, h)
      ]
    ]

pub Ascends-with : {V : Type 0} (n : ℕ) (v : V) (xs : List (ℕ × V)) → Ascends xs → Ascends (with_entry n v xs)
Ascends-with n v [] r = (tt, tt)
Ascends-with {V} n v (x ∷ xs) r =
    let P : List (ℕ × V) → Type 0 = λ es. Ascends es in
    elim (cases_order x.0 n) [
      | inl same ↦ let A : ℕ → Type 0 = λ m. AllByRecursion (λ e. m < e.0) xs in
          subst P (sym (with-instead n v x xs same)) (subst A same r.0, r.1)
      | inr other ↦ elim other [
        | inl less ↦ subst P (sym (with-behind n v x xs less)) (all-with x.0 n v xs less r.0, Ascends-with n v xs r.1)
        | inr more ↦ subst P (sym (with-first n v x xs more)) ((more, all-above n x.0 xs more r.0), r)
      ]
    ]

-- after a put that may be refused
pub Ascends-put : {V A E : Type 0} (n : ℕ) (v : V) (old new : List (ℕ × V)) (r : Result A E) → Ascends old → OnOk r (new ≡ with_entry n v old) → OnErr r (new ≡ old) → Ascends new
Ascends-put {V} n v old new (Ok x) ascends ok err = let P : List (ℕ × V) → Type 0 = λ es. Ascends es in subst P (sym ok) (Ascends-with n v old ascends)
Ascends-put {V} n v old new (Err x) ascends ok err = let P : List (ℕ × V) → Type 0 = λ es. Ascends es in subst P (sym err) ascends

-- An entry taken away.

without-here : {V : Type 0} (n : ℕ) (e : ℕ × V) (es : List (ℕ × V)) → e.0 ≡ n → without_entry n (e ∷ es) ≡ without_entry n es
without-here n e es same = ap (λ (b : Bool). cond (not b) (e ∷ without_entry n es) (without_entry n es)) (eq-eqb e.0 n same)

without-there : {V : Type 0} (n : ℕ) (e : ℕ × V) (es : List (ℕ × V)) → (e.0 ≡ n → ⊥) → without_entry n (e ∷ es) ≡ e ∷ without_entry n es
without-there n e es other = ap (λ (b : Bool). cond (not b) (e ∷ without_entry n es) (without_entry n es)) (ne_eqb e.0 n other)

without-below : {V : Type 0} (n : ℕ) (xs : List (ℕ × V)) → AllByRecursion (λ e. n < e.0) xs → without_entry n xs ≡ xs
without-below n [] h = refl
without-below n (x ∷ xs) h = without-there n x xs (λ q. let a = h.0 in omega arith) ∙ ap (λ r. x ∷ r) (without-below n xs h.1)

pub without-gap : {V : Type 0} (n : ℕ) (xs : List (ℕ × V)) (i : ℕ) → IsGap n xs i → without_entry n xs ≡ xs
without-gap n xs zero h = without-below n xs h
without-gap n [] (suc i) h = absurd h
without-gap n (x ∷ xs) (suc i) h = without-there n x xs (λ q. let a = h.0 in omega arith) ∙ ap (λ r. x ∷ r) (without-gap n xs i h.1)

pub without-at : {V : Type 0} (n : ℕ) (xs : List (ℕ × V)) (i : ℕ) → Ascends xs → IsAt n xs i → without_entry n xs ≡ remove xs i
without-at n [] i r h = absurd h
without-at {V} n (x ∷ xs) zero r h =
    let A : ℕ → Type 0 = λ m. AllByRecursion (λ e. m < e.0) xs in
    without-here n x xs h ∙ without-below n xs (subst A h r.0)
without-at n (x ∷ xs) (suc i) r h = without-there n x xs (λ q. let a = h.0 in omega arith) ∙ ap (λ r. x ∷ r) (without-at n xs i r.1 h.1)
