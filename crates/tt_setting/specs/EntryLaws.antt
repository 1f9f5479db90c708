-- What a sorted map has: what is listed with a number, after an entry was put or removed, and among
-- the entries that pass a test.
use Rattle.std.specs.Prelude.{◌≡◌, ℕ, ◌<◌, ◌↔◌, Bool, true, false, cond, not, nat_eq, nat_lt, if◌then◌else◌, List, [], ◌∷◌, Option, None, Some}
use Rattle.std.specs.List.{AllByRecursion, filter}
use Rattle.std.proofs.Common.{refl, sym, ◌∙◌, ap, arith, inl, inr}
use Rattle.std.proofs.lemmas.Bool.{cases_eq, eqb-true, eqb-false, eq-eqb, ne_eqb}
use Rattle.tt_code.specs.Control.{body_named}
use Rattle.tt_setting.specs.Entries.{Ascends, listed, with_entry, without_entry}
use Rattle.tt_setting.specs.EntryLists.{IsEquality, holds_value}

-- what is listed with the number of the first entry is the value of that entry
pub listed-here : {V : Type 0} (e : ℕ × V) (es : List (ℕ × V)) (n : ℕ) → e.0 ≡ n
    → listed (e ∷ es) n ≡ Some e.1
listed-here {V} e es n h = ap (λ (b : Bool). if b then Some e.1 else listed es n) (eq-eqb e.0 n h)

-- with another number the first entry doesn't count
pub listed-there : {V : Type 0} (e : ℕ × V) (es : List (ℕ × V)) (n : ℕ) → (e.0 ≡ n → ⊥)
    → listed (e ∷ es) n ≡ listed es n
listed-there {V} e es n h = ap (λ (b : Bool). if b then Some e.1 else listed es n) (ne_eqb e.0 n h)

-- numbers that are above one are above each smaller one
pub all-above : {V : Type 0} (m n : ℕ) (es : List (ℕ × V)) → m < n
    → AllByRecursion (λ e. n < e.0) es → AllByRecursion (λ e. m < e.0) es
all-above m n [] lt h = tt
all-above m n (e ∷ es) lt h = (let a = h.0 in omega arith, all-above m n es lt h.1)

-- a number below all those of a list isn't in it
pub none-below : {V : Type 0} (n : ℕ) (es : List (ℕ × V)) → AllByRecursion (λ e. n < e.0) es
    → listed es n ≡ None
none-below n [] h = refl
none-below n (e ∷ es) h =
    listed-there e es n (λ q. let a = h.0 in omega arith) ∙ none-below n es h.1

-- where the numbers of all entries are above m, so is each number that is listed
pub number-above : {V : Type 0} (m n : ℕ) (v : V) (es : List (ℕ × V))
    → AllByRecursion (λ e. m < e.0) es → listed es n ≡ Some v → m < n
number-above m n v [] h l = cc
number-above m n v (e ∷ es) h l = elim (cases_eq e.0 n) [
  | inl same ↦ let a = h.0 in omega arith
  | inr other ↦ number-above m n v es h.1 (sym (listed-there e es n other) ∙ l)
]

keep_step : {X : Type 0} (P : X → Type 0) (x : X) (rest : List X) (b : Bool) → P x
    → AllByRecursion P rest → AllByRecursion P (cond b (x ∷ rest) rest)
keep_step P x rest true h ih = (h, ih)
keep_step P x rest false h ih = ih

-- what holds of all entries holds of those that pass a test
pub all-filter : {X : Type 0} (P : X → Type 0) (p : X → Bool) (xs : List X) → AllByRecursion P xs
    → AllByRecursion P (filter p xs)
all-filter P p [] h = tt
all-filter P p (x ∷ xs) h = keep_step P x (filter p xs) (p x) h.0 (all-filter P p xs h.1)

ascends_step : {V : Type 0} (x : ℕ × V) (rest : List (ℕ × V)) (b : Bool)
    → AllByRecursion (λ e. x.0 < e.0) rest → Ascends rest → Ascends (cond b (x ∷ rest) rest)
ascends_step x rest true h ih = (h, ih)
ascends_step x rest false h ih = ih

-- the entries that pass a test ascend
pub Ascends-filter : {V : Type 0} (p : ℕ × V → Bool) (xs : List (ℕ × V)) → Ascends xs
    → Ascends (filter p xs)
Ascends-filter p [] r = tt
Ascends-filter p (x ∷ xs) r =
    ascends_step x (filter p xs) (p x) (all-filter _ p xs r.0) (Ascends-filter p xs r.1)

filter_step : {V : Type 0} (p : ℕ × V → Bool) (x : ℕ × V) (xs rest : List (ℕ × V)) (n : ℕ) (v : V)
    (b : Bool) → p x ≡ b
    → AllByRecursion (λ e. x.0 < e.0) rest
    → (listed rest n ≡ Some v) ↔ ((listed xs n ≡ Some v) × (p (n, v) ≡ true))
    → (listed (cond b (x ∷ rest) rest) n ≡ Some v)
    ↔ ((listed (x ∷ xs) n ≡ Some v) × (p (n, v) ≡ true))
filter_step {V} p x xs rest n v true is above ih = elim (cases_eq x.0 n) [
  | inl same ↦ (
    λ l. let w : x.1 ≡ v = value (sym (listed-here x rest n same) ∙ l) in
        (listed-here x xs n same ∙ ap Some w, ap p (sym (pair same w)) ∙ is),
    λ h.
        let w : x.1 ≡ v = value (sym (listed-here x xs n same) ∙ h.0) in
        listed-here x rest n same ∙ ap Some w,
  )
  | inr other ↦ (
    λ l.
        let h = ih.0 (sym (listed-there x rest n other) ∙ l) in
        (listed-there x xs n other ∙ h.0, h.1),
    λ h. listed-there x rest n other ∙ ih.1 (sym (listed-there x xs n other) ∙ h.0, h.1),
  )
]
  where
    value : Some x.1 ≡ Some v → x.1 ≡ v
    value e = cc

    pair : x.0 ≡ n → x.1 ≡ v → x ≡ (n, v)
    pair a b i = (a i, b i)
filter_step {V} p x xs rest n v false is above ih = elim (cases_eq x.0 n) [
  | inl same ↦ (
    λ l. let lt : x.0 < n = number-above x.0 n v rest above l in absurd (omega arith),
    λ h. let w : x.1 ≡ v = value (sym (listed-here x xs n same) ∙ h.0) in
        let t = h.1 in let q : p x ≡ p (n, v) = ap p (pair same w) in cc,
  )
  | inr other ↦ (
    λ l. let h = ih.0 l in (listed-there x xs n other ∙ h.0, h.1),
    λ h. ih.1 (sym (listed-there x xs n other) ∙ h.0, h.1),
  )
]
  where
    value : Some x.1 ≡ Some v → x.1 ≡ v
    value e = cc

    pair : x.0 ≡ n → x.1 ≡ v → x ≡ (n, v)
    pair a b i = (a i, b i)

-- an entry is listed among those that pass a test exactly if it is listed and passes it
pub listed-filter : {V : Type 0} (p : ℕ × V → Bool) (a : List (ℕ × V)) → Ascends a → (n : ℕ) (v : V)
    → (listed (filter p a) n ≡ Some v) ↔ ((listed a n ≡ Some v) × (p (n, v) ≡ true))
listed-filter p [] r n v = (λ l. cc, λ h. h.0)
listed-filter p (x ∷ xs) r n v =
    filter_step p x xs (filter p xs) n v (p x) refl (all-filter _ p xs r.0)
    (listed-filter p xs r.1 n v)

-- an option holds a value exactly if it is `Some` with that value
pub holds_value-is : {V : Type 0} (same : V → V → Bool) → IsEquality same → (o : Option V) (v : V)
    → (holds_value same o v ≡ true) ↔ (o ≡ Some v)
holds_value-is {V} same decides None v = (λ h. cc, λ e. cc)
holds_value-is {V} same decides (Some w) v =
    (λ h. ap Some ((decides w v).0 h), λ e. (decides w v).1 (value e))
  where
    value : Some w ≡ Some v → w ≡ v
    value e = cc

with_step : {V : Type 0} (n : ℕ) (v : V) (e : ℕ × V) (es : List (ℕ × V)) (k : ℕ) (less same : Bool)
    → nat_lt n e.0 ≡ less → nat_eq n e.0 ≡ same
    → listed (with_entry n v es) k ≡ (if nat_eq n k then Some v else listed es k)
    → listed
    (if less then (n, v) ∷ e ∷ es else (if same then (n, v) ∷ es else e ∷ with_entry n v es)) k
    ≡ (if nat_eq n k then Some v else listed (e ∷ es) k)
with_step n v e es k true same is_less is_same ih = refl
with_step n v e es k false true is_less is_same ih = elim (cases_eq n k) [
  | inl here ↦ let t : nat_eq n k ≡ true = eq-eqb n k here in rw t refl
  | inr other ↦ let t : nat_eq n k ≡ false = ne_eqb n k other in
      let equal : n ≡ e.0 = eqb-true n e.0 is_same in
      rw t (sym (listed-there e es k (λ q. other (equal ∙ q))))
]
with_step n v e es k false false is_less is_same ih = elim (cases_eq e.0 k) [
  | inl here ↦
      let t : nat_eq n k ≡ false = ne_eqb n k (λ q. eqb-false n e.0 is_same (q ∙ sym here)) in
      rw t (listed-here e (with_entry n v es) k here ∙ sym (listed-here e es k here))
  | inr other ↦
      listed-there e (with_entry n v es) k other ∙ ih
      ∙ ap (λ o. if nat_eq n k then Some v else o) (sym (listed-there e es k other))
]

-- what is listed after an entry was put
pub listed-with : {V : Type 0} (n : ℕ) (v : V) (es : List (ℕ × V)) (k : ℕ)
    → listed (with_entry n v es) k ≡ (if nat_eq n k then Some v else listed es k)
listed-with n v [] k = refl
listed-with n v (e ∷ es) k =
    with_step n v e es k (nat_lt n e.0) (nat_eq n e.0) refl refl (listed-with n v es k)

without_step : {V : Type 0} (n : ℕ) (e : ℕ × V) (es : List (ℕ × V)) (k : ℕ) (same : Bool)
    → nat_eq e.0 n ≡ same
    → listed (without_entry n es) k ≡ (if nat_eq n k then None else listed es k)
    → listed (cond (not same) (e ∷ without_entry n es) (without_entry n es)) k
    ≡ (if nat_eq n k then None else listed (e ∷ es) k)
without_step {V} n e es k true is ih = elim (cases_eq n k) [
  | inl here ↦ let t : nat_eq n k ≡ true = eq-eqb n k here in rw t (ih ∙ rw t refl)
  | inr other ↦
      ih
      ∙ ap (λ (o : Option V). if nat_eq n k then None else o)
      (sym (listed-there e es k (λ q. other (sym (eqb-true e.0 n is) ∙ q))))
]
without_step {V} n e es k false is ih = elim (cases_eq e.0 k) [
  | inl here ↦ let t : nat_eq n k ≡ false = ne_eqb n k (λ q. eqb-false e.0 n is (here ∙ sym q)) in
      rw t (listed-here e (without_entry n es) k here ∙ sym (listed-here e es k here))
  | inr other ↦
      listed-there e (without_entry n es) k other ∙ ih
      ∙ ap (λ (o : Option V). if nat_eq n k then None else o) (sym (listed-there e es k other))
]

one_branch : {X : Type 0} (b : Bool) (x : X) → x ≡ (if b then x else x)
one_branch true x = refl
one_branch false x = refl

-- what is listed after an entry was removed
pub listed-without : {V : Type 0} (n : ℕ) (es : List (ℕ × V)) (k : ℕ)
    → listed (without_entry n es) k ≡ (if nat_eq n k then None else listed es k)
listed-without n [] k = one_branch (nat_eq n k) None
listed-without n (e ∷ es) k = without_step n e es k (nat_eq e.0 n) refl (listed-without n es k)

-- looking a function up by `listed` and by `body_named` is the same
pub listed-named : (fs : List (ℕ × ℕ)) (n : ℕ) → listed fs n ≡ body_named fs n
listed-named [] n = refl
listed-named (f ∷ fs) n =
    ap (λ (o : Option ℕ). if nat_eq f.0 n then Some f.1 else o) (listed-named fs n)
