-- The entries that two sorted maps have in common, found in one pass over both.
use Rattle.std.proofs.Common.{◌≡◌, ℕ, suc, ◌+◌, ◌<◌, ◌≤◌, Bool, true, false, cond, ◌&&◌, nat_lt, if◌then◌else◌, List, [], ◌∷◌, ◌++◌, length, get_or, set, take, drop, refl, sym, ◌∙◌, ap, subst, arith, inl, inr, drop-cons, add-one, append_assoc}
use Rattle.std.specs.Prelude.{Option}
use Rattle.std.specs.List.{AllByRecursion}
use Rattle.std.proofs.lemmas.Bool.{cases_eq, eq-eqb, ne_eqb, ltb-true, ltb-false}
use Rattle.std.proofs.lemmas.List.{take_more_set, drop-set-lt}
use Rattle.tt_setting.specs.Entries.{Ascends, listed}
use Rattle.tt_setting.specs.EntryLists.{holds_value, common_entries, entries_from, begins_with_entry}
use Rattle.tt_setting.specs.EntryLaws.{listed-here, listed-there, all-above, none-below}

from_step : {V : Type 0} (n : ℕ) (x : ℕ × V) (xs : List (ℕ × V)) (k : ℕ) (b : Bool) → nat_lt x.0 n ≡ b → n ≤ k → listed (entries_from n xs) k ≡ listed xs k
    → listed (if b then entries_from n xs else x ∷ xs) k ≡ listed (x ∷ xs) k
from_step n x xs k true is le ih = let lt = ltb-true x.0 n is in ih ∙ sym (listed-there x xs k (λ q. omega arith))
from_step n x xs k false is le ih = refl

-- what comes before a number isn't looked up from it on
pub listed-from : {V : Type 0} (n : ℕ) (es : List (ℕ × V)) (k : ℕ) → n ≤ k → listed (entries_from n es) k ≡ listed es k
listed-from n [] k le = refl
listed-from n (x ∷ xs) k le = from_step n x xs k (nat_lt x.0 n) refl le (listed-from n xs k le)

ascends_from_step : {V : Type 0} (n : ℕ) (x : ℕ × V) (xs : List (ℕ × V)) (b : Bool) → Ascends (x ∷ xs) → Ascends (entries_from n xs) → Ascends (if b then entries_from n xs else x ∷ xs)
ascends_from_step n x xs true r ih = ih
ascends_from_step n x xs false r ih = r

pub Ascends-from : {V : Type 0} (n : ℕ) (es : List (ℕ × V)) → Ascends es → Ascends (entries_from n es)
Ascends-from n [] r = tt
Ascends-from n (x ∷ xs) r = ascends_from_step n x xs (nat_lt x.0 n) r (Ascends-from n xs r.1)

begins_step : {V : Type 0} (same : V → V → Bool) (e x : ℕ × V) (xs : List (ℕ × V)) (b : Bool) → nat_lt x.0 e.0 ≡ b → Ascends (x ∷ xs)
    → begins_with_entry same e (entries_from e.0 xs) ≡ holds_value same (listed xs e.0) e.1
    → begins_with_entry same e (if b then entries_from e.0 xs else x ∷ xs) ≡ holds_value same (listed (x ∷ xs) e.0) e.1
begins_step {V} same e x xs true is r ih =
    let lt = ltb-true x.0 e.0 is in
    ih ∙ ap (λ (o : Option V). holds_value same o e.1) (sym (listed-there x xs e.0 (λ q. omega arith)))
begins_step {V} same e x xs false is r ih = elim (cases_eq x.0 e.0) [
  | inl here ↦ ap (λ (b : Bool). b && same x.1 e.1) (eq-eqb x.0 e.0 here) ∙ ap (λ (o : Option V). holds_value same o e.1) (sym (listed-here x xs e.0 here))
  | inr other ↦
      let le : e.0 ≤ x.0 = ltb-false x.0 e.0 is in
      let lt : e.0 < x.0 = omega arith in
      ap (λ (b : Bool). b && same x.1 e.1) (ne_eqb x.0 e.0 other)
      ∙ ap (λ (o : Option V). holds_value same o e.1) (sym (none-below e.0 (x ∷ xs) (lt, all-above e.0 x.0 xs lt r.0)))
]

-- the entry is in the list where the entries from its number on begin with it
pub begins-listed : {V : Type 0} (same : V → V → Bool) (e : ℕ × V) (es : List (ℕ × V)) → Ascends es → begins_with_entry same e (entries_from e.0 es) ≡ holds_value same (listed es e.0) e.1
begins-listed same e [] r = refl
begins-listed same e (x ∷ xs) r = begins_step same e x xs (nat_lt x.0 e.0) refl r (begins-listed same e xs r.1)

-- so the list that is looked in may begin there
pub common-from : {V : Type 0} (same : V → V → Bool) (n : ℕ) (a b : List (ℕ × V)) → AllByRecursion (λ e. n < e.0) a → common_entries same a (entries_from n b) ≡ common_entries same a b
common-from same n [] b above = refl
common-from {V} same n (x ∷ xs) b above =
    let le : n ≤ x.0 = let lt = above.0 in omega arith in
    ap (λ (o : Option V). cond (holds_value same o x.1) (x ∷ common_entries same xs (entries_from n b)) (common_entries same xs (entries_from n b))) (listed-from n b x.0 le)
    ∙ ap (λ (es : List (ℕ × V)). cond (holds_value same (listed b x.0) x.1) (x ∷ es) es) (common-from same n xs b above.1)

-- one entry more
pub common-next : {V : Type 0} (same : V → V → Bool) (x : ℕ × V) (xs b : List (ℕ × V)) → Ascends (x ∷ xs) → Ascends b → (r : Bool)
    → r ≡ begins_with_entry same x (entries_from x.0 b)
    → common_entries same (x ∷ xs) b ≡ cond r (x ∷ common_entries same xs (entries_from x.0 b)) (common_entries same xs (entries_from x.0 b))
common-next {V} same x xs b ra rb r is =
    ap (λ (t : Bool). cond t (x ∷ common_entries same xs b) (common_entries same xs b)) (sym (is ∙ begins-listed same x b rb))
    ∙ ap (λ (es : List (ℕ × V)). cond r (x ∷ es) es) (sym (common-from same x.0 xs b ra.0))

-- A turn of the loop that gathers them.

-- The common entries are those before kept, and those that are still to be found from at on.
pub record Gathered {V : Type 0} (same : V → V → Bool) (whole mine rest : List (ℕ × V)) (kept at : ℕ) : Type 0 where
  pub few : kept ≤ at
  pub mine_ascend : Ascends (drop at mine)
  pub rest_ascends : Ascends rest
  pub common : take kept mine ++ common_entries same (drop at mine) rest ≡ whole

front : {X : Type 0} (l : List X) (j : ℕ) (x : X) → j < length l → x ≡ get_or l j x → drop j l ≡ x ∷ drop (j + 1) l
front l j x lt is = drop-cons l j x lt ∙ ap (λ y. y ∷ drop (suc j) l) (sym is) ∙ ap (λ n. x ∷ drop n l) (sym (add-one j))

next_common : {V : Type 0} (same : V → V → Bool) (whole mine rest : List (ℕ × V)) (kept at : ℕ) (e : ℕ × V) → at < length mine → e ≡ get_or mine at e → Gathered same whole mine rest kept at
    → (r : Bool) → r ≡ begins_with_entry same e (entries_from e.0 rest)
    → take kept mine ++ cond r (e ∷ common_entries same (drop (at + 1) mine) (entries_from e.0 rest)) (common_entries same (drop (at + 1) mine) (entries_from e.0 rest)) ≡ whole
next_common {V} same whole mine rest kept at e lt is held r begins =
    let R : List (ℕ × V) → Type 0 = λ es. Ascends es in
    let next = common-next same e (drop (at + 1) mine) rest (subst R (front mine at e lt is) held.mine_ascend) held.rest_ascends r begins in
    ap (λ (es : List (ℕ × V)). take kept mine ++ es) (sym next ∙ ap (λ (es : List (ℕ × V)). common_entries same es rest) (sym (front mine at e lt is))) ∙ held.common

kept_step : {V : Type 0} (same : V → V → Bool) (whole mine rest : List (ℕ × V)) (kept at : ℕ) (e : ℕ × V) → at < length mine → e ≡ get_or mine at e → Gathered same whole mine rest kept at
    → true ≡ begins_with_entry same e (entries_from e.0 rest) → Gathered same whole (set mine kept e) (entries_from e.0 rest) (kept + 1) (at + 1)
kept_step {V} same whole mine rest kept at e lt is held begins =
    let few : kept ≤ at = held.few in
    let R : List (ℕ × V) → Type 0 = λ es. Ascends es in
    let from : List (ℕ × V) = entries_from e.0 rest in
    let taken : take (kept + 1) (set mine kept e) ≡ take kept mine ++ (e ∷ []) = take_more_set mine kept e (omega arith) in
    let dropped : drop (at + 1) (set mine kept e) ≡ drop (at + 1) mine = drop-set-lt (at + 1) mine kept e (omega arith) in
    record {
      few = omega arith;
      mine_ascend = subst R (sym dropped) (subst R (front mine at e lt is) held.mine_ascend).1;
      rest_ascends = Ascends-from e.0 rest held.rest_ascends;
      common = ap (λ (es : List (ℕ × V)). es ++ common_entries same (drop (at + 1) (set mine kept e)) from) taken
          ∙ ap (λ (es : List (ℕ × V)). (take kept mine ++ (e ∷ [])) ++ common_entries same es from) dropped
          ∙ append_assoc (take kept mine) (e ∷ []) (common_entries same (drop (at + 1) mine) from)
          ∙ next_common same whole mine rest kept at e lt is held true begins;
    }

-- an entry more is kept
pub gather-kept : {V : Type 0} (same : V → V → Bool) (whole mine rest new from : List (ℕ × V)) (kept at more : ℕ) (e : ℕ × V) (r : Bool) → at < length mine → e ≡ get_or mine at e
    → Gathered same whole mine rest kept at → from ≡ entries_from e.0 rest → r ≡ begins_with_entry same e from → r ≡ true → new ≡ set mine kept e → more ≡ kept + 1
    → Gathered same whole new from more (at + 1)
gather-kept {V} same whole mine rest new from kept at more e r lt is held from_is begins answer new_is more_is =
    let found : true ≡ begins_with_entry same e (entries_from e.0 rest) = sym answer ∙ begins ∙ ap (begins_with_entry same e) from_is in
    let A : List (ℕ × V) → Type 0 = λ es. Gathered same whole es from more (at + 1) in
    let B : List (ℕ × V) → Type 0 = λ es. Gathered same whole (set mine kept e) es more (at + 1) in
    let C : ℕ → Type 0 = λ n. Gathered same whole (set mine kept e) (entries_from e.0 rest) n (at + 1) in
    subst A (sym new_is) (subst B (sym from_is) (subst C (sym more_is) (kept_step same whole mine rest kept at e lt is held found)))

-- or none is
pub gather-left : {V : Type 0} (same : V → V → Bool) (whole mine rest new from : List (ℕ × V)) (kept at more : ℕ) (e : ℕ × V) (r : Bool) → at < length mine → e ≡ get_or mine at e
    → Gathered same whole mine rest kept at → from ≡ entries_from e.0 rest → r ≡ begins_with_entry same e from → r ≡ false → new ≡ mine → more ≡ kept
    → Gathered same whole new from more (at + 1)
gather-left {V} same whole mine rest new from kept at more e r lt is held from_is begins answer new_is more_is =
    let found : false ≡ begins_with_entry same e (entries_from e.0 rest) = sym answer ∙ begins ∙ ap (begins_with_entry same e) from_is in
    let few : kept ≤ at = held.few in
    let R : List (ℕ × V) → Type 0 = λ es. Ascends es in
    let A : List (ℕ × V) → Type 0 = λ es. Gathered same whole es from more (at + 1) in
    let B : List (ℕ × V) → Type 0 = λ es. Gathered same whole mine es more (at + 1) in
    let C : ℕ → Type 0 = λ n. Gathered same whole mine (entries_from e.0 rest) n (at + 1) in
    subst A (sym new_is) (subst B (sym from_is) (subst C (sym more_is) (record {
      few = omega arith;
      mine_ascend = (subst R (front mine at e lt is) held.mine_ascend).1;
      rest_ascends = Ascends-from e.0 rest held.rest_ascends;
      common = next_common same whole mine rest kept at e lt is held false found;
    })))
