-- Lists of points by place: what putting a point in makes of one, and when two are the same.
use Rattle.std.specs.Prelude.{◌≡◌, ℕ, ◌+◌, Bool, true, false, cond, T, ◌&&◌, Option, Some, None, List, [], ◌∷◌, length}
use Rattle.std.specs.declared.cmp.Ordering.{Ordering}
use Rattle.std.specs.declared.cmp.Ordering.TheVariants.{Less, Equal, Greater}
use Rattle.std.specs.Ordering.{match_ordering, ordering_reverse, is_lt, is_eq, nat_cmp}
use Rattle.std.specs.Option.{option_or, is_some}
use Rattle.std.specs.List.{AllByRecursion}
use Rattle.std.specs.List.Sorted.{IsStrictlySortedBy}
use Rattle.std.specs.Map.{keys_of}
use Rattle.std.specs.BTreeMap.{is_at, insert_entry}
use Rattle.std.specs.FinMap.Entries as entries
use Rattle.std.proofs.Common.{refl, sym, ◌∙◌, ap, subst}
use Rattle.std.proofs.lemmas.Cmp.{tied_itself}
use Rattle.std.proofs.lemmas.Map.Lookups.{exact_pairs, exact_unsigned}
use Rattle.tt_family.specs.Places.{place_cmp, states_of}
use Rattle.tt_family.specs.Representation.SlotLists.{Point, merged}
use Rattle.tt_family.proofs.Putting.{place_total}

-- places that ascend, by the library's test

both : (a b : Bool) → T a → T b → T (a && b)
both true b p q = q
both false b p q = p

first : (a b : Bool) → T (a && b) → T a
first true b p = tt
first false b p = p

second : (a b : Bool) → T (a && b) → T b
second true b p = p
second false b p = absurd p

is_Less : (o : Ordering) → T (is_lt o) → o ≡ Less
is_Less Less p = refl
is_Less Equal p = absurd p
is_Less Greater p = absurd p

below_tested : {X : Type 0} (p : ℕ × ℕ) (es : List ((ℕ × ℕ) × X)) → AllByRecursion (λ q. place_cmp p q ≡ Less) (keys_of es) → T (entries.below_all place_cmp p es)
below_tested p [] h = tt
below_tested p (e ∷ es) h =
    let L : Ordering → Type 0 = λ o. T (is_lt o) in
    both (is_lt (place_cmp p e.0)) (entries.below_all place_cmp p es) (subst L (sym h.0) tt) (below_tested p es h.1)

below_from_test : (p : ℕ × ℕ) (es : List Point) → T (entries.below_all place_cmp p es) → AllByRecursion (λ q. place_cmp p q ≡ Less) (keys_of es)
below_from_test p [] h = tt
below_from_test p (e ∷ es) h = (is_Less (place_cmp p e.0) (first _ (entries.below_all place_cmp p es) h), below_from_test p es (second (is_lt (place_cmp p e.0)) _ h))

rise_tested : {X : Type 0} (es : List ((ℕ × ℕ) × X)) → IsStrictlySortedBy place_cmp (keys_of es) → T (entries.is_sorted place_cmp es)
unfolding IsStrictlySortedBy
rise_tested [] h = tt
rise_tested (e ∷ es) h = both (entries.below_all place_cmp e.0 es) (entries.is_sorted place_cmp es) (below_tested e.0 es h.0) (rise_tested es h.1)

rise_from_test : (es : List Point) → T (entries.is_sorted place_cmp es) → IsStrictlySortedBy place_cmp (keys_of es)
unfolding IsStrictlySortedBy
rise_from_test [] h = tt
rise_from_test (e ∷ es) h = (below_from_test e.0 es (first _ (entries.is_sorted place_cmp es) h), rise_from_test es (second (entries.below_all place_cmp e.0 es) _ h))

-- a point that is put in, by the library's function

insert_is_put : (es : List Point) (k : ℕ × ℕ) (n : ℕ) → insert_entry place_cmp es k n ≡ entries.put place_cmp k n es
insert_is_put [] k n = refl
insert_is_put (e ∷ es) k n =
    elim (place_cmp k e.0) as (λ o. match_ordering o ((k, n) ∷ e ∷ es) ((e.0, n) ∷ es) (e ∷ insert_entry place_cmp es k n)
    ≡ entries.by_order o ((k, n) ∷ e ∷ es) ((e.0, n) ∷ es) (e ∷ entries.put place_cmp k n es)) [
      | Less ↦ refl
      | Equal ↦ refl
      | Greater ↦ ap (λ l. e ∷ l) (insert_is_put es k n)
    ]

found_is_find : {X : Type 0} (es : List ((ℕ × ℕ) × X)) (p : ℕ × ℕ) → states_of es p ≡ entries.find place_cmp p es
found_is_find [] p = refl
found_is_find (e ∷ es) p = ap (cond (is_at (place_cmp p) e.0) (Some e.1)) (found_is_find es p)

pub place_exact : (p q : ℕ × ℕ) → place_cmp p q ≡ Equal → p ≡ q
place_exact p q tied = exact_pairs nat_cmp nat_cmp exact_unsigned exact_unsigned p q tied

-- lists by points that ascend are the same if they have the same at each place
pub same_points : {X : Type 0} (es fs : List ((ℕ × ℕ) × X)) → IsStrictlySortedBy place_cmp (keys_of es) → IsStrictlySortedBy place_cmp (keys_of fs)
    → ((p : ℕ × ℕ) → states_of es p ≡ states_of fs p) → es ≡ fs
same_points es fs rise rise' same =
    entries.same_entries place_cmp place_total place_exact es fs (rise_tested es rise) (rise_tested fs rise') (λ p. sym (found_is_find es p) ∙ same p ∙ found_is_find fs p)

pub insert_ascends : (es : List Point) (k : ℕ × ℕ) (n : ℕ) → IsStrictlySortedBy place_cmp (keys_of es) → IsStrictlySortedBy place_cmp (keys_of (insert_entry place_cmp es k n))
insert_ascends es k n rise =
    let R : List Point → Type 0 = λ l. IsStrictlySortedBy place_cmp (keys_of l) in
    subst R (sym (insert_is_put es k n)) (rise_from_test (entries.put place_cmp k n es) (entries.is_sorted-put place_cmp place_total k n es (rise_tested es rise)))

pub insert_found : (es : List Point) (k : ℕ × ℕ) (n : ℕ) (p : ℕ × ℕ) → states_of (insert_entry place_cmp es k n) p ≡ cond (is_at (place_cmp p) k) (Some n) (states_of es p)
insert_found es k n p =
    ap (λ l. states_of l p) (insert_is_put es k n) ∙ found_is_find (entries.put place_cmp k n es) p ∙ entries.find-put place_cmp place_total p k n es
    ∙ ap (cond (is_at (place_cmp p) k) (Some n)) (sym (found_is_find es p))

pub insert_length : (es : List Point) (k : ℕ × ℕ) (n : ℕ) → IsStrictlySortedBy place_cmp (keys_of es) → states_of es k ≡ None
    → length (insert_entry place_cmp es k n) ≡ length es + 1
insert_length es k n rise none =
    ap length (insert_is_put es k n) ∙ entries.length-put place_cmp place_total k n es (rise_tested es rise)
    ∙ ap (λ (o : Option ℕ). cond (is_some o) (length es) (length es + 1)) (sym (found_is_find es k) ∙ none)

pub insert_here : (es : List Point) (k : ℕ × ℕ) (n : ℕ) → states_of (insert_entry place_cmp es k n) k ≡ Some n
insert_here es k n = insert_found es k n k ∙ ap (λ o. cond (is_eq o) (Some n) (states_of es k)) (tied_itself place_total k)

pub insert_elsewhere : (es : List Point) (k : ℕ × ℕ) (n : ℕ) (p : ℕ × ℕ) → is_at (place_cmp p) k ≡ false → states_of (insert_entry place_cmp es k n) p ≡ states_of es p
insert_elsewhere es k n p apart = insert_found es k n p ∙ ap (λ b. cond b (Some n) (states_of es p)) apart

-- two lists of points merged

put_or : (b : Bool) (n : ℕ) (r s : Option ℕ) → cond b (Some n) (option_or r s) ≡ option_or (cond b (Some n) r) s
put_or true n r s = refl
put_or false n r s = refl

pub merged_found : (points rest : List Point) (p : ℕ × ℕ) → states_of (merged points rest) p ≡ option_or (states_of rest p) (states_of points p)
merged_found points [] p = refl
merged_found points (e ∷ es) p =
    insert_found (merged points es) e.0 e.1 p ∙ ap (cond (is_at (place_cmp p) e.0) (Some e.1)) (merged_found points es p)
    ∙ put_or (is_at (place_cmp p) e.0) e.1 (states_of es p) (states_of points p)

pub merged_ascends : (points rest : List Point) → IsStrictlySortedBy place_cmp (keys_of points) → IsStrictlySortedBy place_cmp (keys_of (merged points rest))
merged_ascends points [] rise = rise
merged_ascends points (e ∷ es) rise = insert_ascends (merged points es) e.0 e.1 (merged_ascends points es rise)

-- a point that is put into the second list
pub merged_rest : (points rest : List Point) (k : ℕ × ℕ) (n : ℕ) → IsStrictlySortedBy place_cmp (keys_of points)
    → merged points (insert_entry place_cmp rest k n) ≡ insert_entry place_cmp (merged points rest) k n
merged_rest points rest k n rise =
    same_points (merged points (insert_entry place_cmp rest k n)) (insert_entry place_cmp (merged points rest) k n) (merged_ascends points (insert_entry place_cmp rest k n) rise)
    (insert_ascends (merged points rest) k n (merged_ascends points rest rise))
    (λ p. merged_found points (insert_entry place_cmp rest k n) p ∙ ap (λ r. option_or r (states_of points p)) (insert_found rest k n p)
    ∙ sym (put_or (is_at (place_cmp p) k) n (states_of rest p) (states_of points p)) ∙ ap (cond (is_at (place_cmp p) k) (Some n)) (sym (merged_found points rest p))
    ∙ sym (insert_found (merged points rest) k n p))

-- a point that is put into the first list, and that the second doesn't have
pub merged_points : (points points' rest : List Point) (k : ℕ × ℕ) (n : ℕ) → IsStrictlySortedBy place_cmp (keys_of points) → IsStrictlySortedBy place_cmp (keys_of points')
    → ((p : ℕ × ℕ) → states_of points' p ≡ cond (is_at (place_cmp p) k) (Some n) (states_of points p)) → states_of rest k ≡ None
    → merged points' rest ≡ insert_entry place_cmp (merged points rest) k n
merged_points points points' rest k n rise rise' puts none =
    same_points (merged points' rest) (insert_entry place_cmp (merged points rest) k n) (merged_ascends points' rest rise')
    (insert_ascends (merged points rest) k n (merged_ascends points rest rise))
    (λ p. merged_found points' rest p ∙ ap (option_or (states_of rest p)) (puts p) ∙ at p (place_cmp p k) refl
    ∙ ap (cond (is_at (place_cmp p) k) (Some n)) (sym (merged_found points rest p)) ∙ sym (insert_found (merged points rest) k n p))
  where
    at : (p : ℕ × ℕ) (o : Ordering) → place_cmp p k ≡ o
        → option_or (states_of rest p) (cond (is_eq o) (Some n) (states_of points p)) ≡ cond (is_eq o) (Some n) (option_or (states_of rest p) (states_of points p))
    at p Less e = refl
    at p Equal e = ap (λ r. option_or r (Some n)) (ap (states_of rest) (place_exact p k e) ∙ none)
    at p Greater e = refl

-- the first point of two merged lists

pub insert_below : (es : List Point) (k : ℕ × ℕ) (n : ℕ) → AllByRecursion (λ q. place_cmp k q ≡ Less) (keys_of es) → insert_entry place_cmp es k n ≡ (k, n) ∷ es
insert_below [] k n h = refl
insert_below (e ∷ es) k n h = ap (λ o. match_ordering o ((k, n) ∷ e ∷ es) ((e.0, n) ∷ es) (e ∷ insert_entry place_cmp es k n)) h.0

all_inserted : (P : ℕ × ℕ → Type 0) (es : List Point) (k : ℕ × ℕ) (n : ℕ) → AllByRecursion P (keys_of es) → P k → AllByRecursion P (keys_of (insert_entry place_cmp es k n))
all_inserted P [] k n all here = (here, tt)
all_inserted P (e ∷ es) k n all here =
    elim (place_cmp k e.0) as (λ o. AllByRecursion P (keys_of (match_ordering o ((k, n) ∷ e ∷ es) ((e.0, n) ∷ es) (e ∷ insert_entry place_cmp es k n)))) [
      | Less ↦ (here, all)
      | Equal ↦ all
      | Greater ↦ (all.0, all_inserted P es k n all.1 here)
    ]

pub all_merged : (P : ℕ × ℕ → Type 0) (points rest : List Point) → AllByRecursion P (keys_of points) → AllByRecursion P (keys_of rest) → AllByRecursion P (keys_of (merged points rest))
all_merged P points [] all all' = all
all_merged P points (e ∷ es) all all' = all_inserted P (merged points es) e.0 e.1 (all_merged P points es all all'.1) all'.0

-- a point of the second list that is before all others
pub merged_other : (points rest : List Point) (e : Point) → AllByRecursion (λ q. place_cmp e.0 q ≡ Less) (keys_of points) → AllByRecursion (λ q. place_cmp e.0 q ≡ Less) (keys_of rest)
    → merged points (e ∷ rest) ≡ e ∷ merged points rest
merged_other points rest e below below' = insert_below (merged points rest) e.0 e.1 (all_merged (λ q. place_cmp e.0 q ≡ Less) points rest below below')

-- a point of the first list that is before those of the second
pub merged_first : (points rest : List Point) (e : Point) → AllByRecursion (λ q. place_cmp e.0 q ≡ Less) (keys_of rest) → merged (e ∷ points) rest ≡ e ∷ merged points rest
merged_first points [] e below = refl
merged_first points (d ∷ ds) e below =
    ap (λ l. insert_entry place_cmp l d.0 d.1) (merged_first points ds e below.1)
    ∙ ap (λ o. match_ordering o (d ∷ e ∷ merged points ds) ((e.0, d.1) ∷ merged points ds) (e ∷ insert_entry place_cmp (merged points ds) d.0 d.1))
    (place_total.antisymm d.0 e.0 ∙ ap ordering_reverse below.0)

pub below_below : (p q : ℕ × ℕ) (es : List Point) → place_cmp p q ≡ Less → AllByRecursion (λ r. place_cmp q r ≡ Less) (keys_of es) → AllByRecursion (λ r. place_cmp p r ≡ Less) (keys_of es)
below_below p q [] less h = tt
below_below p q (e ∷ es) less h = (place_total.trans p q e.0 less h.0, below_below p q es less h.1)
