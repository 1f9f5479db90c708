-- The numbers of contexts as they are found, level by level.
use Rattle.std.specs.Prelude.{◌≡◌, ◌≢◌, ◌⊎◌, ◌==◌, ◌&&◌, not, ℕ, ◌+◌, ◌≤◌, ◌<◌, true, false, cond, Some, List, [], ◌∷◌, ◌++◌, length, map, slice_index_or, slice_get, zero, suc}
use Rattle.std.specs.declared.cmp.Ordering.{Ordering}
use Rattle.std.specs.declared.cmp.Ordering.TheVariants.{Less, Equal, Greater}
use Rattle.std.specs.Ordering.{nat_cmp, ordering_then, is_le}
use Rattle.std.specs.Cmp.{nat_cmp_is}
use Rattle.std.specs.List.{filter}
use Rattle.std.specs.List.Sorted.{IsStrictlySortedBy}
use Rattle.std.specs.Map.{keys_of, values_of}
use Rattle.std.specs.BTreeMap.{BTreeMap, get, is_at, IsOrdered}
use Rattle.std.specs.BTreeMap.Range.{range_contains, entries_between}
use Rattle.std.specs.declared.ops.Bound.TheVariants.{Included, Excluded}
use Rattle.std.proofs.Common.{refl, sym, ◌∙◌, ap, subst, arith, inl, inr}
use Rattle.std.proofs.lemmas.Bool.{cases_Bool, cases_lt}
use Rattle.std.proofs.lemmas.Bool.Decides.{nat_tests}
use Rattle.std.proofs.lemmas.List.Kept.{IsStrictlySortedBy-filter}
use Rattle.std.proofs.lemmas.Map.Entries.{btree_map_get_place, place_from_lookup, length-values_of, length-keys_of}
use Rattle.std.proofs.lemmas.Map.Keys.{Less-from_sorted}
use Rattle.std.proofs.lemmas.Option.{slice_get_within, get_or_from_slice_get}
use Rattle.tt_family.specs.Built.{Key, key_cmp}
use Rattle.tt_family.specs.Representation.FileOrder.{children}
use Rattle.tt_family.proofs.Adding.{keys_apart, cases_key}
use Rattle.tt_family.proofs.Ascending.{key_total}

module _ {A : Type 0} where
  pub get_left : (xs ys : List A) (i : ℕ) (x : A) → slice_get xs i ≡ Some x → slice_get (xs ++ ys) i ≡ Some x
  get_left [] ys i x at = cc
  get_left (z ∷ xs) ys zero x at = at
  get_left (z ∷ xs) ys (suc i) x at = get_left xs ys i x at

  pub get_right : (xs ys : List A) (i : ℕ) (x : A) → slice_get ys i ≡ Some x → slice_get (xs ++ ys) (length xs + i) ≡ Some x
  get_right [] ys i x at = let e : 0 + i ≡ i = omega arith in ap (slice_get ys) e ∙ at
  get_right (z ∷ xs) ys i x at =
      let e : length (z ∷ xs) + i ≡ suc (length xs + i) = omega arith in
      ap (slice_get ((z ∷ xs) ++ ys)) e ∙ get_right xs ys i x at

  pub get_cases : (xs ys : List A) (i : ℕ) (x : A) → slice_get (xs ++ ys) i ≡ Some x → (slice_get xs i ≡ Some x) ⊎ ((j : ℕ) × (i ≡ length xs + j) × (slice_get ys j ≡ Some x))
  get_cases [] ys i x at = inr (i, omega arith, at)
  get_cases (z ∷ xs) ys zero x at = inl at
  get_cases (z ∷ xs) ys (suc i) x at = elim (get_cases xs ys i x at) [ inl old ↦ inl old | inr new ↦ let (j, e, at') = new in inr (j, omega arith, at') ]

  pub get_before : (xs ys : List A) (i : ℕ) (x : A) → i < length xs → slice_get (xs ++ ys) i ≡ Some x → slice_get xs i ≡ Some x
  get_before [] ys i x lt at = absurd (omega arith)
  get_before (z ∷ xs) ys zero x lt at = at
  get_before (z ∷ xs) ys (suc i) x lt at = get_before xs ys i x (omega arith) at

pub map_back : {A B : Type 0} (f : A → B) (xs : List A) (i : ℕ) (y : B) → slice_get (map f xs) i ≡ Some y → (x : A) × (slice_get xs i ≡ Some x) × (y ≡ f x)
map_back f [] i y at = absurd (cc)
map_back f (x ∷ xs) zero y at = (x, refl, cc)
map_back f (x ∷ xs) (suc i) y at = map_back f xs i y at

pub map_at : {A B : Type 0} (f : A → B) (xs : List A) (i : ℕ) (x : A) → slice_get xs i ≡ Some x → slice_get (map f xs) i ≡ Some (f x)
map_at f [] i x at = absurd (cc)
map_at f (z ∷ xs) zero x at = let e : z ≡ x = cc in ap (λ y. Some (f y)) e
map_at f (z ∷ xs) (suc i) x at = map_at f xs i x at

-- the entries of a context's children
abbrev pub kin : List (Key × ℕ) → ℕ → List (Key × ℕ)
kin entries parent = filter (λ e. e.0.0 == parent) entries

-- the key with another parent
abbrev pub under : ℕ → Key → Key
under p k = (p, k.1, k.2, k.3, k.4)

pub is_number : (a b : ℕ) → (a == b) ≡ true → a ≡ b
is_number a b e = grind (arith, nat_tests)

not_number : (a b : ℕ) → (a == b) ≡ false → a ≢ b
not_number a b e = λ f. grind (arith, nat_tests)

-- an entry of a child is one of the index
pub kin_back : (entries : List (Key × ℕ)) (p i : ℕ) (x : Key × ℕ) → slice_get (kin entries p) i ≡ Some x → (j : ℕ) × (slice_get entries j ≡ Some x) × (x.0.0 ≡ p)
kin_back [] p i x at = absurd (cc)
kin_back (e ∷ entries) p i x at = elim (cases_Bool (e.0.0 == p)) [
  | inl here ↦
      let more : kin (e ∷ entries) p ≡ e ∷ kin entries p = ap (λ b. cond b (e ∷ kin entries p) (kin entries p)) here in
      first (λ j. kin_back entries p j x) i (ap (λ l. slice_get l i) (sym more) ∙ at) (is_number e.0.0 p here)
  | inr other ↦
      let same : kin (e ∷ entries) p ≡ kin entries p = ap (λ b. cond b (e ∷ kin entries p) (kin entries p)) other in
      let (j, at', is) = kin_back entries p i x (ap (λ l. slice_get l i) (sym same) ∙ at) in
      (suc j, at', is)
]
  where
    first : ((i : ℕ) → slice_get (kin entries p) i ≡ Some x → (j : ℕ) × (slice_get entries j ≡ Some x) × (x.0.0 ≡ p))
        → (i : ℕ) → slice_get (e ∷ kin entries p) i ≡ Some x → e.0.0 ≡ p → (j : ℕ) × (slice_get (e ∷ entries) j ≡ Some x) × (x.0.0 ≡ p)
    first back zero at' is = let same : e ≡ x = cc in (0, at', ap (λ (y : Key × ℕ). y.0.0) (sym same) ∙ is)
    first back (suc i) at' is = let (j, at'', is') = back i at' in (suc j, at'', is')

-- and each of the index that has the parent is there
pub kin_at : (entries : List (Key × ℕ)) (p j : ℕ) (x : Key × ℕ) → slice_get entries j ≡ Some x → x.0.0 ≡ p → (i : ℕ) × (slice_get (kin entries p) i ≡ Some x)
kin_at [] p j x at is = absurd (cc)
kin_at (e ∷ entries) p j x at is = elim (cases_Bool (e.0.0 == p)) [
  | inl here ↦
      let more : kin (e ∷ entries) p ≡ e ∷ kin entries p = ap (λ b. cond b (e ∷ kin entries p) (kin entries p)) here in
      let (i, at') = first (λ k at'. kin_at entries p k x at' is) j at in (i, ap (λ l. slice_get l i) more ∙ at')
  | inr other ↦
      let same : kin (e ∷ entries) p ≡ kin entries p = ap (λ b. cond b (e ∷ kin entries p) (kin entries p)) other in
      let (i, at') = rest (λ k at'. kin_at entries p k x at' is) j at (not_number e.0.0 p other) in (i, ap (λ l. slice_get l i) same ∙ at')
]
  where
    first : ((j : ℕ) → slice_get entries j ≡ Some x → (i : ℕ) × (slice_get (kin entries p) i ≡ Some x))
        → (j : ℕ) → slice_get (e ∷ entries) j ≡ Some x → (i : ℕ) × (slice_get (e ∷ kin entries p) i ≡ Some x)
    first there zero at' = (0, at')
    first there (suc j) at' = let (i, at'') = there j at' in (suc i, at'')

    rest : ((j : ℕ) → slice_get entries j ≡ Some x → (i : ℕ) × (slice_get (kin entries p) i ≡ Some x))
        → (j : ℕ) → slice_get (e ∷ entries) j ≡ Some x → e.0.0 ≢ p → (i : ℕ) × (slice_get (kin entries p) i ≡ Some x)
    rest there zero at' apart = let same : e ≡ x = cc in absurd (apart (ap (λ (y : Key × ℕ). y.0.0) same ∙ is))
    rest there (suc j) at' apart = there j at'

-- children are in the order of the index
sorted_pair : {X : Type 0} (es : List (Key × X)) (i j : ℕ) (x y : Key × X) → IsStrictlySortedBy key_cmp (keys_of es) → i < j → slice_get es i ≡ Some x → slice_get es j ≡ Some y
    → key_cmp x.0 y.0 ≡ Less
sorted_pair {X} es i j x y sorted lt at_x at_y =
    let within = slice_get_within es j y at_y in
    let long = length-keys_of es in
    let key_x : slice_index_or (keys_of es) i x.0 ≡ x.0 = get_or_from_slice_get (keys_of es) i x.0 x.0 (map_at (λ (e : Key × X). e.0) es i x at_x) in
    let key_y : slice_index_or (keys_of es) j x.0 ≡ y.0 = get_or_from_slice_get (keys_of es) j y.0 x.0 (map_at (λ (e : Key × X). e.0) es j y at_y) in
    ap (λ k. key_cmp k y.0) (sym key_x) ∙ ap (key_cmp (slice_index_or (keys_of es) i x.0)) (sym key_y) ∙ Less-from_sorted key_cmp (keys_of es) i j x.0 sorted lt (omega arith)

pub kin_ascends : (entries : List (Key × ℕ)) (p i j : ℕ) (x y : Key × ℕ) → IsStrictlySortedBy key_cmp (keys_of entries) → i < j → slice_get (kin entries p) i ≡ Some x
    → slice_get (kin entries p) j ≡ Some y → key_cmp x.0 y.0 ≡ Less
kin_ascends entries p i j x y sorted = sorted_pair (kin entries p) i j x y (go entries sorted)
  where
    keys_kin : (es : List (Key × ℕ)) → keys_of (kin es p) ≡ filter (λ k. k.0 == p) (keys_of es)
    keys_kin [] = refl
    keys_kin (e ∷ es) = elim (cases_Bool (e.0.0 == p)) [
      | inl here ↦
          ap (λ b. keys_of (cond b (e ∷ kin es p) (kin es p))) here ∙ ap (λ l. e.0 ∷ l) (keys_kin es)
          ∙ sym (ap (λ b. cond b (e.0 ∷ filter (λ k. k.0 == p) (keys_of es)) (filter (λ k. k.0 == p) (keys_of es))) here)
      | inr other ↦
          ap (λ b. keys_of (cond b (e ∷ kin es p) (kin es p))) other ∙ keys_kin es
          ∙ sym (ap (λ b. cond b (e.0 ∷ filter (λ k. k.0 == p) (keys_of es)) (filter (λ k. k.0 == p) (keys_of es))) other)
    ]

    go : (es : List (Key × ℕ)) → IsStrictlySortedBy key_cmp (keys_of es) → IsStrictlySortedBy key_cmp (keys_of (kin es p))
    go es s = subst (IsStrictlySortedBy key_cmp) (sym (keys_kin es)) (IsStrictlySortedBy-filter key_cmp (λ k. k.0 == p) (keys_of es) s)

le_numbers : (a b : ℕ) → a ≤ b → is_le (nat_cmp a b) ≡ true
le_numbers a b le = elim (cases_lt a b) [
  | inl less ↦ ap is_le (sym (nat_cmp_is a b Less less))
  | inr not_less ↦ ap is_le (sym (nat_cmp_is a b Equal (omega arith)))
]

le_then : (a b : Ordering) → is_le a ≡ true → is_le b ≡ true → is_le (ordering_then a b) ≡ true
le_then Less b e f = refl
le_then Equal b e f = f
le_then Greater b e f = cc

-- the first key of a parent
abbrev least : ℕ → Key
least p = (p, 0, 0, 0, 0)

least_le : (p : ℕ) (k : Key) → p ≤ k.0 → is_le (key_cmp (least p) k) ≡ true
least_le p (a, b, c, d, e) le =
    le_then (ordering_then (ordering_then (ordering_then (nat_cmp p a) (nat_cmp 0 b)) (nat_cmp 0 c)) (nat_cmp 0 d)) (nat_cmp 0 e)
    (le_then (ordering_then (ordering_then (nat_cmp p a) (nat_cmp 0 b)) (nat_cmp 0 c)) (nat_cmp 0 d)
    (le_then (ordering_then (nat_cmp p a) (nat_cmp 0 b)) (nat_cmp 0 c)
    (le_then (nat_cmp p a) (nat_cmp 0 b) (le_numbers p a le) (le_numbers 0 b (omega arith)))
    (le_numbers 0 c (omega arith)))
    (le_numbers 0 d (omega arith)))
    (le_numbers 0 e (omega arith))

least_more : (p : ℕ) (k : Key) → k.0 < p → is_le (key_cmp (least p) k) ≡ false
least_more p k lt =
    ap (λ o. is_le (ordering_then (ordering_then (ordering_then (ordering_then o (nat_cmp 0 k.1)) (nat_cmp 0 k.2)) (nat_cmp 0 k.3)) (nat_cmp 0 k.4))) (sym (nat_cmp_is p k.0 Greater lt))

-- the keys from a parent's first to the next one's are those of the parent
between : (p : ℕ) (k : Key) → range_contains key_cmp (Included (least p)) (Excluded (least (p + 1))) k ≡ (k.0 == p)
between p k = elim (cases_lt k.0 p) [
  | inl less ↦ ap (λ b. b && not (is_le (key_cmp (least (p + 1)) k))) (least_more p k less) ∙ grind (arith, nat_tests)
  | inr not_less ↦ elim (cases_lt p k.0) [
    | inl more ↦ ap (λ b. b && not (is_le (key_cmp (least (p + 1)) k))) (least_le p k (omega arith)) ∙ ap not (least_le (p + 1) k (omega arith)) ∙ grind (arith, nat_tests)
    | inr same ↦ ap (λ b. b && not (is_le (key_cmp (least (p + 1)) k))) (least_le p k (omega arith)) ∙ ap not (least_more (p + 1) k (omega arith)) ∙ grind (arith, nat_tests)
  ]
]

pub between_kin : (entries : List (Key × ℕ)) (p : ℕ) → entries_between key_cmp (Included (least p)) (Excluded (least (p + 1))) entries ≡ kin entries p
between_kin [] p = refl
between_kin (e ∷ entries) p =
    ap (λ b. cond b (e ∷ entries_between key_cmp (Included (least p)) (Excluded (least (p + 1))) entries) (entries_between key_cmp (Included (least p)) (Excluded (least (p + 1))) entries)) (between p e.0)
    ∙ ap (λ l. cond (e.0.0 == p) (e ∷ l) l) (between_kin entries p)

-- below an earlier parent, or below the same one
pub under_less : (x y : Key) → x.0 < y.0 → key_cmp x y ≡ Less
under_less x y less =
    ap (λ o. ordering_then (ordering_then (ordering_then (ordering_then o (nat_cmp x.1 y.1)) (nat_cmp x.2 y.2)) (nat_cmp x.3 y.3)) (nat_cmp x.4 y.4)) (sym (nat_cmp_is x.0 y.0 Less less))

pub under_same : (x y : Key) (p : ℕ) → x.0 ≡ y.0 → key_cmp x y ≡ Less → key_cmp (under p x) (under p y) ≡ Less
under_same x y p same less =
    let equal : nat_cmp p p ≡ nat_cmp x.0 y.0 = sym (nat_cmp_is p p Equal refl) ∙ nat_cmp_is x.0 y.0 Equal same in
    ap (λ o. ordering_then (ordering_then (ordering_then (ordering_then o (nat_cmp x.1 y.1)) (nat_cmp x.2 y.2)) (nat_cmp x.3 y.3)) (nat_cmp x.4 y.4)) equal ∙ less

-- a context that was found: its parent's place, which comes before, and its number
pub record IsFound (index : BTreeMap Key ℕ) (order : List ℕ) (i a : ℕ) (x : Key × ℕ) : Type 0 where
  pub done : x.0.0 < i
  pub before : x.0.0 ≤ a
  pub parent : ℕ
  pub at : slice_get order x.0.0 ≡ Some parent
  pub indexed : get key_cmp index (under parent x.0) ≡ Some x.1

-- the contexts that were found below the first i of them, with the places of their parents
pub record IsQueue (index : BTreeMap Key ℕ) (order : List ℕ) (i : ℕ) : Type 0 where
  pub found : List (Key × ℕ)
  pub is : order ≡ 0 ∷ values_of found
  pub ascends : (a b : ℕ) (x y : Key × ℕ) → a < b → slice_get found a ≡ Some x → slice_get found b ≡ Some y → key_cmp x.0 y.0 ≡ Less
  pub each : (a : ℕ) (x : Key × ℕ) → slice_get found a ≡ Some x → IsFound index order i a x
  pub all : (j p : ℕ) (k : Key) (n : ℕ) → j < i → slice_get order j ≡ Some p → k.0 ≡ p → get key_cmp index k ≡ Some n → (a : ℕ) × (slice_get found a ≡ Some (under j k, n))

pub IsQueue-first : (index : BTreeMap Key ℕ) (order : List ℕ) → order ≡ 0 ∷ [] → IsQueue index order 0
IsQueue-first index order one = record {
  found = [];
  is = one;
  ascends = λ a b x y lt at_x at_y. absurd (cc);
  each = λ a x at. absurd (cc);
  all = λ j p k n lt at is has. absurd (omega arith);
}

-- the query's key is the one that it finds
key_found : (k k' : Key) → is_at (key_cmp k) k' ≡ true → k' ≡ k
key_found k k' e = elim (cases_key k k') [ inl same ↦ sym same | inr apart ↦ let f = keys_apart k k' apart in absurd (cc) ]

module _ (index : BTreeMap Key ℕ) (order order' : List ℕ) (i p : ℕ) (queue : IsQueue index order i) (ordered : IsOrdered key_cmp index)
    (at_i : slice_get order i ≡ Some p) (more : order' ≡ order ++ children index.entries p) where
  abbrev block : List (Key × ℕ)
  block = map (λ e. (under i e.0, e.1)) (kin index.entries p)

  new_at : (a : ℕ) (x : Key × ℕ) → slice_get block a ≡ Some x → (e : Key × ℕ) × (slice_get (kin index.entries p) a ≡ Some e) × (e.0.0 ≡ p) × (x ≡ (under i e.0, e.1))
  new_at a x at =
      let (e, at', is) = map_back (λ (e : Key × ℕ). (under i e.0, e.1)) (kin index.entries p) a x at in
      let (j, _, mine) = kin_back index.entries p a e at' in
      (e, at', mine, is)

  values_block : (es : List (Key × ℕ)) → values_of (map (λ e. (under i e.0, e.1)) es) ≡ values_of es
  values_block [] = refl
  values_block (e ∷ es) = ap (λ l. e.1 ∷ l) (values_block es)

  values_append : (xs ys : List (Key × ℕ)) → values_of (xs ++ ys) ≡ values_of xs ++ values_of ys
  values_append [] ys = refl
  values_append (x ∷ xs) ys = ap (λ l. x.1 ∷ l) (values_append xs ys)

  old_at : (j n : ℕ) → slice_get order j ≡ Some n → slice_get order' j ≡ Some n
  old_at j n at = ap (λ l. slice_get l j) more ∙ get_left order (children index.entries p) j n at

  long : length order ≡ length queue.found + 1
  long = let e = ap length queue.is in let f = length-values_of queue.found in omega arith

  is' : order' ≡ 0 ∷ values_of (queue.found ++ block)
  is' = more ∙ ap (λ l. l ++ children index.entries p) queue.is ∙ ap (λ l. (0 ∷ values_of queue.found) ++ l) (sym (values_block (kin index.entries p)))
      ∙ ap (λ l. 0 ∷ l) (sym (values_append queue.found block))

  ascends' : (a b : ℕ) (x y : Key × ℕ) → a < b → slice_get (queue.found ++ block) a ≡ Some x → slice_get (queue.found ++ block) b ≡ Some y → key_cmp x.0 y.0 ≡ Less
  ascends' a b x y lt at_x at_y = elim (get_cases queue.found block a x at_x) [
    | inl old_x ↦ elim (get_cases queue.found block b y at_y) [
      | inl old_y ↦ queue.ascends a b x y lt old_x old_y
      | inr new_y ↦
          let (j, b_is, at) = new_y in
          let (e, _, _, y_is) = new_at j y at in
          let y_place : y.0.0 ≡ i = ap (λ (z : Key × ℕ). z.0.0) y_is in
          let done = (queue.each a x old_x).done in
          under_less x.0 y.0 (omega arith)
    ]
    | inr new_x ↦
        let (j, a_is, at) = new_x in
        elim (get_cases queue.found block b y at_y) [
          | inl old_y ↦ let within = slice_get_within queue.found b y old_y in absurd (omega arith)
          | inr new_y ↦
              let (j', b_is, at') = new_y in
              let (e, at_e, mine, x_is) = new_at j x at in
              let (e', at_e', mine', y_is) = new_at j' y at' in
              let less = kin_ascends index.entries p j j' e e' ordered (omega arith) at_e at_e' in
              ap (λ (z : Key × ℕ). key_cmp z.0 y.0) x_is ∙ ap (λ (z : Key × ℕ). key_cmp (under i e.0) z.0) y_is ∙ under_same e.0 e'.0 i (mine ∙ sym mine') less
        ]
  ]

  each' : (a : ℕ) (x : Key × ℕ) → slice_get (queue.found ++ block) a ≡ Some x → IsFound index order' (i + 1) a x
  each' a x at = elim (get_cases queue.found block a x at) [
    | inl old ↦
        let one = queue.each a x old in
        let done = one.done in
        record { done = omega arith; before = one.before; parent = one.parent; at = old_at x.0.0 one.parent one.at; indexed = one.indexed }
    | inr new ↦
        let (j, a_is, at') = new in
        let (e, at_e, mine, x_is) = new_at j x at' in
        let (m, at_m, _) = kin_back index.entries p j e at_e in
        let x_place : x.0.0 ≡ i = ap (λ (z : Key × ℕ). z.0.0) x_is in
        let within = slice_get_within order i p at_i in
        let all = long in
        let has : get key_cmp index e.0 ≡ Some e.1 = btree_map_get_place key_total index m e.0 e.1 ordered at_m in
        let key : under p x.0 ≡ e.0 = ap (λ (z : Key × ℕ). under p z.0) x_is ∙ (λ k. (sym mine k, e.0.1, e.0.2, e.0.3, e.0.4)) in
        record {
          done = omega arith;
          before = omega arith;
          parent = p;
          at = ap (slice_get order') x_place ∙ old_at i p at_i;
          indexed = ap (get key_cmp index) key ∙ has ∙ ap (λ (z : Key × ℕ). Some z.1) (sym x_is);
        }
  ]

  all' : (j q : ℕ) (k : Key) (n : ℕ) → j < i + 1 → slice_get order' j ≡ Some q → k.0 ≡ q → get key_cmp index k ≡ Some n → (a : ℕ) × (slice_get (queue.found ++ block) a ≡ Some (under j k, n))
  all' j q k n lt at is has =
      let within = slice_get_within order i p at_i in
      let at_old : slice_get order j ≡ Some q = get_before order (children index.entries p) j q (omega arith) (ap (λ l. slice_get l j) (sym more) ∙ at) in
      elim (cases_lt j i) [
        | inl less ↦ let (a, at_a) = queue.all j q k n less at_old is has in (a, get_left queue.found block a (under j k, n) at_a)
        | inr not_less ↦
            let j_is : j ≡ i = omega arith in
            let both : Some q ≡ Some p = sym at_old ∙ ap (slice_get order) j_is ∙ at_i in
            let same : q ≡ p = cc in
            let (m, k', at_m, hit) = place_from_lookup (is_at (key_cmp k)) index.entries n has in
            let k_is : k' ≡ k = key_found k k' hit in
            let (b, at_b) = kin_at index.entries p m (k', n) at_m (ap (λ (z : Key). z.0) k_is ∙ is ∙ same) in
            let there : slice_get block b ≡ Some (under i k', n) = map_at (λ (e : Key × ℕ). (under i e.0, e.1)) (kin index.entries p) b (k', n) at_b in
            let pair : ◌≡◌ {A = Key × ℕ} (under i k', n) (under j k, n) = λ t. (under (sym j_is t) (k_is t), n) in
            (length queue.found + b, get_right queue.found block b (under j k, n) (there ∙ ap Some pair))
      ]

  -- the children of one more
  pub IsQueue-step : IsQueue index order' (i + 1)
  IsQueue-step = record { found = queue.found ++ block; is = is'; ascends = ascends'; each = each'; all = all' }

-- the numbers that were pushed, and those that are left
pub children_first : (items : List ℕ) (entries rest rest' : List (Key × ℕ)) (p : ℕ) → rest' ≡ rest → rest ≡ entries_between key_cmp (Included (least p)) (Excluded (least (p + 1))) entries
    → items ++ values_of rest' ≡ items ++ children entries p
children_first items entries rest rest' p same all = ap (λ (l : List (Key × ℕ)). items ++ values_of l) (same ∙ all ∙ between_kin entries p)
