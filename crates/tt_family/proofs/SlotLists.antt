-- Lists of points: what a search finds in them, and what is left of it all when a point is put after a list or beside the lists.
use Rattle.std.specs.Prelude.{◌≡◌, ◌≢◌, ℕ, zero, suc, ◌+◌, ◌≤◌, ◌<◌, true, false, cond, nat_eq, if◌then◌else◌, Option, Some, None, Result, Ok, Err, OnOk, OnErr, List, [], ◌∷◌, ◌++◌, length, slice_index_or, slice_set, min, max, take}
use Rattle.std.specs.declared.cmp.Ordering.{Ordering}
use Rattle.std.specs.declared.cmp.Ordering.TheVariants.{Less, Equal, Greater}
use Rattle.std.specs.Ordering.{nat_cmp, ordering_then, is_eq}
use Rattle.std.specs.Cmp.{nat_cmp_is}
use Rattle.std.specs.Option.{option_or}
use Rattle.std.specs.List.{AllByRecursion}
use Rattle.std.specs.List.Sorted.{IsStrictlySortedBy}
use Rattle.std.specs.Map.{keys_of}
use Rattle.std.specs.BTreeMap.{is_at, insert_entry}
use Rattle.std.proofs.Common.{refl, sym, ◌∙◌, ap, subst, arith, inl, inr}
use Rattle.std.proofs.lemmas.Bool.{cases_eq, cases_lt, eq-eqb, ne_eqb}
use Rattle.std.proofs.lemmas.Cmp.{tied_itself}
use Rattle.std.proofs.lemmas.List.{get_or-set_same, get_or-set_other, set-get_or, length-append, length-set}
use Rattle.std.proofs.lemmas.Option.{slice_get_read, get_or_from_slice_get}
use Rattle.tt_setting.specs.Entries.{Ascends, listed}
use Rattle.tt_family.specs.Places.{place_cmp, states_of}
use Rattle.tt_family.specs.Representation.SlotLists.{Point, Offsets, list_points, lists_points, merged, list_of, AreBelow, AreApart, AreEmptyFrom, AreSlotLists, AddsLists}
use Rattle.tt_family.proofs.Puts.{places_apart}
use Rattle.tt_family.proofs.Putting.{place_total}
use Rattle.tt_family.proofs.ListEnds.{listed_below, listed_pushed, ascends_pushed, below_first}
use Rattle.tt_family.proofs.PlaceEntries.{merged_found, merged_points, merged_rest, merged_ascends, insert_found, insert_length, insert_ascends, place_exact}

-- places by their parts

later_offset : (c o o' : ℕ) → o < o' → place_cmp (c, o) (c, o') ≡ Less
later_offset c o o' lt = ap (λ a. ordering_then a (nat_cmp o o')) (sym (nat_cmp_is c c Equal refl)) ∙ sym (nat_cmp_is o o' Less lt)

later_context : (c c' o o' : ℕ) → c < c' → place_cmp (c, o) (c', o') ≡ Less
later_context c c' o o' lt = ap (λ a. ordering_then a (nat_cmp o o')) (sym (nat_cmp_is c c' Less lt))

other_context : (c c' o o' : ℕ) → c ≢ c' → is_at (place_cmp (c, o)) (c', o') ≡ false
other_context c c' o o' apart = places_apart (c, o) (c', o') (λ e. apart (sym (ap (λ (p : ℕ × ℕ). p.0) e)))

other_offset : (c o o' : ℕ) → o ≢ o' → is_at (place_cmp (c, o)) (c, o') ≡ false
other_offset c o o' apart = places_apart (c, o) (c, o') (λ e. apart (sym (ap (λ (p : ℕ × ℕ). p.1) e)))

same_place : (p : ℕ × ℕ) → is_at (place_cmp p) p ≡ true
same_place p = ap is_eq (tied_itself place_total p)

one_context : (c o o' : ℕ) → is_at (place_cmp (c, o)) (c, o') ≡ nat_eq o' o
one_context c o o' = elim (cases_eq o' o) [
  | inl same ↦ ap (λ d. is_at (place_cmp (c, o)) (c, d)) same ∙ same_place (c, o) ∙ sym (eq-eqb o' o same)
  | inr apart ↦ other_offset c o o' (λ e. apart (sym e)) ∙ sym (ne_eqb o' o apart)
]

-- a search in the lists

no_list : (lists : List Offsets) (c : ℕ) → length lists ≤ c → list_of lists c ≡ []
no_list [] c le = refl
no_list (list ∷ lists) zero le = absurd (omega arith)
no_list (list ∷ lists) (suc c) le = no_list lists c (omega arith)

-- the list that was read
pub list_read : (lists : List Offsets) (c : ℕ) (list : Offsets) → c < length lists → list ≡ slice_index_or lists c list → list_of lists c ≡ list
list_read lists c list within read = get_or_from_slice_get lists c list [] (slice_get_read lists (length lists) c list refl within read)

or_none : (x : Option ℕ) → option_or x None ≡ x
or_none None = refl
or_none (Some n) = refl

found_here : (c o : ℕ) (list : Offsets) (es : List Point) → states_of (list_points c list ++ es) (c, o) ≡ option_or (listed list o) (states_of es (c, o))
found_here c o [] es = refl
found_here c o (e ∷ list) es =
    ap (λ b. cond b (Some e.1) (states_of (list_points c list ++ es) (c, o))) (one_context c o e.0)
    ∙ elim (nat_eq e.0 o) as (λ b. cond b (Some e.1) (states_of (list_points c list ++ es) (c, o)) ≡ option_or (if b then Some e.1 else listed list o) (states_of es (c, o))) [
      | true ↦ refl
      | false ↦ found_here c o list es
    ]

found_behind : (c c' o : ℕ) (list : Offsets) (es : List Point) → c' ≢ c → states_of (list_points c list ++ es) (c', o) ≡ states_of es (c', o)
found_behind c c' o [] es apart = refl
found_behind c c' o (e ∷ list) es apart =
    ap (λ b. cond b (Some e.1) (states_of (list_points c list ++ es) (c', o))) (other_context c' c o e.0 apart) ∙ found_behind c c' o list es apart

none_before : (b c o : ℕ) (lists : List Offsets) → c < b → states_of (lists_points b lists) (c, o) ≡ None
none_before b c o [] lt = refl
none_before b c o (list ∷ lists) lt = found_behind b c o list (lists_points (suc b) lists) (λ e. let f = e in absurd (omega arith)) ∙ none_before (suc b) c o lists (omega arith)

found_from : (b i c o : ℕ) (lists : List Offsets) → c ≡ b + i → states_of (lists_points b lists) (c, o) ≡ listed (list_of lists i) o
found_from b i c o [] is = refl
found_from b zero c o (list ∷ lists) is =
    let same : c ≡ b = omega arith in
    ap (λ x. states_of (list_points b list ++ lists_points (suc b) lists) (x, o)) same ∙ found_here b o list (lists_points (suc b) lists)
    ∙ ap (option_or (listed list o)) (none_before (suc b) b o lists (omega arith)) ∙ or_none (listed list o)
found_from b (suc i) c o (list ∷ lists) is =
    found_behind b c o list (lists_points (suc b) lists) (λ e. let f = e in absurd (omega arith)) ∙ found_from (suc b) i c o lists (omega arith)

pub lists_found : (lists : List Offsets) (p : ℕ × ℕ) → states_of (lists_points 0 lists) p ≡ listed (list_of lists p.0) p.1
lists_found lists p = found_from 0 p.0 p.0 p.1 lists (omega arith)

-- the lists' points ascend

contexts_from : (b c : ℕ) (list : Offsets) (es : List Point) → b ≤ c → AllByRecursion (λ p. b ≤ p.0) (keys_of es) → AllByRecursion (λ p. b ≤ p.0) (keys_of (list_points c list ++ es))
contexts_from b c [] es le all = all
contexts_from b c (e ∷ list) es le all = (le, contexts_from b c list es le all)

all_from : (a b : ℕ) (lists : List Offsets) → a ≤ b → AllByRecursion (λ p. a ≤ p.0) (keys_of (lists_points b lists))
all_from a b [] le = tt
all_from a b (list ∷ lists) le = contexts_from a b list (lists_points (suc b) lists) le (all_from a (suc b) lists (omega arith))

first_before : (c o : ℕ) (es : List Point) → AllByRecursion (λ p. suc c ≤ p.0) (keys_of es) → AllByRecursion (λ q. place_cmp (c, o) q ≡ Less) (keys_of es)
first_before c o [] all = tt
first_before c o (e ∷ es) all = let le = all.0 in (later_context c e.0.0 o e.0.1 (omega arith), first_before c o es all.1)

before_list : (c o : ℕ) (list : Offsets) (es : List Point) → AllByRecursion (λ f. o < f.0) list → AllByRecursion (λ p. suc c ≤ p.0) (keys_of es)
    → AllByRecursion (λ q. place_cmp (c, o) q ≡ Less) (keys_of (list_points c list ++ es))
before_list c o [] es above all = first_before c o es all
before_list c o (e ∷ list) es above all = (later_offset c o e.0 above.0, before_list c o list es above.1 all)

list_ascends : (c : ℕ) (list : Offsets) (es : List Point) → Ascends list → AllByRecursion (λ p. suc c ≤ p.0) (keys_of es) → IsStrictlySortedBy place_cmp (keys_of es)
    → IsStrictlySortedBy place_cmp (keys_of (list_points c list ++ es))
unfolding IsStrictlySortedBy
list_ascends c [] es ascends all rise = rise
list_ascends c (e ∷ list) es ascends all rise = (before_list c e.0 list es ascends.0 all, list_ascends c list es ascends.1 all rise)

rise_from : (b : ℕ) (lists : List Offsets) → ((c : ℕ) → Ascends (list_of lists c)) → IsStrictlySortedBy place_cmp (keys_of (lists_points b lists))
unfolding IsStrictlySortedBy
rise_from b [] ascends = tt
rise_from b (list ∷ lists) ascends = list_ascends b list (lists_points (suc b) lists) (ascends 0) (all_from (suc b) (suc b) lists (omega arith)) (rise_from (suc b) lists (λ c. ascends (suc c)))

-- the points of the lists, and those beside them
module _ (lists : List Offsets) (rest : List Point) (places : AreSlotLists lists rest) where
  pub lists_rise : IsStrictlySortedBy place_cmp (keys_of (lists_points 0 lists))
  lists_rise = rise_from 0 lists places.ascend

  pub places_apart_rest : AreApart (lists_points 0 lists) rest
  places_apart_rest = record {
    points_ascend = lists_rise;
    rest_ascends = places.rest_ascends;
    once = λ p n at. lists_found lists p ∙ places.unlisted p.0 p.1 n at;
  }

  -- what is at a place
  pub merged_at : (c o : ℕ) → states_of (merged (lists_points 0 lists) rest) (c, o) ≡ option_or (states_of rest (c, o)) (listed (list_of lists c) o)
  merged_at c o = merged_found (lists_points 0 lists) rest (c, o) ∙ ap (option_or (states_of rest (c, o))) (lists_found lists (c, o))

  none_behind : (c o : ℕ) → AreBelow o (list_of lists c) → states_of rest (c, o) ≡ None
  none_behind c o below = go (states_of rest (c, o)) refl
    where
      go : (x : Option ℕ) → states_of rest (c, o) ≡ x → states_of rest (c, o) ≡ None
      go None at = at
      go (Some n) at = absurd (places.early c o n at below)

  not_beside : (c o n : ℕ) → listed (list_of lists c) o ≡ Some n → states_of rest (c, o) ≡ None
  not_beside c o n is = go (states_of rest (c, o)) refl
    where
      go : (x : Option ℕ) → states_of rest (c, o) ≡ x → states_of rest (c, o) ≡ None
      go None at = at
      go (Some m) at = let both : Some n ≡ None = sym is ∙ places.unlisted c o m at in absurd (cc)

  pub found_below : (c o : ℕ) → AreBelow o (list_of lists c) → states_of (merged (lists_points 0 lists) rest) (c, o) ≡ None
  found_below c o below = merged_at c o ∙ ap (λ x. option_or x (listed (list_of lists c) o)) (none_behind c o below) ∙ listed_below o (list_of lists c) below

  pub found_beyond : (c o : ℕ) → length lists ≤ c → states_of (merged (lists_points 0 lists) rest) (c, o) ≡ None
  found_beyond c o le = let B : Offsets → Type 0 = λ list. AreBelow o list in found_below c o (subst B (sym (no_list lists c le)) tt)

  pub found_in_list : (c o n : ℕ) → listed (list_of lists c) o ≡ Some n → states_of (merged (lists_points 0 lists) rest) (c, o) ≡ Some n
  found_in_list c o n is = merged_at c o ∙ ap (λ x. option_or x (listed (list_of lists c) o)) (not_beside c o n is) ∙ is

  pub found_beside : (c o : ℕ) → listed (list_of lists c) o ≡ None → states_of (merged (lists_points 0 lists) rest) (c, o) ≡ states_of rest (c, o)
  found_beside c o is = merged_at c o ∙ ap (option_or (states_of rest (c, o))) is ∙ or_none (states_of rest (c, o))

-- empty lists

no_more_points : (c : ℕ) (lists : List Offsets) → lists_points c (lists ++ [] ∷ []) ≡ lists_points c lists
no_more_points c [] = refl
no_more_points c (list ∷ lists) = ap (λ l. list_points c list ++ l) (no_more_points (suc c) lists)

no_other_list : (lists : List Offsets) (c : ℕ) → list_of (lists ++ [] ∷ []) c ≡ list_of lists c
no_other_list [] zero = refl
no_other_list [] (suc c) = refl
no_other_list (list ∷ lists) zero = refl
no_other_list (list ∷ lists) (suc c) = no_other_list lists c

pub adds_one : (old lists new : List Offsets) → AddsLists old lists → new ≡ lists ++ [] ∷ [] → AddsLists old new
adds_one old lists new adds is = record {
  points = λ c. ap (lists_points c) is ∙ no_more_points c lists ∙ adds.points c;
  lists = λ c. ap (λ l. list_of l c) is ∙ no_other_list lists c ∙ adds.lists c;
  longer = let before = adds.longer in let long = ap length is ∙ length-append lists ([] ∷ []) in omega arith;
}

pub no_points : (c : ℕ) (lists : List Offsets) → ((i : ℕ) → list_of lists i ≡ []) → lists_points c lists ≡ []
no_points c [] empty = refl
no_points c (list ∷ lists) empty = let none : list ≡ [] = empty 0 in ap (λ r. list_points c r ++ lists_points (suc c) lists) none ∙ no_points (suc c) lists (λ i. empty (suc i))

-- the lists from one on are empty

pub used_points : (b used : ℕ) (lists : List Offsets) → ((c : ℕ) → used ≤ c → list_of lists c ≡ []) → lists_points b (take used lists) ≡ lists_points b lists
used_points b zero [] empty = refl
used_points b (suc used) [] empty = refl
used_points b zero (list ∷ lists) empty = sym (no_points b (list ∷ lists) (λ i. empty i (omega arith)))
used_points b (suc used) (list ∷ lists) empty = ap (λ l. list_points b list ++ l) (used_points (suc b) used lists (λ c le. empty (suc c) (omega arith)))

pub used_after : (used more c : ℕ) (old new : List Offsets) → AreEmptyFrom used old → AddsLists old new → c < length new → more ≡ max used (c + 1) → AreEmptyFrom more new
used_after used more c old new empty adds enough most = record {
  within = let before = empty.within in let longer = adds.longer in omega arith;
  unused = λ i le. adds.lists i ∙ empty.unused i (omega arith);
}

pub empty_behind_set : (lists : List Offsets) (c used : ℕ) (list : Offsets) → c < used → AreEmptyFrom used lists → AreEmptyFrom used (slice_set lists c list)
empty_behind_set lists c used list before empty = record {
  within = let within = empty.within in let long = length-set lists c list in omega arith;
  unused = λ c' le. get_or-set_other lists c c' list [] (λ same. let e = same in absurd (omega arith)) ∙ empty.unused c' le;
}

pub empty_before_set : (lists : List Offsets) (c used : ℕ) (list : Offsets) → ((i : ℕ) → i < c → list_of lists i ≡ []) → AreEmptyFrom used lists → c < used → list ≡ []
    → (i : ℕ) → i < c + 1 → list_of (slice_set lists c list) i ≡ []
empty_before_set lists c used list before empty lt none i le = let within = empty.within in elim (cases_eq i c) [
  | inl here ↦ ap (list_of (slice_set lists c list)) here ∙ get_or-set_same lists c list [] (omega arith) ∙ none
  | inr apart ↦ get_or-set_other lists c i list [] apart ∙ before i (omega (arith, apart))
]

none_taken : (n : ℕ) (lists : List Offsets) (c : ℕ) → list_of lists c ≡ [] → list_of (take n lists) c ≡ []
none_taken zero lists c none = refl
none_taken (suc n) [] c none = refl
none_taken (suc n) (list ∷ lists) zero none = none
none_taken (suc n) (list ∷ lists) (suc c) none = none_taken n lists c none

pub empty_behind_kept : (n used bound : ℕ) (lists kept : List Offsets) → AreEmptyFrom used lists → kept ≡ take n lists → bound ≡ min used (length kept) → AreEmptyFrom bound kept
empty_behind_kept n used bound lists kept empty is least = record {
  within = omega arith;
  unused = λ c le. elim (cases_lt c used) [
    | inl lt ↦ no_list kept c (omega arith)
    | inr from ↦ ap (λ l. list_of l c) is ∙ none_taken n lists c (empty.unused c from)
  ];
}

pub all_lists_empty : (lists : List Offsets) (used : ℕ) → ((c : ℕ) → c < used → list_of lists c ≡ []) → AreEmptyFrom used lists → (c : ℕ) → list_of lists c ≡ []
all_lists_empty lists used before empty c = elim (cases_lt c used) [
  | inl lt ↦ before c lt
  | inr from ↦ empty.unused c from
]

pub all_empty : (lists : List Offsets) → ((c : ℕ) → list_of lists c ≡ []) → AreEmptyFrom 0 lists
all_empty lists empty = record { within = omega arith; unused = λ c le. empty c }

-- no points
module _ (lists : List Offsets) (rest : List Point) (empty : (c : ℕ) → list_of lists c ≡ []) (none : rest ≡ []) where
  pub empty_merged : merged (lists_points 0 lists) rest ≡ []
  empty_merged = ap (merged (lists_points 0 lists)) none ∙ no_points 0 lists empty

  pub empty_places : length lists ≤ 4294967296 → AreSlotLists lists rest
  unfolding IsStrictlySortedBy
  empty_places fits =
      let R : Offsets → Type 0 = λ list. Ascends list in
      let S : List Point → Type 0 = λ l. IsStrictlySortedBy place_cmp (keys_of l) in
      record {
        ascend = λ c. subst R (sym (empty c)) tt;
        rest_ascends = subst S (sym none) tt;
        unlisted = λ c o n at. absurd (let both : None ≡ Some n = sym (ap (λ l. states_of l (c, o)) none) ∙ at in cc);
        early = λ c o n at. absurd (let both : None ≡ Some n = sym (ap (λ l. states_of l (c, o)) none) ∙ at in cc);
        fits = fits;
      }

-- a point that isn't there
module _ (lists : List Offsets) (rest : List Point) (places : AreSlotLists lists rest) (c o n : ℕ) (absent : states_of (merged (lists_points 0 lists) rest) (c, o) ≡ None) where
  neither : (x y : Option ℕ) → option_or x y ≡ None → (x ≡ None) × (y ≡ None)
  neither None y none = (refl, none)
  neither (Some m) y none = absurd (cc)

  absent_parts : (states_of rest (c, o) ≡ None) × (listed (list_of lists c) o ≡ None)
  absent_parts = neither (states_of rest (c, o)) (listed (list_of lists c) o) (sym (merged_at lists rest places c o) ∙ absent)

  -- it is put after its list
  module _ (within : c < length lists) (below : AreBelow o (list_of lists c)) (list : Offsets) (is : list ≡ list_of lists c ++ (o, n) ∷ []) where
    list_now : list_of (slice_set lists c list) c ≡ list_of lists c ++ (o, n) ∷ []
    list_now = get_or-set_same lists c list [] within ∙ is

    other_list : (c' : ℕ) → c' ≢ c → list_of (slice_set lists c list) c' ≡ list_of lists c'
    other_list c' apart = get_or-set_other lists c c' list [] apart

    pub put_places : AreSlotLists (slice_set lists c list) rest
    put_places =
        let R : Offsets → Type 0 = λ r. Ascends r in
        record {
          ascend = λ c'. elim (cases_eq c' c) [
            | inl here ↦ subst R (sym (ap (list_of (slice_set lists c list)) here ∙ list_now)) (ascends_pushed o n (list_of lists c) (places.ascend c) below)
            | inr apart ↦ subst R (sym (other_list c' apart)) (places.ascend c')
          ];
          rest_ascends = places.rest_ascends;
          unlisted = λ c' q m at. elim (cases_eq c' c) [
            | inl here ↦
                let at' : states_of rest (c, q) ≡ Some m = ap (λ x. states_of rest (x, q)) (sym here) ∙ at in
                ap (λ r. listed r q) (ap (list_of (slice_set lists c list)) here ∙ list_now) ∙ listed_pushed o n (list_of lists c) q below
                ∙ ap (λ b. cond b (Some n) (listed (list_of lists c) q))
                (ne_eqb o q (λ same. let both : Some m ≡ None = sym at' ∙ ap (λ x. states_of rest (c, x)) (sym same) ∙ absent_parts.0 in absurd (cc)))
                ∙ places.unlisted c q m at'
            | inr apart ↦ ap (λ r. listed r q) (other_list c' apart) ∙ places.unlisted c' q m at
          ];
          early = λ c' q m at smaller.
              let B : Offsets → Type 0 = λ r. AreBelow q r in
              elim (cases_eq c' c) [
                | inl here ↦
                    let all : AreBelow q (list_of lists c ++ (o, n) ∷ []) = subst B (ap (list_of (slice_set lists c list)) here ∙ list_now) smaller in
                    places.early c q m (ap (λ x. states_of rest (x, q)) (sym here) ∙ at) (below_first q (list_of lists c) ((o, n) ∷ []) all)
                | inr apart ↦ places.early c' q m at (subst B (other_list c' apart) smaller)
              ];
          fits = let fits = places.fits in let long = length-set lists c list in omega arith;
        }

    put_found : (p : ℕ × ℕ) → states_of (lists_points 0 (slice_set lists c list)) p ≡ cond (is_at (place_cmp p) (c, o)) (Some n) (states_of (lists_points 0 lists) p)
    put_found p = lists_found (slice_set lists c list) p ∙ at p ∙ ap (cond (is_at (place_cmp p) (c, o)) (Some n)) (sym (lists_found lists p))
      where
        at : (p : ℕ × ℕ) → listed (list_of (slice_set lists c list) p.0) p.1 ≡ cond (is_at (place_cmp p) (c, o)) (Some n) (listed (list_of lists p.0) p.1)
        at (c', q) = elim (cases_eq c' c) [
          | inl here ↦
              ap (λ x. listed (list_of (slice_set lists c list) x) q) here ∙ ap (λ r. listed r q) list_now ∙ listed_pushed o n (list_of lists c) q below
              ∙ ap (λ b. cond b (Some n) (listed (list_of lists c) q)) (sym (one_context c q o))
              ∙ ap (λ x. cond (is_at (place_cmp (x, q)) (c, o)) (Some n) (listed (list_of lists x) q)) (sym here)
          | inr apart ↦
              ap (λ r. listed r q) (other_list c' apart) ∙ sym (ap (λ b. cond b (Some n) (listed (list_of lists c') q)) (other_context c' c q o apart))
        ]

    pub put_merged : merged (lists_points 0 (slice_set lists c list)) rest ≡ insert_entry place_cmp (merged (lists_points 0 lists) rest) (c, o) n
    put_merged =
        merged_points (lists_points 0 lists) (lists_points 0 (slice_set lists c list)) rest (c, o) n (lists_rise lists rest places) (lists_rise (slice_set lists c list) rest put_places)
        put_found absent_parts.0

  -- it is put beside the lists
  module _ (behind : AreBelow o (list_of lists c) → ⊥) where
    pub beside_places : AreSlotLists lists (insert_entry place_cmp rest (c, o) n)
    beside_places = record {
      ascend = places.ascend;
      rest_ascends = insert_ascends rest (c, o) n places.rest_ascends;
      unlisted = λ c' q m at. at_place (c', q) m (place_cmp (c', q) (c, o)) refl (sym (insert_found rest (c, o) n (c', q)) ∙ at);
      early = λ c' q m at. not_below (c', q) m (place_cmp (c', q) (c, o)) refl (sym (insert_found rest (c, o) n (c', q)) ∙ at);
      fits = places.fits;
    }
      where
        at_place : (p : ℕ × ℕ) (m : ℕ) (r : Ordering) → place_cmp p (c, o) ≡ r → cond (is_eq r) (Some n) (states_of rest p) ≡ Some m → listed (list_of lists p.0) p.1 ≡ None
        at_place p m Less e at = places.unlisted p.0 p.1 m at
        at_place p m Equal e at = ap (λ (x : ℕ × ℕ). listed (list_of lists x.0) x.1) (place_exact p (c, o) e) ∙ absent_parts.1
        at_place p m Greater e at = places.unlisted p.0 p.1 m at

        not_below : (p : ℕ × ℕ) (m : ℕ) (r : Ordering) → place_cmp p (c, o) ≡ r → cond (is_eq r) (Some n) (states_of rest p) ≡ Some m → AreBelow p.1 (list_of lists p.0) → ⊥
        not_below p m Less e at = places.early p.0 p.1 m at
        not_below p m Equal e at =
            let B : ℕ × ℕ → Type 0 = λ x. AreBelow x.1 (list_of lists x.0) in
            λ below. behind (subst B (place_exact p (c, o) e) below)
        not_below p m Greater e at = places.early p.0 p.1 m at

    pub beside_merged : merged (lists_points 0 lists) (insert_entry place_cmp rest (c, o) n) ≡ insert_entry place_cmp (merged (lists_points 0 lists) rest) (c, o) n
    beside_merged = merged_rest (lists_points 0 lists) rest (c, o) n (lists_rise lists rest places)

  -- the same where the list was read
  module _ (within : c < length lists) (list : Offsets) (read : list ≡ slice_index_or lists c list) where
    list_is : list_of lists c ≡ list
    list_is = list_read lists c list within read

    lists_same : (list' : Offsets) → list' ≡ list → slice_set lists c list' ≡ lists
    lists_same list' same = ap (slice_set lists c) (same ∙ sym list_is) ∙ set-get_or lists c []

    -- and the point was put after it, if there was memory
    module _ (below : AreBelow o list) (list' : Offsets) where
      below_list : AreBelow o (list_of lists c)
      below_list = let B : Offsets → Type 0 = λ r. AreBelow o r in subst B (sym list_is) below

      longer : list' ≡ list ++ (o, n) ∷ [] → list' ≡ list_of lists c ++ (o, n) ∷ []
      longer is = is ∙ ap (λ r. r ++ (o, n) ∷ []) (sym list_is)

      pub pushed_places : {E : Type 0} (r : Result (Unit {0}) E) → OnOk r (list' ≡ list ++ (o, n) ∷ []) → OnErr r (list' ≡ list) → AreSlotLists (slice_set lists c list') rest
      pushed_places (Ok u) is same = put_places within below_list list' (longer is)
      pushed_places (Err e) is same = let P : List Offsets → Type 0 = λ l. AreSlotLists l rest in subst P (sym (lists_same list' same)) places

      pub pushed_merged : {E : Type 0} (r : Result (Unit {0}) E) → OnOk r (list' ≡ list ++ (o, n) ∷ [])
          → OnOk r (merged (lists_points 0 (slice_set lists c list')) rest ≡ insert_entry place_cmp (merged (lists_points 0 lists) rest) (c, o) n)
      pushed_merged (Ok u) is = put_merged within below_list list' (longer is)
      pushed_merged (Err e) is = tt

    -- or beside the lists
    module _ (behind : AreBelow o list → ⊥) (rest' : List Point) (is : rest' ≡ insert_entry place_cmp rest (c, o) n) where
      behind_list : AreBelow o (list_of lists c) → ⊥
      behind_list below = let B : Offsets → Type 0 = λ r. AreBelow o r in behind (subst B list_is below)

      pub inserted_places : AreSlotLists (slice_set lists c list) rest'
      inserted_places =
          let P : List Offsets → Type 0 = λ l. AreSlotLists l rest' in
          let Q : List Point → Type 0 = λ l. AreSlotLists lists l in
          subst P (sym (lists_same list refl)) (subst Q (sym is) (beside_places behind_list))

      pub inserted_merged : merged (lists_points 0 (slice_set lists c list)) rest' ≡ insert_entry place_cmp (merged (lists_points 0 lists) rest) (c, o) n
      inserted_merged = ap (λ l. merged (lists_points 0 l) rest') (lists_same list refl) ∙ ap (merged (lists_points 0 lists)) is ∙ beside_merged behind_list

-- a point that is put in is one more
pub one_point_more : (lists lists' : List Offsets) (rest points : List Point) (k : ℕ × ℕ) (n count : ℕ) → AreSlotLists lists rest → AddsLists lists lists' → states_of (merged (lists_points 0 lists) rest) k ≡ None
    → points ≡ insert_entry place_cmp (merged (lists_points 0 lists') rest) k n → count ≡ length (merged (lists_points 0 lists) rest) → count + 1 ≡ length points
one_point_more lists lists' rest points k n count places adds absent is same =
    let rise = merged_ascends (lists_points 0 lists) rest (lists_rise lists rest places) in
    let long = insert_length (merged (lists_points 0 lists) rest) k n rise absent in
    let total = ap length (is ∙ ap (λ l. insert_entry place_cmp (merged l rest) k n) (adds.points 0)) in
    omega arith
