-- The numbers that were found are in the order of the file.
use Rattle.std.specs.Prelude.{◌≡◌, ◌==◌, ◌||◌, ℕ, ◌+◌, ◌≤◌, ◌<◌, true, Option, Some, List, [], ◌∷◌, length, slice_index_or, slice_get, zero, suc}
use Rattle.std.specs.declared.cmp.Ordering.TheVariants.{Less, Equal}
use Rattle.std.specs.List.{list_any, IsDistinct}
use Rattle.std.specs.BTreeMap.{BTreeMap}
use Rattle.std.proofs.Common.{refl, sym, ◌∙◌, ap, subst, arith, inl, inr}
use Rattle.std.proofs.lemmas.Bool.{cases_Bool, cases_lt}
use Rattle.std.proofs.lemmas.Cmp.{tied_itself}
use Rattle.std.proofs.lemmas.Map.Keys.{IsDistinct-from_apart}
use Rattle.std.proofs.lemmas.Map.Steps.{length-le_from_distinct_below}
use Rattle.std.proofs.lemmas.Option.{slice_get_within, slice_get-get_or, get_or_from_slice_get}
use Rattle.tt_code.specs.declared.machine.Frame.{Frame}
use Rattle.tt_abs.specs.declared.state.State.{State}
use Rattle.tt_family.specs.Contexts.{frames_of}
use Rattle.tt_family.specs.Contents.{Contents, frames_at}
use Rattle.tt_family.specs.Built.{Key, key_cmp, key_of, IsBuilt}
use Rattle.tt_family.specs.Ascending.{IsContextAt, IsAscending}
use Rattle.tt_family.specs.Representation.FileOrder.{in_order, IsFileOrder}
use Rattle.tt_family.proofs.Adding.{at_entry, length_is, family_is, cons_same, key_same, frame_same}
use Rattle.tt_family.proofs.Queues.{IsQueue, under, map_back, map_at, is_number}
use Rattle.tt_family.proofs.Ascending.{entry_at, key_total}

-- the frame of a key
abbrev frame_of : Key → Frame
frame_of k = record { body = k.2; call = k.1; turn = k.3; count = k.4 }

-- distinct numbers below n are at most n
module _ (order : List ℕ) (count : ℕ) (within : (i n : ℕ) → slice_get order i ≡ Some n → n < count)
    (once : (i j n : ℕ) → i < j → slice_get order i ≡ Some n → slice_get order j ≡ Some n → ⊥) where
  place_from_any : (xs : List ℕ) (q : ℕ) → list_any (λ x. q == x) xs ≡ true → (i : ℕ) × (slice_get xs i ≡ Some q)
  place_from_any [] q e = absurd (cc)
  place_from_any (x ∷ xs) q e = elim (cases_Bool (q == x)) [
    | inl here ↦ (0, ap Some (sym (is_number q x here)))
    | inr other ↦ let (i, at) = place_from_any xs q (ap (λ b. b || list_any (λ x. q == x) xs) (sym other) ∙ e) in (suc i, at)
  ]

  pub at_most : length order ≤ count
  at_most = length-le_from_distinct_below order count distinct (λ q e. let (i, at) = place_from_any order q e in within i q at)
    where
      distinct : IsDistinct (λ x y. x == y) order
      distinct = IsDistinct-from_apart (λ x y. x == y) order (λ i j d lt less.
          elim (cases_Bool (slice_index_or order i d == slice_index_or order j d)) [
            | inl same ↦
                let e = is_number (slice_index_or order i d) (slice_index_or order j d) same in
                absurd (once i j (slice_index_or order i d) lt (slice_get-get_or order i d (omega arith)) (slice_get-get_or order j d less ∙ ap Some (sym e)))
            | inr apart ↦ apart
          ])

-- the contexts of the order
module _ (contexts : List (List Frame)) (order : List ℕ) where
  pub length-in_order : length (in_order contexts order) ≡ length order
  length-in_order = go order
    where
      go : (xs : List ℕ) → length (in_order contexts xs) ≡ length xs
      go [] = refl
      go (x ∷ xs) = let ih = go xs in omega arith

  pub frames_in_order : (i n : ℕ) → slice_get order i ≡ Some n → frames_at (in_order contexts order) i ≡ frames_at contexts n
  frames_in_order i n at = get_or_from_slice_get (in_order contexts order) i (frames_at contexts n) [] (map_at (frames_at contexts) order i n at)

  pub number_in_order : (i : ℕ) → i < length (in_order contexts order) → (n : ℕ) × (slice_get order i ≡ Some n)
  number_in_order i lt = let long = length-in_order in (slice_index_or order i 0, slice_get-get_or order i 0 (omega arith))

module _ (entries : List (ℕ × Frame)) (index : BTreeMap Key ℕ) (states : List ((ℕ × ℕ) × State)) (v : Contents)
    (is : ◌≡◌ {A = Contents} (record { contexts = frames_of entries; states = states }) v) (built : IsBuilt entries index states)
    (order : List ℕ) (i : ℕ) (queue : IsQueue index order i) where
  first : slice_get order 0 ≡ Some 0
  first = ap (λ l. slice_get l 0) queue.is

  found_at : (a n : ℕ) → slice_get order (suc a) ≡ Some n → (x : Key × ℕ) × (slice_get queue.found a ≡ Some x) × (n ≡ x.1)
  found_at a n at = map_back (λ (x : Key × ℕ). x.1) queue.found a n (ap (λ l. slice_get l (suc a)) (sym queue.is) ∙ at)

  number_at : (a : ℕ) (x : Key × ℕ) → slice_get queue.found a ≡ Some x → slice_get order (suc a) ≡ Some x.1
  number_at a x at = ap (λ l. slice_get l (suc a)) queue.is ∙ map_at (λ (y : Key × ℕ). y.1) queue.found a x at

  -- the entry of a context that was found
  entry_found : (a : ℕ) (x : Key × ℕ) → slice_get queue.found a ≡ Some x → (p : ℕ) × (k : ℕ) × (x.0.0 < i) × (x.0.0 ≤ a) × (slice_get order x.0.0 ≡ Some p) × (x.1 ≡ k + 1)
      × (slice_get entries k ≡ Some (p, frame_of x.0))
  entry_found a x at =
      let one = queue.each a x at in
      let (k, e, n_is, at_k, key) = built.indexed (under one.parent x.0) x.1 one.indexed in
      let same : e ≡ (one.parent, frame_of x.0) = frame_same e (one.parent, frame_of x.0) key in
      (one.parent, k, one.done, one.before, one.at, n_is, at_k ∙ ap Some same)

  pub within : (a n : ℕ) → slice_get order a ≡ Some n → n < length v.contexts
  within zero n at = let one : Some 0 ≡ Some n = sym first ∙ at in let n_is : 0 ≡ n = cc in let long = length_is entries index states v is built in omega arith
  within (suc a) n at =
      let (x, at_x, n_is) = found_at a n at in
      let (p, k, _, _, _, x_is, at_k) = entry_found a x at_x in
      let lt = slice_get_within entries k (p, frame_of x.0) at_k in
      let long = length_is entries index states v is built in
      omega arith

  -- no number twice
  apart : (most a b n : ℕ) → b < most → a < b → slice_get order a ≡ Some n → slice_get order b ≡ Some n → ⊥
  apart zero a b n lt less at_a at_b = omega arith
  apart (suc most) a zero n lt less at_a at_b = omega arith
  apart (suc most) zero (suc b) n lt less at_a at_b =
      let one : Some 0 ≡ Some n = sym first ∙ at_a in
      let n_is : 0 ≡ n = cc in
      let (x, at_x, n_is') = found_at b n at_b in
      let (p, k, _, _, _, x_is, at_k) = entry_found b x at_x in
      omega arith
  apart (suc most) (suc a) (suc b) n lt less at_a at_b =
      let (x, at_x, n_is) = found_at a n at_a in
      let (y, at_y, n_is') = found_at b n at_b in
      let (p, k, _, x_before, x_parent, x_is, at_k) = entry_found a x at_x in
      let (q, l, _, y_before, y_parent, y_is, at_l) = entry_found b y at_y in
      let same : k ≡ l = omega arith in
      let both : ◌≡◌ {A = Option (ℕ × Frame)} (Some (p, frame_of x.0)) (Some (q, frame_of y.0)) = sym at_k ∙ ap (slice_get entries) same ∙ at_l in
      let entry : ◌≡◌ {A = ℕ × Frame} (p, frame_of x.0) (q, frame_of y.0) = cc in
      let parents : p ≡ q = ap (λ (e : ℕ × Frame). e.0) entry in
      elim (cases_lt x.0.0 y.0.0) [
        | inl lower ↦ apart most x.0.0 y.0.0 q (omega arith) lower (x_parent ∙ ap Some parents) y_parent
        | inr not_lower ↦ elim (cases_lt y.0.0 x.0.0) [
          | inl higher ↦ apart most y.0.0 x.0.0 q (omega arith) higher y_parent (x_parent ∙ ap Some parents)
          | inr not_higher ↦
              let place : x.0.0 ≡ y.0.0 = omega arith in
              let key : x.0 ≡ y.0 = λ t. (place t, (entry t).1.call, (entry t).1.body, (entry t).1.turn, (entry t).1.count) in
              let ascends : key_cmp x.0 y.0 ≡ Less = queue.ascends a b x y (omega arith) at_x at_y in
              let ties : key_cmp x.0 y.0 ≡ Equal = ap (key_cmp x.0) (sym key) ∙ tied_itself key_total x.0 in
              cc
        ]
      ]

  once : (a b n : ℕ) → a < b → slice_get order a ≡ Some n → slice_get order b ≡ Some n → ⊥
  once a b n lt = apart (b + 1) a b n (omega arith) lt

  pub few_found : length order ≤ length v.contexts
  few_found = at_most order (length v.contexts) within once

  listed_at : (k : Key) (n : ℕ) → (a : ℕ) × (slice_get queue.found a ≡ Some (k, n)) → (b : ℕ) × (slice_get order b ≡ Some n)
  listed_at k n (a, at) = (suc a, number_at a (k, n) at)

  -- where the children of all were searched each context was found
  all_found : length order ≤ i → (most n : ℕ) → n < most → n < length v.contexts → (a : ℕ) × (slice_get order a ≡ Some n)
  all_found done zero n lt there = absurd (omega arith)
  all_found done (suc most) zero lt there = (0, first)
  all_found done (suc most) (suc k) lt there =
      let long = length_is entries index states v is built in
      let (e, at_k) = entry_at entries k (omega arith) in
      let before = built.parents k e at_k in
      let (j, at_j) = all_found done most e.0 (omega arith) (omega arith) in
      let less = slice_get_within order j e.0 at_j in
      let n_is : k + 1 ≡ suc k = omega arith in
      listed_at (under j (key_of e)) (suc k) (queue.all j e.0 (key_of e) (suc k) (omega arith) at_j refl (built.found k e at_k ∙ ap Some n_is))

  -- a context that was found, in the order
  found_stands : (a : ℕ) (x : Key × ℕ) → slice_get queue.found a ≡ Some x → IsContextAt (in_order v.contexts order) (suc a) (x.0.0, frame_of x.0)
  found_stands a x at =
      let (p, k, _, before, parent, x_is, at_k) = entry_found a x at in
      let at_n = number_at a x at in
      let lt = slice_get_within order (suc a) x.1 at_n in
      let long = length-in_order v.contexts order in (
        omega arith,
        omega arith,
        frames_in_order v.contexts order (suc a) x.1 at_n ∙ ap (frames_at v.contexts) x_is ∙ at_entry entries index states v is built k (p, frame_of x.0) at_k
            ∙ ap (λ l. frame_of x.0 ∷ l) (sym (frames_in_order v.contexts order x.0.0 p parent)),
      )

  distinct : (a b : ℕ) → a < length (in_order v.contexts order) → b < length (in_order v.contexts order)
      → frames_at (in_order v.contexts order) a ≡ frames_at (in_order v.contexts order) b → a ≡ b
  distinct a b lt_a lt_b same =
      let (m, at_m) = number_in_order v.contexts order a lt_a in
      let (n, at_n) = number_in_order v.contexts order b lt_b in
      let family = family_is entries index states v is built in
      let one : m ≡ n = family.distinct m n (within a m at_m) (within b n at_n) (sym (frames_in_order v.contexts order a m at_m) ∙ same ∙ frames_in_order v.contexts order b n at_n) in
      elim (cases_lt a b) [
        | inl less ↦ absurd (once a b n less (at_m ∙ ap Some one) at_n)
        | inr not_less ↦ elim (cases_lt b a) [
          | inl more ↦ absurd (once b a n more at_n (at_m ∙ ap Some one))
          | inr not_more ↦ omega arith
        ]
      ]

  found_of : (a : ℕ) → 0 < a → a < length (in_order v.contexts order) → (b : ℕ) × (x : Key × ℕ) × (a ≡ suc b) × (slice_get queue.found b ≡ Some x)
  found_of zero some lt = absurd (omega arith)
  found_of (suc b) some lt =
      let (n, at_n) = number_in_order v.contexts order (suc b) lt in
      let (x, at_x, _) = found_at b n at_n in
      (b, x, refl, at_x)

  -- a context's key is the one by which it was found
  key_is : (a : ℕ) (x : Key × ℕ) (d : ℕ × Frame) → slice_get queue.found a ≡ Some x → IsContextAt (in_order v.contexts order) (suc a) d → x.0 ≡ key_of d
  key_is a x d at stands =
      let mine = found_stands a x at in
      let both = cons_same (frame_of x.0) d.1 (frames_at (in_order v.contexts order) x.0.0) (frames_at (in_order v.contexts order) d.0) (sym mine.2 ∙ stands.2) in
      let lt = stands.0 in
      let before = stands.1 in
      let before' = mine.1 in
      key_same (x.0.0, frame_of x.0) d (distinct x.0.0 d.0 (omega arith) (omega arith) both.0) both.1

  ascending : IsAscending (in_order v.contexts order)
  ascending = record {
    parents = λ n some lt.
        let (a, x, n_is, at) = found_of n some lt in
        let S : ℕ → Type 0 = λ m. IsContextAt (in_order v.contexts order) m (x.0.0, frame_of x.0) in
        ((x.0.0, frame_of x.0), subst S (sym n_is) (found_stands a x at));
    ascends = λ m n d e less at_d at_e.
        let some = at_d.1 in
        let (a, x, m_is, at_x) = found_of m (omega arith) at_d.0 in
        let (b, y, n_is, at_y) = found_of n (omega arith) at_e.0 in
        let S : ℕ × Frame → ℕ → Type 0 = λ z k. IsContextAt (in_order v.contexts order) k z in
        let key_x = key_is a x d at_x (subst (S d) m_is at_d) in
        let key_y = key_is b y e at_y (subst (S e) n_is at_e) in
        ap (λ k. key_cmp k (key_of e)) (sym key_x) ∙ ap (key_cmp x.0) (sym key_y) ∙ queue.ascends a b x y (omega arith) at_x at_y;
  }

  pub IsFileOrder-from : length order ≤ i → IsFileOrder v.contexts order
  IsFileOrder-from done = record {
    first = first;
    within = within;
    once = λ a b n at_a at_b. elim (cases_lt a b) [
      | inl less ↦ absurd (once a b n less at_a at_b)
      | inr not_less ↦ elim (cases_lt b a) [
        | inl more ↦ absurd (once b a n more at_b at_a)
        | inr not_more ↦ omega arith
      ]
    ];
    all = λ n lt. all_found done (n + 1) n (omega arith) lt;
    ascending = ascending;
  }

-- a number that was read
pub read_at : (items order : List ℕ) (i x : ℕ) → items ≡ order → x ≡ slice_index_or items i x → i < length items → slice_get order i ≡ Some x
read_at items order i x same read lt = ap (λ l. slice_get l i) (sym same) ∙ slice_get-get_or items i x lt ∙ ap Some (sym read)
