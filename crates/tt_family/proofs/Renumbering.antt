-- Contexts that get the places of an order as their numbers.
use Rattle.std.specs.Prelude.{◌≡◌, ◌≢◌, ◌⊎◌, ℕ, ◌+◌, ◌≤◌, ◌<◌, Some, Err, IfErr, IsErrAnd, Option, Result, List, [], ◌∷◌, ◌++◌, length, slice_index_or, slice_get, slice_set, take, zero, suc}
use Rattle.std.proofs.Common.{refl, sym, ◌∙◌, ap, subst, arith, inl, inr}
use Rattle.std.proofs.lemmas.Bool.{cases_lt}
use Rattle.std.proofs.lemmas.List.{take_more, map-append}
use Rattle.std.proofs.lemmas.Option.{slice_get_within, slice_get-get_or, get_or_from_slice_get}
use Rattle.tt_code.specs.declared.machine.Frame.{Frame}
use Rattle.tt_family.specs.Contents.{Contents, IsFamily, AddsContext, frames_at}
use Rattle.tt_family.specs.Ascending.{AreMoved}
use Rattle.tt_setting.specs.declared.failed.Failed.{Failed}
use Rattle.tt_setting.specs.declared.step_fault.StepFault.{StepFault}
use Rattle.tt_setting.specs.Refusals.{ForFailed}
use Rattle.tt_setting.specs.Refusals.{IsOutOfMemory}
use Rattle.tt_abs.proofs.StepLemmas.{passed_on}
use Rattle.tt_abs.proofs.Told.{for_failed}
use Rattle.tt_family.specs.Representation.FileOrder.{IsFileOrder, ArePlaces, in_order}
use Rattle.tt_family.proofs.Adding.{cons_same}
use Rattle.tt_family.proofs.FileOrders.{at_most, frames_in_order, length-in_order, number_in_order}
use Rattle.tt_family.proofs.Moves.{has_context}

set_here : {A : Type 0} (xs : List A) (i : ℕ) (y : A) → i < length xs → slice_get (slice_set xs i y) i ≡ Some y
set_here [] i y lt = absurd (omega arith)
set_here (x ∷ xs) zero y lt = refl
set_here (x ∷ xs) (suc i) y lt = set_here xs i y (omega arith)

set_other : {A : Type 0} (xs : List A) (i k : ℕ) (y : A) → k ≢ i → slice_get (slice_set xs i y) k ≡ slice_get xs k
set_other [] i k y apart = refl
set_other (x ∷ xs) zero zero y apart = absurd (apart refl)
set_other (x ∷ xs) zero (suc k) y apart = refl
set_other (x ∷ xs) (suc i) zero y apart = refl
set_other (x ∷ xs) (suc i) (suc k) y apart = set_other xs i k y (λ e. apart (ap suc e))

-- an order has at most as many numbers as there are contexts
pub order_few : (contexts : List (List Frame)) (order : List ℕ) → IsFileOrder contexts order → length order ≤ length contexts
order_few contexts order file = at_most order (length contexts) file.within (λ i j n lt at_i at_j. let e = file.once i j n at_i at_j in omega arith)

-- the places of the first numbers
pub record ArePlacesSoFar (contexts : List (List Frame)) (order places : List ℕ) (i : ℕ) : Type 0 where
  pub long : length places ≡ length contexts
  pub at : (k n : ℕ) → k < i → slice_get order k ≡ Some n → slice_get places n ≡ Some k

pub places_step : (contexts : List (List Frame)) (order places : List ℕ) (i d : ℕ) → IsFileOrder contexts order → ArePlacesSoFar contexts order places i → i < length order
    → ArePlacesSoFar contexts order (slice_set places (slice_index_or order i d) i) (i + 1)
places_step contexts order places i d file before lt =
    let at_i = slice_get-get_or order i d lt in
    let within = file.within i (slice_index_or order i d) at_i in
    let long = before.long in
    record {
      long = set_length places (slice_index_or order i d) i ∙ before.long;
      at = λ k n less at_k. elim (cases_lt k i) [
        | inl old ↦
            set_other places (slice_index_or order i d) n i
            (λ e. let same = file.once k i (slice_index_or order i d) (at_k ∙ ap Some e) at_i in omega arith)
            ∙ before.at k n old at_k
        | inr new ↦
            let k_is : k ≡ i = omega arith in
            let both : ◌≡◌ {A = Option ℕ} (Some n) (Some (slice_index_or order i d)) = sym at_k ∙ ap (slice_get order) k_is ∙ at_i in
            let n_is : n ≡ slice_index_or order i d = cc in
            ap (slice_get (slice_set places (slice_index_or order i d) i)) n_is ∙ set_here places (slice_index_or order i d) i (omega arith) ∙ ap Some (sym k_is)
      ];
    }
  where
    set_length : (xs : List ℕ) (i y : ℕ) → length (slice_set xs i y) ≡ length xs
    set_length [] i y = refl
    set_length (x ∷ xs) zero y = refl
    set_length (x ∷ xs) (suc i) y = let ih = set_length xs i y in omega arith

pub ArePlaces-from : (contexts : List (List Frame)) (order places : List ℕ) (i : ℕ) → ArePlacesSoFar contexts order places i → length order ≤ i → ArePlaces contexts order places
ArePlaces-from contexts order places i so_far end = record {
  long = so_far.long;
  at = λ k n at_k. let lt = slice_get_within order k n at_k in so_far.at k n (omega arith) at_k;
}

-- the contexts of the first numbers
abbrev pub first_of : List (List Frame) → List ℕ → ℕ → List (List Frame)
first_of contexts order i = in_order contexts (take i order)

module _ (v : Contents) (order : List ℕ) (family : IsFamily v) (file : IsFileOrder v.contexts order) where
  order_some : 0 < length order
  order_some = slice_get_within order 0 0 file.first

  pub first_context : first_of v.contexts order 1 ≡ [] ∷ []
  first_context = go order file.first
    where
      none : (xs : List ℕ) → in_order v.contexts (take 0 xs) ≡ []
      none [] = refl
      none (x ∷ xs) = refl

      go : (xs : List ℕ) → slice_get xs 0 ≡ Some 0 → first_of v.contexts xs 1 ≡ [] ∷ []
      go [] at = cc
      go (x ∷ xs) at = let x_is : x ≡ 0 = cc in let one = ap (frames_at v.contexts) x_is ∙ family.main in λ t. one t ∷ none xs t

  pub all_contexts : (i : ℕ) → length order ≤ i → first_of v.contexts order i ≡ in_order v.contexts order
  all_contexts i le = go order i le
    where
      go : (xs : List ℕ) (i : ℕ) → length xs ≤ i → first_of v.contexts xs i ≡ in_order v.contexts xs
      go [] zero le = refl
      go [] (suc i) le = refl
      go (x ∷ xs) zero le = absurd (omega arith)
      go (x ∷ xs) (suc i) le = ap (λ l. frames_at v.contexts x ∷ l) (go xs i (omega arith))

  module _ (i n : ℕ) (at : slice_get order i ≡ Some n) where
    one_more : first_of v.contexts order (i + 1) ≡ first_of v.contexts order i ++ frames_at v.contexts n ∷ []
    one_more =
        let lt = slice_get_within order i n at in
        let read : slice_index_or order i n ≡ n = get_or_from_slice_get order i n n at in
        ap (in_order v.contexts) (take_more order i n lt) ∙ map-append (frames_at v.contexts) (take i order) (slice_index_or order i n ∷ [])
        ∙ ap (λ m. first_of v.contexts order i ++ frames_at v.contexts m ∷ []) read

    first_long : length (first_of v.contexts order i) ≡ i
    first_long = let lt = slice_get_within order i n at in length-in_order v.contexts (take i order) ∙ take_long order i (omega arith)
      where
        take_long : (xs : List ℕ) (i : ℕ) → i ≤ length xs → length (take i xs) ≡ i
        take_long [] zero le = refl
        take_long [] (suc i) le = absurd (omega arith)
        take_long (x ∷ xs) zero le = refl
        take_long (x ∷ xs) (suc i) le = let ih = take_long xs i (omega arith) in omega arith

    first_at : (k m : ℕ) → k < i → slice_get order k ≡ Some m → frames_at (first_of v.contexts order i) k ≡ frames_at v.contexts m
    first_at k m less at_k = frames_in_order v.contexts (take i order) k m (take_at order i k less at_k)
      where
        take_at : (xs : List ℕ) (i k : ℕ) → k < i → slice_get xs k ≡ Some m → slice_get (take i xs) k ≡ Some m
        take_at [] i k less at = absurd (cc)
        take_at (x ∷ xs) zero k less at = absurd (omega arith)
        take_at (x ∷ xs) (suc i) zero less at = at
        take_at (x ∷ xs) (suc i) (suc k) less at = take_at xs i k (omega arith) at

    -- a context's parent has its place before
    pub parent_before : 0 < i → (parent : ℕ) (frame : Frame) → parent < n → frames_at v.contexts n ≡ frame ∷ frames_at v.contexts parent
        → (j : ℕ) × (j < i) × (slice_get order j ≡ Some parent)
    parent_before some parent frame below here =
        let lt = slice_get_within order i n at in
        let long = length-in_order v.contexts order in
        let (e, stands) = file.ascending.parents i some (omega arith) in
        let before = stands.1 in
        let (q, at_q) = number_in_order v.contexts order e.0 (omega arith) in
        let both = cons_same e.1 frame (frames_at (in_order v.contexts order) e.0) (frames_at v.contexts parent) (sym stands.2 ∙ frames_in_order v.contexts order i n at ∙ here) in
        let within = file.within i n at in
        let same : q ≡ parent = family.distinct q parent (file.within e.0 q at_q) (omega arith) (sym (frames_in_order v.contexts order e.0 q at_q) ∙ both.0) in
        (e.0, before, at_q ∙ ap Some same)

    pub not_main : 0 < i → n ≢ 0
    not_main some e = let same = file.once i 0 0 (at ∙ ap Some e) file.first in omega arith

    -- the context that was added is the next of the order
    pub added_next : (new new' : List (List Frame)) (m : ℕ) (frames : List Frame) → new ≡ first_of v.contexts order i → frames ≡ frames_at v.contexts n → AddsContext new new' frames m
        → new' ≡ first_of v.contexts order (i + 1)
    added_next new new' m frames new_is frames_is adds = elim adds.how [
      | inl old ↦
          let long = ap length new_is ∙ first_long in
          let lt = slice_get_within order i n at in
          let less : m < i = let there = old.0 in omega arith in
          let k : ℕ = slice_index_or order m 0 in
          let at_m : slice_get order m ≡ Some k = slice_get-get_or order m 0 (omega arith) in
          let both : frames_at v.contexts k ≡ frames_at v.contexts n =
          sym (first_at m k less at_m) ∙ sym (ap (λ l. frames_at l m) (old.1 ∙ new_is)) ∙ adds.at ∙ frames_is in
          let same : k ≡ n = family.distinct k n (file.within m k at_m) (file.within i n at) both in
          let place : m ≡ i = file.once m i n (at_m ∙ ap Some same) at in
          absurd (omega arith)
      | inr more ↦
          more.2 ∙ ap (λ l. l ++ frames ∷ []) new_is ∙ ap (λ f. first_of v.contexts order i ++ f ∷ []) frames_is ∙ sym one_more
    ]

    -- there are fewer contexts than the order has
    pub first_few : (new : List (List Frame)) → new ≡ first_of v.contexts order i → length new < 65535
    first_few new new_is =
        let long = ap length new_is ∙ first_long in
        let lt = slice_get_within order i n at in
        let few = order_few v.contexts order file in
        let most = family.few in
        omega arith

    pub parent_frames : (new : List (List Frame)) → new ≡ first_of v.contexts order i → (j parent : ℕ) → j < i → slice_get order j ≡ Some parent
        → (j < length new) × (frames_at new j ≡ frames_at v.contexts parent)
    parent_frames new new_is j parent less at_j =
        let long = ap length new_is ∙ first_long in
        (omega arith, ap (λ l. frames_at l j) new_is ∙ first_at j parent less at_j)

  -- where all have moved
  pub AreMoved-from : (places : List ℕ) → ArePlaces v.contexts order places → AreMoved v.contexts (in_order v.contexts order) places
  AreMoved-from places are = record {
    long = are.long;
    moved = λ c n known.
        let long = are.long in
        let lt = slice_get_within places c n known in
        let (i, at_i) = file.all c (omega arith) in
        let both : ◌≡◌ {A = Option ℕ} (Some n) (Some i) = sym known ∙ are.at i c at_i in
        let n_is : n ≡ i = cc in
        let within = slice_get_within order i c at_i in
        let all = length-in_order v.contexts order in
        (omega arith, ap (frames_at (in_order v.contexts order)) n_is ∙ frames_in_order v.contexts order i c at_i);
    mine = λ n lt.
        let (m, at_m) = number_in_order v.contexts order n lt in
        has_context v.contexts m (frames_at (in_order v.contexts order) n) (file.within n m at_m) (sym (frames_in_order v.contexts order n m at_m));
  }

-- a fault of which no test can be the cause is out of memory
pub only_memory : {A B : Type 0} (result : Result A StepFault) (r : Result B StepFault) (e : StepFault) (P : Failed → Type 0) → ((f : Failed) → P f → ⊥)
    → result ≡ Err e → IfErr result (λ x. ForFailed x P) → IsErrAnd r (λ x. x ≡ e) → IfErr r IsOutOfMemory
only_memory {A = A} result r e P never is told passed =
    let T : Result A StepFault → Type 0 = λ x. IfErr x (λ y. ForFailed y P) in
    passed_on r e IsOutOfMemory (for_failed e P (λ _. ⊥) never (subst T is told)) passed

module _ (v : Contents) (order places : List ℕ) (i : ℕ) (family : IsFamily v) (file : IsFileOrder v.contexts order) (some : 0 < i) (lt : i < length order) where
  here : slice_get order i ≡ Some (slice_index_or order i 0)
  here = slice_get-get_or order i 0 lt

  -- the context is there
  pub is_context : (slice_index_or order i 0 ≡ 0) ⊎ (length v.contexts ≤ slice_index_or order i 0) → ⊥
  is_context none = elim none [
    | inl e ↦ not_main v order family file i (slice_index_or order i 0) here some e
    | inr past ↦ let within = file.within i (slice_index_or order i 0) here in omega arith
  ]

  module _ (are : ArePlaces v.contexts order places) (new : List (List Frame)) (new_is : new ≡ first_of v.contexts order i) (parent : ℕ) (frame : Frame)
      (below : parent < slice_index_or order i 0) (at : frames_at v.contexts (slice_index_or order i 0) ≡ frame ∷ frames_at v.contexts parent) where
    -- its parent has moved
    pub parent_moved : (slice_index_or places parent 0 < length new) × (frames_at new (slice_index_or places parent 0) ≡ frames_at v.contexts parent)
    parent_moved =
        let (j, less, at_j) = parent_before v order family file i (slice_index_or order i 0) here some parent frame below at in
        let read : slice_index_or places parent 0 ≡ j = get_or_from_slice_get places parent j 0 (are.at j parent at_j) in
        let P : ℕ → Type 0 = λ k. (k < length new) × (frames_at new k ≡ frames_at v.contexts parent) in
        subst P (sym read) (parent_frames v order family file i (slice_index_or order i 0) here new new_is j parent less at_j)

    -- and it moves to its place
    pub context_moved : (new' : List (List Frame)) (m : ℕ) → AddsContext new new' (frame ∷ frames_at new (slice_index_or places parent 0)) m → new' ≡ first_of v.contexts order (i + 1)
    context_moved new' m adds =
        added_next v order family file i (slice_index_or order i 0) here new new' m (frame ∷ frames_at new (slice_index_or places parent 0)) new_is
        (ap (λ l. frame ∷ l) parent_moved.1 ∙ sym at) adds

    pub has_room : length new ≡ 65535 → ⊥
    has_room full = let few = first_few v order family file i (slice_index_or order i 0) here new new_is in omega arith

-- the same of copies of the lists
pub AreMoved-now : (v : Contents) (order order1 order2 places places1 : List ℕ) (new : List (List Frame)) → IsFamily v → IsFileOrder v.contexts order → ArePlaces v.contexts order1 places
    → new ≡ in_order v.contexts order2 → order1 ≡ order → order2 ≡ order → places1 ≡ places → AreMoved v.contexts new places1
AreMoved-now v order order1 order2 places places1 new family file are new_is same1 same2 same =
    let A : List ℕ → Type 0 = λ x. ArePlaces v.contexts x places in
    let M : List (List Frame) × List ℕ → Type 0 = λ x. AreMoved v.contexts x.0 x.1 in
    let contexts : in_order v.contexts order ≡ new = sym (new_is ∙ ap (in_order v.contexts) same2) in
    let both : ◌≡◌ {A = List (List Frame) × List ℕ} (in_order v.contexts order, places) (new, places1) = λ i. (contexts i, sym same i) in
    subst M both (AreMoved-from v order family file places (subst A same1 are))
