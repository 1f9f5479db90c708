-- The strings of a table `post`, one after the other.
use Rattle.std.proofs.Common.{◌≡◌, ℕ, zero, suc, ◌+◌, ◌-◌, ◌<◌, ◌≤◌, ◌∙◌, List, [], ◌∷◌, ◌++◌, length, false, None, refl, arith, ap, subst}
use Rattle.std.specs.Prelude.{nat_le, slice_index}
use Rattle.std.proofs.Math.ListN.{get_or-append, length-append}
use Rattle.std.proofs.Math.Seq.{get_or-append_seam}
use Rattle.std.proofs.lemmas.Bool.Decides.{nat_tests}
use borrow.Author.Count.{below_more}
use Rattle.tt_names.specs.Post.{string_at, string_end, string_place, strings_start}
use Rattle.tt_names.specs.Representation.StringPlaces.{ListsAll, ListsPlaces}

-- one more string
pub one_more : (post places : List ℕ) (place : ℕ) → ListsPlaces post places → place ≡ string_place post (length places)
    → string_end post place ≤ length post → ListsPlaces post (places ++ place ∷ [])
one_more post places place listed at whole =
    let len : length (places ++ place ∷ []) ≡ length places + 1 = length-append places (place ∷ []) in
    let P : ℕ → Type 0 = λ k. slice_index (places ++ place ∷ []) k ≡ string_place post k in
    let Q : ℕ → Type 0 = λ k. string_end post (string_place post k) ≤ length post in
    let here : P (length places) = get_or-append_seam places place [] 0 ∙ at in
    let ends : Q (length places) = subst (λ p. string_end post p ≤ length post) at whole in
    record {
      placed = λ k lt. below_more P (length places) (λ i below. get_or-append places (place ∷ []) 0 i below ∙ listed.placed i below) here k (omega arith);
      whole = λ k lt. below_more Q (length places) (λ i below. listed.whole i below) ends k (omega arith);
    }

-- the strings after one that isn't whole aren't whole
pub none_further : (post : List ℕ) (n d : ℕ) → length post < string_end post (string_place post n)
    → length post < string_end post (string_place post (d + n))
unfolding string_place
none_further post n zero cut =
    let e : n ≡ zero + n = omega arith in
    subst (λ k. length post < string_end post (string_place post k)) e cut
none_further post n (suc d) cut =
    let before : length post < string_end post (string_place post (d + n)) = none_further post n d cut in
    let next : length post < string_end post (string_place post (suc (d + n))) = omega arith in
    let e : suc (d + n) ≡ suc d + n = omega arith in
    subst (λ k. length post < string_end post (string_place post k)) e next

not_there : (post : List ℕ) (place : ℕ) → length post < string_end post place → string_at post place ≡ None
unfolding string_at
not_there post place cut = let e : nat_le (string_end post place) (length post) ≡ false = grind (arith, nat_tests) in simp e

-- a string that isn't whole ends the list
pub list_ends : (post places : List ℕ) → length post < string_end post (string_place post (length places)) → ListsAll post places
list_ends post places cut k le lt =
    let e : (k - length places) + length places ≡ k = omega arith in
    not_there post (string_place post k) (subst (λ i. length post < string_end post (string_place post i)) e (none_further post (length places) (k - length places) cut))

-- no string is listed yet
pub none_yet : (post places : List ℕ) → length places ≡ 0 → ListsPlaces post places
none_yet post places e = record { placed = λ k lt. absurd (omega arith); whole = λ k lt. absurd (omega arith) }

-- the first string begins after the indices
pub first_place : (post : List ℕ) → strings_start post ≡ string_place post 0
unfolding string_place
first_place post = refl

-- where the next string begins
pub next_place : (post : List ℕ) (place n : ℕ) → place ≡ string_place post n → string_end post place ≡ string_place post (n + 1)
unfolding string_place
next_place post place n e =
    let next : suc n ≡ n + 1 = omega arith in
    subst (λ k. string_end post place ≡ string_place post k) next (ap (string_end post) e)
