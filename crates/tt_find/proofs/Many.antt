-- Too many derived contexts leave no good family.
use Rattle.std.specs.Prelude.{◌≡◌, ℕ, ◌≤◌, ◌<◌, List, [], length, map, slice_index_or}
use Rattle.std.specs.List.{IsDistinct}
use Rattle.std.proofs.Common.{sym, ◌∙◌, ap, arith, inl, inr}
use Rattle.std.proofs.Math.Dec.{eqb}
use Rattle.std.proofs.lemmas.Bool.{cases_Bool}
use Rattle.std.proofs.lemmas.List.{length-map, get_or-map}
use Rattle.std.proofs.lemmas.Map.Keys.{IsDistinct-from_apart}
use Rattle.std.proofs.lemmas.Map.Steps.{length-le_from_distinct_below}
use Rattle.std.proofs.lemmas.Map.Views.{Contains-from_any, exact_unsigned_eq}
use Rattle.tt_code.specs.declared.machine.Frame.{Frame}
use Rattle.tt_family.specs.Contents.{HasContext, frames_at, number_of}
use Rattle.tt_family.specs.Numbers.{at-number_of}

-- contexts with no two the same, all of which another list has, are at most as many
pub few_from_all : (xs ys : List (List Frame))
    → ((i j : ℕ) → i < length xs → j < length xs → slice_index_or xs i [] ≡ slice_index_or xs j [] → i ≡ j)
    → ((i : ℕ) → i < length xs → HasContext ys (slice_index_or xs i [])) → length xs ≤ length ys
few_from_all xs ys distinct has =
    let long : length (map (number_of ys) xs) ≡ length xs = length-map xs (number_of ys) in
    let at = λ (i d : ℕ) (lt : i < length xs). get_or-map (number_of ys) xs i [] d lt in
    let apart : IsDistinct eqb (map (number_of ys) xs) = IsDistinct-from_apart eqb (map (number_of ys) xs) (λ i j d lt lt'.
    elim (cases_Bool (eqb (slice_index_or (map (number_of ys) xs) i d) (slice_index_or (map (number_of ys) xs) j d))) [
      | inr no' ↦ no'
      | inl same ↦ absurd (
          let li : i < length xs = omega arith in
          let lj : j < length xs = omega arith in
          let e : slice_index_or (map (number_of ys) xs) i d ≡ slice_index_or (map (number_of ys) xs) j d = exact_unsigned_eq _ _ same in
          let n : number_of ys (slice_index_or xs i []) ≡ number_of ys (slice_index_or xs j []) = sym (at i d li) ∙ e ∙ at j d lj in
          let one : slice_index_or xs i [] ≡ slice_index_or xs j [] =
          sym (at-number_of ys (slice_index_or xs i []) (has i li)) ∙ ap (frames_at ys) n ∙ at-number_of ys (slice_index_or xs j []) (has j lj) in
          let no_such = distinct i j li lj one in
          omega arith)
    ]) in
    let most = length-le_from_distinct_below (map (number_of ys) xs) (length ys) apart (λ q member.
    let (k, lt, is) = Contains-from_any exact_unsigned_eq q (map (number_of ys) xs) member in
    let lk : k < length xs = omega arith in
    let h = has k lk in
    let e = at k q lk in
    omega arith) in
    omega arith
