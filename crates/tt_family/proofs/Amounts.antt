-- How many states have moved from one builder to another.
use Rattle.std.specs.Prelude.{◌≡◌, ℕ, ◌+◌, Bool, false, cond, Option, Some, None, List, [], ◌∷◌, ◌++◌, length, slice_get}
use Rattle.std.specs.declared.cmp.Ordering.TheVariants.{Less}
use Rattle.std.specs.Ordering.{is_eq, ordering_reverse}
use Rattle.std.specs.List.{sum_by, AllByRecursion}
use Rattle.std.specs.List.Sorted.{IsStrictlySortedBy}
use Rattle.std.specs.Map.{keys_of, values_of}
use Rattle.std.specs.BTreeMap.{is_at}
use Rattle.std.proofs.Common.{refl, sym, ◌∙◌, ap, subst, arith}
use Rattle.std.proofs.lemmas.List.Sums.{sum_by-cons}
use Rattle.std.proofs.lemmas.Map.Entries.{lookup_tail}
use Rattle.std.proofs.lemmas.Map.Keys.{sorted_head, sorted_tail}
use Rattle.tt_code.specs.declared.machine.Frame.{Frame}
use Rattle.tt_abs.specs.declared.state.State.{State}
use Rattle.tt_abs.specs.States.{state_order}
use Rattle.tt_family.specs.Places.{has_point, place_cmp, states_of, PutGives, PutsAt}
use Rattle.tt_family.specs.Puts.{Reweighs, place_of, weigh}
use Rattle.tt_family.specs.Contents.{Contents, IsFamily, family_of, frames_at, number_of, points_of}
use Rattle.tt_family.specs.Numbers.{number_of-is}
use Rattle.tt_family.specs.Ascending.{AreMoved}
use Rattle.tt_family.proofs.Moves.{HasSoFar, IsFoundAll, entry_found}
use Rattle.tt_family.proofs.Putting.{place_total}

-- the sum of ones is the length
ones : {K X : Type 0} (es : List (K × X)) → sum_by (λ (x : X). 1) (values_of es) ≡ length es
ones [] = refl
ones {K} {X} (e ∷ es) = let ih = ones es in let more = sum_by-cons (λ (x : X). 1) e.1 (values_of es) in omega arith

-- a key after others is above each
behind : {S : Type 0} (k : ℕ × ℕ) (done rest : List ((ℕ × ℕ) × S)) (x : (ℕ × ℕ) × S) → AllByRecursion (λ y. place_cmp k y ≡ Less) (keys_of (done ++ x ∷ rest)) → place_cmp k x.0 ≡ Less
behind k [] rest x all = all.0
behind k (d ∷ done) rest x all = behind k done rest x all.1

-- where places ascend no state before is at the place
none_before : {S : Type 0} (done rest : List ((ℕ × ℕ) × S)) (x : (ℕ × ℕ) × S) → IsStrictlySortedBy place_cmp (keys_of (done ++ x ∷ rest)) → states_of done x.0 ≡ None
none_before [] rest x ascends = refl
none_before {S} (d ∷ done) rest x ascends =
    let below : place_cmp d.0 x.0 ≡ Less = behind d.0 done rest x (sorted_head place_cmp d.0 (keys_of (done ++ x ∷ rest)) ascends) in
    let apart = ap is_eq (place_total.antisymm x.0 d.0 ∙ ap ordering_reverse below) in
    lookup_tail (is_at (place_cmp x.0)) d done apart ∙ none_before done rest x (sorted_tail place_cmp d.0 (keys_of (done ++ x ∷ rest)) ascends)

-- where the state that comes next is to be there is none
pub next_free : (old new : Contents) (numbers : List ℕ) (spare : List (ℕ × ℕ)) (place : ℕ × ℕ) (s : State) (n : ℕ) → has_point spare place ≡ false → IsFamily old → AreMoved old.contexts new.contexts numbers → IsFoundAll old
    → IsStrictlySortedBy place_cmp (keys_of old.states) → slice_get numbers place.0 ≡ Some n
    → (rest rest' : List ((ℕ × ℕ) × State)) → HasSoFar old new spare rest → rest ≡ (place, s) ∷ rest' → family_of new (place_of new n place.1) ≡ None
next_free old new numbers spare place s n listed family moved all ascends known rest rest' so_far rest_is =
    let (done, split, same) = so_far in
    let split_here : old.states ≡ done ++ (place, s) ∷ rest' = split ∙ ap (λ l. done ++ l) rest_is in
    let found : states_of old.states place ≡ Some s = entry_found old done rest' (place, s) split_here all in
    let frames_is : frames_at new.contexts n ≡ frames_at old.contexts place.0 = (moved.moved place.0 n known).1 in
    let number_is : number_of old.contexts (frames_at new.contexts n) ≡ place.0 =
    number_of-is old.contexts (frames_at new.contexts n) place.0 family.distinct (family.held place.0 place.1 s found) (sym frames_is) in
    let R : List ((ℕ × ℕ) × State) → Type 0 = λ l. IsStrictlySortedBy place_cmp (keys_of l) in
    same (place_of new n place.1) ∙ ap (λ k. cond (has_point spare (k, place.1)) None (states_of done (k, place.1))) number_is ∙ ap (λ b. cond b None (states_of done place)) listed
    ∙ none_before done rest' (place, s) (subst R split_here ascends)

-- one more state is there
pub amount_step : (old new new' : Contents) (place : List Frame × ℕ) (s : State) (changed : Bool) → family_of new place ≡ None
    → PutsAt state_order (family_of new) (family_of new') place s changed → Reweighs new new' place
    → (rest rest' : List ((ℕ × ℕ) × State)) (x : (ℕ × ℕ) × State) → rest ≡ x ∷ rest' → points_of new + length rest ≡ points_of old → points_of new' + length rest' ≡ points_of old
amount_step old new new' place s changed none put sums rest rest' x rest_is before =
    let one = put_one (family_of new place) (family_of new' place) none put.here in
    let sum = sums (λ s. 1) in
    let empty = ap (weigh (λ s. 1)) none in
    let new_is = ones new.states in
    let new_is' = ones new'.states in
    let long = ap length rest_is in
    omega arith
  where
    put_one : (slot slot' : Option State) → slot ≡ None → PutGives state_order slot s slot' changed → weigh (λ s. 1) slot' ≡ 1
    put_one None None e put = absurd put
    put_one None (Some u) e put = refl
    put_one (Some t) slot' e put = cc

pub none_there : (slot : Option State) (s : State) → slot ≡ None → slot ≡ Some s → ⊥
none_there slot s none some = let both : None ≡ Some s = sym none ∙ some in cc
