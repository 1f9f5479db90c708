-- Contexts and states that move from one builder to another.
use Rattle.std.specs.Prelude.{◌≡◌, ◌↔◌, true, false, Bool, cond, ℕ, ◌<◌, Option, Some, None, List, [], ◌∷◌, ◌++◌, length, slice_index_or, slice_get}
use Rattle.std.specs.List.{All}
use Rattle.std.specs.Map.{lookup}
use Rattle.std.specs.BTreeMap.{is_at}
use Rattle.std.specs.Ordering.{is_eq}
use Rattle.std.proofs.Common.{refl, sym, ◌∙◌, ap, subst, arith, inl, inr, append_assoc, length-append}
use Rattle.std.proofs.Math.Seq.{get_or-append_seam}
use Rattle.std.proofs.lemmas.Option.{slice_get-get_or}
use Rattle.std.proofs.lemmas.Cmp.{tied_itself}
use Rattle.tt_code.specs.declared.machine.Frame.{Frame}
use Rattle.tt_abs.specs.declared.state.State.{State}
use Rattle.tt_abs.specs.States.{state_order, state_laws}
use Rattle.tt_family.specs.Places.{has_point, place_cmp, states_of, PutsAt, PutGives}
use Rattle.tt_family.specs.Puts.{place_of}
use Rattle.tt_family.specs.Contents.{Contents, IsFamily, HasContext, frames_at, family_of, number_of}
use Rattle.tt_family.specs.Numbers.{at-number_of, number_of-is, number_of-place}
use Rattle.tt_family.specs.Ascending.{AreMoved, SameWithout, family_without}
use Rattle.tt_family.proofs.Puts.{cases_place, places_apart}
use Rattle.tt_family.proofs.Putting.{place_total}

-- the state at a key, except for the spare ones
abbrev listed_at : List (ℕ × ℕ) → List ((ℕ × ℕ) × State) → ℕ × ℕ → Option State
listed_at spare states key = cond (has_point spare key) None (states_of states key)

-- the new contents hold the states that came before the rest of the old ones, except for the spare ones
abbrev pub HasSoFar : Contents → Contents → List (ℕ × ℕ) → List ((ℕ × ℕ) × State) → Type 0
HasSoFar old new spare rest =
    (done : List ((ℕ × ℕ) × State)) × (old.states ≡ done ++ rest)
    × ((point : List Frame × ℕ) → family_of new point ≡ cond (has_point spare (number_of old.contexts point.0, point.1)) None (states_of done (number_of old.contexts point.0, point.1)))

pub has_context : (contexts : List (List Frame)) (c : ℕ) (frames : List Frame) → c < length contexts → frames_at contexts c ≡ frames → HasContext contexts frames
has_context contexts c frames lt at = let most = number_of-place contexts frames c lt at in omega arith

-- where each context has a new number the contexts are the same
pub SameContexts-from : (old new : List (List Frame)) (numbers : List ℕ) → AreMoved old new numbers → (frames : List Frame) → HasContext old frames ↔ HasContext new frames
SameContexts-from old new numbers moved frames = (
  (λ has.
      let long = moved.long in
      let known = slice_get-get_or numbers (number_of old frames) 0 (omega arith) in
      let (lt, same) = moved.moved (number_of old frames) (slice_index_or numbers (number_of old frames) 0) known in
      has_context new (slice_index_or numbers (number_of old frames) 0) frames lt (same ∙ at-number_of old frames has)),
  (λ has.
      let H : List Frame → Type 0 = λ x. HasContext old x in
      subst H (at-number_of new frames has) (moved.mine (number_of new frames) has)),
)

module _ {K X : Type 0} (test : K → Bool) where
  lookup_append_some : (xs ys : List (K × X)) (v : X) → lookup test xs ≡ Some v → lookup test (xs ++ ys) ≡ Some v
  lookup_append_some [] ys v at = cc
  lookup_append_some (e ∷ es) ys v at =
      (elim (test e.0) as (λ b. cond b (Some e.1) (lookup test es) ≡ Some v → cond b (Some e.1) (lookup test (es ++ ys)) ≡ Some v) [
        | true ↦ λ h. h
        | false ↦ λ h. lookup_append_some es ys v h
      ]) at

  lookup_last : (xs : List (K × X)) (k : K) (v : X) → test k ≡ true → ((t : X) → lookup test xs ≡ Some t → t ≡ v) → lookup test (xs ++ (k, v) ∷ []) ≡ Some v
  lookup_last [] k v here before = ap (λ b. cond b (Some v) None) here
  lookup_last (e ∷ es) k v here before =
      (elim (test e.0) as (λ b. ((t : X) → cond b (Some e.1) (lookup test es) ≡ Some t → t ≡ v) → cond b (Some e.1) (lookup test (es ++ (k, v) ∷ [])) ≡ Some v) [
        | true ↦ λ h. ap Some (h e.1 refl)
        | false ↦ λ h. lookup_last es k v here h
      ]) before

  lookup_apart : (xs : List (K × X)) (k : K) (v : X) → test k ≡ false → lookup test (xs ++ (k, v) ∷ []) ≡ lookup test xs
  lookup_apart [] k v apart = ap (λ b. cond b (Some v) None) apart
  lookup_apart (e ∷ es) k v apart = ap (λ x. cond (test e.0) (Some e.1) x) (lookup_apart es k v apart)

-- each state of the old contents is at its place
abbrev pub IsFoundAll : Contents → Type 0
IsFoundAll old = All (λ (e : (ℕ × ℕ) × State). states_of old.states e.0 ≡ Some e.1) old.states

pub entry_found : (old : Contents) (done rest : List ((ℕ × ℕ) × State)) (x : (ℕ × ℕ) × State) → old.states ≡ done ++ x ∷ rest → IsFoundAll old
    → states_of old.states x.0 ≡ Some x.1
entry_found old done rest x split all =
    let e = ap length split in
    let long = length-append done (x ∷ rest) in
    let at : slice_index_or old.states (length done) x ≡ x = ap (λ l. slice_index_or l (length done) x) split ∙ get_or-append_seam done x rest x in
    let F : (ℕ × ℕ) × State → Type 0 = λ y. states_of old.states y.0 ≡ Some y.1 in
    subst F at (all (length done) x (omega arith))

-- a state that is joined with itself stays the same
put_same : (slot slot' : Option State) (s : State) (changed : Bool) → PutGives state_order slot s slot' changed → state_order.InRange s
    → ((t : State) → slot ≡ Some t → t ≡ s) → slot' ≡ Some s
put_same None None s changed put ranged before = absurd put
put_same None (Some u) s changed put ranged before = ap Some put.0
put_same (Some t) None s changed put ranged before = absurd put
put_same (Some t) (Some u) s changed put ranged before =
    let same : t ≡ s = before t refl in
    let B : State → Type 0 = λ x. state_order.Below x s in
    let below : state_order.Below t s = subst B (sym same) (state_laws.reflexive s) in
    ap Some (state_laws.antisymmetric u s put.0.in_range ranged (put.0.least s ranged below (state_laws.reflexive s)) put.0.right)

module _ (old new new' : Contents) (numbers : List ℕ) (spare : List (ℕ × ℕ)) (place : ℕ × ℕ) (s : State) (n : ℕ) (changed : Bool) (listed : has_point spare place ≡ false)
    (family : IsFamily old) (moved : AreMoved old.contexts new.contexts numbers) (all : IsFoundAll old)
    (known : slice_get numbers place.0 ≡ Some n) (put : PutsAt state_order (family_of new) (family_of new') (place_of new n place.1) s changed)
    (rest rest' done : List ((ℕ × ℕ) × State)) (split : old.states ≡ done ++ rest)
    (same : (point : List Frame × ℕ) → family_of new point ≡ listed_at spare done (number_of old.contexts point.0, point.1))
    (rest_is : rest ≡ (place, s) ∷ rest') where
  split_here : old.states ≡ done ++ (place, s) ∷ rest'
  split_here = split ∙ ap (λ l. done ++ l) rest_is

  found : states_of old.states place ≡ Some s
  found = entry_found old done rest' (place, s) split_here all

  within : place.0 < length old.contexts
  within = family.held place.0 place.1 s found

  frames_is : frames_at new.contexts n ≡ frames_at old.contexts place.0
  frames_is = (moved.moved place.0 n known).1

  number_is : number_of old.contexts (frames_at new.contexts n) ≡ place.0
  number_is = number_of-is old.contexts (frames_at new.contexts n) place.0 family.distinct within (sym frames_is)

  before : (t : State) → states_of done place ≡ Some t → t ≡ s
  before t at =
      let one : Some t ≡ Some s = sym (lookup_append_some (is_at (place_cmp place)) done ((place, s) ∷ rest') t at) ∙ ap (λ l. states_of l place) (sym split_here) ∙ found in
      cc

  slot_before : (t : State) → family_of new (place_of new n place.1) ≡ Some t → t ≡ s
  slot_before t at =
      let there : family_of new (place_of new n place.1) ≡ states_of done place =
      same (place_of new n place.1) ∙ ap (λ k. listed_at spare done (k, place.1)) number_is ∙ ap (λ b. cond b None (states_of done place)) listed in
      before t (sym there ∙ at)

  slot : family_of new' (place_of new n place.1) ≡ Some s
  slot = put_same (family_of new (place_of new n place.1)) (family_of new' (place_of new n place.1)) s changed put.here (family.in_range place.0 place.1 s found) slot_before

  last : states_of (done ++ (place, s) ∷ []) place ≡ Some s
  last = lookup_last (is_at (place_cmp place)) done place s (ap is_eq (tied_itself place_total place)) before

  point_is : (p : List Frame × ℕ) → ◌≡◌ {A = ℕ × ℕ} (number_of old.contexts p.0, p.1) place → p ≡ place_of new n place.1
  point_is p here =
      let first : number_of old.contexts p.0 ≡ place.0 = ap (λ (x : ℕ × ℕ). x.0) here in
      let second : p.1 ≡ place.1 = ap (λ (x : ℕ × ℕ). x.1) here in
      let at = at-number_of old.contexts p.0 (let lt = within in omega arith) in
      let frames : p.0 ≡ frames_at new.contexts n = sym at ∙ ap (frames_at old.contexts) first ∙ sym frames_is in
      λ i. (frames i, second i)

  point_from : (p : List Frame × ℕ) → p ≡ place_of new n place.1 → ◌≡◌ {A = ℕ × ℕ} (number_of old.contexts p.0, p.1) place
  point_from p e =
      let first : number_of old.contexts p.0 ≡ place.0 = ap (λ (x : List Frame × ℕ). number_of old.contexts x.0) e ∙ number_is in
      let second : p.1 ≡ place.1 = ap (λ (x : List Frame × ℕ). x.1) e in
      λ i. (first i, second i)

  pub so_far_step : HasSoFar old new' spare rest'
  so_far_step = (
    done ++ (place, s) ∷ [],
    split_here ∙ sym (append_assoc done ((place, s) ∷ []) rest'),
    λ p.
        elim (cases_place (number_of old.contexts p.0, p.1) place) [
          | inl here ↦
              let states = done ++ (place, s) ∷ [] in
              ap (family_of new') (point_is p here) ∙ slot ∙ sym (ap (listed_at spare states) here ∙ ap (λ b. cond b None (states_of states place)) listed ∙ last)
          | inr apart ↦ put.elsewhere p (λ e. apart (point_from p e)) ∙ same p
              ∙ ap (λ x. cond (has_point spare (number_of old.contexts p.0, p.1)) None x)
              (sym (lookup_apart (is_at (place_cmp (number_of old.contexts p.0, p.1))) done place s (places_apart (number_of old.contexts p.0, p.1) place (λ e. apart (sym e)))))
        ],
  )

-- what the entry that comes next tells of itself
pub next_found : (old new : Contents) (spare : List (ℕ × ℕ)) (rest rest' : List ((ℕ × ℕ) × State)) (x : (ℕ × ℕ) × State) → HasSoFar old new spare rest → rest ≡ x ∷ rest'
    → IsFoundAll old → states_of old.states x.0 ≡ Some x.1
next_found old new spare rest rest' x so_far rest_is all =
    let (done, split, same) = so_far in entry_found old done rest' x (split ∙ ap (λ l. done ++ l) rest_is) all

pub HasSoFar-step : (old new new' : Contents) (numbers : List ℕ) (spare : List (ℕ × ℕ)) (place : ℕ × ℕ) (s : State) (n : ℕ) (changed : Bool) → has_point spare place ≡ false
    → IsFamily old → AreMoved old.contexts new.contexts numbers → IsFoundAll old → slice_get numbers place.0 ≡ Some n
    → PutsAt state_order (family_of new) (family_of new') (place_of new n place.1) s changed
    → (rest rest' : List ((ℕ × ℕ) × State)) → HasSoFar old new spare rest → rest ≡ (place, s) ∷ rest' → HasSoFar old new' spare rest'
HasSoFar-step old new new' numbers spare place s n changed listed family moved all known put rest rest' so_far rest_is =
    let (done, split, same) = so_far in
    so_far_step old new new' numbers spare place s n changed listed family moved all known put rest rest' done split same rest_is

-- a spare state isn't moved
pub HasSoFar-spare : (old new : Contents) (spare : List (ℕ × ℕ)) (place : ℕ × ℕ) (s : State) → has_point spare place ≡ true
    → (rest rest' : List ((ℕ × ℕ) × State)) → HasSoFar old new spare rest → rest ≡ (place, s) ∷ rest' → HasSoFar old new spare rest'
HasSoFar-spare old new spare place s hit rest rest' so_far rest_is =
    let (done, split, same) = so_far in
    let split_here : old.states ≡ done ++ (place, s) ∷ rest' = split ∙ ap (λ l. done ++ l) rest_is in
    let states = done ++ (place, s) ∷ [] in (
      states,
      split_here ∙ sym (append_assoc done ((place, s) ∷ []) rest'),
      λ p.
          let key : ℕ × ℕ = (number_of old.contexts p.0, p.1) in
          elim (cases_place key place) [
            | inl here ↦
                let is : has_point spare key ≡ true = ap (has_point spare) here ∙ hit in
                same p ∙ ap (λ b. cond b None (states_of done key)) is ∙ sym (ap (λ b. cond b None (states_of states key)) is)
            | inr apart ↦
                same p
                ∙ ap (λ x. cond (has_point spare key) None x) (sym (lookup_apart (is_at (place_cmp key)) done place s (places_apart key place (λ e. apart (sym e)))))
          ],
    )

pub next_context : (old new : Contents) (contexts : List (List Frame)) (numbers : List ℕ) (spare : List (ℕ × ℕ)) (rest rest' : List ((ℕ × ℕ) × State)) (x : (ℕ × ℕ) × State) → IsFamily old
    → AreMoved old.contexts contexts numbers → HasSoFar old new spare rest → rest ≡ x ∷ rest' → IsFoundAll old → x.0.0 < length numbers
next_context old new contexts numbers spare rest rest' x family moved so_far rest_is all =
    let lt = family.held x.0.0 x.0.1 x.1 (next_found old new spare rest rest' x so_far rest_is all) in
    let long = moved.long in
    omega arith

pub next_range : (old new : Contents) (spare : List (ℕ × ℕ)) (rest rest' : List ((ℕ × ℕ) × State)) (x : (ℕ × ℕ) × State) → IsFamily old → HasSoFar old new spare rest
    → rest ≡ x ∷ rest' → IsFoundAll old → state_order.InRange x.1
next_range old new spare rest rest' x family so_far rest_is all = family.in_range x.0.0 x.0.1 x.1 (next_found old new spare rest rest' x so_far rest_is all)

pub moved_there : (old contexts new : List (List Frame)) (numbers : List ℕ) (c d : ℕ) → AreMoved old contexts numbers → new ≡ contexts → c < length numbers
    → slice_index_or numbers c d < length new
moved_there old contexts new numbers c d moved same lt =
    let e = ap length same in
    let known = (moved.moved c (slice_index_or numbers c d) (slice_get-get_or numbers c d lt)).0 in
    omega arith

pub SameWithout-moved : (old new : Contents) (spare : List (ℕ × ℕ)) (contexts : List (List Frame)) (numbers : List ℕ) → AreMoved old.contexts contexts numbers → new.contexts ≡ contexts
    → ((p : List Frame × ℕ) → family_of new p ≡ family_without old spare p) → SameWithout old new spare
SameWithout-moved old new spare contexts numbers moved same family =
    let C : List (List Frame) → Type 0 = λ x. (frames : List Frame) → HasContext old.contexts frames ↔ HasContext x frames in
    record { contexts = subst C (sym same) (SameContexts-from old.contexts contexts numbers moved); family = family }

-- where no point is spare nothing is left out
without_none : (contents : Contents) (spare : List (ℕ × ℕ)) → spare ≡ [] → (p : List Frame × ℕ) → family_without contents spare p ≡ family_of contents p
without_none contents spare none p = ap (λ (x : List (ℕ × ℕ)). family_without contents x p) none

pub without_itself : (contents : Contents) (spare : List (ℕ × ℕ)) → spare ≡ [] → SameWithout contents contents spare
without_itself contents spare none = record { contexts = λ frames. ((λ h. h), (λ h. h)); family = λ p. sym (without_none contents spare none p) }

pub none_spare : (spare : List (ℕ × ℕ)) (key : ℕ × ℕ) → spare ≡ [] → has_point spare key ≡ true → ⊥
none_spare spare key none hit = let no_such : true ≡ false = sym hit ∙ ap (λ (x : List (ℕ × ℕ)). has_point x key) none in cc
