-- What putting a state does to the contents, read as a family, and to sums over all states.
use Rattle.std.specs.Prelude.{◌≡◌, ℕ, ◌+◌, ◌<◌, Bool, Option, Some, None, List, length}
use Rattle.std.proofs.Common.{refl, sym, ◌∙◌, ap, subst, arith}
use Rattle.std.specs.List.{sum_by}
use Rattle.std.specs.Map.{values_of}
use Rattle.tt_abs.specs.Orders.{Order}
use Rattle.tt_code.specs.declared.machine.Frame.{Frame}
use Rattle.tt_family.specs.Places.{states_of, PutGives, PutsAt}
use Rattle.tt_abs.specs.declared.state.State.{State}
use Rattle.tt_family.specs.Contents.{Contents, IsFamily, family_of, frames_at, number_of, total}
use Rattle.tt_family.specs.Numbers.{at-number_of, number_of-is}

-- the weight of a state, and 0 where there is none
abbrev pub weigh : (State → ℕ) → Option State → ℕ
weigh w None = 0
weigh w (Some s) = w s

-- whatever states weigh, the sum of all weights changes by as much as the weight of the state at
-- the place does
abbrev pub ReweighsStates : List ((ℕ × ℕ) × State) → List ((ℕ × ℕ) × State) → ℕ × ℕ → Type 0
ReweighsStates old new place =
    (w : State → ℕ) → sum_by w (values_of new) + weigh w (states_of old place)
    ≡ sum_by w (values_of old) + weigh w (states_of new place)

-- the same of the contents and a point
abbrev pub Reweighs : Contents → Contents → List Frame × ℕ → Type 0
Reweighs old new place =
    (w : State → ℕ)
    → total w new + weigh w (family_of old place) ≡ total w old + weigh w (family_of new place)

-- the point of a context and an offset
abbrev pub place_of : Contents → ℕ → ℕ → List Frame × ℕ
place_of contents context offset = (frames_at contents.contexts context, offset)

-- the family's state at that point
abbrev pub family_state : Contents → ℕ → ℕ → Option State
family_state contents context offset = family_of contents (place_of contents context offset)

-- in a family, the number of a context's frames is the context's own
pub number_at : (v : Contents) (c : ℕ) → IsFamily v → c < length v.contexts
    → number_of v.contexts (frames_at v.contexts c) ≡ c
number_at v c family lt = number_of-is v.contexts (frames_at v.contexts c) c family.distinct lt refl

-- the family's state at a point is the one that is kept under its context's number and its offset
pub family_at : (v : Contents) (c o : ℕ) → IsFamily v → c < length v.contexts
    → family_of v (place_of v c o) ≡ states_of v.states (c, o)
family_at v c o family lt = ap (λ n. states_of v.states (n, o)) (number_at v c family lt)

-- what is put under a context's number and an offset is put at that point of the family
pub PutsAt-family : (o : Order State) (old new : Contents) (c off : ℕ) (t : State) (changed : Bool)
    → IsFamily old → new.contexts ≡ old.contexts → c < length old.contexts
    → PutsAt o (states_of old.states) (states_of new.states) (c, off) t changed
    → PutsAt o (family_of old) (family_of new) (place_of old c off) t changed
PutsAt-family o old new c off t changed family same lt put =
    let n_is = number_at old c family lt in
    let new_at : (p : List Frame × ℕ) → family_of new p ≡ states_of new.states (number_of old.contexts p.0, p.1) =
    λ p. ap (λ x. states_of new.states (number_of x p.0, p.1)) same in
    let G : Option State × Option State → Type 0 = λ x. PutGives o x.0 t x.1 changed in
    let old_is : states_of old.states (c, off) ≡ family_of old (place_of old c off) = sym (family_at old c off family lt) in
    let new_is : states_of new.states (c, off) ≡ family_of new (place_of old c off) =
    sym (new_at (place_of old c off) ∙ ap (λ n. states_of new.states (n, off)) n_is) in
    let both : ◌≡◌ {A = Option State × Option State} (states_of old.states (c, off), states_of new.states (c, off)) (family_of old (place_of old c off), family_of new (place_of old c off)) = λ i. (old_is i, new_is i) in
    record {
      here = subst G both put.here;
      elsewhere = λ p apart. new_at p ∙ put.elsewhere (number_of old.contexts p.0, p.1) (λ e. apart (back p e));
    }
  where
    back : (p : List Frame × ℕ) → ◌≡◌ {A = ℕ × ℕ} (number_of old.contexts p.0, p.1) (c, off)
        → p ≡ place_of old c off
    back p e =
        let first : number_of old.contexts p.0 ≡ c = ap (λ (x : ℕ × ℕ). x.0) e in
        let second : p.1 ≡ off = ap (λ (x : ℕ × ℕ). x.1) e in
        let at = at-number_of old.contexts p.0 (omega arith) in
        let frames : p.0 ≡ frames_at old.contexts c = sym at ∙ ap (frames_at old.contexts) first in
        λ i. (frames i, second i)

-- the sum of all weights changes by as much as the weight of the family's state at that point does
pub Reweighs-family : (old new : Contents) (c off : ℕ) → IsFamily old → new.contexts ≡ old.contexts
    → c < length old.contexts
    → ReweighsStates old.states new.states (c, off) → Reweighs old new (place_of old c off)
Reweighs-family old new c off family same lt sums w =
    let old_is : states_of old.states (c, off) ≡ family_of old (place_of old c off) = sym (family_at old c off family lt) in
    let new_is : family_of new (place_of old c off) ≡ states_of new.states (c, off) =
    ap (λ x. states_of new.states (number_of x (frames_at old.contexts c), off)) same ∙ ap (λ n. states_of new.states (n, off)) (number_at old c family lt) in
    let a = ap (weigh w) old_is in
    let b = ap (weigh w) new_is in
    let s = sums w in
    omega arith
