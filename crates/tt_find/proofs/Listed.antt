-- Which kept states are listed, after a put or one more context.
use Rattle.std.specs.Prelude.{◌≡◌, ◌≢◌, ◌⊎◌, ℕ, ◌<◌, Bool, true, false, Option, Some, None, List, length}
use Rattle.std.specs.BTreeMap.{is_at}
use Rattle.std.proofs.Common.{refl, sym, ◌∙◌, ap, subst, inl, inr}
use Rattle.tt_code.specs.declared.machine.Frame.{Frame}
use Rattle.tt_abs.specs.declared.state.State.{State}
use Rattle.tt_abs.specs.StateFlow.{Place}
use Rattle.tt_abs.specs.States.{state_order}
use Rattle.tt_family.specs.Checks.{point_key_of}
use Rattle.tt_family.specs.Contents.{AddsContext, Contents, IsFamily, family_of, frames_at, number_of}
use Rattle.tt_family.specs.Joins.{TellsNew}
use Rattle.tt_family.specs.Numbers.{at-number_of}
use Rattle.tt_family.specs.Places.{PutGives, PutsAt, has_point, place_cmp}
use Rattle.tt_family.specs.Puts.{number_at, place_of}
use Rattle.tt_family.specs.declared.joined.Joined.{Joined}
use Rattle.tt_family.specs.declared.joined.Joined.TheVariants.{New}
use Rattle.tt_family.proofs.FillingLaws.{some_or_none}
use Rattle.tt_family.proofs.Puts.{places_apart}
use Rattle.tt_find.specs.Representation.Solvers.{IsListed, SparesAt}
use Rattle.tt_find.specs.declared.approach.Approach.{Approach}
use Rattle.tt_find.specs.declared.approach.Approach.TheVariants.{JustBefore, Elsewhere}
use Rattle.tt_find.proofs.Points.{family_kept, has_number, key_kept, same_or_apart}

pub cases_source : (source : Approach) → (source ≡ JustBefore) ⊎ (source ≡ Elsewhere)
cases_source JustBefore = inl refl
cases_source Elsewhere = inr refl

module _ (v v' : Contents) (spare spare' : List (ℕ × ℕ)) (c off : ℕ) (t : State) (changed : Bool) (source : Approach) (family : IsFamily v) (lt : c < length v.contexts)
    (same : v'.contexts ≡ v.contexts) (put : PutsAt state_order (family_of v) (family_of v') (place_of v c off) t changed)
    (spares : SparesAt spare spare' (c, off) (family_of v (place_of v c off)) source) where
  key_same : (p : Place) → ◌≡◌ {A = ℕ × ℕ} (point_key_of v' p) (point_key_of v p)
  key_same p = λ i. (number_of (same i) p.0, p.1)

  key_here : ◌≡◌ {A = ℕ × ℕ} (point_key_of v (place_of v c off)) (c, off)
  key_here = λ i. (number_at v c family lt i, off)

  apart_key : (p : Place) (a : State) → family_of v p ≡ Some a → p ≢ place_of v c off → ◌≢◌ {A = ℕ × ℕ} (point_key_of v p) (c, off)
  apart_key p a at apart e =
      let n : number_of v.contexts p.0 ≡ c = ap (λ (x : ℕ × ℕ). x.0) e in
      let b : p.1 ≡ off = ap (λ (x : ℕ × ℕ). x.1) e in
      let frames : p.0 ≡ frames_at v.contexts c = sym (at-number_of v.contexts p.0 (has_number v p a family at)) ∙ ap (frames_at v.contexts) n in
      apart (λ i. (frames i, b i))

  pub there_now : (u : State) × (family_of v' (place_of v c off) ≡ Some u)
  there_now = go (family_of v (place_of v c off)) (family_of v' (place_of v c off)) put.here refl
    where
      go : (x y : Option State) → PutGives state_order x t y changed → family_of v' (place_of v c off) ≡ y → (u : State) × (family_of v' (place_of v c off) ≡ Some u)
      go None None g e = absurd g
      go None (Some u) g e = (u, e)
      go (Some a) None g e = absurd g
      go (Some a) (Some u) g e = (u, e)

  spare_here : has_point spare' (point_key_of v' (place_of v c off)) ≡ has_point spare' (c, off)
  spare_here = ap (has_point spare') (key_same (place_of v c off) ∙ key_here)

  -- what is listed stays so
  pub listed_on : (q : Place) → IsListed v spare q → IsListed v' spare' q
  listed_on q listed = elim (same_or_apart q (place_of v c off)) [
    | inr apart ↦ record {
      state = listed.state;
      kept = put.elsewhere q apart ∙ listed.kept;
      not_spare = ap (has_point spare') (key_same q) ∙ spares.elsewhere (point_key_of v q) (apart_key q listed.state listed.kept apart) ∙ listed.not_spare;
    }
    | inl here ↦
        let (u, is) = there_now in
        let L : Place → Type 0 = λ x. IsListed v' spare' x in
        subst L (sym here) (record { state = u; kept = is; not_spare = spare_here ∙ not_spare_now here (cases_source source) })
  ]
    where
      not_spare_now : q ≡ place_of v c off → (source ≡ JustBefore) ⊎ (source ≡ Elsewhere) → has_point spare' (c, off) ≡ false
      not_spare_now here (inr away) = spares.listed away
      not_spare_now here (inl before) =
          spares.same before (λ none. let no_such : None ≡ Some listed.state = sym none ∙ ap (family_of v) (sym here) ∙ listed.kept in cc)
          ∙ ap (has_point spare) (sym key_here) ∙ ap (λ p. has_point spare (point_key_of v p)) (sym here) ∙ listed.not_spare

  -- where a state came from elsewhere it is listed
  pub listed_now : source ≡ Elsewhere → IsListed v' spare' (place_of v c off)
  listed_now away = let (u, is) = there_now in record { state = u; kept = is; not_spare = spare_here ∙ spares.listed away }

  -- and no other is
  pub listed_back : (q : Place) → IsListed v' spare' q → IsListed v spare q ⊎ ((q ≡ place_of v c off) × (source ≡ Elsewhere))
  listed_back q listed = elim (same_or_apart q (place_of v c off)) [
    | inr apart ↦
        let at : family_of v q ≡ Some listed.state = sym (put.elsewhere q apart) ∙ listed.kept in
        inl (record {
          state = listed.state;
          kept = at;
          not_spare = sym (spares.elsewhere (point_key_of v q) (apart_key q listed.state at apart)) ∙ ap (has_point spare') (sym (key_same q)) ∙ listed.not_spare;
        })
    | inl here ↦ elim (cases_source source) [
      | inr away ↦ inr (here, away)
      | inl before ↦ elim (some_or_none (family_of v (place_of v c off))) [
        | inr none ↦ absurd (let no_such : true ≡ false = sym (spares.spared before none) ∙ was_not here in cc)
        | inl (a, at) ↦
            let L : Place → Type 0 = λ x. IsListed v spare x in
            inl (subst L (sym here) (record {
              state = a;
              kept = at;
              not_spare = ap (has_point spare) key_here ∙ sym (spares.same before (λ none. let no_such : None ≡ Some a = sym none ∙ at in cc)) ∙ was_not here;
            }))
      ]
    ]
  ]
    where
      was_not : q ≡ place_of v c off → has_point spare' (c, off) ≡ false
      was_not here = sym spare_here ∙ ap (λ p. has_point spare' (point_key_of v' p)) (sym here) ∙ listed.not_spare

-- one more context changes nothing
module _ (v v' : Contents) (spare : List (ℕ × ℕ)) (frames : List Frame) (number : ℕ) (family : IsFamily v) (family' : IsFamily v')
    (adds : AddsContext v.contexts v'.contexts frames number) (states : v'.states ≡ v.states) where
  pub listed_grown : (q : Place) → IsListed v spare q → IsListed v' spare q
  listed_grown q listed = record {
    state = listed.state;
    kept = family_kept v v' frames number adds states family family' q ∙ listed.kept;
    not_spare = ap (has_point spare) (key_kept v v' frames number adds states q (has_number v q listed.state family listed.kept)) ∙ listed.not_spare;
  }

  pub listed_before : (q : Place) → IsListed v' spare q → IsListed v spare q
  listed_before q listed =
      let at : family_of v q ≡ Some listed.state = sym (family_kept v v' frames number adds states family family' q) ∙ listed.kept in
      record {
        state = listed.state;
        kept = at;
        not_spare = sym (ap (has_point spare) (key_kept v v' frames number adds states q (has_number v q listed.state family at))) ∙ listed.not_spare;
      }

-- what is spare after a state came to a point

pub spared_elsewhere : (old new : List (ℕ × ℕ)) (point : ℕ × ℕ) (was : Option State) (source : Approach) → source ≡ Elsewhere → has_point new point ≡ false
    → ((q : ℕ × ℕ) → is_at (place_cmp point) q ≡ false → has_point new q ≡ has_point old q) → SparesAt old new point was source
spared_elsewhere old new point was source away gone others = record {
  elsewhere = λ q other. others q (places_apart point q other);
  listed = λ _. gone;
  spared = λ before _. absurd (let no_such : JustBefore ≡ Elsewhere = sym before ∙ away in cc);
  same = λ before _. absurd (let no_such : JustBefore ≡ Elsewhere = sym before ∙ away in cc);
}

pub spared_new : (old new : List (ℕ × ℕ)) (point : ℕ × ℕ) (was : Option State) (source : Approach) (joined : Joined) → source ≡ JustBefore → joined ≡ New → TellsNew joined was
    → has_point new point ≡ true → ((q : ℕ × ℕ) → is_at (place_cmp point) q ≡ false → has_point new q ≡ has_point old q) → SparesAt old new point was source
spared_new old new point was source joined before is_new tells there others = record {
  elsewhere = λ q other. others q (places_apart point q other);
  listed = λ away. absurd (let no_such : JustBefore ≡ Elsewhere = sym before ∙ away in cc);
  spared = λ _ _. there;
  same = λ _ some. absurd (some (tells.0 is_new));
}
