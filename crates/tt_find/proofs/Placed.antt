-- The states at points where one was put.
use Rattle.std.specs.Prelude.{◌≡◌, ◌≢◌, ℕ, ◌<◌, Bool, Option, Some, None, length}
use Rattle.std.proofs.Common.{sym, ◌∙◌, ap, arith}
use Rattle.tt_abs.specs.declared.state.State.{State}
use Rattle.tt_abs.specs.Orders.{Order}
use Rattle.tt_abs.specs.StateFlow.{Place}
use Rattle.tt_family.specs.Contents.{Contents, IsFamily, family_of, frames_at}
use Rattle.tt_family.specs.Places.{PutGives, PutsAt, states_of}
use Rattle.tt_family.specs.Puts.{family_at, place_of}

module _ (o : Order State) (v v' : Contents) (c off : ℕ) (t : State) (changed : Bool) (lt : c < length v.contexts) (put : PutsAt o (family_of v) (family_of v') (place_of v c off) t changed)
    (same : v'.contexts ≡ v.contexts) (family' : IsFamily v') where
  -- the states by their points are those of the family
  moved : (c' off' : ℕ) → c' < length v.contexts → family_of v' (place_of v c' off') ≡ states_of v'.states (c', off')
  moved c' off' lt' =
      let long = ap length same in
      (λ i. family_of v' (frames_at (sym same i) c', off')) ∙ family_at v' c' off' family' (omega arith)

  -- a state that was put at a new point is there
  pub put_new : family_of v (place_of v c off) ≡ None → states_of v'.states (c, off) ≡ Some t
  put_new none = sym (moved c off lt) ∙ go (family_of v (place_of v c off)) (family_of v' (place_of v c off)) none put.here
    where
      go : (x y : Option State) → x ≡ None → PutGives o x t y changed → y ≡ Some t
      go None None e gives = absurd gives
      go None (Some u) e gives = ap Some gives.0
      go (Some a) y e gives = absurd (cc)

  -- the states elsewhere stay
  pub put_elsewhere : IsFamily v → (c' off' : ℕ) (s : State) → ◌≢◌ {A = ℕ × ℕ} (c', off') (c, off) → states_of v.states (c', off') ≡ Some s → states_of v'.states (c', off') ≡ Some s
  put_elsewhere family c' off' s apart at =
      let lt' : c' < length v.contexts = family.held c' off' s at in
      let other : place_of v c' off' ≢ place_of v c off =
      λ e.
      let one : c' ≡ c = family.distinct c' c lt' lt (ap (λ (x : Place). x.0) e) in
      let two : off' ≡ off = ap (λ (x : Place). x.1) e in
      apart (λ i. (one i, two i)) in
      sym (moved c' off' lt') ∙ put.elsewhere (place_of v c' off') other ∙ family_at v c' off' family lt' ∙ at
