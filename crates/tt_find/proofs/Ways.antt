-- What a state that was carried on gives, as what is still to be put.
use Rattle.std.specs.Prelude.{◌≡◌, ◌↔◌, ℕ, true, false, List, [], ◌∷◌, Ok, Err, Some, map, slice_get, zero, suc}
use Rattle.std.proofs.Common.{refl, sym, ◌∙◌, ap, subst, inl, inr}
use Rattle.tt_code.specs.Settings.{Setting, is_main_end}
use Rattle.tt_code.specs.declared.machine.Frame.{Frame}
use Rattle.tt_code.specs.declared.reason.Reason.{Reason}
use Rattle.tt_abs.specs.declared.moves.Move.{Move}
use Rattle.tt_abs.specs.declared.moves.Moves.{Moves}
use Rattle.tt_abs.specs.declared.state.State.{State}
use Rattle.tt_abs.specs.Moves.{next_by, nexts_of, ways_of}
use Rattle.tt_abs.specs.StateFlow.{GivesState, Place, RefusesState}
use Rattle.tt_abs.specs.States.{abstract_of, state_order}
use Rattle.tt_abs.specs.Transfers.{Next, outcome_on_cells}
use Rattle.tt_abs.proofs.StateParts.{one_state}
use Rattle.tt_family.specs.Checks.{place_of_next}
use Rattle.tt_family.proofs.Checked.{same_states}
use Rattle.tt_find.specs.Representation.Solvers.{Pends, place_of_way, places_from}

pends_at : (fs : List Frame) (ways : List Move) (t : State) (i : ℕ) (n : Next) → slice_get (map (next_by fs (abstract_of t)) ways) i ≡ Some n
    → Pends (map (place_of_way fs) ways) t (place_of_next n) t
pends_at fs [] t i n e = absurd (cc)
pends_at fs (way ∷ ways) t zero n e = let same : next_by fs (abstract_of t) way ≡ n = cc in inl (ap place_of_next (sym same), refl)
pends_at fs (way ∷ ways) t (suc i) n e = inr (pends_at fs ways t i n e)

-- what waits is a next abstract state
next_of : (fs : List Frame) (ways : List Move) (t : State) (q : Place) (u : State) → Pends (map (place_of_way fs) ways) t q u
    → (u ≡ t) × (i : ℕ) × (n : Next) × (slice_get (map (next_by fs (abstract_of t)) ways) i ≡ Some n) × (place_of_next n ≡ q)
next_of fs [] t q u never = absurd never
next_of fs (way ∷ ways) t q u (inl h) = (h.1, 0, next_by fs (abstract_of t) way, refl, sym h.0)
next_of fs (way ∷ ways) t q u (inr h) = let (same, i, n, found, place) = next_of fs ways t q u h in (same, suc i, n, found, place)

module _ (s : Setting) (p : Place) (a : State) where
  -- nothing is refused at the main program's end, and nothing is given
  module _ (ends : is_main_end s p.0 p.1 ≡ true) where
    pub end_safe : (r : Reason) → RefusesState s p a r → ⊥
    end_safe r x = let no_such : true ≡ false = sym ends ∙ x.running in cc

    pub end_gives : (q : Place) (u : State) → ⊥ ↔ GivesState s p a q u
    end_gives q u = ((λ never. absurd never), (λ g. let no_such : true ≡ false = sym ends ∙ g.running in absurd (cc)))

  module _ (ways : Moves) (t : State) (running : is_main_end s p.0 p.1 ≡ false) (result : outcome_on_cells s p.0 p.1 (abstract_of a) ≡ Ok (nexts_of p.0 ways (abstract_of t))) (in_range : state_order.InRange t) where
    pub ways_safe : (r : Reason) → RefusesState s p a r → ⊥
    ways_safe r x = let no_such : Ok (nexts_of p.0 ways (abstract_of t)) ≡ Err r = sym result ∙ x.refused in cc

    given : (q : Place) (u : State) → Pends (places_from p.0 ways 0) t q u → GivesState s p a q u
    given q u waits =
        let (same, i, n, found, place) = next_of p.0 (ways_of ways) t q u waits in
        let R : State → Type 0 = λ x. state_order.InRange x in
        record {
          running = running;
          nexts = nexts_of p.0 ways (abstract_of t);
          result = result;
          index = i;
          next = n;
          found = found;
          frames_are = ap (λ (x : Place). x.0) place;
          offset_is = ap (λ (x : Place). x.1) place;
          state_is = ap abstract_of same ∙ same_states p.0 ways (abstract_of t) i n found;
          in_range = subst R (sym same) in_range;
        }

    worklist : (q : Place) (u : State) → GivesState s p a q u → Pends (places_from p.0 ways 0) t q u
    worklist q u g =
        let ok : Ok g.nexts ≡ Ok (nexts_of p.0 ways (abstract_of t)) = sym g.result ∙ result in
        let same : g.nexts ≡ nexts_of p.0 ways (abstract_of t) = cc in
        let found : slice_get (nexts_of p.0 ways (abstract_of t)) g.index ≡ Some g.next = ap (λ (ns : List Next). slice_get ns g.index) (sym same) ∙ g.found in
        let state : u ≡ t = one_state u t g.in_range in_range (g.state_is ∙ sym (same_states p.0 ways (abstract_of t) g.index g.next found)) in
        let place : place_of_next g.next ≡ q = λ i. (g.frames_are i, g.offset_is i) in
        let W : Place × State → Type 0 = λ x. Pends (places_from p.0 ways 0) t x.0 x.1 in
        let both : ◌≡◌ {A = Place × State} (place_of_next g.next, t) (q, u) = λ i. (place i, sym state i) in
        subst W both (pends_at p.0 (ways_of ways) t g.index g.next found)

    pub ways_give : (q : Place) (u : State) → Pends (places_from p.0 ways 0) t q u ↔ GivesState s p a q u
    ways_give q u = (given q u, worklist q u)
