-- The laws of the flow of abstract states.
use Rattle.std.specs.Prelude.{slice_get, ◌^◌}
use Rattle.std.proofs.Common.{◌≡◌, ◌⊎◌, ℕ, ◌<◌, ◌≤◌, List, Ok, Err, Some, length, refl, sym, ◌∙◌, ap, subst, inl, inr, arith, Bool, true, false}
use Rattle.tt_code.specs.Refusals.{Tested}
use Rattle.tt_code.specs.Runs.{outcome}
use Rattle.tt_code.specs.Settings.{Setting, is_main_end}
use Rattle.tt_code.specs.States.{Machine}
use Rattle.tt_code.specs.declared.reason.Reason.{Reason}
use Rattle.tt_abs.specs.declared.state.State.{State}
use Rattle.tt_abs.specs.Cells.{Abstract, CoversState}
use Rattle.tt_abs.specs.Contexts.{FramesFit}
use Rattle.tt_abs.specs.Covers.{Gives, StandsFor}
use Rattle.tt_setting.specs.Entries.{Ascends}
use Rattle.tt_abs.specs.Flows.{FlowLaws}
use Rattle.tt_setting.specs.Ranges.{IsSettingInRange}
use Rattle.tt_abs.specs.StateFlow.{Place, IsPlace, CallsFit, FunctionsFit, FitsLimits, RefusesState, GivesState, flow_of, height_of}
use Rattle.tt_setting.specs.Ranges.{AreProgramsShort}
use Rattle.tt_abs.specs.States.{abstract_of, start_of, state_order}
use Rattle.tt_abs.specs.Transfers.{Next, outcome_on_cells}
use Rattle.tt_abs.proofs.Choosing.{zero_is_number, one_is_number}
use Rattle.tt_abs.proofs.Depth.{AreBelow}
use Rattle.tt_abs.proofs.Heights.{state_at_most}
use Rattle.tt_abs.proofs.Contexts.{nexts_fit}
use Rattle.tt_abs.proofs.Everything.{everything_stands, outcome_monotone}
use Rattle.tt_abs.proofs.OneState.{one_state_next}
use Rattle.tt_abs.proofs.Offsets.{NextFits, offsets_fit}
use Rattle.tt_abs.proofs.StateCoverage.{state_covers, state_from_coverage}
use Rattle.tt_abs.proofs.StateParts.{one_of_all, stack_to, state_in_range, one_state, next_state, next_fits}

pub start_range : (functions : List (ℕ × ℕ)) → Ascends functions → state_order.InRange (start_of functions)
start_range functions ascends =
    state_in_range (start_of functions) ascends tt (record {
      stack = tt;
      registers = record { rp0 = zero_is_number; rp1 = zero_is_number; rp2 = zero_is_number; loop_number = one_is_number; storage = λ i. tt };
    })

start_within : (s : Setting) (functions : List (ℕ × ℕ)) → FunctionsFit s functions → FitsLimits s (start_of functions)
start_within s functions fits = record { depth = omega arith; functions = fits; storage = λ i z e. absurd (cc) }

within_above : (s : Setting) (a b : State) → state_order.Below a b → FitsLimits s a → FitsLimits s b
within_above s a b below fits = record {
  depth = let same : length a.stack ≡ length b.stack = below.0.depth in let le : length a.stack ≤ s.limits.stack = fits.depth in omega arith;
  functions = λ n body l. fits.functions n body (below.1.1.0 n body l);
  storage = λ i z l. fits.storage i z (below.1.1.1 i z l);
}

-- one state covers what another does, where its abstract state covers what that one's does
covers_through : (t u : State) (n o : Abstract) → abstract_of t ≡ n → abstract_of u ≡ o → ((m : Machine) → CoversState n m → CoversState o m)
    → (m : Machine) → CoversState (abstract_of t) m → CoversState (abstract_of u) m
covers_through t u n o first second covers m h = let C : Abstract → Type 0 = λ x. CoversState x m in subst C (sym second) (covers m (subst C first h))

-- a state gives only one state
pub given_one : (s : Setting) (p : Place) (a : State) (q : Place) (t u : State) → GivesState s p a q t → GivesState s p a q u → t ≡ u
given_one s p a q t u g h =
    let ok : Ok g.nexts ≡ Ok h.nexts = sym g.result ∙ h.result in
    let same : g.nexts ≡ h.nexts = cc in
    let found : slice_get g.nexts h.index ≡ Some h.next = ap (λ (ns : List Next). slice_get ns h.index) same ∙ h.found in
    let one : g.next.state ≡ h.next.state = one_state_next s p.0 p.1 (abstract_of a) g.nexts g.index h.index g.next h.next g.result g.found found in
    one_state t u g.in_range h.in_range (g.state_is ∙ one ∙ sym h.state_is)

module _ (s : Setting) (setting : IsSettingInRange s) (short : AreProgramsShort s) where
  stands_at : (p : Place) (a : State) → IsPlace p → state_order.InRange a → StandsFor (abstract_of a) p.0 p.1 (outcome s) (outcome_on_cells s p.0 p.1 (abstract_of a))
  stands_at p a point range = everything_stands s p.0 p.1 (abstract_of a) point.offset (stack_to a.stack range.0) point.frames.once

  gives_at : (p : Place) (a : State) (nexts : List Next) → IsPlace p → state_order.InRange a → outcome_on_cells s p.0 p.1 (abstract_of a) ≡ Ok nexts → Gives (abstract_of a) p.0 p.1 (outcome s) nexts
  gives_at p a nexts point range e = let R : Tested (List Next) → Type 0 = λ r. StandsFor (abstract_of a) p.0 p.1 (outcome s) r in subst R e (stands_at p a point range)

  given_point : (p : Place) (a : State) (q : Place) (t : State) → IsPlace p → state_order.InRange a → FitsLimits s a → GivesState s p a q t → IsPlace q
  given_point p a q t point range fits g =
      let next : NextFits g.next = one_of_all NextFits g.nexts g.index g.next (offsets_fit s p.0 p.1 (abstract_of a) g.nexts short point.calls fits.functions g.result) g.found in
      let frames : FramesFit g.next.frames = nexts_fit s p.0 p.1 (abstract_of a) g.nexts point.frames (stack_to a.stack range.0) g.result g.index g.next g.found in
      let small : g.next.offset < 2 ^ 31 = next.1 in
      record { frames = subst FramesFit g.frames_are frames; calls = subst CallsFit g.frames_are next.0; offset = let is : g.next.offset ≡ q.1 = g.offset_is in omega arith }

  refused_once : (p : Place) (a : State) (r r' : Reason) → RefusesState s p a r → RefusesState s p a r' → r ≡ r'
  refused_once p a r r' x y = let both : Err r ≡ Err r' = sym x.refused ∙ y.refused in cc

  refused_or_not : (p : Place) (a : State) → ((r : Reason) × RefusesState s p a r) ⊎ ((r : Reason) → RefusesState s p a r → ⊥)
  refused_or_not p a = go (is_main_end s p.0 p.1) refl (outcome_on_cells s p.0 p.1 (abstract_of a)) refl
    where
      go : (b : Bool) → is_main_end s p.0 p.1 ≡ b → (x : Tested (List Next)) → outcome_on_cells s p.0 p.1 (abstract_of a) ≡ x
          → ((r : Reason) × RefusesState s p a r) ⊎ ((r : Reason) → RefusesState s p a r → ⊥)
      go true ends x e = inr (λ r h. let no_such : true ≡ false = sym ends ∙ h.running in cc)
      go false ends (Err r) e = inl (r, record { running = ends; refused = e })
      go false ends (Ok nexts) e = inr (λ r h. let no_such : Ok nexts ≡ Err r = sym e ∙ h.refused in cc)

  refused_gives_none : (p : Place) (a : State) (r : Reason) (q : Place) (t : State) → RefusesState s p a r → GivesState s p a q t → ⊥
  refused_gives_none p a r q t x g = let no_such : Ok g.nexts ≡ Err r = sym g.result ∙ x.refused in cc

  below_at : (p : Place) (a b : State) (os : List Next) → IsPlace p → state_order.InRange a → state_order.InRange b → state_order.Below a b → outcome_on_cells s p.0 p.1 (abstract_of b) ≡ Ok os
      → (ns : List Next) × (outcome_on_cells s p.0 p.1 (abstract_of a) ≡ Ok ns) × AreBelow ns os
  below_at p a b os point ra rb below e =
      outcome_monotone s p.0 p.1 (abstract_of a) (abstract_of b) os point.offset (stack_to a.stack ra.0) (stack_to b.stack rb.0) point.frames.once (state_covers a b ra below) e

  refused_above : (p : Place) (a b : State) (r : Reason) → IsPlace p → state_order.InRange a → state_order.InRange b → state_order.Below a b → RefusesState s p a r → (r' : Reason) × RefusesState s p b r'
  refused_above p a b r point ra rb below x = go (outcome_on_cells s p.0 p.1 (abstract_of b)) refl
    where
      go : (y : Tested (List Next)) → outcome_on_cells s p.0 p.1 (abstract_of b) ≡ y → (r' : Reason) × RefusesState s p b r'
      go (Err r') e = (r', record { running = x.running; refused = e })
      go (Ok os) e =
          let (ns, is, _) = below_at p a b os point ra rb below e in
          let no_such : Ok ns ≡ Err r = sym is ∙ x.refused in absurd (cc)

  given_covered : (p : Place) (a b : State) (q : Place) (t : State) → state_order.InRange b → (g : GivesState s p a q t) → (os : List Next) → outcome_on_cells s p.0 p.1 (abstract_of b) ≡ Ok os
      → (ns : List Next) → outcome_on_cells s p.0 p.1 (abstract_of a) ≡ Ok ns → AreBelow ns os → (u : State) × GivesState s p b q u × state_order.Below t u
  given_covered p a b q t rb g os e ns is below =
      let ok : Ok g.nexts ≡ Ok ns = sym g.result ∙ is in
      let same : g.nexts ≡ ns = cc in
      let (j, o, found, frames, offset, covers) = below g.index g.next (ap (λ (x : List Next). slice_get x g.index) (sym same) ∙ g.found) in
      let (u, of) = next_state s p.0 p.1 b os setting short rb e j o found in
      let gives : GivesState s p b q u = record {
        running = g.running;
        nexts = os;
        result = e;
        index = j;
        next = o;
        found = found;
        frames_are = sym frames ∙ g.frames_are;
        offset_is = sym offset ∙ g.offset_is;
        state_is = of.state_is;
        in_range = of.in_range;
      } in
      (u, gives, state_from_coverage t u g.in_range (covers_through t u g.next.state o.state g.state_is of.state_is covers))

  given_above : (p : Place) (a b : State) (q : Place) (t : State) → IsPlace p → state_order.InRange a → state_order.InRange b → state_order.Below a b → ((r : Reason) → RefusesState s p b r → ⊥)
      → GivesState s p a q t → (u : State) × GivesState s p b q u × state_order.Below t u
  given_above p a b q t point ra rb below free g = go (outcome_on_cells s p.0 p.1 (abstract_of b)) refl
    where
      go : (y : Tested (List Next)) → outcome_on_cells s p.0 p.1 (abstract_of b) ≡ y → (u : State) × GivesState s p b q u × state_order.Below t u
      go (Err r) e = absurd (free r (record { running = g.running; refused = e }))
      go (Ok os) e = let (ns, is, under) = below_at p a b os point ra rb below e in given_covered p a b q t rb g os e ns is under

  pub state_flow_laws : (functions : List (ℕ × ℕ)) → Ascends functions → FunctionsFit s functions → FlowLaws state_order (flow_of s functions) (height_of s)
  state_flow_laws functions ascends fits = record {
    entry_point = record { frames = record { each = tt; once = refl }; calls = tt; offset = omega arith };
    start_in_range = start_range functions ascends;
    start_fits = start_within s functions fits;
    gives_point = given_point;
    gives_in_range = λ p a q t g. g.in_range;
    gives_fits = λ p a q t point range within g. next_fits s p.0 p.1 a g.nexts short within g.result g.index g.next g.found t g.state_is;
    one_at = given_one s;
    one_reason = refused_once;
    refused_or_not = refused_or_not;
    refused_gives_none = refused_gives_none;
    fits_above = within_above s;
    fits_height = state_at_most s;
    refuses_above = refused_above;
    gives_above = given_above;
  }
