-- The outcome on cells stands for the machine at every offset; and a family is good exactly if it covers the machine's steps.
use Rattle.std.specs.Prelude.{◌↔◌, ℤ, pos, nat_lt, slice_get, ◌<◌, ◌≤◌, ◌^◌}
use Rattle.std.proofs.Common.{◌≡◌, ℕ, List, [], ◌∷◌, Ok, Err, Option, Some, None, refl, sym, ◌∙◌, ap, subst, inl, inr, arith, length, Bool, true, false}
use Rattle.std.proofs.lemmas.Bool.{ltb-true, ltb-false}
use Rattle.tt_code.specs.Cut.{Instruction}
use Rattle.tt_code.specs.Refusals.{Tested}
use Rattle.tt_code.specs.Runs.{is_at_end, outcome, performs}
use Rattle.tt_code.specs.Settings.{Setting, ZoneNumber, Zero, One, is_main_end}
use Rattle.tt_code.specs.States.{Machine, default_graphics}
use Rattle.tt_code.specs.declared.machine.Frame.{Frame}
use Rattle.tt_code.specs.declared.reason.Reason.{Reason}
use Rattle.tt_code.specs.declared.reason.Reason.TheVariants as reason
use Rattle.tt_abs.specs.declared.state.State.{State}
use Rattle.tt_setting.specs.declared.zone.ZoneCell.TheVariants as zone
use Rattle.tt_abs.specs.Cells.{Abstract, CoversGraphics, CoversStack, CoversState, CoversZone, Numbers}
use Rattle.tt_abs.specs.Covers.{Becomes, Gives, IsRefused, MOST_CONTEXTS, ManyFrames, SomeFaults, SomeRecurs, Stands, StandsFor, has_body_twice}
use Rattle.tt_setting.specs.Entries.{Ascends}
use Rattle.tt_abs.specs.Families.{CoversAt, IsGood}
use Rattle.tt_abs.specs.Goodness.{CoversSteps, HasStateIn, IsFamilyByContext}
use Rattle.tt_abs.specs.Ranges.{AreInRange}
use Rattle.tt_setting.specs.Ranges.{IsSettingInRange}
use Rattle.tt_setting.specs.Functions.{StartsWith}
use Rattle.tt_abs.specs.Soundness.{IsCoveredBy}
use Rattle.tt_setting.specs.Ranges.{AreProgramsShort}
use Rattle.tt_abs.specs.StateFlow.{GivesState, Place, RefusesState, flow_of}
use Rattle.tt_abs.specs.States.{abstract_of, default_cells, start_of, state_order}
use Rattle.tt_abs.specs.Transfers.{Next, outcome_on_cells}
use Rattle.tt_setting.specs.Settings.{instruction_of}
use Rattle.tt_abs.proofs.Choosing.{some_graphics, some_stack, zero_is_number}
use Rattle.tt_abs.proofs.Everything.{everything_stands, more_is_refused}
use Rattle.tt_abs.proofs.FlowOfStates.{start_range}
use Rattle.tt_abs.proofs.ListsKept.{EndsBelow, ends_below, refused_past_end}
use Rattle.tt_abs.proofs.Machines.{area_covered, machine_stands, machine_with, some_area}
use Rattle.tt_abs.proofs.Places.{RunOnce}
use Rattle.tt_abs.proofs.Soundness.{followed_never_faults, start_followed, step_followed}
use Rattle.tt_abs.proofs.StateCoverage.{state_from_coverage}
use Rattle.tt_abs.proofs.StateParts.{stack_to}

-- The outcome on cells.

-- past the ends of the programs every machine faults
faults_past_end : (s : Setting) (fs : List Frame) (at : ℕ) (a : Abstract) → AreProgramsShort s → 2 ^ 31 ≤ at → SomeFaults a fs at (outcome s)
unfolding outcome
faults_past_end s fs at a short past =
    let (g, c) = some_graphics a.registers.graphics in
    let (ns, d) = some_stack a.stack in
    let m : Machine = machine_with a fs at g ns (some_area a) in
    (m, reason.Target, machine_stands a fs at g ns (some_area a) c d (area_covered a), go m (instruction_of s fs at) (ends_below s fs at short))
  where
    go : (m : Machine) (i : Option Instruction) → EndsBelow at i → performs s m i ≡ Err reason.Target
    go m None small = refl
    go m (Some []) small = refl
    go m (Some (code ∷ rest)) small = absurd (omega (arith, small))

-- at every offset the outcome on cells stands for what the covered machines become
pub stands_anywhere : (s : Setting) (fs : List Frame) (at : ℕ) (a : Abstract) → AreProgramsShort s → AreInRange a.stack → RunOnce fs → StandsFor a fs at (outcome s) (outcome_on_cells s fs at a)
stands_anywhere s fs at a short fits once = go (nat_lt at (2 ^ 31)) refl
  where
    go : (b : Bool) → nat_lt at (2 ^ 31) ≡ b → StandsFor a fs at (outcome s) (outcome_on_cells s fs at a)
    go true small = everything_stands s fs at a (ltb-true at (2 ^ 31) small) fits once
    go false great =
        let past : 2 ^ 31 ≤ at = ltb-false at (2 ^ 31) great in
        let R : Tested (List Next) → Type 0 = λ r. StandsFor a fs at (outcome s) r in
        subst R (sym (refused_past_end s fs at a short past)) (inl (faults_past_end s fs at a short past))

-- and it is refused exactly where one of them faults, comes to run a body twice, or they come to too many lists of frames
pub refused_anywhere : (s : Setting) (fs : List Frame) (at : ℕ) (a : Abstract) → AreProgramsShort s → AreInRange a.stack → RunOnce fs
    → ((r : Reason) × (outcome_on_cells s fs at a ≡ Err r)) ↔ IsRefused a fs at (outcome s)
refused_anywhere s fs at a short fits once = (why, refused (outcome_on_cells s fs at a) (stands_anywhere s fs at a short fits once))
  where
    why : (r : Reason) × (outcome_on_cells s fs at a ≡ Err r) → IsRefused a fs at (outcome s)
    why h = let R : Tested (List Next) → Type 0 = λ r. StandsFor a fs at (outcome s) r in subst R h.1 (stands_anywhere s fs at a short fits once)

    refused : (t : Tested (List Next)) → StandsFor a fs at (outcome s) t → IsRefused a fs at (outcome s) → (r : Reason) × (t ≡ Err r)
    refused (Err r) h k = (r, refl)
    refused (Ok ns) h k = absurd (more_is_refused a a fs at (outcome s) ns (λ m c. c) k h)

-- Machines that start.

empty_from : (stack : List ℤ) → CoversStack [] stack → stack ≡ []
empty_from [] h = refl
empty_from (n ∷ ns) h = absurd h

one_from : (z : ZoneNumber) → CoversZone zone.One z → z ≡ One
one_from Zero h = absurd h
one_from One h = refl

defaults_from : (g : Numbers) → CoversGraphics default_cells g → g ≡ default_graphics
defaults_from g h =
    let zp0 : g.zp0 ≡ One = one_from g.zp0 h.zp0 in
    let zp1 : g.zp1 ≡ One = one_from g.zp1 h.zp1 in
    let zp2 : g.zp2 ≡ One = one_from g.zp2 h.zp2 in
    λ i. record { rp0 = h.rp0 i; rp1 = h.rp1 i; rp2 = h.rp2 i; zp0 = zp0 i; zp1 = zp1 i; zp2 = zp2 i; loop_number = h.loop_number i }

-- the machine at the program's first byte
at_start : Machine → Machine
at_start m = record m { frames = []; offset = 0 }

-- what the start covers starts there
start_from : (functions : List (ℕ × ℕ)) (m : Machine) → CoversState (abstract_of (start_of functions)) m → StartsWith functions (at_start m)
unfolding at_start
start_from functions m h = record {
  fresh = record {
    no_frames = refl;
    at_first_byte = refl;
    empty_stack = empty_from m.stack h.stack;
    default = defaults_from m.registers.graphics h.graphics;
    stored = h.storage;
  };
  defined = h.functions;
}

covers_at_start : (a : Abstract) (m : Machine) → CoversState a (at_start m) → CoversState a m
unfolding at_start
covers_at_start a m h = record { stack = h.stack; graphics = h.graphics; storage = h.storage; functions = h.functions }

-- a machine that starts
starting : List (ℕ × ℕ) → Machine
starting functions = record { frames = []; offset = 0; stack = []; registers = record { graphics = default_graphics; storage = λ i. pos 0 }; functions = functions }

starting_starts : (functions : List (ℕ × ℕ)) → StartsWith functions (starting functions)
unfolding starting
starting_starts functions = record {
  fresh = record { no_frames = refl; at_first_byte = refl; empty_stack = refl; default = refl; stored = λ i. zero_is_number };
  defined = λ n body h. h;
}

module _ (s : Setting) (setting : IsSettingInRange s) (short : AreProgramsShort s) (functions : List (ℕ × ℕ)) (ascends : Ascends functions)
    (family : Place → Option State) (contexts : IsFamilyByContext family) where
  -- From good to the machine's steps.

  covers_steps : IsGood state_order (flow_of s functions) family → CoversSteps s functions family
  covers_steps good = record {
    starts = λ m h. (start_followed s setting short functions ascends family good m h).covered;
    safe = λ m r h f. followed_never_faults s setting short functions ascends family good m r (record { covered = h; once = runs_once m h }) f;
    closed = λ m n h w. (step_followed s setting short functions ascends family good m n (record { covered = h; once = runs_once m h }) w).covered;
  }
    where
      runs_once : (m : Machine) → IsCoveredBy family m → has_body_twice m.frames ≡ false
      runs_once m (u, at, _) = (contexts.calls (m.frames, m.offset) u at).once

  -- And back.

  module _ (covers : CoversSteps s functions family) where
    -- what the family covers at a place is covered by its state there
    covered_there : (p : Place) (u : State) → family p ≡ Some u → (m : Machine) → m.frames ≡ p.0 → m.offset ≡ p.1 → IsCoveredBy family m → CoversState (abstract_of u) m
    covered_there p u at m frames offset (v, at', h) =
        let place : ◌≡◌ {A = Place} (m.frames, m.offset) p = λ i. (frames i, offset i) in
        let both : Some v ≡ Some u = sym at' ∙ ap family place ∙ at in
        let same : v ≡ u = cc in
        subst (λ (x : State). CoversState (abstract_of x) m) same h

    covers_start : CoversAt state_order family ([], 0) (start_of functions)
    unfolding starting at_start
    covers_start =
        let (u, at, _) = covers.starts (starting functions) (starting_starts functions) in (
          u,
          at,
          state_from_coverage (start_of functions) u (start_range functions ascends) (λ m h.
              covers_at_start (abstract_of u) m (covered_there ([], 0) u at (at_start m) refl refl (covers.starts (at_start m) (start_from functions m h)))),
        )

    module _ (p : Place) (a : State) (at : family p ≡ Some a) where
      stands_at : StandsFor (abstract_of a) p.0 p.1 (outcome s) (outcome_on_cells s p.0 p.1 (abstract_of a))
      stands_at = stands_anywhere s p.0 p.1 (abstract_of a) short (stack_to a.stack (contexts.in_range p a at).0) (contexts.calls p a at).once

      covered_at : (m : Machine) → Stands (abstract_of a) p.0 p.1 m → IsCoveredBy family m
      covered_at m h =
          let place : ◌≡◌ {A = Place} (m.frames, m.offset) p = λ i. (h.frames_are i, h.offset_is i) in
          (a, ap family place ∙ at, h.covered)

      running_at : is_main_end s p.0 p.1 ≡ false → (m : Machine) → Stands (abstract_of a) p.0 p.1 m → is_at_end s m ≡ false
      running_at running m h =
          let place : ◌≡◌ {A = Place} p (m.frames, m.offset) = λ i. (sym h.frames_are i, sym h.offset_is i) in
          subst (λ (q : Place). is_main_end s q.0 q.1 ≡ false) place running

      -- what a covered machine becomes is covered
      covered_next : is_main_end s p.0 p.1 ≡ false → (m : Machine) → Becomes (abstract_of a) p.0 p.1 (outcome s) m → IsCoveredBy family m
      covered_next running m h =
          covers.closed h.old m (covered_at h.old h.stands) (record {
            running = running_at running h.old h.stands;
            result = h.result;
            does_it = h.does_it;
            choices = h.choices;
            are_numbers = h.are_numbers;
            new_is = h.new_is;
          })

      none_faults : is_main_end s p.0 p.1 ≡ false → SomeFaults (abstract_of a) p.0 p.1 (outcome s) → ⊥
      none_faults running (m, r, stands, fails) = covers.safe m r (covered_at m stands) (record { running = running_at running m stands; fails = fails })

      none_recurs : is_main_end s p.0 p.1 ≡ false → SomeRecurs (abstract_of a) p.0 p.1 (outcome s) → ⊥
      none_recurs running (m, becomes, twice) =
          let (u, there, _) = covered_next running m becomes in
          let once : has_body_twice m.frames ≡ false = (contexts.calls (m.frames, m.offset) u there).once in
          let no_such : true ≡ false = sym twice ∙ once in
          cc

      few_frames : is_main_end s p.0 p.1 ≡ false → ManyFrames (abstract_of a) p.0 p.1 (outcome s) → ⊥
      few_frames running h =
          let most : length h.lists ≤ MOST_CONTEXTS = contexts.few h.lists (record { apart = h.apart; each = in_each }) in
          let many : MOST_CONTEXTS < length h.lists = h.many in
          omega arith
        where
          in_each : (i : ℕ) (fs : List Frame) → slice_get h.lists i ≡ Some fs → HasStateIn family fs
          in_each i fs found =
              let (m, becomes, frames) = h.each i fs found in
              let (u, there, _) = covered_next running m becomes in
              let place : ◌≡◌ {A = Place} (fs, m.offset) (m.frames, m.offset) = λ j. (sym frames j, m.offset) in
              (m.offset, u, ap family place ∙ there)

      is_safe : (r : Reason) → RefusesState s p a r → ⊥
      is_safe r h = elim refused [
        | inl f ↦ none_faults h.running f
        | inr g ↦ elim g [
          | inl f ↦ none_recurs h.running f
          | inr f ↦ few_frames h.running f
        ]
      ]
        where
          refused : IsRefused (abstract_of a) p.0 p.1 (outcome s)
          refused = let R : Tested (List Next) → Type 0 = λ r. StandsFor (abstract_of a) p.0 p.1 (outcome s) r in subst R h.refused stands_at

      is_closed : (q : Place) (t : State) → GivesState s p a q t → CoversAt state_order family q t
      is_closed q t g =
          let R : Tested (List Next) → Type 0 = λ r. StandsFor (abstract_of a) p.0 p.1 (outcome s) r in
          let gives : Gives (abstract_of a) p.0 p.1 (outcome s) g.nexts = subst R g.result stands_at in
          let (m, met) = gives.covers.met g.index g.next g.found in
          let (u, there, _) = covered_next g.running m met.0 in
          let place : ◌≡◌ {A = Place} q (m.frames, m.offset) = λ i. ((sym g.frames_are ∙ sym met.1) i, (sym g.offset_is ∙ sym met.2) i) in
          let at_q : family q ≡ Some u = ap family place ∙ there in
          let least : (n : Machine) → CoversState g.next.state n → CoversState (abstract_of u) n =
          (gives.covers.smallest g.index g.next g.found).least (abstract_of u) (λ n k. covered_there q u at_q n (k.1 ∙ g.frames_are) (k.2 ∙ g.offset_is) (covered_next g.running n k.0)) in
          (u, at_q, state_from_coverage t u g.in_range (λ n k. least n (subst (λ (x : Abstract). CoversState x n) g.state_is k)))

    is_good : IsGood state_order (flow_of s functions) family
    is_good = record {
      in_range = contexts.in_range;
      start = covers_start;
      safe = λ p a r at. is_safe p a at r;
      closed = λ p a q t at. is_closed p a at q t;
    }

  pub good_by_machines : IsGood state_order (flow_of s functions) family ↔ CoversSteps s functions family
  good_by_machines = (covers_steps, is_good)
