-- A good family covers every machine that a run comes to, and none of these faults.
use Rattle.std.specs.Prelude.{nat_lt, ◌^◌}
use Rattle.std.proofs.Common.{◌≡◌, ℕ, List, [], Ok, Err, Option, Some, refl, sym, ◌∙◌, ap, subst, Bool, true, false}
use Rattle.std.proofs.lemmas.Bool.{ltb-true, ltb-false}
use Rattle.tt_code.specs.Refusals.{Tested}
use Rattle.tt_code.specs.Runs.{Faults, NeverFaults, Runs, Steps, here, step, is_at_end, outcome}
use Rattle.tt_code.specs.Settings.{Setting}
use Rattle.tt_code.specs.States.{Machine, default_graphics}
use Rattle.tt_code.specs.declared.reason.Reason.{Reason}
use Rattle.tt_code.specs.declared.reason.Reason.TheVariants as reason
use Rattle.tt_abs.specs.declared.state.State.{State}
use Rattle.tt_abs.specs.Cells.{Abstract, CoversGraphics, CoversStack, CoversState, Numbers}
use Rattle.tt_abs.specs.Covers.{Becomes, Gives, Stands, StandsFor, has_body_twice}
use Rattle.tt_setting.specs.Entries.{Ascends}
use Rattle.tt_abs.specs.Families.{IsGood}
use Rattle.tt_setting.specs.Ranges.{IsSettingInRange}
use Rattle.tt_setting.specs.Functions.{StartsWith}
use Rattle.tt_abs.specs.Soundness.{IsCoveredBy, IsSafe}
use Rattle.tt_abs.specs.StateFlow.{Place, GivesState, flow_of}
use Rattle.tt_setting.specs.Ranges.{AreProgramsShort}
use Rattle.tt_abs.specs.States.{abstract_of, default_cells, start_of, state_order}
use Rattle.tt_abs.specs.Transfers.{Next, outcome_on_cells}
use Rattle.tt_abs.proofs.Everything.{everything_stands, never_faults, steps_are_covered}
use Rattle.tt_abs.proofs.FlowOfStates.{start_range}
use Rattle.tt_abs.proofs.ListsKept.{refused_past_end}
use Rattle.tt_abs.proofs.StateCoverage.{state_covers}
use Rattle.tt_abs.proofs.StateParts.{stack_to, next_state}

defaults_covered : CoversGraphics default_cells default_graphics
defaults_covered = record { rp0 = refl; rp1 = refl; rp2 = refl; zp0 = tt; zp1 = tt; zp2 = tt; loop_number = refl }

-- a machine at a start is covered by the start
pub start_covers : (functions : List (ℕ × ℕ)) (m : Machine) → StartsWith functions m → CoversState (abstract_of (start_of functions)) m
start_covers functions m h = record {
  stack = subst (CoversStack []) (sym h.fresh.empty_stack) tt;
  graphics = let G : Numbers → Type 0 = λ g. CoversGraphics default_cells g in subst G (sym h.fresh.default) defaults_covered;
  storage = h.fresh.stored;
  functions = h.defined;
}

module _ (s : Setting) (setting : IsSettingInRange s) (short : AreProgramsShort s) (functions : List (ℕ × ℕ)) (ascends : Ascends functions)
    (family : Place → Option State) (good : IsGood state_order (flow_of s functions) family) where
  -- what holds along runs: the machine is covered, and runs no body twice
  pub record IsFollowed (m : Machine) : Type 0 where
    pub covered : IsCoveredBy family m
    pub once : has_body_twice m.frames ≡ false

  -- what the outcome on cells says there
  record IsAllowed (m : Machine) (u : State) : Type 0 where
    nexts : List Next
    result : outcome_on_cells s m.frames m.offset (abstract_of u) ≡ Ok nexts
    gives : Gives (abstract_of u) m.frames m.offset (outcome s) nexts

  -- a covered machine that hasn't come to the main program's end is allowed to go on
  allowed : (m : Machine) (u : State) → family (m.frames, m.offset) ≡ Some u → has_body_twice m.frames ≡ false → is_at_end s m ≡ false → IsAllowed m u
  allowed m u at once running = go (outcome_on_cells s m.frames m.offset (abstract_of u)) refl (nat_lt m.offset (2 ^ 31)) refl
    where
      go : (r : Tested (List Next)) → outcome_on_cells s m.frames m.offset (abstract_of u) ≡ r → (b : Bool) → nat_lt m.offset (2 ^ 31) ≡ b → IsAllowed m u
      go (Err r) e b small = absurd (good.safe (m.frames, m.offset) u r at (record { running = running; refused = e }))
      go (Ok nexts) e false small =
          let past : outcome_on_cells s m.frames m.offset (abstract_of u) ≡ Err reason.Target = refused_past_end s m.frames m.offset (abstract_of u) short (ltb-false m.offset (2 ^ 31) small) in
          let no_such : Ok nexts ≡ Err reason.Target = sym e ∙ past in absurd (cc)
      go (Ok nexts) e true small =
          let R : Tested (List Next) → Type 0 = λ r. StandsFor (abstract_of u) m.frames m.offset (outcome s) r in
          let range : state_order.InRange u = good.in_range (m.frames, m.offset) u at in
          record {
            nexts = nexts;
            result = e;
            gives = subst R e (everything_stands s m.frames m.offset (abstract_of u) (ltb-true m.offset (2 ^ 31) small) (stack_to u.stack range.0) once);
          }

  stands_here : (m : Machine) (u : State) → CoversState (abstract_of u) m → Stands (abstract_of u) m.frames m.offset m
  stands_here m u covers = record { covered = covers; frames_are = refl; offset_is = refl }

  -- what a followed machine becomes is followed
  pub step_followed : (old new : Machine) → IsFollowed old → Steps s old new → IsFollowed new
  step_followed old new h w =
      let (u, at, covers) = h.covered in
      let a : IsAllowed old u = allowed old u at h.once w.running in
      let (i, n, found, there) = steps_are_covered s old.frames old.offset (abstract_of u) a.nexts a.gives old new (stands_here old u covers) w in
      let (t, is) = next_state s old.frames old.offset u a.nexts setting short (good.in_range (old.frames, old.offset) u at) a.result i n found in
      let given : GivesState s (old.frames, old.offset) u (new.frames, new.offset) t = record {
        running = w.running;
        nexts = a.nexts;
        result = a.result;
        index = i;
        next = n;
        found = found;
        frames_are = sym there.frames_are;
        offset_is = sym there.offset_is;
        state_is = is.state_is;
        in_range = is.in_range;
      } in
      let (v, at', below) = good.closed (old.frames, old.offset) u (new.frames, new.offset) t at given in
      let C : Abstract → Type 0 = λ x. CoversState x new in
      let becomes : Becomes (abstract_of u) old.frames old.offset (outcome s) new = record {
        old = old;
        stands = stands_here old u covers;
        result = w.result;
        does_it = w.does_it;
        choices = w.choices;
        are_numbers = w.are_numbers;
        new_is = w.new_is;
      } in
      record {
        covered = (v, at', state_covers t v is.in_range below new (subst C (sym is.state_is) there.covered));
        once = not_twice (has_body_twice new.frames) refl (λ twice. a.gives.none_recurs (new, becomes, twice));
      }
    where
      not_twice : (b : Bool) → has_body_twice new.frames ≡ b → (has_body_twice new.frames ≡ true → ⊥) → has_body_twice new.frames ≡ false
      not_twice true e k = absurd (k e)
      not_twice false e k = e

  runs_followed : (m n : Machine) → IsFollowed m → Runs s m n → IsFollowed n
  runs_followed m n h (here m') = h
  runs_followed m n h (step a b c w rest) = runs_followed b c (step_followed a b h w) rest

  pub start_followed : (m : Machine) → StartsWith functions m → IsFollowed m
  start_followed m h =
      let (u, at, below) = good.start in
      let place : (m.frames, m.offset) ≡ ([], 0) = λ i. (h.fresh.no_frames i, h.fresh.at_first_byte i) in
      record {
        covered = (u, ap family place ∙ at, state_covers (start_of functions) u (start_range functions ascends) below m (start_covers functions m h));
        once = ap has_body_twice h.fresh.no_frames;
      }

  pub followed_never_faults : (n : Machine) (r : Reason) → IsFollowed n → Faults s n r → ⊥
  followed_never_faults n r h f =
      let (u, at, covers) = h.covered in
      let a : IsAllowed n u = allowed n u at h.once f.running in
      never_faults s n.frames n.offset (abstract_of u) a.nexts a.gives n r (stands_here n u covers) f

  pub good_is_safe : IsSafe s functions family
  good_is_safe m n starts runs =
      let h : IsFollowed n = runs_followed m n (start_followed m starts) runs in (h.covered, λ r. followed_never_faults n r h)

  pub good_never_faults : NeverFaults s (StartsWith functions)
  good_never_faults m n r starts runs = (good_is_safe m n starts runs).1 r
