use Rattle.std.specs.Prelude.{false, cond, slice_get, suc, zero, ◌≤◌}
use Rattle.std.specs.Option.{is_some}
use Rattle.std.proofs.Common.{◌≡◌, ◌∙◌, ◌+◌, ◌++◌, ℕ, Option, Some, None, ap, arith, refl, sym, subst}
use Rattle.tt_abs.specs.Moves.{ways_of}
use Rattle.tt_setting.specs.Settings.{setting_of}
use Rattle.tt_abs.specs.declared.moves.Move.{Move}
use Rattle.tt_abs.specs.declared.moves.Moves.{Moves}
use Rattle.tt_abs.specs.declared.moves.Moves.TheVariants.{One, Two}
use Rattle.tt_family.specs.Contents.{Contents, family_of, frames_at, refusal_in}
use Rattle.tt_family.specs.Puts.{place_of}
use Rattle.tt_find.specs.Found.{IsJustified}
use Rattle.tt_find.specs.Representation.Solvers.{HasRisen, IsApart, IsLeadingOn, IsLeadingTo, TellsSource, calls_of, here_of, place_over, places_from, updates_of}
use Rattle.tt_find.specs.declared.solver.Solver.{Solver}
use Rattle.tt_find.specs.declared.walk.Walk.{Walk}
use Rattle.tt_find.proofs.Leads.{countable_on, held, just_over, last_over, none_over, not_entered, put, ranged_to, reached_from, too_many_on}
use Rattle.tt_setting.proofs.RefusalLemmas.{refused_within}
use Rattle.tt_find.proofs.Steps.{apart_left, risen_on, stop_map, stored_updates}
use Rattle.tt_find.proofs.carry.store_successors.Goals as goal
use Rattle.tt_find.proofs.carry.store_successors.Goals.{then-is_none+then-goes_over, else-is_none+in_default-store}

pub resolve_successor-requires-clause-countable : goal.resolve_successor-requires-clause-countable
resolve_successor-requires-clause-countable c =
    countable_on (setting_of c.args.setting.now) c.args.setting.now.start.now c.requires.laws c.loop-way.solver c.loop-way.walk c.args.offset c.args.after c.args.ways c.loop-way.index c.loop-way.over
    c.in-Some.way c.args.walk.now.context c.loop-way.invariant.here c.loop-way.invariant.on (sym c.in-Some.ensures)

pub returns-in-Err-clause-stops : goal.returns-in-Err-clause-stops
returns-in-Err-clause-stops c =
    let s = setting_of c.args.setting.now in
    let fs = c.args.setting.now.start.now in
    let solver = c.loop-way.solver in
    let here = c.args.walk.now.context in
    let fault = c.in-Err.fault in
    not_entered s fs c.requires.laws (frames_at solver.builder.contexts here, c.args.offset) fault solver.builder.contexts _ c.refused.result
    (c.refused.ensures ∙ ap (λ (v : Contents). refusal_in v here c.args.offset fault) c.in-Err.ensures.kept)
    (too_many_on s fs c.requires.laws solver c.loop-way.walk c.args.offset c.args.after c.args.ways c.loop-way.index c.loop-way.over c.in-Some.way here c.loop-way.invariant.here
    c.loop-way.invariant.on (sym c.in-Some.ensures)) c.in-Err.ensures.full

pub returns-in-Err-clause-within : goal.returns-in-Err-clause-within
returns-in-Err-clause-within c = refused_within _ c.args.offset c.in-Err.fault c.refused.result c.refused.ensures

pub store-requires-clause-in_range : goal.store-requires-clause-in_range
store-requires-clause-in_range c =
    let s = setting_of c.args.setting.now in
    let fs = c.args.setting.now.start.now in
    let v = c.resolve_successor.new.builder in
    let solver : Solver = record c.loop-way.solver { builder = v } in
    let walk = c.loop-way.walk in
    let to = reached_from s fs c.requires.laws c.loop-way.solver walk c.args.offset c.args.after c.args.ways c.loop-way.index c.loop-way.over c.in-Some.way c.args.walk.now.context c.loop-way.invariant.here
    c.loop-way.invariant.on (sym c.in-Some.ensures) v c.in-Ok.place.0 c.in-Ok.place.1 c.in-Ok.ensures.added c.in-Ok.ensures.offset c.in-Ok.ensures.states c.in-Ok.ensures.family in
    ranged_to s fs c.requires.laws solver (here_of v walk c.args.offset) (place_of v c.in-Ok.place.0 c.in-Ok.place.1) walk.state
    (place_over (calls_of solver walk) c.loop-way.over ++ places_from (calls_of solver walk) c.args.ways (c.loop-way.index + 1)) to.leading

pub store-requires-clause-walk : goal.store-requires-clause-walk
store-requires-clause-walk c =
    let s = setting_of c.args.setting.now in
    let fs = c.args.setting.now.start.now in
    (reached_from s fs c.requires.laws c.loop-way.solver c.loop-way.walk c.args.offset c.args.after c.args.ways c.loop-way.index c.loop-way.over c.in-Some.way c.args.walk.now.context c.loop-way.invariant.here
    c.loop-way.invariant.on (sym c.in-Some.ensures) c.resolve_successor.new.builder c.in-Ok.place.0 c.in-Ok.place.1 c.in-Ok.ensures.added c.in-Ok.ensures.offset c.in-Ok.ensures.states c.in-Ok.ensures.family).walks

pub returns-in-Err-store-clause-stops : goal.returns-in-Err-store-clause-stops
returns-in-Err-store-clause-stops c =
    let s = setting_of c.args.setting.now in
    let fs = c.args.setting.now.start.now in
    let v = c.resolve_successor.new.builder in
    let solver : Solver = record c.loop-way.solver { builder = v } in
    let walk = c.loop-way.walk in
    let to = reached_from s fs c.requires.laws c.loop-way.solver walk c.args.offset c.args.after c.args.ways c.loop-way.index c.loop-way.over c.in-Some.way c.args.walk.now.context c.loop-way.invariant.here
    c.loop-way.invariant.on (sym c.in-Some.ensures) v c.in-Ok.place.0 c.in-Ok.place.1 c.in-Ok.ensures.added c.in-Ok.ensures.offset c.in-Ok.ensures.states c.in-Ok.ensures.family in
    let q = place_of v c.in-Ok.place.0 c.in-Ok.place.1 in
    stop_map (IsApart (family_of v) q walk.state) (IsJustified s fs) solver.marks.everywhere c.args.solver.now.marks.everywhere c.loop-way.invariant.everywhere
    (apart_left s fs c.requires.laws solver (here_of v walk c.args.offset) q walk.state (place_over (calls_of solver walk) c.loop-way.over ++ places_from (calls_of solver walk) c.args.ways (c.loop-way.index + 1))
    to.leading) c.in-Err-store.stop c.in-Err-store.ensures.stops

-- there are two ways at most
way_within : (ways : Moves) (index : ℕ) (way : Move) → slice_get (ways_of ways) index ≡ Some way → index + 1 ≤ 2
way_within (One w) zero way e = omega arith
way_within (One w) (suc i) way e = absurd (cc)
way_within (Two m n) zero way e = omega arith
way_within (Two m n) (suc zero) way e = omega arith
way_within (Two m n) (suc (suc i)) way e = absurd (cc)

none_of : (o : Option ℕ) → is_some o ≡ false → o ≡ None
none_of None e = refl
none_of (Some x) e = absurd (cc)

pub loop-way-init : goal.loop-way-init
loop-way-init c = record {
  on = record { leading = c.requires.leading; just_after = c.requires.after; goes_over = λ at e. absurd (cc); walks = c.requires.walk };
  here = refl;
  risen = record { worklist = omega arith; changes = omega arith };
  few = omega arith;
  within = omega arith;
  everywhere = refl;
}

pub loop-way-preserved : goal.loop-way-preserved
loop-way-preserved c =
    let s = setting_of c.args.setting.now in
    let fs = c.args.setting.now.start.now in
    let v = c.resolve_successor.new.builder in
    let solver : Solver = record c.loop-way.solver { builder = v } in
    let walk = c.loop-way.walk in
    let number = c.in-Ok.place.0 in
    let next = c.in-Ok.place.1 in
    let on = c.loop-way.invariant in
    let to = reached_from s fs c.requires.laws c.loop-way.solver walk c.args.offset c.args.after c.args.ways c.loop-way.index c.loop-way.over c.in-Some.way c.args.walk.now.context on.here
    on.on (sym c.in-Some.ensures) v number next c.in-Ok.ensures.added c.in-Ok.ensures.offset c.in-Ok.ensures.states c.in-Ok.ensures.family in
    let within = way_within c.args.ways c.loop-way.index c.in-Some.way (sym c.in-Some.ensures) in
    elim c.if-is_none.branch [
      | then-is_none+then-goes_over w ↦
          let none : c.loop-way.over ≡ None = none_of c.loop-way.over w.if-is_none.ensures in
          let (same, at) = c.approach_of-source.ensures.0 (w.goes_over.ensures w.if-goes_over.true) in
          let T : Option ℕ → Type 0 = λ o. IsLeadingTo s fs solver walk c.args.offset c.args.after c.args.ways (c.loop-way.index + 1) o number next in
          let later = held s fs c.requires.laws solver walk c.args.offset c.args.after c.args.ways (c.loop-way.index + 1) number next (subst T none to) (same ∙ sym on.here) at in
          let P : Solver × Walk × Option ℕ → Type 0 = λ x. IsLeadingOn s fs x.0 x.1 c.args.offset c.args.after c.args.ways (c.loop-way.index + 1) x.2 in
          let all : ◌≡◌ {A = Solver × Walk × Option ℕ} (solver, walk, Some next) (c.if-is_none.solver, c.if-is_none.walk, c.if-is_none.over) =
          λ i. (sym w.solver-is i, sym w.walk-is i, sym w.over-is i) in
          let R : Solver → Type 0 = λ x. HasRisen c.args.solver.now x in
          record {
            on = subst P all later;
            here = ap (λ (x : Walk). x.context) w.walk-is ∙ on.here;
            risen = subst R (sym w.solver-is) (record { worklist = on.risen.worklist; changes = on.risen.changes });
            few =
                let U : Option ℕ → Type 0 = λ o. updates_of c.loop-way.solver + cond (is_some o) 1 0 ≤ updates_of c.args.solver.now + c.loop-way.index in
                let before : updates_of c.loop-way.solver + 0 ≤ updates_of c.args.solver.now + c.loop-way.index = subst U none on.few in
                let after : updates_of solver + 1 ≤ updates_of c.args.solver.now + (c.loop-way.index + 1) = omega arith in
                let F : Solver × Walk × Option ℕ → Type 0 = λ x. updates_of x.0 + cond (is_some x.2) 1 0 ≤ updates_of c.args.solver.now + (c.loop-way.index + 1) in
                subst F all after;
            within = within;
            everywhere = ap (λ (x : Solver). x.marks.everywhere) w.solver-is ∙ on.everywhere;
          }
      | else-is_none+in_default-store w ↦
          let stored = w.in_default-store.ensures.stored in
          let S : ℕ → Type 0 = λ n. TellsSource n number c.args.after next c.approach_of-source.result in
          let later = put s fs c.requires.laws solver w.store.new.solver walk w.store.new.walk c.args.offset c.args.after c.args.ways (c.loop-way.index + 1) c.loop-way.over number next
          c.approach_of-source.result to stored (subst S (sym on.here) c.approach_of-source.ensures) w.in_default-store.ensures.walk w.in_default-store.ensures.context w.in_default-store.ensures.state in
          let P : Solver × Walk × Option ℕ → Type 0 = λ x. IsLeadingOn s fs x.0 x.1 c.args.offset c.args.after c.args.ways (c.loop-way.index + 1) x.2 in
          let all : ◌≡◌ {A = Solver × Walk × Option ℕ} (w.store.new.solver, w.store.new.walk, c.loop-way.over) (c.if-is_none.solver, c.if-is_none.walk, c.if-is_none.over) =
          λ i. (sym w.solver-is i, sym w.walk-is i, sym w.over-is i) in
          let R : Solver → Type 0 = λ x. HasRisen c.args.solver.now x in
          let before : HasRisen c.args.solver.now solver = record { worklist = on.risen.worklist; changes = on.risen.changes } in
          record {
            on = subst P all later;
            here = ap (λ (x : Walk). x.context) w.walk-is ∙ w.in_default-store.ensures.context ∙ on.here;
            risen = subst R (sym w.solver-is) (risen_on c.args.solver.now solver w.store.new.solver before stored.put.risen);
            few =
                let more = stored_updates solver w.store.new.solver number next walk.state c.approach_of-source.result stored in
                let so_far = on.few in
                let after : updates_of w.store.new.solver + cond (is_some c.loop-way.over) 1 0 ≤ updates_of c.args.solver.now + (c.loop-way.index + 1) = omega arith in
                let F : Solver × Walk × Option ℕ → Type 0 = λ x. updates_of x.0 + cond (is_some x.2) 1 0 ≤ updates_of c.args.solver.now + (c.loop-way.index + 1) in
                subst F all after;
            within = within;
            everywhere = ap (λ (x : Solver). x.marks.everywhere) w.solver-is ∙ stored.marks.everywhere ∙ on.everywhere;
          }
    ]

pub step_over-requires-clause-just : goal.step_over-requires-clause-just
step_over-requires-clause-just c =
    just_over (setting_of c.args.setting.now) c.args.setting.now.start.now c.requires.laws c.loop-way.solver c.loop-way.walk c.args.offset c.args.after c.args.ways c.loop-way.index c.loop-way.over
    c.in-Some-over.next c.loop-way.invariant.on c.in-Some-over.is

pub step_over-requires-clause-leading : goal.step_over-requires-clause-leading
step_over-requires-clause-leading c =
    last_over (setting_of c.args.setting.now) c.args.setting.now.start.now c.requires.laws c.loop-way.solver c.loop-way.walk c.args.offset c.args.after c.args.ways c.loop-way.index c.loop-way.over
    c.in-Some-over.next c.loop-way.invariant.on (sym c.in_default.ensures) c.in-Some-over.is

pub returns-in-None-clause-goes : goal.returns-in-None-clause-goes
returns-in-None-clause-goes c =
    none_over (setting_of c.args.setting.now) c.args.setting.now.start.now c.requires.laws c.loop-way.solver c.loop-way.walk c.args.offset c.args.after c.args.ways c.loop-way.index c.loop-way.over
    c.loop-way.invariant.on (sym c.in_default.ensures) c.in-None.is
