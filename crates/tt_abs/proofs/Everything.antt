-- Any instruction: the outcome on cells is refused exactly if some covered machine faults, comes to run a body twice, or covered
-- machines come to more lists of frames than a program may have; else it gives the smallest covers of what they become. So the
-- machine's steps are covered, and what is covered by more is refused wherever less is.
use Rattle.std.specs.Prelude.{◌≢◌, slice_get, ◌<◌, ◌≤◌, ◌^◌, Option}
use Rattle.std.proofs.Common.{◌≡◌, ℕ, suc, ◌+◌, List, [], ◌∷◌, Ok, Err, Some, None, refl, sym, ◌∙◌, ap, subst, inl, inr, arith, length, true}
use Rattle.std.proofs.lemmas.Option.{slice_get_within}
use Rattle.tt_code.specs.Refusals.{Tested, ◌>>=◌}
use Rattle.tt_code.specs.Table.{Meaning, NoEntry, Plain, Pushes, Stack, Computes, Controls, Lists, effect_of}
use Rattle.tt_code.specs.Cut.{Instruction}
use Rattle.tt_code.specs.Settings.{Setting}
use Rattle.tt_code.specs.States.{Machine, Outcome}
use Rattle.tt_code.specs.Control.{controlled}
use Rattle.tt_code.specs.Runs.{does, within_depth, performs, fetched, outcome, Faults, Steps}
use Rattle.tt_code.specs.declared.machine.Frame.{Frame}
use Rattle.tt_code.specs.declared.reason.Reason.{Reason}
use Rattle.tt_code.specs.declared.reason.Reason.TheVariants as reason
use Rattle.tt_code.specs.declared.kinds.Control.{Control}
use Rattle.tt_code.specs.declared.kinds.Control.TheVariants.{If, Else, Jump, JumpIfTrue, JumpIfFalse, Call, LoopCall, FunctionDefinition, EndFunction, InstructionDefinition}
use Rattle.tt_abs.specs.Cells.{Abstract, CoversState}
use Rattle.tt_abs.specs.Ranges.{AreInRange}
use Rattle.tt_abs.specs.Covers.{Stands, MOST_CONTEXTS, IsRefused, Gives, StandsFor}
use Rattle.tt_abs.specs.Representation.Followed.{is_followed}
use Rattle.tt_abs.specs.Transfers.{Next, does_cells, controlled_cells, performs_cells, within_cells, outcome_on_cells}
use Rattle.tt_setting.specs.Settings.{instruction_of}
use Rattle.tt_abs.proofs.Rows.{is_readable_line}
use Rattle.tt_abs.proofs.TableRows.{rows_readable}
use Rattle.tt_abs.proofs.Depth.{AreBelow, becomes_wider, monotone_ways}
use Rattle.tt_abs.proofs.Branches.{there, stands_there, fails_there}
use Rattle.tt_abs.proofs.Steps as stays
use Rattle.tt_abs.proofs.Steps.{does_stands}
use Rattle.tt_abs.proofs.Places.{RunOnce, does_leads, settled_stands, settled_within}
use Rattle.tt_abs.proofs.Calls.{stands_for_as, call_stands, loop_call_stands, end_stands}

-- By what the code stands for, then the instruction that is fetched.

module _ (s : Setting) (fs : List Frame) (at : ℕ) (a : Abstract) (small : at < 2 ^ 31) (fits : AreInRange a.stack) (once : RunOnce fs) where
  stays_there : (w : Meaning) → is_followed w ≡ true → ((line : Lists) → w ≡ Plain line → is_readable_line line ≡ true) → (rest : List ℕ) (next : ℕ)
      → StandsFor a fs at (λ m. does s m w rest next >>= within_depth s) (does_cells s fs at a w rest next >>= within_cells s)
  stays_there w followed readable rest next =
      settled_within s a fs at (λ m. does s m w rest next) (does_cells s fs at a w rest next) (does_leads RunOnce s fs at a once w followed rest next)
      (does_stands s fs at a w followed readable small fits rest next)

  -- what is said of the machine that is there
  moved : (c : Control) → StandsFor a fs at (λ m. controlled s (there s fs at m) c >>= within_depth s) (controlled_cells s fs at a c >>= within_cells s)
      → StandsFor a fs at (λ m. controlled s m c >>= within_depth s) (controlled_cells s fs at a c >>= within_cells s)
  moved c =
      stands_for_as a fs at (λ m. controlled s (there s fs at m) c >>= within_depth s) (λ m. controlled s m c >>= within_depth s) (controlled_cells s fs at a c >>= within_cells s)
      (λ m st. ap (λ x. controlled s x c >>= within_depth s) (stands_there s fs at a m st))

  all_control : (c : Control) → ((line : Lists) → Controls c ≡ Plain line → is_readable_line line ≡ true) → (rest : List ℕ) (next : ℕ)
      → StandsFor a fs at (λ m. controlled s m c >>= within_depth s) (controlled_cells s fs at a c >>= within_cells s)
  all_control If readable rest next = stays_there (Controls If) refl readable rest next
  all_control Else readable rest next = stays_there (Controls Else) refl readable rest next
  all_control Jump readable rest next = stays_there (Controls Jump) refl readable rest next
  all_control JumpIfTrue readable rest next = stays_there (Controls JumpIfTrue) refl readable rest next
  all_control JumpIfFalse readable rest next = stays_there (Controls JumpIfFalse) refl readable rest next
  all_control Call readable rest next = moved Call (call_stands s fs at once a)
  all_control LoopCall readable rest next = moved LoopCall (loop_call_stands s fs at once a)
  all_control FunctionDefinition readable rest next = stays_there (Controls FunctionDefinition) refl readable rest next
  all_control EndFunction readable rest next = moved EndFunction (end_stands s fs at once a)
  all_control InstructionDefinition readable rest next = stays_there (Controls InstructionDefinition) refl readable rest next

  all_does : (w : Meaning) → ((line : Lists) → w ≡ Plain line → is_readable_line line ≡ true) → (rest : List ℕ) (next : ℕ)
      → StandsFor a fs at (λ m. does s m w rest next >>= within_depth s) (does_cells s fs at a w rest next >>= within_cells s)
  all_does NoEntry readable rest next = stays_there NoEntry refl readable rest next
  all_does (Plain line) readable rest next = stays_there (Plain line) refl readable rest next
  all_does (Pushes push) readable rest next = stays_there (Pushes push) refl readable rest next
  all_does (Stack op) readable rest next = stays_there (Stack op) refl readable rest next
  all_does (Computes op) readable rest next = stays_there (Computes op) refl readable rest next
  all_does (Controls c) readable rest next = all_control c readable rest next

  all_performs : (i : Option Instruction) → StandsFor a fs at (λ m. performs s m i) (performs_cells s fs at a i)
  all_performs None =
      settled_stands a fs at (λ m. performs s m None) (Err reason.Target) tt (fails_there s fs at a (λ m. performs s m None) reason.Target reason.Target (λ m st. refl))
  all_performs (Some []) =
      settled_stands a fs at (λ m. performs s m (Some [])) (Err reason.Target) tt (fails_there s fs at a (λ m. performs s m (Some [])) reason.Target reason.Target (λ m st. refl))
  all_performs (Some (code ∷ rest)) =
      stands_for_as a fs at (λ m. does s m (effect_of code) rest (at + suc (length rest)) >>= within_depth s) (λ m. performs s m (Some (code ∷ rest))) (performs_cells s fs at a (Some (code ∷ rest)))
      (λ m st. ap (λ k. does s m (effect_of code) rest (k + suc (length rest)) >>= within_depth s) st.offset_is)
      (all_does (effect_of code) (rows_readable code) rest (at + suc (length rest)))

  pub everything_stands : StandsFor a fs at (outcome s) (outcome_on_cells s fs at a)
  unfolding outcome outcome_on_cells
  everything_stands =
      stands_for_as a fs at (λ m. performs s m (instruction_of s fs at)) (λ m. performs s m (fetched s m)) (performs_cells s fs at a (instruction_of s fs at))
      (λ m st. ap (λ x. performs s m (fetched s x)) (stands_there s fs at a m st)) (all_performs (instruction_of s fs at))

-- what is said of next places that are given
pub outcome_gives : (s : Setting) (fs : List Frame) (at : ℕ) (a : Abstract) (ns : List Next) → at < 2 ^ 31 → AreInRange a.stack → RunOnce fs → outcome_on_cells s fs at a ≡ Ok ns → Gives a fs at (outcome s) ns
outcome_gives s fs at a ns small fits once e = let R : Tested (List Next) → Type 0 = λ r. StandsFor a fs at (outcome s) r in subst R e (everything_stands s fs at a small fits once)

-- What follows of runs.

-- where the outcome on cells isn't refused, a covered machine doesn't fault
pub never_faults : (s : Setting) (fs : List Frame) (at : ℕ) (a : Abstract) (ns : List Next) → StandsFor a fs at (outcome s) (Ok ns) → (m : Machine) (r : Reason) → Stands a fs at m → Faults s m r → ⊥
never_faults s fs at a ns h = stays.never_faults s fs at a ns (h.none_faults, h.covers)

-- and what it becomes in a step is at one of the next places and is covered there
pub steps_are_covered : (s : Setting) (fs : List Frame) (at : ℕ) (a : Abstract) (ns : List Next) → StandsFor a fs at (outcome s) (Ok ns) → (m new : Machine) → Stands a fs at m → Steps s m new
    → (i : ℕ) × (n : Next) × (slice_get ns i ≡ Some n) × Stands n.state n.frames n.offset new
steps_are_covered s fs at a ns h = stays.steps_are_covered s fs at a ns (h.none_faults, h.covers)

-- The outcome on cells is monotone: what covers more is refused wherever what covers less is.

-- which of the next places has these frames
abbrev Found : List Next → List Frame → Type 0
Found os gs = (i : ℕ) × (o : Next) × (slice_get os i ≡ Some o) × (gs ≡ o.frames)

-- two lists of frames at one place are the same
one_found : (os : List Next) (gs hs : List Frame) (i : ℕ) (o : Next) (j : ℕ) (p : Next) → slice_get os i ≡ Some o → gs ≡ o.frames → slice_get os j ≡ Some p → hs ≡ p.frames → i ≡ j → gs ≡ hs
one_found os gs hs i o j p e f g h same =
    let is : Some o ≡ Some p = sym e ∙ ap (slice_get os) same ∙ g in
    let place : o ≡ p = cc in f ∙ ap (λ x. x.frames) place ∙ sym h

-- many lists of frames, no two of them the same, are those of no two places
not_many : (os : List Next) → length os ≤ 2 → (lists : List (List Frame)) → MOST_CONTEXTS < length lists
    → ((i j : ℕ) (gs : List Frame) → slice_get lists i ≡ Some gs → slice_get lists j ≡ Some gs → i ≡ j)
    → ((i : ℕ) (gs : List Frame) → slice_get lists i ≡ Some gs → Found os gs) → ⊥
not_many os few [] many apart found = absurd (omega arith)
not_many os few (g ∷ []) many apart found = absurd (omega arith)
not_many os few (g ∷ h ∷ []) many apart found = absurd (omega arith)
not_many os few (g ∷ h ∷ k ∷ lists) many apart found =
    let (i, o, e, f) = found 0 g refl in
    let (j, p, t, u) = found 1 h refl in
    let (l, q, v, w) = found 2 k refl in
    let ne : i ≢ j = λ same. let no : ◌≡◌ {A = ℕ} 0 1 = apart 0 1 g refl (ap Some (sym (one_found os g h i o j p e f t u same))) in omega arith in
    let no_other : i ≢ l = λ same. let no : ◌≡◌ {A = ℕ} 0 2 = apart 0 2 g refl (ap Some (sym (one_found os g k i o l q e f v w same))) in omega arith in
    let nor : j ≢ l = λ same. let no : ◌≡◌ {A = ℕ} 1 2 = apart 1 2 h refl (ap Some (sym (one_found os h k j p l q t u v w same))) in omega arith in
    let in_i = slice_get_within os i o e in
    let in_j = slice_get_within os j p t in
    let in_l = slice_get_within os l q v in
    omega arith

-- what covers more isn't given where what covers less is refused
pub more_is_refused : (a b : Abstract) (fs : List Frame) (at : ℕ) (does : Machine → Tested Outcome) (os : List Next) → ((m : Machine) → CoversState a m → CoversState b m)
    → IsRefused a fs at does → Gives b fs at does os → ⊥
more_is_refused a b fs at does os wider h k = elim h [
  | inl h ↦
      let (m, r, st, f) = h in
      let (o, g) = k.none_faults m (record { covered = wider m st.covered; frames_are = st.frames_are; offset_is = st.offset_is }) in
      let no_such : Ok o ≡ Err r = sym g ∙ f in absurd (cc)
  | inr h ↦ elim h [
    | inl h ↦ let (m, w, twice) = h in k.none_recurs (m, becomes_wider a b fs at does wider m w, twice)
    | inr h ↦ not_many os k.few h.lists h.many h.apart (λ i gs f.
        let (m, w, g) = h.each i gs f in
        let (j, o, is, p, q) = k.covers.places m (becomes_wider a b fs at does wider m w) in (j, o, is, sym g ∙ p))
  ]
]

pub outcome_monotone : (s : Setting) (fs : List Frame) (at : ℕ) (a b : Abstract) (os : List Next) → at < 2 ^ 31 → AreInRange a.stack → AreInRange b.stack → RunOnce fs
    → ((m : Machine) → CoversState a m → CoversState b m) → outcome_on_cells s fs at b ≡ Ok os → (ns : List Next) × (outcome_on_cells s fs at a ≡ Ok ns) × AreBelow ns os
outcome_monotone s fs at a b os small fits_a fits_b once wider e =
    let R : Tested (List Next) → Type 0 = λ r. StandsFor b fs at (outcome s) r in
    less (outcome_on_cells s fs at a) (everything_stands s fs at a small fits_a once) (subst R e (everything_stands s fs at b small fits_b once))
  where
    less : (r : Tested (List Next)) → StandsFor a fs at (outcome s) r → Gives b fs at (outcome s) os → (ns : List Next) × (r ≡ Ok ns) × AreBelow ns os
    less (Err q) h k = absurd (more_is_refused a b fs at (outcome s) os wider h k)
    less (Ok ns) h k = monotone_ways a b fs at (outcome s) (Ok ns) os wider (h.none_faults, h.covers) (k.none_faults, k.covers)

    refused : (t : Tested (List Next)) → StandsFor a fs at (outcome s) t → IsRefused a fs at (outcome s) → (r : Reason) × (t ≡ Err r)
    refused (Err r) h k = (r, refl)
    refused (Ok ns) h k = absurd (more_is_refused a a fs at (outcome s) ns (λ m c. c) k h)

-- what is said of a refusal
pub outcome_refused : (s : Setting) (fs : List Frame) (at : ℕ) (a : Abstract) (r : Reason) → at < 2 ^ 31 → AreInRange a.stack → RunOnce fs → outcome_on_cells s fs at a ≡ Err r → IsRefused a fs at (outcome s)
outcome_refused s fs at a r small fits once e = let R : Tested (List Next) → Type 0 = λ r. StandsFor a fs at (outcome s) r in subst R e (everything_stands s fs at a small fits once)
