-- An instruction by its code, at its place.
use Rattle.std.proofs.Common.{◌≡◌, ℕ, suc, ◌+◌, ◌≤◌, ℤ, List, [], ◌∷◌, Ok, None, Option, Some, Bool, true, false, nat_eq, nat_le, if◌then◌else◌, refl, sym, ◌∙◌, ap, subst, arith, length}
use Rattle.std.proofs.lemmas.Bool.{eqb-true, leb-false}
use Rattle.std.proofs.lemmas.List.{length-map}
use Rattle.tt_code.specs.Refusals.{Tested, ◌>>=◌}
use Rattle.tt_code.specs.Cut.{Instruction, code_of, data_of, data_in, data_after, instruction_at}
use Rattle.tt_code.specs.Table.{Lists, Meaning, Plain, Pushes, Stack, Computes, Controls, effect_of}
use Rattle.tt_code.specs.Computing.{computed, exactly, numbers_in, pushed, shuffled}
use Rattle.tt_code.specs.Control.{controlled}
use Rattle.tt_code.specs.Changes.{plain}
use Rattle.tt_code.specs.Settings.{Setting as MachineSetting, program_of, starts_in_body}
use Rattle.tt_code.specs.States.{Machine, Outcome, Exactly}
use Rattle.tt_code.specs.Runs.{Choices, does, fetched, goes_on, outcome, performs, pushed_on, within_depth}
use Rattle.tt_setting.specs.declared.setting.Setting.{Setting}
use Rattle.tt_setting.specs.declared.setting.Point.{Point}
use Rattle.tt_setting.specs.Settings.{frames_of, setting_of}
use Rattle.tt_setting.specs.Settings.{instruction_of}
use Rattle.tt_code.specs.declared.machine.Frame.{Frame}
use Rattle.tt_code.specs.declared.kinds.Push.{Push}
use Rattle.tt_code.specs.declared.kinds.StackOp.{StackOp}
use Rattle.tt_code.specs.declared.kinds.Control.{Control}
use Rattle.tt_code.specs.declared.kinds.Arithmetic.{Arithmetic}
use Rattle.tt_symbolic_state.specs.Values.{Valuation, value}
use Rattle.tt_symbolic_state.specs.declared.state.State.{State}
use Rattle.tt_code.specs.declared.kinds.Refinement.{Refinement}
use Rattle.tt_code.specs.declared.kinds.Refinement.TheVariants as kinds
use Rattle.tt_code.specs.declared.kinds.Refinement.TheVariants.{Ordinary}
use Rattle.tt_code.specs.declared.kinds.Operand.TheVariants as operand
use Rattle.tt_code.specs.Table.{refinement_of}
use Rattle.tt_symbolic_state.specs.CvtMachine.{Allows, Refines}
use Rattle.tt_symbolic_state.specs.Shows.{Shows, values}
use Rattle.tt_symbolic_cells.specs.Stacking.{Restacks}
use Rattle.tt_symbolic.specs.Sound.{Allowing, Sound, Works, keeps_controls}
use Rattle.tt_symbolic.specs.Representation.Refined.{of_one_line, of_two_line, read_line, refined, write_line}
use Rattle.tt_symbolic.specs.Representation.Leading.{IsAt}
use Rattle.tt_symbolic.proofs.Controls.{starts_there}
use Rattle.tt_symbolic_cells.specs.Stacking.{PutsNumbers, numbers_on}
use Rattle.tt_symbolic.specs.Steps.{Dispatches, StepsTo, refined_by}
use Rattle.tt_symbolic.proofs.Works.{restacks_works, works_sound}

pub first_code : (i : Instruction) (c code : ℕ) (rest : List ℕ) → code_of i ≡ Some c → i ≡ code ∷ rest → code ≡ c
first_code [] c code rest e f = absurd (cc)
first_code (d ∷ ds) c code rest e f = cc

-- numbers that are pushed
pushed_numbers : (zs stack : List ℤ) (choices : Choices) → pushed_on (exactly zs) choices stack ≡ numbers_on zs stack
pushed_numbers [] stack choices = refl
pushed_numbers (z ∷ zs) stack choices = pushed_numbers zs (z ∷ stack) (λ i. choices (suc i))

numbers_length : (zs stack : List ℤ) → length (numbers_on zs stack) ≡ length stack + length zs
numbers_length [] stack = omega arith
numbers_length (z ∷ zs) stack = let e = numbers_length zs (z ∷ stack) in omega arith

data_restack : (push : Push) (rest : List ℕ) (old new : State) → PutsNumbers (numbers_in push (data_after push rest)) old.stack new.stack → Restacks (λ m. Ok (pushed push m rest)) old.ranges.items old.stack new.stack
data_restack push rest old new p = record {
  restacks = λ v m fits e.
      let zs = numbers_in push (data_after push rest) in (
        m.stack,
        exactly zs,
        refl,
        (λ choices. pushed_numbers zs m.stack choices ∙ ap (numbers_on zs) e ∙ sym (p.puts v)),
        (let n = ap length (p.puts v) in let l = numbers_length zs (values v old.stack) in let a = length-map old.stack (value v) in let b = length-map new.stack (value v) in let c = length-map zs Exactly in let d = ap length e in omega arith),
      );
}

-- what is allowed, by the code
pub refined_works : (s : MachineSetting) (kind : Refinement) (line : Lists) (code : ℕ) (old new : State) → refinement_of code ≡ kind → Works (λ m. plain s m line) (refined kind) old new → Works (λ m. plain s m line) (refined (refinement_of code)) old new
refined_works s kind line code old new e w = subst (λ (k : Refinement). Works (λ m. plain s m line) (refined k) old new) (sym e) w

-- the same at a place
sound_same : (d e : Machine → Tested Outcome) (A B : Allowing) (old new : State)
    → ((m : Machine) → m.offset ≡ old.offset → e m ≡ d m) → ((m : Machine) (k : ℕ → ℤ) (choices : Choices) (k' : ℕ → ℤ) → B m k choices k' → A m k choices k')
    → Sound d A old new → Sound e B old new
sound_same d e A B old new f g h = record {
  sound = λ m controls a.
      let w = h.sound m controls a in
      record { after = w.after; goes = f m a.offset_is ∙ w.goes; deep = w.deep; into = λ choices controls' numbers b. w.into choices controls' numbers (g m controls choices controls' b) };
}

le_true : (a b : ℕ) → a ≤ b → nat_le a b ≡ true
le_true a b h = go (nat_le a b) refl
  where
    go : (x : Bool) → nat_le a b ≡ x → x ≡ true
    go true e = refl
    go false e = let w = leb-false a b e in absurd (omega arith)

-- the instruction that starts at a place
starting : (s : MachineSetting) (fs : List Frame) (at : ℕ) (i : Instruction) → instruction_of s fs at ≡ Some i → (starts_in_body s fs at ≡ true) × (instruction_at (program_of s fs) at ≡ Some i)
starting s fs at i e = go (starts_in_body s fs at) refl
  where
    go : (b : Bool) → starts_in_body s fs at ≡ b → (starts_in_body s fs at ≡ true) × (instruction_at (program_of s fs) at ≡ Some i)
    go true t = (t, rw t at e)
    go false t = let f : None ≡ Some i = rw t at e in absurd (cc)

-- the instruction that is there
pub there : (setting : Setting) (point : Point) (v : Valuation) (a : State) (i : Instruction) (m : Machine) (controls : ℕ → ℤ) → IsAt point a → instruction_of (setting_of setting) (frames_of point) point.offset ≡ Some i
    → Shows v a m controls → m.offset ≡ a.offset → fetched (setting_of setting) m ≡ Some i
there setting point v a i m controls at e h o =
    let (starts, is) = starting (setting_of setting) (frames_of point) point.offset i e in
    let (same, program) = starts_there (setting_of setting) v point a m controls at h in
    let q : m.offset ≡ point.offset = o ∙ sym at.offset_is in
    let t : starts_in_body (setting_of setting) m.frames m.offset ≡ true = same ∙ ap (starts_in_body (setting_of setting) (frames_of point)) q ∙ starts in
    let k : instruction_at (program_of (setting_of setting) m.frames) m.offset ≡ Some i = rw (program, q) is in
    rw (t) k

pub outcome_is : (s : MachineSetting) (m : Machine) (i : Instruction) → fetched s m ≡ Some i → outcome s m ≡ performs s m (Some i)
unfolding outcome
outcome_is s m i e = ap (performs s m) e

within : (s : MachineSetting) (o : Outcome) (depth : ℕ) → length o.after.stack + length o.pushes ≡ depth → depth ≤ s.limits.stack → within_depth s o ≡ Ok o
within s o depth d h = let t : nat_le (length o.after.stack + length o.pushes) s.limits.stack ≡ true = le_true (length o.after.stack + length o.pushes) s.limits.stack (omega arith) in rw t refl

pub steps : (setting : Setting) (point : Point) (i : Instruction) (old new : State) → IsAt point old → instruction_of (setting_of setting) (frames_of point) point.offset ≡ Some i
    → Dispatches setting i old new → (c : ℕ) → code_of i ≡ Some c
    → length new.stack ≤ setting.limits.stack → StepsTo setting old new
steps setting point [] old new at is h c e deep = absurd (cc)
steps setting point (code ∷ rest) old new at is h c e deep = record {
  sound = λ m controls a.
      let w = (h code rest refl).sound m controls a in
      let fetches : fetched (setting_of setting) m ≡ Some (code ∷ rest) = there setting point a.valuation old (code ∷ rest) m controls at is a.shows a.offset_is in
      record {
        after = w.after;
        goes = outcome_is (setting_of setting) m (code ∷ rest) fetches ∙ ap (λ r. r >>= within_depth (setting_of setting)) w.goes ∙ within (setting_of setting) w.after (length new.stack) w.deep deep;
        deep = w.deep;
        into = λ choices controls' numbers b. w.into choices controls' numbers (subst (λ (o : Option Instruction). Allows o m.stack controls choices controls') fetches b);
      };
}

-- The codes.

-- the line of DELTAC
abbrev pairs_line : Lists
pairs_line = record {
  operands = operand.CvtPairs ∷ [];
  uses = [];
  updates = [];
  pushes = [];
}

read_effect : effect_of 0x45 ≡ Plain read_line
unfolding effect_of
read_effect = refl

write_effect : effect_of 0x44 ≡ Plain write_line
unfolding effect_of
write_effect = refl

change_effect : effect_of 0x70 ≡ Plain write_line
unfolding effect_of
change_effect = refl

pairs_effects : (effect_of 0x73 ≡ Plain pairs_line) × (effect_of 0x74 ≡ Plain pairs_line) × (effect_of 0x75 ≡ Plain pairs_line)
unfolding effect_of
pairs_effects = (refl, refl, refl)

exact_effects : (effect_of 0x8b ≡ Plain of_two_line) × (effect_of 0x8c ≡ Plain of_two_line) × (effect_of 0x63 ≡ Plain of_two_line) × (effect_of 0x62 ≡ Plain of_two_line) × (effect_of 0x66 ≡ Plain of_one_line) × (effect_of 0x67 ≡ Plain of_one_line)
unfolding effect_of
exact_effects = (refl, refl, refl, refl, refl, refl)

-- the line of a kind of instruction
abbrev line_for : Refinement → Option Lists
line_for kinds.ReadsControl = Some read_line
line_for kinds.WritesControl = Some write_line
line_for kinds.ChangesControl = Some write_line
line_for kinds.ChangesControls = Some pairs_line
line_for kinds.Greatest = Some of_two_line
line_for kinds.Least = Some of_two_line
line_for kinds.Product = Some of_two_line
line_for kinds.Quotient = Some of_two_line
line_for kinds.Floor = Some of_one_line
line_for kinds.Ceiling = Some of_one_line
line_for kinds.Ordinary = None

-- the code is one of this line, if there is one
abbrev IsOfLine : ℕ → Option Lists → Type 0
IsOfLine code (Some line) = effect_of code ≡ Plain line
IsOfLine code None = Unit {0}

-- the first one of a list of codes
chosen : (code n : ℕ) (kind rest : Refinement) → IsOfLine n (line_for kind) → IsOfLine code (line_for rest) → IsOfLine code (line_for (if nat_eq code n then kind else rest))
chosen code n kind rest here other = go (nat_eq code n) refl
  where
    go : (b : Bool) → nat_eq code n ≡ b → IsOfLine code (line_for (if b then kind else rest))
    go true e = subst (λ (c : ℕ). IsOfLine c (line_for kind)) (sym (eqb-true code n e)) here
    go false e = other

of_line : (code : ℕ) → IsOfLine code (line_for (refinement_of code))
of_line code =
    chosen code 0x45 kinds.ReadsControl _ read_effect (chosen code 0x44 kinds.WritesControl _ write_effect (chosen code 0x70 kinds.ChangesControl _ change_effect
    (chosen code 0x73 kinds.ChangesControls _ pairs_effects.0 (chosen code 0x74 kinds.ChangesControls _ pairs_effects.1 (chosen code 0x75 kinds.ChangesControls _ pairs_effects.2
    (chosen code 0x8b kinds.Greatest _ exact_effects.0 (chosen code 0x8c kinds.Least _ exact_effects.1 (chosen code 0x63 kinds.Product _ exact_effects.2 (chosen code 0x62 kinds.Quotient _ exact_effects.3
    (chosen code 0x66 kinds.Floor _ exact_effects.4 (chosen code 0x67 kinds.Ceiling kinds.Ordinary exact_effects.5 tt)))))))))))

-- the line of a code of a kind is carried out as that of the kind
pub line_works : (s : MachineSetting) (kind : Refinement) (own line : Lists) (code : ℕ) (old new : State) → effect_of code ≡ Plain line → refinement_of code ≡ kind → line_for kind ≡ Some own → Works (λ m. plain s m own) (refined kind) old new → Works (λ m. plain s m line) (refined (refinement_of code)) old new
line_works s kind own line code old new e k l w =
    let is : effect_of code ≡ Plain own = subst (λ (o : Option Lists). IsOfLine code o) (ap line_for k ∙ l) (of_line code) in
    let p : Plain own ≡ Plain line = sym is ∙ e in
    let same : own ≡ line = cc in
    refined_works s kind line code old new k (subst (λ (x : Lists). Works (λ m. plain s m x) (refined kind) old new) same w)

-- An instruction by its effect.

-- what has no line
abbrev pub HasNoRow : Meaning → Type 0
HasNoRow (Plain line) = ⊥
HasNoRow _ = Unit {0}

other_ordinary : (code : ℕ) (e : Meaning) → effect_of code ≡ e → HasNoRow e → refinement_of code ≡ Ordinary
other_ordinary code e is none = go (refinement_of code) (of_line code)
  where
    not_of : (line : Lists) → effect_of code ≡ Plain line → ⊥
    not_of line f = subst HasNoRow (sym is ∙ f) none

    go : (kind : Refinement) → IsOfLine code (line_for kind) → kind ≡ Ordinary
    go kinds.ReadsControl h = absurd (not_of read_line h)
    go kinds.WritesControl h = absurd (not_of write_line h)
    go kinds.ChangesControl h = absurd (not_of write_line h)
    go kinds.ChangesControls h = absurd (not_of pairs_line h)
    go kinds.Greatest h = absurd (not_of of_two_line h)
    go kinds.Least h = absurd (not_of of_two_line h)
    go kinds.Product h = absurd (not_of of_two_line h)
    go kinds.Quotient h = absurd (not_of of_two_line h)
    go kinds.Floor h = absurd (not_of of_one_line h)
    go kinds.Ceiling h = absurd (not_of of_one_line h)
    go kinds.Ordinary h = refl

module _ (setting : Setting) (i : Instruction) (d : ℕ) (is : code_of i ≡ Some d) (old new : State) where
  -- the control values stay
  stay : (code : ℕ) (e : Meaning) → effect_of code ≡ e → HasNoRow e → (m : Machine) (k : ℕ → ℤ) (choices : Choices) (k' : ℕ → ℤ) → refined_by code m k choices k' → keeps_controls m k choices k'
  stay code e f none m k choices k' r = subst (λ (x : Refinement). Refines x m.stack k choices k') (other_ordinary code e f none) r

  pub control_dispatches : (op : Control) → effect_of d ≡ Controls op → Sound (λ m. controlled (setting_of setting) m op) keeps_controls old new → Dispatches setting i old new
  control_dispatches op e h code rest f =
      let e' : effect_of code ≡ Controls op = ap effect_of (first_code i d code rest is f) ∙ e in
      sound_same (λ m. controlled (setting_of setting) m op) (λ m. does (setting_of setting) m (effect_of code) rest (m.offset + suc (length rest))) keeps_controls (refined_by code) old new (λ m o. rw e' refl) (stay code (Controls op) e' tt) h

  module _ (next : ℕ) (at : next ≡ old.offset + length i) where
    -- what is done goes on at the next instruction
    goes_here : (what : Machine → Tested Outcome) (A : Allowing) (code : ℕ) (rest : List ℕ) → i ≡ code ∷ rest → ((m : Machine) (n : ℕ) → does (setting_of setting) m (effect_of code) rest n ≡ goes_on n (what m))
        → ((m : Machine) (k : ℕ → ℤ) (choices : Choices) (k' : ℕ → ℤ) → refined_by code m k choices k' → A m k choices k') → Works what A (record old { offset = next }) new
        → Sound (λ m. does (setting_of setting) m (effect_of code) rest (m.offset + suc (length rest))) (refined_by code) old new
    goes_here what A code rest f by allowed h =
        sound_same (λ m. goes_on next (what m)) (λ m. does (setting_of setting) m (effect_of code) rest (m.offset + suc (length rest))) A (refined_by code) old new
        (λ m o. by m (m.offset + suc (length rest)) ∙ ap (λ (n : ℕ). goes_on n (what m)) (ap (λ (n : ℕ). n + suc (length rest)) o ∙ ap (λ (l : List ℕ). old.offset + length l) (sym f) ∙ sym at)) allowed
        (works_sound what A old new next h)

    pub line_dispatches : (line : Lists) → effect_of d ≡ Plain line → Works (λ m. plain (setting_of setting) m line) (refined (refinement_of d)) (record old { offset = next }) new → Dispatches setting i old new
    line_dispatches line e h code rest f =
        let same : code ≡ d = first_code i d code rest is f in
        let e' : effect_of code ≡ Plain line = ap effect_of same ∙ e in
        goes_here (λ m. plain (setting_of setting) m line) (refined_by d) code rest f (λ m n. rw e' refl) (λ m k choices k' r. subst (λ (x : ℕ). refined_by x m k choices k') same r) h

    other_goes : (what : Machine → Tested Outcome) (e : Meaning) (code : ℕ) (rest : List ℕ) → i ≡ code ∷ rest → effect_of d ≡ e → HasNoRow e → ((m : Machine) (n : ℕ) → does (setting_of setting) m e rest n ≡ goes_on n (what m)) → Works what keeps_controls (record old { offset = next }) new
        → Sound (λ m. does (setting_of setting) m (effect_of code) rest (m.offset + suc (length rest))) (refined_by code) old new
    other_goes what e code rest f g none by h =
        let e' : effect_of code ≡ e = ap effect_of (first_code i d code rest is f) ∙ g in
        goes_here what keeps_controls code rest f (λ m n. rw e' (by m n)) (stay code e e' none) h

    pub data_dispatches : (push : Push) (bytes : List ℕ) → effect_of d ≡ Pushes push → bytes ≡ data_of i → new ≡ record old { offset = next; stack = new.stack } → PutsNumbers (numbers_in push bytes) old.stack new.stack → Dispatches setting i old new
    data_dispatches push bytes e g same p code rest f =
        let e' : effect_of code ≡ Pushes push = ap effect_of (first_code i d code rest is f) ∙ e in
        let b : bytes ≡ data_after push rest = g ∙ ap data_of f ∙ ap (λ w. data_in w rest) e' in
        let q = subst (λ (b : List ℕ). PutsNumbers (numbers_in push b) old.stack new.stack) b p in
        other_goes (λ m. Ok (pushed push m rest)) (Pushes push) code rest f e tt (λ m n. refl) (restacks_works (λ m. Ok (pushed push m rest)) (record old { offset = next }) new same (data_restack push rest old new q))

    pub stack_dispatches : (op : StackOp) → effect_of d ≡ Stack op → new ≡ record old { offset = next; stack = new.stack } → Restacks (shuffled op) old.ranges.items old.stack new.stack → Dispatches setting i old new
    stack_dispatches op e same h code rest f = other_goes (shuffled op) (Stack op) code rest f e tt (λ m n. refl) (restacks_works (shuffled op) (record old { offset = next }) new same h)

    pub computed_dispatches : (op : Arithmetic) → effect_of d ≡ Computes op → Works (λ m. computed op m) keeps_controls (record old { offset = next }) new → Dispatches setting i old new
    computed_dispatches op e h code rest f = other_goes (λ m. computed op m) (Computes op) code rest f e tt (λ m n. refl) h
