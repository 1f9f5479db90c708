-- Covered machine states: each part may be chosen independently, so each cell of an abstract state is best for the machine states that
-- it covers. Where an outcome is a function of the machine and each part of an abstract state is best for it, that is the smallest
-- cover of what the machines become.
use Rattle.std.specs.Prelude.{ℤ, pos, nat_eq, if◌then◌else◌}
use Rattle.std.proofs.Common.{◌≡◌, ℕ, zero, suc, List, [], ◌∷◌, Ok, refl, sym, ◌∙◌, ap, subst, Bool, true, false}
use Rattle.std.proofs.lemmas.Bool.{eqb-true, eq-eqb}
use Rattle.tt_code.specs.Refusals.{Tested}
use Rattle.tt_code.specs.States.{Machine, Outcome, IsNumber}
use Rattle.tt_code.specs.Changes.{taken_at}
use Rattle.tt_code.specs.Control.{body_named}
use Rattle.tt_code.specs.Runs.{Choices, left_by}
use Rattle.tt_code.specs.declared.machine.Frame.{Frame}
use Rattle.tt_abs.specs.declared.cells.Cell.{Cell}
use Rattle.tt_abs.specs.declared.cells.Cell.TheVariants.{Known, Unknown}
use Rattle.tt_abs.specs.Cells.{Covers, CoversZone, CoversStack, CoversGraphics, CoversStorage, CoversState, Abstract, Numbers}
use Rattle.tt_setting.specs.Functions.{CoversFunctions}
use Rattle.tt_abs.specs.Covers.{IsBestFor, Stands, Becomes, Transfers}
use Rattle.tt_abs.proofs.Choosing.{zero_is_number, one_is_number, some_covered, some_stack, some_graphics}
use Rattle.tt_abs.proofs.Bests.{best_covers, best_least, zone_covers, zone_least, best_along, zone_along, best_self, zone_self, IsBestStack, AreBest, stack_covers, covered_length, covered_at}

-- a machine state that is covered, with these numbers
abbrev pub machine_with : Abstract → List Frame → ℕ → Numbers → List ℤ → (ℕ → ℤ) → Machine
machine_with a frames offset g stack area = record {
  frames = frames;
  offset = offset;
  stack = stack;
  registers = record { graphics = g; storage = area };
  functions = a.functions;
}

pub machine_stands : (a : Abstract) (frames : List Frame) (offset : ℕ) (g : Numbers) (stack : List ℤ) (area : ℕ → ℤ)
    → CoversGraphics a.registers.graphics g → CoversStack a.stack stack → CoversStorage a.registers.storage area → Stands a frames offset (machine_with a frames offset g stack area)
machine_stands a frames offset g stack area c d e = record {
  covered = record { stack = d; graphics = c; storage = e; functions = λ n body h. h };
  frames_are = refl;
  offset_is = refl;
}

abbrev pub some_area : Abstract → ℕ → ℤ
some_area a i = (some_covered (a.registers.storage i)).0

pub area_covered : (a : Abstract) (i : ℕ) → Covers (a.registers.storage i) (some_area a i)
area_covered a i = (some_covered (a.registers.storage i)).1

abbrev pub Chance : Type 0
Chance = Machine × Choices

-- a covered machine state, and what is chosen where anything may be pushed
pub record May (a : Abstract) (frames : List Frame) (offset : ℕ) (x : Chance) : Type 0 where
  pub stands : Stands a frames offset x.0
  pub are_numbers : (i : ℕ) → IsNumber (x.1 i)

abbrev pub zeros : Choices
zeros i = pos 0

abbrev pub ones : Choices
ones i = pos 1

pub may : (a : Abstract) (frames : List Frame) (offset : ℕ) (m : Machine) → Stands a frames offset m → May a frames offset (m, zeros)
may a frames offset m h = record { stands = h; are_numbers = λ i. zero_is_number }

pub some_machine : (a : Abstract) (frames : List Frame) (offset : ℕ) → (m : Machine) × Stands a frames offset m × (m.functions ≡ a.functions)
some_machine a frames offset =
    let (g, c) = some_graphics a.registers.graphics in
    let (ns, d) = some_stack a.stack in
    (machine_with a frames offset g ns (some_area a), machine_stands a frames offset g ns (some_area a) c d (area_covered a), refl)

pub with_graphics : (a : Abstract) (frames : List Frame) (offset : ℕ) (g : Numbers) → CoversGraphics a.registers.graphics g → (m : Machine) × Stands a frames offset m × (m.registers.graphics ≡ g)
with_graphics a frames offset g c =
    let (ns, d) = some_stack a.stack in
    (machine_with a frames offset g ns (some_area a), machine_stands a frames offset g ns (some_area a) c d (area_covered a), refl)

pub with_stack : (a : Abstract) (frames : List Frame) (offset : ℕ) (ns : List ℤ) → CoversStack a.stack ns → (m : Machine) × Stands a frames offset m × (m.stack ≡ ns)
with_stack a frames offset ns d =
    let (g, c) = some_graphics a.registers.graphics in
    (machine_with a frames offset g ns (some_area a), machine_stands a frames offset g ns (some_area a) c d (area_covered a), refl)

pub choose_element : (cs : List Cell) (k : ℕ) (n : ℤ) → Covers (taken_at (Known (pos 1)) cs k) n → (ns : List ℤ) × CoversStack cs ns × (taken_at (pos 1) ns k ≡ n)
choose_element [] k n h = ([], tt, sym h)
choose_element (c ∷ cs) zero n h = let (ns, d) = some_stack cs in (n ∷ ns, (h, d), refl)
choose_element (c ∷ cs) (suc k) n h =
    let (ns, d, e) = choose_element cs k n h in
    let (z, f) = some_covered c in (z ∷ ns, (f, d), e)

pub choose_stored : (cells : ℕ → Cell) (k : ℕ) (n : ℤ) → Covers (cells k) n → (area : ℕ → ℤ) × CoversStorage cells area × (area k ≡ n)
choose_stored cells k n h = (λ i. if nat_eq k i then n else (some_covered (cells i)).0, λ i. covers i (nat_eq k i) refl, rw (eq-eqb k k refl) refl)
  where
    covers : (i : ℕ) (b : Bool) → nat_eq k i ≡ b → Covers (cells i) (if b then n else (some_covered (cells i)).0)
    covers i true e = let C : ℕ → Type 0 = λ j. Covers (cells j) n in subst C (eqb-true k i e) h
    covers i false e = (some_covered (cells i)).1

-- each part of a state is best for the machine states that it covers

pub choice_best : (a : Abstract) (frames : List Frame) (offset : ℕ) (i : ℕ) → IsBestFor (May a frames offset) (λ x. x.1 i) Unknown
choice_best a frames offset i =
    let (m, s, e) = some_machine a frames offset in
    (λ x h. h.are_numbers i, ((m, zeros), (m, ones), record { stands = s; are_numbers = λ i. zero_is_number }, record { stands = s; are_numbers = λ i. one_is_number }, λ e. cc))

pub stack_best : (a : Abstract) (frames : List Frame) (offset : ℕ) → IsBestStack (May a frames offset) (λ x. x.0.stack) a.stack
stack_best a frames offset = record {
  lengths = λ x h. covered_length a.stack x.0.stack h.stands.covered.stack;
  each = λ k.
      best_along (May a frames offset) (λ n. Covers (taken_at (Known (pos 1)) a.stack k) n) (λ x. taken_at (pos 1) x.0.stack k) (λ n. n) (taken_at (Known (pos 1)) a.stack k)
      (λ x h. covered_at a.stack x.0.stack k h.stands.covered.stack)
      (λ n c.
      let (ns, d, e) = choose_element a.stack k n c in
      let (m, s, f) = with_stack a frames offset ns d in
      ((m, zeros), may a frames offset m s, ap (λ l. taken_at (pos 1) l k) f ∙ e))
      (best_self (taken_at (Known (pos 1)) a.stack k));
}

pub registers_best : (a : Abstract) (frames : List Frame) (offset : ℕ) → AreBest (May a frames offset) (λ x. x.0.registers) a.registers
registers_best a frames offset = record {
  rp0 = best_along (May a frames offset) (λ n. Covers a.registers.graphics.rp0 n) (λ x. x.0.registers.graphics.rp0) (λ n. n) a.registers.graphics.rp0
      (λ x h. h.stands.covered.graphics.rp0)
      (λ n h.
      let (g, c) = some_graphics a.registers.graphics in
      let (m, s, e) = with_graphics a frames offset (record { rp0 = n; rp1 = g.rp1; rp2 = g.rp2; zp0 = g.zp0; zp1 = g.zp1; zp2 = g.zp2; loop_number = g.loop_number }) (record { rp0 = h; rp1 = c.rp1; rp2 = c.rp2; zp0 = c.zp0; zp1 = c.zp1; zp2 = c.zp2; loop_number = c.loop_number }) in ((m, zeros), may a frames offset m s, ap (λ g. g.rp0) e))
      (best_self a.registers.graphics.rp0);
  rp1 = best_along (May a frames offset) (λ n. Covers a.registers.graphics.rp1 n) (λ x. x.0.registers.graphics.rp1) (λ n. n) a.registers.graphics.rp1
      (λ x h. h.stands.covered.graphics.rp1)
      (λ n h.
      let (g, c) = some_graphics a.registers.graphics in
      let (m, s, e) = with_graphics a frames offset (record { rp0 = g.rp0; rp1 = n; rp2 = g.rp2; zp0 = g.zp0; zp1 = g.zp1; zp2 = g.zp2; loop_number = g.loop_number }) (record { rp0 = c.rp0; rp1 = h; rp2 = c.rp2; zp0 = c.zp0; zp1 = c.zp1; zp2 = c.zp2; loop_number = c.loop_number }) in ((m, zeros), may a frames offset m s, ap (λ g. g.rp1) e))
      (best_self a.registers.graphics.rp1);
  rp2 = best_along (May a frames offset) (λ n. Covers a.registers.graphics.rp2 n) (λ x. x.0.registers.graphics.rp2) (λ n. n) a.registers.graphics.rp2
      (λ x h. h.stands.covered.graphics.rp2)
      (λ n h.
      let (g, c) = some_graphics a.registers.graphics in
      let (m, s, e) = with_graphics a frames offset (record { rp0 = g.rp0; rp1 = g.rp1; rp2 = n; zp0 = g.zp0; zp1 = g.zp1; zp2 = g.zp2; loop_number = g.loop_number }) (record { rp0 = c.rp0; rp1 = c.rp1; rp2 = h; zp0 = c.zp0; zp1 = c.zp1; zp2 = c.zp2; loop_number = c.loop_number }) in ((m, zeros), may a frames offset m s, ap (λ g. g.rp2) e))
      (best_self a.registers.graphics.rp2);
  zp0 = zone_along (May a frames offset) (λ n. CoversZone a.registers.graphics.zp0 n) (λ x. x.0.registers.graphics.zp0) (λ n. n) a.registers.graphics.zp0
      (λ x h. h.stands.covered.graphics.zp0)
      (λ n h.
      let (g, c) = some_graphics a.registers.graphics in
      let (m, s, e) = with_graphics a frames offset (record { rp0 = g.rp0; rp1 = g.rp1; rp2 = g.rp2; zp0 = n; zp1 = g.zp1; zp2 = g.zp2; loop_number = g.loop_number }) (record { rp0 = c.rp0; rp1 = c.rp1; rp2 = c.rp2; zp0 = h; zp1 = c.zp1; zp2 = c.zp2; loop_number = c.loop_number }) in ((m, zeros), may a frames offset m s, ap (λ g. g.zp0) e))
      (zone_self a.registers.graphics.zp0);
  zp1 = zone_along (May a frames offset) (λ n. CoversZone a.registers.graphics.zp1 n) (λ x. x.0.registers.graphics.zp1) (λ n. n) a.registers.graphics.zp1
      (λ x h. h.stands.covered.graphics.zp1)
      (λ n h.
      let (g, c) = some_graphics a.registers.graphics in
      let (m, s, e) = with_graphics a frames offset (record { rp0 = g.rp0; rp1 = g.rp1; rp2 = g.rp2; zp0 = g.zp0; zp1 = n; zp2 = g.zp2; loop_number = g.loop_number }) (record { rp0 = c.rp0; rp1 = c.rp1; rp2 = c.rp2; zp0 = c.zp0; zp1 = h; zp2 = c.zp2; loop_number = c.loop_number }) in ((m, zeros), may a frames offset m s, ap (λ g. g.zp1) e))
      (zone_self a.registers.graphics.zp1);
  zp2 = zone_along (May a frames offset) (λ n. CoversZone a.registers.graphics.zp2 n) (λ x. x.0.registers.graphics.zp2) (λ n. n) a.registers.graphics.zp2
      (λ x h. h.stands.covered.graphics.zp2)
      (λ n h.
      let (g, c) = some_graphics a.registers.graphics in
      let (m, s, e) = with_graphics a frames offset (record { rp0 = g.rp0; rp1 = g.rp1; rp2 = g.rp2; zp0 = g.zp0; zp1 = g.zp1; zp2 = n; loop_number = g.loop_number }) (record { rp0 = c.rp0; rp1 = c.rp1; rp2 = c.rp2; zp0 = c.zp0; zp1 = c.zp1; zp2 = h; loop_number = c.loop_number }) in ((m, zeros), may a frames offset m s, ap (λ g. g.zp2) e))
      (zone_self a.registers.graphics.zp2);
  loop_number = best_along (May a frames offset) (λ n. Covers a.registers.graphics.loop_number n) (λ x. x.0.registers.graphics.loop_number) (λ n. n) a.registers.graphics.loop_number
      (λ x h. h.stands.covered.graphics.loop_number)
      (λ n h.
      let (g, c) = some_graphics a.registers.graphics in
      let (m, s, e) = with_graphics a frames offset (record { rp0 = g.rp0; rp1 = g.rp1; rp2 = g.rp2; zp0 = g.zp0; zp1 = g.zp1; zp2 = g.zp2; loop_number = n }) (record { rp0 = c.rp0; rp1 = c.rp1; rp2 = c.rp2; zp0 = c.zp0; zp1 = c.zp1; zp2 = c.zp2; loop_number = h }) in ((m, zeros), may a frames offset m s, ap (λ g. g.loop_number) e))
      (best_self a.registers.graphics.loop_number);
  storage = λ k.
      best_along (May a frames offset) (λ n. Covers (a.registers.storage k) n) (λ x. x.0.registers.storage k) (λ n. n) (a.registers.storage k)
      (λ x h. h.stands.covered.storage k)
      (λ n h.
      let (area, c, e) = choose_stored a.registers.storage k n h in
      let (g, d) = some_graphics a.registers.graphics in
      let (ns, s) = some_stack a.stack in
      ((machine_with a frames offset g ns area, zeros), may a frames offset _ (machine_stands a frames offset g ns area d s c), e))
      (best_self (a.registers.storage k));
}

-- Which functions the outcomes leave: each listed one, whatever machine it was; and for some covered machine no others.

module _ (a : Abstract) (frames : List Frame) (offset : ℕ) (does : Machine → Tested Outcome) (o : Machine → Outcome) (b : Abstract)
    (always : (m : Machine) → Stands a frames offset m → does m ≡ Ok (o m))
    (stack : IsBestStack (May a frames offset) (λ x. (left_by (o x.0) x.1).stack) b.stack)
    (registers : AreBest (May a frames offset) (λ x. (o x.0).after.registers) b.registers)
    (defined : (m : Machine) → Stands a frames offset m → CoversFunctions b.functions (o m).after.functions)
    (no_others : (m : Machine) × Stands a frames offset m × CoversFunctions (o m).after.functions b.functions) where
  comes : (new : Machine) → Becomes a frames offset does new → (x : Chance) × May a frames offset x × (new ≡ left_by (o x.0) x.1)
  comes new h =
      let E : Ok (o h.old) ≡ Ok h.result = sym (always h.old h.stands) ∙ h.does_it in
      let e : h.result ≡ o h.old = cc in
      ((h.old, h.choices), record { stands = h.stands; are_numbers = h.are_numbers }, h.new_is ∙ ap (λ u. left_by u h.choices) e)

  goes : (x : Chance) → May a frames offset x → Becomes a frames offset does (left_by (o x.0) x.1)
  goes x h = record { old = x.0; stands = h.stands; result = o x.0; does_it = always x.0 h.stands; choices = x.1; are_numbers = h.are_numbers; new_is = refl }

  covers_left : (x : Chance) → May a frames offset x → CoversState b (left_by (o x.0) x.1)
  covers_left x h = record {
    stack = stack_covers b.stack (left_by (o x.0) x.1).stack (stack.lengths x h) (λ k. best_covers (May a frames offset) _ _ (stack.each k) x h);
    graphics = record {
      rp0 = best_covers (May a frames offset) (λ x. (o x.0).after.registers.graphics.rp0) b.registers.graphics.rp0 registers.rp0 x h;
      rp1 = best_covers (May a frames offset) (λ x. (o x.0).after.registers.graphics.rp1) b.registers.graphics.rp1 registers.rp1 x h;
      rp2 = best_covers (May a frames offset) (λ x. (o x.0).after.registers.graphics.rp2) b.registers.graphics.rp2 registers.rp2 x h;
      zp0 = zone_covers (May a frames offset) (λ x. (o x.0).after.registers.graphics.zp0) b.registers.graphics.zp0 registers.zp0 x h;
      zp1 = zone_covers (May a frames offset) (λ x. (o x.0).after.registers.graphics.zp1) b.registers.graphics.zp1 registers.zp1 x h;
      zp2 = zone_covers (May a frames offset) (λ x. (o x.0).after.registers.graphics.zp2) b.registers.graphics.zp2 registers.zp2 x h;
      loop_number = best_covers (May a frames offset) (λ x. (o x.0).after.registers.graphics.loop_number) b.registers.graphics.loop_number registers.loop_number x h;
    };
    storage = λ k. best_covers (May a frames offset) (λ x. (o x.0).after.registers.storage k) (b.registers.storage k) (registers.storage k) x h;
    functions = defined x.0 h.stands;
  }

  least_left : (d : Abstract) → ((x : Chance) → May a frames offset x → CoversState d (left_by (o x.0) x.1)) → (m : Machine) → CoversState b m → CoversState d m
  least_left d all m h =
      let (n, s, exact) = no_others in
      let i : May a frames offset (n, zeros) = may a frames offset n s in
      let first = all (n, zeros) i in
      record {
        stack = stack_covers d.stack m.stack
            (covered_length b.stack m.stack h.stack ∙ sym (stack.lengths (n, zeros) i) ∙ covered_length d.stack (left_by (o n) zeros).stack first.stack)
            (λ k. best_least (May a frames offset) (λ x. taken_at (pos 1) (left_by (o x.0) x.1).stack k) (taken_at (Known (pos 1)) b.stack k) (taken_at (Known (pos 1)) d.stack k) (stack.each k)
            (λ x j. covered_at d.stack (left_by (o x.0) x.1).stack k (all x j).stack) (taken_at (pos 1) m.stack k) (covered_at b.stack m.stack k h.stack));
        graphics = record {
          rp0 = best_least (May a frames offset) (λ x. (o x.0).after.registers.graphics.rp0) b.registers.graphics.rp0 d.registers.graphics.rp0 registers.rp0 (λ x j. (all x j).graphics.rp0) m.registers.graphics.rp0 h.graphics.rp0;
          rp1 = best_least (May a frames offset) (λ x. (o x.0).after.registers.graphics.rp1) b.registers.graphics.rp1 d.registers.graphics.rp1 registers.rp1 (λ x j. (all x j).graphics.rp1) m.registers.graphics.rp1 h.graphics.rp1;
          rp2 = best_least (May a frames offset) (λ x. (o x.0).after.registers.graphics.rp2) b.registers.graphics.rp2 d.registers.graphics.rp2 registers.rp2 (λ x j. (all x j).graphics.rp2) m.registers.graphics.rp2 h.graphics.rp2;
          zp0 = zone_least (May a frames offset) (λ x. (o x.0).after.registers.graphics.zp0) b.registers.graphics.zp0 d.registers.graphics.zp0 registers.zp0 (λ x j. (all x j).graphics.zp0) m.registers.graphics.zp0 h.graphics.zp0;
          zp1 = zone_least (May a frames offset) (λ x. (o x.0).after.registers.graphics.zp1) b.registers.graphics.zp1 d.registers.graphics.zp1 registers.zp1 (λ x j. (all x j).graphics.zp1) m.registers.graphics.zp1 h.graphics.zp1;
          zp2 = zone_least (May a frames offset) (λ x. (o x.0).after.registers.graphics.zp2) b.registers.graphics.zp2 d.registers.graphics.zp2 registers.zp2 (λ x j. (all x j).graphics.zp2) m.registers.graphics.zp2 h.graphics.zp2;
          loop_number = best_least (May a frames offset) (λ x. (o x.0).after.registers.graphics.loop_number) b.registers.graphics.loop_number d.registers.graphics.loop_number registers.loop_number (λ x j. (all x j).graphics.loop_number) m.registers.graphics.loop_number h.graphics.loop_number;
        };
        storage = λ k. best_least (May a frames offset) (λ x. (o x.0).after.registers.storage k) (b.registers.storage k) (d.registers.storage k) (registers.storage k) (λ x j. (all x j).storage k) (m.registers.storage k) (h.storage k);
        functions = λ k body e. h.functions k body (exact k body (first.functions k body e));
      }

  pub transfers_ok : Transfers a frames offset does (Ok b)
  transfers_ok = (
    λ m s. (o m, always m s),
    record {
      covers = λ m h. let (x, i, e) = comes m h in let C : Machine → Type 0 = λ n. CoversState b n in subst C (sym e) (covers_left x i);
      least = λ d all. least_left d (λ x i. all (left_by (o x.0) x.1) (goes x i));
    },
  )

-- the same for what leaves the functions as they are
pub transfers_same : (a : Abstract) (frames : List Frame) (offset : ℕ) (does : Machine → Tested Outcome) (o : Machine → Outcome) (b : Abstract)
    → ((m : Machine) → Stands a frames offset m → does m ≡ Ok (o m))
    → IsBestStack (May a frames offset) (λ x. (left_by (o x.0) x.1).stack) b.stack
    → AreBest (May a frames offset) (λ x. (o x.0).after.registers) b.registers
    → ((m : Machine) → Stands a frames offset m → (o m).after.functions ≡ m.functions)
    → b.functions ≡ a.functions → Transfers a frames offset does (Ok b)
transfers_same a frames offset does o b always stack registers functions same_functions =
    transfers_ok a frames offset does o b always stack registers
    (λ m st n body e. ap (λ l. body_named l n) (functions m st) ∙ st.covered.functions n body (ap (λ l. body_named l n) (sym same_functions) ∙ e))
    (let (m, st, is) = some_machine a frames offset in (m, st, λ n body e. ap (λ l. body_named l n) (same_functions ∙ sym is ∙ sym (functions m st)) ∙ e))
