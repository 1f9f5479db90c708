-- Abstract states and the states that the program keeps: ranges part by part, and which state an abstract state is.
use Rattle.std.specs.Prelude.{ℤ, nat_eq, if◌then◌else◌, ⊤, slice_get, ◌^◌}
use Rattle.std.specs.List.{AllByRecursion}
use Rattle.std.proofs.Common.{◌≡◌, ℕ, zero, suc, ◌<◌, ◌≤◌, List, [], ◌∷◌, Ok, Some, None, Option, refl, sym, ◌∙◌, ap, subst, arith, length, Bool, true, false}
use Rattle.std.proofs.lemmas.Bool.{eqb-true}
use Rattle.tt_code.specs.Changes.{with_stored}
use Rattle.tt_code.specs.Settings.{Setting, Kind, FontProgram, CvtProgram, GlyphProgram, body_name}
use Rattle.tt_code.specs.States.{IsNumber}
use Rattle.tt_code.specs.declared.machine.Frame.{Frame}
use Rattle.tt_abs.specs.declared.cells.Cell.{Cell}
use Rattle.tt_abs.specs.declared.cells.Cell.TheVariants.{Known, Unknown}
use Rattle.tt_abs.specs.declared.state.State.{State}
use Rattle.tt_abs.specs.CellOrders.{CellInRange}
use Rattle.tt_abs.specs.Cells.{Abstract}
use Rattle.tt_setting.specs.Entries.{Ascends, listed, with_entry}
use Rattle.tt_abs.specs.StorageCells.{known_or_not, storage_of, with_cell}
use Rattle.tt_abs.specs.Representation.EntryFacts.{listed-all, storage-with_cell}
use Rattle.tt_setting.specs.EntryLaws.{listed-with}
use Rattle.tt_setting.specs.EntryLaws.{listed-here, listed-there, number-above, Ascends-filter}
use Rattle.tt_abs.specs.EntryLaws.{entry_laws}
use Rattle.tt_abs.specs.EntryOrders.{EntriesBelow}
use Rattle.tt_abs.specs.Ranges.{IsInRange, AreInRange, IsStateInRange}
use Rattle.tt_setting.specs.Ranges.{IsSettingInRange}
use Rattle.tt_abs.specs.StateFlow.{FunctionsFit, FitsLimits}
use Rattle.tt_setting.specs.Ranges.{AreProgramsShort}
use Rattle.tt_abs.specs.Stacks.{StackInRange}
use Rattle.tt_abs.specs.States.{abstract_of, state_order}
use Rattle.tt_abs.specs.Transfers.{Next, outcome_on_cells}
use Rattle.tt_setting.proofs.EntryEdits.{Ascends-with}
use Rattle.tt_abs.proofs.ListsKept.{DefinesAt, lists_kept, are_shallow}
use Rattle.tt_abs.proofs.RangesKept.{keeps_range}

-- what holds for all holds for one
pub one_of_all : {X : Type 0} (P : X → Type 0) (xs : List X) (i : ℕ) (x : X) → AllByRecursion P xs → slice_get xs i ≡ Some x → P x
one_of_all P [] i x h e = absurd (cc)
one_of_all P (y ∷ ys) zero x h e = let same : y ≡ x = cc in subst P same h.0
one_of_all P (y ∷ ys) (suc i) x h e = one_of_all P ys i x h.1 e

-- Ranges.

cell_to : (c : Cell) → CellInRange c → IsInRange c
cell_to (Known k) h = h
cell_to Unknown h = tt

cell_from : (c : Cell) → IsInRange c → CellInRange c
cell_from (Known k) h = h
cell_from Unknown h = tt

pub stack_to : (cells : List Cell) → StackInRange cells → AreInRange cells
stack_to [] h = tt
stack_to (c ∷ cells) h = (cell_to c (h 0), stack_to cells (λ k. h (suc k)))

stack_from : (cells : List Cell) → AreInRange cells → StackInRange cells
stack_from [] h k = tt
stack_from (c ∷ cells) h zero = cell_from c h.0
stack_from (c ∷ cells) h (suc k) = stack_from cells h.1 k

stored_to : (es : List (ℕ × ℤ)) → AllByRecursion (λ e. IsNumber e.1) es → (i : ℕ) → IsInRange (storage_of es i)
stored_to es h i = go (listed es i) refl
  where
    go : (o : Option ℤ) → listed es i ≡ o → IsInRange (known_or_not o)
    go None e = tt
    go (Some z) e = listed-all IsNumber es i z h e

each_listed : {V : Type 0} (P : V → Type 0) (es : List (ℕ × V)) → Ascends es → ((n : ℕ) (v : V) → listed es n ≡ Some v → P v) → AllByRecursion (λ e. P e.1) es
each_listed P [] ascends h = tt
each_listed P (e ∷ es) ascends h = (
  h e.0 e.1 (listed-here e es e.0 refl),
  each_listed P es ascends.1 (λ n v l. let lt = number-above e.0 n v es ascends.0 l in h n v (listed-there e es n (λ q. omega arith) ∙ l)),
)

stored_from : (es : List (ℕ × ℤ)) → Ascends es → ((i : ℕ) → IsInRange (storage_of es i)) → AllByRecursion (λ e. IsNumber e.1) es
stored_from es ascends h = each_listed IsNumber es ascends (λ n v l. let P : Option ℤ → Type 0 = λ o. IsInRange (known_or_not o) in subst P l (h n))

pub abstract_in_range : (a : State) → state_order.InRange a → IsStateInRange (abstract_of a)
abstract_in_range a h = record {
  stack = stack_to a.stack h.0;
  registers = record {
    rp0 = cell_to a.graphics.rp0 h.1.0.0.0;
    rp1 = cell_to a.graphics.rp1 h.1.0.0.1.0;
    rp2 = cell_to a.graphics.rp2 h.1.0.0.1.1.0;
    loop_number = cell_to a.graphics.loop_number h.1.0.0.1.1.1;
    storage = stored_to a.storage h.1.1.1.values;
  };
}

no_values : {V : Type 0} (es : List (ℕ × V)) → AllByRecursion (λ e. ⊤) es
no_values [] = tt
no_values (e ∷ es) = (tt, no_values es)

pub state_in_range : (a : State) → Ascends a.functions → Ascends a.storage → IsStateInRange (abstract_of a) → state_order.InRange a
state_in_range a functions storage h = (
  stack_from a.stack h.stack,
  (
    ((
      (
        cell_from a.graphics.rp0 h.registers.rp0,
        (cell_from a.graphics.rp1 h.registers.rp1, (cell_from a.graphics.rp2 h.registers.rp2, cell_from a.graphics.loop_number h.registers.loop_number)),
      ),
      (tt, (tt, tt)),
    )),
    (record { ascends = functions; values = no_values a.functions }, record { ascends = storage; values = stored_from a.storage storage h.registers.storage }),
  ),
)

-- One state for each abstract state.

known_same : (o p : Option ℤ) (v : ℤ) → known_or_not o ≡ known_or_not p → p ≡ Some v → o ≡ Some v
known_same None p v h e = let no_such : Unknown ≡ Known v = h ∙ ap known_or_not e in absurd (cc)
known_same (Some w) p v h e = let same : Known w ≡ Known v = h ∙ ap known_or_not e in cc

storage_below : (es fs : List (ℕ × ℤ)) → storage_of es ≡ storage_of fs → EntriesBelow es fs
storage_below es fs h n v l = known_same (listed es n) (listed fs n) v (ap (λ (area : ℕ → Cell). area n) h) l

pub one_state : (t u : State) → state_order.InRange t → state_order.InRange u → abstract_of t ≡ abstract_of u → t ≡ u
one_state t u ht hu e =
    let stack : t.stack ≡ u.stack = ap (λ (a : Abstract). a.stack) e in
    let graphics : t.graphics ≡ u.graphics = ap (λ (a : Abstract). a.registers.graphics) e in
    let functions : t.functions ≡ u.functions = ap (λ (a : Abstract). a.functions) e in
    let area : storage_of t.storage ≡ storage_of u.storage = ap (λ (a : Abstract). a.registers.storage) e in
    let storage : t.storage ≡ u.storage =
    (entry_laws IsNumber).antisymmetric t.storage u.storage ht.1.1.1 hu.1.1.1 (storage_below t.storage u.storage area) (storage_below u.storage t.storage (sym area)) in
    λ i. record { stack = stack i; graphics = graphics i; functions = functions i; storage = storage i }

-- Lists in ascending order of their numbers.

pub record AreListed (functions : List (ℕ × ℕ)) (area : ℕ → Cell) : Type 0 where
  pub functions_rise : Ascends functions
  pub entries : List (ℕ × ℤ)
  pub entries_rise : Ascends entries
  pub area_is : storage_of entries ≡ area

ascends-cell : (i : ℕ) (c : Cell) (es : List (ℕ × ℤ)) → Ascends es → Ascends (with_cell i c es)
ascends-cell i (Known z) es h = Ascends-with i z es h
ascends-cell i Unknown es h = Ascends-filter _ es h

listed_stores : (functions : List (ℕ × ℕ)) (area : ℕ → Cell) (i : ℕ) (c : Cell) → AreListed functions area → AreListed functions (with_stored i c area)
listed_stores functions area i c h = record {
  functions_rise = h.functions_rise;
  entries = with_cell i c h.entries;
  entries_rise = ascends-cell i c h.entries h.entries_rise;
  area_is = storage-with_cell i c h.entries ∙ ap (λ (x : ℕ → Cell). with_stored i c x) h.area_is;
}

listed_defines : (functions : List (ℕ × ℕ)) (area : ℕ → Cell) (n body : ℕ) → AreListed functions area → AreListed (with_entry n body functions) area
listed_defines functions area n body h = record {
  functions_rise = Ascends-with n body functions h.functions_rise;
  entries = h.entries;
  entries_rise = h.entries_rise;
  area_is = h.area_is;
}

-- The font's limits.

pub record AreWithin (s : Setting) (functions : List (ℕ × ℕ)) (area : ℕ → Cell) : Type 0 where
  pub named : FunctionsFit s functions
  pub known : (i : ℕ) (z : ℤ) → area i ≡ Known z → i < s.limits.storage

within_stores : (s : Setting) (functions : List (ℕ × ℕ)) (area : ℕ → Cell) (i : ℕ) (c : Cell) → AreWithin s functions area → i < s.limits.storage → AreWithin s functions (with_stored i c area)
within_stores s functions area i c h lt = record { named = h.named; known = λ j z e. go j z (nat_eq i j) refl e }
  where
    go : (j : ℕ) (z : ℤ) (b : Bool) → nat_eq i j ≡ b → (if b then c else area j) ≡ Known z → j < s.limits.storage
    go j z true same e = let here : i ≡ j = eqb-true i j same in omega arith
    go j z false same e = h.known j z e

name_fits : (k : Kind) (offset : ℕ) → offset < 2 ^ 31 → body_name k offset < 2 ^ 32
name_fits FontProgram offset h = omega arith
name_fits CvtProgram offset h = omega arith
name_fits (GlyphProgram points contours) offset h = omega arith

within_defines : (s : Setting) (functions : List (ℕ × ℕ)) (area : ℕ → Cell) (n offset : ℕ) → AreWithin s functions area → n < s.limits.functions → offset < 2 ^ 31
    → DefinesAt s offset → AreWithin s (with_entry n (body_name s.kind offset) functions) area
within_defines s functions area n offset h lt small _ = record {
  named = λ m body l. go m body (nat_eq n m) refl (sym (listed-with n (body_name s.kind offset) functions m) ∙ l);
  known = h.known;
}
  where
    go : (m body : ℕ) (b : Bool) → nat_eq n m ≡ b → (if b then Some (body_name s.kind offset) else listed functions m) ≡ Some body → (m < s.limits.functions) × (body < 2 ^ 32)
    go m body true same e =
        let here : n ≡ m = eqb-true n m same in
        let is : body_name s.kind offset ≡ body = cc in
        let fits : body_name s.kind offset < 2 ^ 32 = name_fits s.kind offset small in (omega arith, omega arith)
    go m body false same e = h.named m body e

-- The successors.

pub record IsStateOf (b : Abstract) (t : State) : Type 0 where
  pub state_is : abstract_of t ≡ b
  pub in_range : state_order.InRange t

listed_here : (a : State) → state_order.InRange a → AreListed a.functions (storage_of a.storage)
listed_here a h = record { functions_rise = h.1.1.0.ascends; entries = a.storage; entries_rise = h.1.1.1.ascends; area_is = refl }

state_from : (b : Abstract) → AreListed b.functions b.registers.storage → IsStateInRange b → (t : State) × IsStateOf b t
state_from b l h =
    let t : State = record { stack = b.stack; graphics = b.registers.graphics; functions = b.functions; storage = l.entries } in
    let is : abstract_of t ≡ b = λ i. record { stack = b.stack; registers = record { graphics = b.registers.graphics; storage = l.area_is i }; functions = b.functions } in
    (t, record { state_is = is; in_range = state_in_range t l.functions_rise l.entries_rise (subst IsStateInRange (sym is) h) })

-- each next abstract state is that of a state
pub next_state : (s : Setting) (fs : List Frame) (at : ℕ) (a : State) (nexts : List Next) → IsSettingInRange s → AreProgramsShort s → state_order.InRange a
    → outcome_on_cells s fs at (abstract_of a) ≡ Ok nexts → (i : ℕ) (n : Next) → slice_get nexts i ≡ Some n → (t : State) × IsStateOf n.state t
next_state s fs at a nexts setting short h e i n found =
    state_from n.state
    (one_of_all (λ n. AreListed n.state.functions n.state.registers.storage) nexts i n
    (lists_kept s AreListed (λ functions area n offset k _ _ _. listed_defines functions area n (body_name s.kind offset) k) (λ functions area i c k _. listed_stores functions area i c k)
    fs at (abstract_of a) nexts short (listed_here a h) e) found)
    (one_of_all (λ n. IsStateInRange n.state) nexts i n (keeps_range s fs at (abstract_of a) nexts setting (abstract_in_range a h) e) found)

within_here : (s : Setting) (a : State) → FitsLimits s a → AreWithin s a.functions (storage_of a.storage)
within_here s a h = record { named = h.functions; known = λ i z e. go i z (listed a.storage i) refl e }
  where
    go : (i : ℕ) (z : ℤ) (o : Option ℤ) → listed a.storage i ≡ o → known_or_not o ≡ Known z → i < s.limits.storage
    go i z None l e = absurd (cc)
    go i z (Some w) l e = h.storage i w l

-- where a state is within the font's limits, so is each of the next ones
pub next_fits : (s : Setting) (fs : List Frame) (at : ℕ) (a : State) (nexts : List Next) → AreProgramsShort s → FitsLimits s a
    → outcome_on_cells s fs at (abstract_of a) ≡ Ok nexts → (i : ℕ) (n : Next) → slice_get nexts i ≡ Some n → (t : State) → abstract_of t ≡ n.state → FitsLimits s t
next_fits s fs at a nexts short h e i n found t is =
    let D : Abstract → Type 0 = λ b. length b.stack ≤ s.limits.stack in
    let W : Abstract → Type 0 = λ b. AreWithin s b.functions b.registers.storage in
    let depth : length t.stack ≤ s.limits.stack =
    subst D (sym is) (one_of_all (λ n. length n.state.stack ≤ s.limits.stack) nexts i n (are_shallow s fs at (abstract_of a) nexts e) found) in
    let within : AreWithin s t.functions (storage_of t.storage) =
    subst W (sym is)
    (one_of_all (λ n. AreWithin s n.state.functions n.state.registers.storage) nexts i n
    (lists_kept s (AreWithin s) (within_defines s) (within_stores s) fs at (abstract_of a) nexts short (within_here s a h) e) found) in
    record { depth = depth; functions = within.named; storage = λ j z l. within.known j z (ap known_or_not l) }
