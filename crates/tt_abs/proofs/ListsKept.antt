-- What the outcome on cells keeps of the functions and the storage area: they change only where FDEF defines a function whose number is
-- below maxFunctionDefs, and where WS stores at an index below maxStorage.
use Rattle.std.specs.Prelude.{ℤ, pos, negsuc, ◌^◌, not, Option, nat_eq, nat_lt, nat_le, if◌then◌else◌}
use Rattle.std.specs.List.{AllByRecursion}
use Rattle.std.proofs.Common.{◌≡◌, ℕ, zero, suc, ◌+◌, ◌-◌, ◌≤◌, ◌<◌, List, [], ◌∷◌, ◌++◌, Ok, Err, Some, None, refl, sym, subst, arith, length, Bool, true, false}
use Rattle.std.proofs.lemmas.Bool.{leb-true, ltb-true, ltb-false, and_parts}
use Rattle.tt_code.specs.Refusals.{Tested, ◌>>=◌, holds_or, some_or}
use Rattle.tt_code.specs.Table.{Meaning, NoEntry, Plain, Pushes, Stack, Computes, Controls, Lists, effect_of}
use Rattle.tt_code.specs.Cut.{Instruction, instruction_at, size}
use Rattle.tt_code.specs.Structure.{after_if, after_else, after_fdef}
use Rattle.tt_code.specs.Settings.{Setting, program_of, starts_in_body, body_name, body_offset, CVT_BODIES}
use Rattle.tt_code.specs.States.{Registers, is_below, is_true}
use Rattle.tt_code.specs.Operands.{Taking, top, take_one}
use Rattle.tt_code.specs.Changes.{natural, taken_at, with_stored, updated, all_updated}
use Rattle.tt_code.specs.Computing.{element}
use Rattle.tt_code.specs.Control.{may_define}
use Rattle.tt_code.specs.declared.machine.Frame.{Frame}
use Rattle.tt_code.specs.declared.reason.Reason.{Reason}
use Rattle.tt_code.specs.declared.reason.Reason.TheVariants as reason
use Rattle.tt_code.specs.declared.kinds.Operand.{Operand}
use Rattle.tt_code.specs.declared.kinds.Operand.TheVariants as operand
use Rattle.tt_code.specs.declared.kinds.NewNumber.TheVariants as new_number
use Rattle.tt_code.specs.declared.kinds.Update.{Update}
use Rattle.tt_code.specs.declared.kinds.Update.TheVariants as update
use Rattle.tt_code.specs.declared.kinds.StackOp.{StackOp}
use Rattle.tt_code.specs.declared.kinds.StackOp.TheVariants.{Dup, Pop, Clear, Swap, Depth, CopyIndexed, MoveIndexed, Roll}
use Rattle.tt_code.specs.declared.kinds.Arithmetic.{Arithmetic}
use Rattle.tt_code.specs.declared.kinds.Arithmetic.TheVariants.{Add, Sub, Abs, Neg, Lt, LtEq, Gt, GtEq, Eq, Neq, And, Or, Not}
use Rattle.tt_code.specs.declared.kinds.Control.{Control}
use Rattle.tt_code.specs.declared.kinds.Control.TheVariants.{If, Else, Jump, JumpIfTrue, JumpIfFalse, Call, LoopCall, FunctionDefinition, EndFunction, InstructionDefinition}
use Rattle.tt_abs.specs.declared.cells.Cell.{Cell}
use Rattle.tt_abs.specs.declared.cells.Cell.TheVariants.{Known, Unknown}
use Rattle.tt_setting.specs.declared.zone.ZoneCell.{ZoneCell}
use Rattle.tt_abs.specs.Cells.{Abstract, Cells}
use Rattle.tt_setting.specs.Entries.{with_entry}
use Rattle.tt_setting.specs.Ranges.{AreProgramsShort}
use Rattle.tt_abs.specs.Representation.Stored.{is_single, is_storage, is_storage_at, stores_tested, reads_tested}
use Rattle.tt_abs.specs.Transfers.{Next, known, tested_cell, take_cell, take_cells, test_cell_uses, cells, index_in, leaves_cells, plain_cells, pushed_cells, shuffled_cells, of_one_cell, of_two_cells, computed_cells, one_way, two_ways, jump_target, jumps_cells, jumps_by, jumps_if_cells, if_ways, is_running, called_cell, enters_cells, loops_cells, returns_cells, controlled_cells, goes_on_cells, does_cells, are_within, within_cells, performs_cells, outcome_on_cells}
use Rattle.tt_setting.specs.Settings.{instruction_of}
use Rattle.tt_abs.proofs.RangesKept.{Holds, holds_then, holds_any}
use Rattle.tt_abs.proofs.TableRows.{rows_tested}

-- What holds of a value, where there is one.

-- after a test that passes
pub holds_tested : {B : Type 0} (Q : B → Type 0) (b : Bool) (r : Reason) (f : Unit {0} → Tested B) → (b ≡ true → (x : Unit {0}) → Holds Q (f x)) → Holds Q (holds_or b r >>= f)
holds_tested Q true r f k = k refl tt
holds_tested Q false r f k = tt

-- after what is found
holds_some : {A B : Type 0} (Q : B → Type 0) (o : Option A) (r : Reason) (f : A → Tested B) → ((x : A) → o ≡ Some x → Holds Q (f x)) → Holds Q (some_or o r >>= f)
holds_some Q None r f k = tt
holds_some Q (Some x) r f k = k x refl

holds_all : {A : Type 0} (t : Tested A) → Holds (λ x. Unit {0}) t
holds_all (Ok x) = tt
holds_all (Err r) = tt

holds_both : {A : Type 0} (P Q : A → Type 0) (t : Tested A) → Holds P t → Holds Q t → Holds (λ x. P x × Q x) t
holds_both P Q (Ok x) h k = (h, k)
holds_both P Q (Err r) h k = tt

-- Where an instruction ends.

abbrev pub EndsBelow : ℕ → Option Instruction → Type 0
EndsBelow at None = Unit {0}
EndsBelow at (Some i) = at + length i < 2 ^ 31

abbrev EndsWithin : ℕ → ℕ → Option Instruction → Type 0
EndsWithin end at None = Unit {0}
EndsWithin end at (Some i) = at + length i ≤ end

ends_within : (is : List Instruction) (k : ℕ) → EndsWithin (size is) k (instruction_at is k)
ends_within [] k = tt
ends_within (i ∷ is) zero = omega arith
ends_within (i ∷ is) (suc k) = go (nat_lt (suc k) (length i)) refl (instruction_at is (suc k - length i)) (ends_within is (suc k - length i))
  where
    go : (b : Bool) → nat_lt (suc k) (length i) ≡ b → (o : Option Instruction) → EndsWithin (size is) (suc k - length i) o → EndsWithin (length i + size is) (suc k) (if b then None else o)
    go true e o h = tt
    go false e None h = tt
    go false e (Some j) h = let le : length i ≤ suc k = ltb-false (suc k) (length i) e in omega (arith, h)

pub short_program : (s : Setting) (fs : List Frame) → AreProgramsShort s → size (program_of s fs) < 2 ^ 31
short_program s [] h = h.main
short_program s (f ∷ fs) h = go (nat_lt f.body CVT_BODIES)
  where
    go : (b : Bool) → size (if b then s.font else s.prep) < 2 ^ 31
    go true = h.font
    go false = h.prep

pub ends_below : (s : Setting) (fs : List Frame) (at : ℕ) → AreProgramsShort s → EndsBelow at (instruction_of s fs at)
ends_below s fs at h = go (starts_in_body s fs at) (instruction_at (program_of s fs) at) (ends_within (program_of s fs) at)
  where
    go : (b : Bool) (o : Option Instruction) → EndsWithin (size (program_of s fs)) at o → EndsBelow at (if b then o else None)
    go false o k = tt
    go true None k = tt
    go true (Some i) k = let lt : size (program_of s fs) < 2 ^ 31 = short_program s fs h in omega (arith, k)

-- each plain line stores only at operands that are storage indices
rows_store : (code : ℕ) (line : Lists) → effect_of code ≡ Plain line → stores_tested line.operands line.updates ≡ true
rows_store code line e = (and_parts (stores_tested line.operands line.updates) (reads_tested line.operands line.pushes) (rows_tested code line e)).0

-- What is taken.

abbrev IsOne : Taking Cell → Type 0
IsOne t = (c : Cell) × (t.0 ≡ c ∷ [])

tested_one : (passes : ℤ → Bool) (r : Reason) (stack : List Cell) → Holds IsOne (tested_cell passes r stack)
tested_one passes r [] = tt
tested_one passes r (Unknown ∷ cs) = tt
tested_one passes r (Known k ∷ cs) = holds_any IsOne (holds_or (passes k) r) _ (λ ok. (Known k, refl))

one_taken : (stack : List Cell) → Holds IsOne (take_one stack)
one_taken [] = tt
one_taken (c ∷ cs) = (c, refl)

index_below : (k : ℤ) (bound : ℕ) → is_below k bound ≡ true → natural k < bound
index_below (pos n) bound h = ltb-true n bound h
index_below (negsuc n) bound h = absurd (cc)

module _ (s : Setting) (g : Cells) where
  single_taken : (o : Operand) (stack : List Cell) → is_single o ≡ true → Holds IsOne (take_cell s g o stack)
  single_taken operand.Number stack h = one_taken stack
  single_taken (operand.Point within) stack h = tested_one _ _ stack
  single_taken operand.Cvt stack h = tested_one _ _ stack
  single_taken operand.Storage stack h = tested_one _ _ stack
  single_taken operand.Zone stack h = tested_one _ _ stack
  single_taken operand.Contour stack h = tested_one _ _ stack
  single_taken (operand.LoopPoints within) stack h = absurd (cc)
  single_taken (operand.PointPairs within) stack h = absurd (cc)
  single_taken operand.CvtPairs stack h = absurd (cc)

  -- the element taken at a place, as an index, is below maxStorage
  abbrev IsIndexAt : ℕ → Taking Cell → Type 0
  IsIndexAt i t = index_in (taken_at (Known (pos 1)) t.0 i) < s.limits.storage

  storage_taken : (stack : List Cell) → Holds (λ t. (c : Cell) × (t.0 ≡ c ∷ []) × (index_in c < s.limits.storage)) (take_cell s g operand.Storage stack)
  storage_taken [] = tt
  storage_taken (Unknown ∷ cs) = tt
  storage_taken (Known k ∷ cs) =
      holds_tested (λ t. (c : Cell) × (t.0 ≡ c ∷ []) × (index_in c < s.limits.storage)) (is_below k s.limits.storage) reason.Storage _ (λ e ok. (Known k, refl, index_below k s.limits.storage e))

  storage_first : (o : Operand) (stack : List Cell) → is_storage o ≡ true → Holds (λ t. (c : Cell) × (t.0 ≡ c ∷ []) × (index_in c < s.limits.storage)) (take_cell s g o stack)
  storage_first operand.Storage stack h = storage_taken stack
  storage_first operand.Number stack h = absurd (cc)
  storage_first (operand.Point within) stack h = absurd (cc)
  storage_first operand.Cvt stack h = absurd (cc)
  storage_first operand.Zone stack h = absurd (cc)
  storage_first operand.Contour stack h = absurd (cc)
  storage_first (operand.LoopPoints within) stack h = absurd (cc)
  storage_first (operand.PointPairs within) stack h = absurd (cc)
  storage_first operand.CvtPairs stack h = absurd (cc)

  first_at : (taken more : List Cell) (c : Cell) → taken ≡ c ∷ [] → index_in c < s.limits.storage → index_in (taken_at (Known (pos 1)) (taken ++ more) 0) < s.limits.storage
  first_at taken more c e h = let P : List Cell → Type 0 = λ xs. index_in (taken_at (Known (pos 1)) (xs ++ more) 0) < s.limits.storage in subst P (sym e) h

  later_at : (taken more : List Cell) (c : Cell) (i : ℕ) → taken ≡ c ∷ [] → index_in (taken_at (Known (pos 1)) more i) < s.limits.storage
      → index_in (taken_at (Known (pos 1)) (taken ++ more) (suc i)) < s.limits.storage
  later_at taken more c i e h = let P : List Cell → Type 0 = λ xs. index_in (taken_at (Known (pos 1)) (xs ++ more) (suc i)) < s.limits.storage in subst P (sym e) h

  index_taken : (os : List Operand) (i : ℕ) (stack : List Cell) → is_storage_at os i ≡ true → Holds (IsIndexAt i) (take_cells s g os stack)
  index_taken [] i stack h = absurd (cc)
  index_taken (o ∷ os) zero stack h =
      holds_then (λ t. (c : Cell) × (t.0 ≡ c ∷ []) × (index_in c < s.limits.storage)) (IsIndexAt zero) (take_cell s g o stack) _ (storage_first o stack h) (λ t k.
      holds_any (IsIndexAt zero) (take_cells s g os t.1) _ (λ u. let (c, e, lt) = k in first_at t.0 u.0 c e lt))
  index_taken (o ∷ os) (suc i) stack h =
      let (one, rest) = and_parts (is_single o) (is_storage_at os i) h in
      holds_then IsOne (IsIndexAt (suc i)) (take_cell s g o stack) _ (single_taken o stack one) (λ t k.
      holds_then (IsIndexAt i) (IsIndexAt (suc i)) (take_cells s g os t.1) _ (index_taken os i t.1 rest) (λ u l. let (c, e) = k in later_at t.0 u.0 c i e l))

  -- the index at which the update stores is below maxStorage
  abbrev StoreFits : List Cell → Update → Type 0
  StoreFits taken (update.Store i v) = index_in (taken_at (Known (pos 1)) taken i) < s.limits.storage
  StoreFits taken (update.SetPointer p i) = Unit {0}
  StoreFits taken (update.SetReference r q) = Unit {0}
  StoreFits taken (update.SetLoop i) = Unit {0}
  StoreFits taken update.LoopIsOne = Unit {0}

  abbrev StoresFit : List Update → Taking Cell → Type 0
  StoresFit us t = AllByRecursion (λ u. StoreFits t.0 u) us

  stores_taken : (os : List Operand) (us : List Update) (stack : List Cell) → stores_tested os us ≡ true → Holds (StoresFit us) (take_cells s g os stack)
  stores_taken os [] stack h = holds_all (take_cells s g os stack)
  stores_taken os (update.Store i v ∷ us) stack h =
      let (one, rest) = and_parts (is_storage_at os i) (stores_tested os us) h in
      holds_both (λ t. StoreFits t.0 (update.Store i v)) (StoresFit us) (take_cells s g os stack) (index_taken os i stack one) (stores_taken os us stack rest)
  stores_taken os (update.SetPointer p i ∷ us) stack h = holds_both (λ t. Unit {0}) (StoresFit us) (take_cells s g os stack) (holds_all (take_cells s g os stack)) (stores_taken os us stack h)
  stores_taken os (update.SetReference r q ∷ us) stack h = holds_both (λ t. Unit {0}) (StoresFit us) (take_cells s g os stack) (holds_all (take_cells s g os stack)) (stores_taken os us stack h)
  stores_taken os (update.SetLoop i ∷ us) stack h = holds_both (λ t. Unit {0}) (StoresFit us) (take_cells s g os stack) (holds_all (take_cells s g os stack)) (stores_taken os us stack h)
  stores_taken os (update.LoopIsOne ∷ us) stack h = holds_both (λ t. Unit {0}) (StoresFit us) (take_cells s g os stack) (holds_all (take_cells s g os stack)) (stores_taken os us stack h)

-- an FDEF of a body is before the offset, in a program that may define functions
pub record DefinesAt (s : Setting) (offset : ℕ) : Type 0 where
  pub frames : List Frame
  pub at : ℕ
  pub behind : offset ≡ at + 1
  pub may : may_define s.kind ≡ true
  pub starts : starts_in_body s frames at ≡ true
  pub to : ℕ
  pub leads : after_fdef (program_of s frames) at ≡ Some to

-- What is kept: P says it about the functions and the storage area.
module _ (s : Setting) (P : List (ℕ × ℕ) → (ℕ → Cell) → Type 0)
    (defines : (functions : List (ℕ × ℕ)) (area : ℕ → Cell) (n offset : ℕ) → P functions area → n < s.limits.functions → offset < 2 ^ 31 → DefinesAt s offset
    → P (with_entry n (body_name s.kind offset) functions) area)
    (stores : (functions : List (ℕ × ℕ)) (area : ℕ → Cell) (i : ℕ) (c : Cell) → P functions area → i < s.limits.storage → P functions (with_stored i c area)) where
  abbrev IsKept : Abstract → Type 0
  IsKept a = P a.functions a.registers.storage

  -- Plain lines.

  updated_kept : (g : Cells) (functions : List (ℕ × ℕ)) (taken : List Cell) (u : Update) (x : Registers Cell ZoneCell) → StoreFits s g taken u → P functions x.storage
      → P functions (updated cells taken u x).storage
  updated_kept g functions taken (update.Store i v) x fits h = stores functions x.storage (index_in (taken_at (Known (pos 1)) taken i)) (taken_at (Known (pos 1)) taken v) h fits
  updated_kept g functions taken (update.SetPointer p i) x fits h = h
  updated_kept g functions taken (update.SetReference r (new_number.Taken i)) x fits h = h
  updated_kept g functions taken (update.SetReference r (new_number.Same q)) x fits h = h
  updated_kept g functions taken (update.SetLoop i) x fits h = h
  updated_kept g functions taken update.LoopIsOne x fits h = h

  all_updated_kept : (g : Cells) (functions : List (ℕ × ℕ)) (taken : Taking Cell) (us : List Update) (x : Registers Cell ZoneCell) → StoresFit s g us taken → P functions x.storage
      → P functions (all_updated cells taken.0 us x).storage
  all_updated_kept g functions taken [] x fits h = h
  all_updated_kept g functions taken (u ∷ us) x fits h =
      all_updated_kept g functions taken us (updated cells taken.0 u x) fits.1 (updated_kept g functions taken.0 u x fits.0 h)

  plain_kept : (a : Abstract) (line : Lists) → stores_tested line.operands line.updates ≡ true → IsKept a → Holds IsKept (plain_cells s a line)
  plain_kept a line there h =
      holds_then (StoresFit s a.registers.graphics line.updates) IsKept (take_cells s a.registers.graphics line.operands a.stack) _
      (stores_taken s a.registers.graphics line.operands line.updates a.stack there) (λ t k.
      holds_any IsKept (test_cell_uses s a.registers.graphics line.uses) _ (λ ok. all_updated_kept a.registers.graphics a.functions t line.updates a.registers k h))

  -- What changes only the stack.

  shuffled_kept : (op : StackOp) (a : Abstract) → IsKept a → Holds IsKept (shuffled_cells op a)
  shuffled_kept Dup a h = holds_any IsKept (top a.stack) _ (λ t. h)
  shuffled_kept Pop a h = holds_any IsKept (top a.stack) _ (λ t. h)
  shuffled_kept Clear a h = h
  shuffled_kept Swap a h = holds_any IsKept (top a.stack) _ (λ t. holds_any IsKept (top t.1) _ (λ u. h))
  shuffled_kept Depth a h = h
  shuffled_kept CopyIndexed a h = holds_any IsKept (top a.stack) _ (λ t. holds_any IsKept (known t.0) _ (λ k. holds_any IsKept (element k t.1) _ (λ c. h)))
  shuffled_kept MoveIndexed a h = holds_any IsKept (top a.stack) _ (λ t. holds_any IsKept (known t.0) _ (λ k. holds_any IsKept (element k t.1) _ (λ c. h)))
  shuffled_kept Roll a h = holds_any IsKept (top a.stack) _ (λ t. holds_any IsKept (top t.1) _ (λ u. holds_any IsKept (top u.1) _ (λ v. h)))

  one_kept : (a : Abstract) (f : Cell → Cell) → IsKept a → Holds IsKept (of_one_cell a f)
  one_kept a f h = holds_any IsKept (top a.stack) _ (λ t. h)

  two_kept : (a : Abstract) (f : Cell → Cell → Cell) → IsKept a → Holds IsKept (of_two_cells a f)
  two_kept a f h = holds_any IsKept (top a.stack) _ (λ t. holds_any IsKept (top t.1) _ (λ u. h))

  computed_kept : (op : Arithmetic) (a : Abstract) → IsKept a → Holds IsKept (computed_cells op a)
  computed_kept Add a h = two_kept a _ h
  computed_kept Sub a h = two_kept a _ h
  computed_kept Abs a h = one_kept a _ h
  computed_kept Neg a h = one_kept a _ h
  computed_kept Lt a h = two_kept a _ h
  computed_kept LtEq a h = two_kept a _ h
  computed_kept Gt a h = two_kept a _ h
  computed_kept GtEq a h = two_kept a _ h
  computed_kept Eq a h = two_kept a _ h
  computed_kept Neq a h = two_kept a _ h
  computed_kept And a h = two_kept a _ h
  computed_kept Or a h = two_kept a _ h
  computed_kept Not a h = one_kept a _ h

  -- Control.

  abbrev AreKept : List Next → Type 0
  AreKept nexts = AllByRecursion (λ n. IsKept n.state) nexts

  two_ways_kept : (fs : List Frame) (m n : ℕ) (a : Abstract) → IsKept a → AreKept (two_ways fs m n a)
  two_ways_kept fs m n a h = go (nat_eq m n) (nat_lt m n)
    where
      go : (b c : Bool)
          → AreKept (if b then one_way fs m a else if c then record { frames = fs; offset = m; state = a } ∷ one_way fs n a else record { frames = fs; offset = n; state = a } ∷ one_way fs m a)
      go true c = (h, tt)
      go false true = (h, (h, tt))
      go false false = (h, (h, tt))

  module _ (fs : List Frame) (at : ℕ) (a : Abstract) (kept : IsKept a) (starts : starts_in_body s fs at ≡ true) where
    jumps_kept : (by : Cell) (stack : List Cell) → Holds AreKept (jumps_cells s fs at a by stack)
    jumps_kept by stack = holds_any AreKept (jump_target s fs at by stack) _ (λ t. (kept, tt))

    jumps_by_kept : (holds : ℤ → Bool) (e by : Cell) (stack : List Cell) → Holds AreKept (jumps_by s fs at a holds e by stack)
    jumps_by_kept holds (Known e) by stack = go (holds e)
      where
        go : (b : Bool) → Holds AreKept (if b then jumps_cells s fs at a by stack else Ok (one_way fs (at + 1) (leaves_cells a stack [])))
        go true = jumps_kept by stack
        go false = (kept, tt)
    jumps_by_kept holds Unknown by stack = holds_any AreKept (jump_target s fs at by stack) _ (λ t. two_ways_kept fs (at + 1) t (leaves_cells a stack []) kept)

    jumps_if_kept : (holds : ℤ → Bool) → Holds AreKept (jumps_if_cells s fs at a holds)
    jumps_if_kept holds = holds_any AreKept (top a.stack) _ (λ e. holds_any AreKept (top e.1) _ (λ by. jumps_by_kept holds e.0 by.0 by.1))

    if_kept : (e : Cell) (stack : List Cell) → Holds AreKept (if_ways s fs at a e stack)
    if_kept (Known e) stack = holds_any AreKept (if is_true e then Ok (at + 1) else some_or (after_if (program_of s fs) at) reason.Target) _ (λ after. (kept, tt))
    if_kept Unknown stack = holds_any AreKept (some_or (after_if (program_of s fs) at) reason.Target) _ (λ after. two_ways_kept fs (at + 1) after (leaves_cells a stack []) kept)

    enters_kept : (name : ℕ) (stack : List Cell) (turns : ℕ) → Holds AreKept (enters_cells s fs at a name stack turns)
    enters_kept name stack turns =
        holds_any AreKept (holds_or (nat_le (length stack) s.limits.stack) reason.Overflow) _ (λ deep.
        holds_any AreKept (holds_or (not (is_running name fs)) reason.Recursion) _ (λ fresh. (kept, tt)))

    loops_kept : (name : ℕ) (stack : List Cell) (count : ℤ) → Holds AreKept (loops_cells s fs at a name stack count)
    loops_kept name stack (pos zero) = (kept, tt)
    loops_kept name stack (pos (suc n)) = enters_kept name stack (suc n)
    loops_kept name stack (negsuc n) = (kept, tt)

    returns_kept : (gs : List Frame) → Holds AreKept (returns_cells a gs)
    returns_kept [] = tt
    returns_kept (f ∷ gs) = go (nat_lt f.turn f.count)
      where
        go : (b : Bool) → Holds AreKept
            (if b then Ok (one_way (record f { turn = f.turn + 1 } ∷ gs) (body_offset f.body) (leaves_cells a a.stack [])) else Ok (one_way gs (f.call + 1) (leaves_cells a a.stack [])))
        go true = (kept, tt)
        go false = (kept, tt)

    controlled_kept : (c : Control) → at + 1 < 2 ^ 31 → Holds AreKept (controlled_cells s fs at a c)
    controlled_kept If small = holds_any AreKept (top a.stack) _ (λ e. if_kept e.0 e.1)
    controlled_kept Else small = holds_any AreKept (some_or (after_else (program_of s fs) at) reason.Target) _ (λ after. (kept, tt))
    controlled_kept Jump small = holds_any AreKept (top a.stack) _ (λ by. jumps_kept by.0 by.1)
    controlled_kept JumpIfTrue small = jumps_if_kept is_true
    controlled_kept JumpIfFalse small = jumps_if_kept (λ e. not (is_true e))
    controlled_kept FunctionDefinition small =
        holds_tested AreKept (may_define s.kind) reason.Definition _ (λ may ok.
        holds_any AreKept (top a.stack) _ (λ t.
        holds_any AreKept (known t.0) _ (λ n.
        holds_tested AreKept (is_below n s.limits.functions) reason.Function _ (λ e ok.
        holds_some AreKept (after_fdef (program_of s fs) at) reason.Target _ (λ after leads.
        let here : DefinesAt s (at + 1) = record { frames = fs; at = at; behind = refl; may = may; starts = starts; to = after; leads = leads } in
        (defines a.functions a.registers.storage (natural n) (at + 1) kept (index_below n s.limits.functions e) small here, tt))))))
    controlled_kept Call small = holds_any AreKept (top a.stack) _ (λ t. holds_any AreKept (called_cell s a.functions t.0) _ (λ name. enters_kept name t.1 1))
    controlled_kept LoopCall small =
        holds_any AreKept (top a.stack) _ (λ t.
        holds_any AreKept (called_cell s a.functions t.0) _ (λ name.
        holds_any AreKept (top t.1) _ (λ u. holds_any AreKept (known u.0) _ (λ count. loops_kept name u.1 count))))
    controlled_kept EndFunction small = returns_kept fs
    controlled_kept InstructionDefinition small = tt

    -- Any instruction.

    goes_on_kept : (next : ℕ) (r : Tested Abstract) → Holds IsKept r → Holds AreKept (goes_on_cells fs next r)
    goes_on_kept next r h = holds_then IsKept AreKept r _ h (λ b k. (k, tt))

    does_kept : (w : Meaning) (rest : List ℕ) (next : ℕ) → ((line : Lists) → w ≡ Plain line → stores_tested line.operands line.updates ≡ true) → at + 1 < 2 ^ 31 → Holds AreKept (does_cells s fs at a w rest next)
    does_kept NoEntry rest next there small = tt
    does_kept (Plain line) rest next there small = goes_on_kept next (plain_cells s a line) (plain_kept a line (there line refl) kept)
    does_kept (Pushes push) rest next there small = goes_on_kept next (Ok (pushed_cells push a rest)) kept
    does_kept (Stack op) rest next there small = goes_on_kept next (shuffled_cells op a) (shuffled_kept op a kept)
    does_kept (Computes op) rest next there small = goes_on_kept next (computed_cells op a) (computed_kept op a kept)
    does_kept (Controls c) rest next there small = controlled_kept c small

  starts_where : (b : Bool) (o : Option Instruction) (j : Instruction) → (if b then o else None) ≡ Some j → b ≡ true
  starts_where true o j e = refl
  starts_where false o j e = absurd (cc)

  within_kept : (nexts : List Next) → AreKept nexts → Holds AreKept (within_cells s nexts)
  within_kept nexts h = holds_any AreKept (holds_or (are_within s nexts) reason.Overflow) _ (λ ok. h)

  performs_kept : (fs : List Frame) (at : ℕ) (a : Abstract) (i : Option Instruction) → EndsBelow at i → ((j : Instruction) → i ≡ Some j → starts_in_body s fs at ≡ true) → IsKept a
      → Holds AreKept (performs_cells s fs at a i)
  performs_kept fs at a None small starts h = tt
  performs_kept fs at a (Some []) small starts h = tt
  performs_kept fs at a (Some (code ∷ rest)) small starts h =
      holds_then AreKept AreKept (does_cells s fs at a (effect_of code) rest (at + suc (length rest))) (within_cells s)
      (does_kept fs at a h (starts (code ∷ rest) refl) (effect_of code) rest (at + suc (length rest)) (rows_store code) (omega (arith, small)))
      (λ nexts k. within_kept nexts k)

  next_kept : (fs : List Frame) (at : ℕ) (a : Abstract) → AreProgramsShort s → IsKept a → Holds AreKept (outcome_on_cells s fs at a)
  unfolding outcome_on_cells
  next_kept fs at a short h = performs_kept fs at a (instruction_of s fs at) (ends_below s fs at short) (λ j e. starts_where (starts_in_body s fs at) (instruction_at (program_of s fs) at) j e) h

  -- where it holds of an abstract state, it holds of each next one
  pub lists_kept : (fs : List Frame) (at : ℕ) (a : Abstract) (nexts : List Next) → AreProgramsShort s → IsKept a → outcome_on_cells s fs at a ≡ Ok nexts → AreKept nexts
  lists_kept fs at a nexts short h e = subst (Holds AreKept) e (next_kept fs at a short h)

-- No successor is too deep.

within_limit : (s : Setting) (nexts : List Next) → are_within s nexts ≡ true → AllByRecursion (λ n. length n.state.stack ≤ s.limits.stack) nexts
within_limit s [] e = tt
within_limit s (n ∷ ns) e =
    let (first, others) = and_parts (nat_le (length n.state.stack) s.limits.stack) (are_within s ns) e in (leb-true (length n.state.stack) s.limits.stack first, within_limit s ns others)

abbrev AreShallow : Setting → List Next → Type 0
AreShallow s nexts = AllByRecursion (λ n. length n.state.stack ≤ s.limits.stack) nexts

performs_shallow : (s : Setting) (fs : List Frame) (at : ℕ) (a : Abstract) (i : Option Instruction) → Holds (AreShallow s) (performs_cells s fs at a i)
performs_shallow s fs at a None = tt
performs_shallow s fs at a (Some []) = tt
performs_shallow s fs at a (Some (code ∷ rest)) =
    holds_any (AreShallow s) (does_cells s fs at a (effect_of code) rest (at + suc (length rest))) (within_cells s)
    (λ nexts. holds_tested (AreShallow s) (are_within s nexts) reason.Overflow _ (λ e ok. within_limit s nexts e))

next_shallow : (s : Setting) (fs : List Frame) (at : ℕ) (a : Abstract) → Holds (AreShallow s) (outcome_on_cells s fs at a)
unfolding outcome_on_cells
next_shallow s fs at a = performs_shallow s fs at a (instruction_of s fs at)

pub are_shallow : (s : Setting) (fs : List Frame) (at : ℕ) (a : Abstract) (nexts : List Next) → outcome_on_cells s fs at a ≡ Ok nexts → AllByRecursion (λ n. length n.state.stack ≤ s.limits.stack) nexts
are_shallow s fs at a nexts e = subst (Holds (AreShallow s)) e (next_shallow s fs at a)

-- Past the programs' ends nothing is done.

pub refused_past_end : (s : Setting) (fs : List Frame) (at : ℕ) (a : Abstract) → AreProgramsShort s → 2 ^ 31 ≤ at → outcome_on_cells s fs at a ≡ Err reason.Target
unfolding outcome_on_cells
refused_past_end s fs at a short past = go (instruction_of s fs at) (ends_below s fs at short)
  where
    go : (i : Option Instruction) → EndsBelow at i → performs_cells s fs at a i ≡ Err reason.Target
    go None small = refl
    go (Some []) small = refl
    go (Some (code ∷ rest)) small = absurd (omega (arith, small))
