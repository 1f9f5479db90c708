-- The outcome on cells keeps cells in range: what it makes known is a number of the machine.
use Rattle.std.specs.Prelude.{ℕ, ℤ, pos, negsuc, ◌+ℤ◌, ◌-ℤ◌, neg_ℤ, int_lt, int_le, ◌*◌, ◌^◌, not, ◌&&◌, ◌||◌, map, remove, Option, nat_eq, nat_lt, nat_le, if◌then◌else◌}
use Rattle.std.specs.List.{AllByRecursion}
use Rattle.std.proofs.Common.{◌≡◌, zero, suc, ◌+◌, ◌-◌, ◌≤◌, ◌<◌, List, [], ◌∷◌, ◌++◌, Ok, Err, Some, None, refl, sym, subst, arith, length, drop, Bool, true, false}
use Rattle.std.proofs.lemmas.Int.{ints}
use Rattle.std.proofs.lemmas.Bool.{leb-true, and_parts}
use Rattle.tt_code.specs.Refusals.{Tested, ◌>>=◌, holds_or, some_or}
use Rattle.tt_code.specs.Table.{Meaning, NoEntry, Plain, Pushes, Stack, Computes, Controls, Lists, effect_of}
use Rattle.tt_code.specs.Cut.{Instruction, instruction_at, data_after}
use Rattle.tt_code.specs.Structure.{after_if, after_else, after_fdef}
use Rattle.tt_code.specs.Settings.{Setting, program_of, body_offset, starts_in_body, CVT_BODIES}
use Rattle.tt_code.specs.States.{IsNumber, Registers, is_number, is_below, is_true, reference}
use Rattle.tt_code.specs.Operands.{Taking, top, take_operands}
use Rattle.tt_code.specs.Changes.{taken_at, updated, all_updated}
use Rattle.tt_code.specs.Computing.{word_number, words, numbers_in, element, position_of, absolute, equal}
use Rattle.tt_code.specs.Control.{may_define}
use Rattle.tt_code.specs.declared.machine.Frame.{Frame}
use Rattle.tt_code.specs.declared.reason.Reason.TheVariants as reason
use Rattle.tt_code.specs.declared.kinds.Reference.{Reference}
use Rattle.tt_code.specs.declared.kinds.Reference.TheVariants.{Rp0, Rp1, Rp2}
use Rattle.tt_code.specs.declared.kinds.Pointer.TheVariants.{Zp0, Zp1, Zp2}
use Rattle.tt_code.specs.declared.kinds.NewNumber.TheVariants as new_number
use Rattle.tt_code.specs.declared.kinds.Update.{Update}
use Rattle.tt_code.specs.declared.kinds.Update.TheVariants as update
use Rattle.tt_code.specs.declared.kinds.Pushed.{Pushed}
use Rattle.tt_code.specs.declared.kinds.Pushed.TheVariants as pushed
use Rattle.tt_code.specs.declared.kinds.Push.{Push}
use Rattle.tt_code.specs.declared.kinds.Push.TheVariants.{CountedBytes, CountedWords, Bytes, Words}
use Rattle.tt_code.specs.declared.kinds.StackOp.{StackOp}
use Rattle.tt_code.specs.declared.kinds.StackOp.TheVariants.{Dup, Pop, Clear, Swap, Depth, CopyIndexed, MoveIndexed, Roll}
use Rattle.tt_code.specs.declared.kinds.Arithmetic.{Arithmetic}
use Rattle.tt_code.specs.declared.kinds.Arithmetic.TheVariants.{Add, Sub, Abs, Neg, Lt, LtEq, Gt, GtEq, Eq, Neq, And, Or, Not}
use Rattle.tt_code.specs.declared.kinds.Control.{Control}
use Rattle.tt_code.specs.declared.kinds.Control.TheVariants.{If, Else, Jump, JumpIfTrue, JumpIfFalse, Call, LoopCall, FunctionDefinition, EndFunction, InstructionDefinition}
use Rattle.tt_abs.specs.declared.cells.Cell.{Cell}
use Rattle.tt_abs.specs.declared.cells.Cell.TheVariants.{Known, Unknown}
use Rattle.tt_setting.specs.declared.zone.ZoneCell.{ZoneCell}
use Rattle.tt_abs.specs.Cells.{Abstract}
use Rattle.tt_abs.specs.Ranges.{IsInRange, AreInRange, AreRegistersInRange, IsStateInRange, AreNextInRange}
use Rattle.tt_setting.specs.Ranges.{AreBytes, IsSettingInRange}
use Rattle.tt_abs.specs.Transfers.{Next, known, take_cells, test_cell_uses, cells, index_in, cells_pushed, cells_on, leaves_cells, plain_cells, pushed_cells, shuffled_cells, exact_cell, truth_cell, only_if, of_known, of_both_known, lt_cells, le_cells, and_cells, or_cells, of_one_cell, of_two_cells, computed_cells, LEAST, GREATEST, one_way, two_ways, jump_target, jumps_cells, jumps_by, jumps_if_cells, if_ways, called_cell, is_running, enters_cells, loops_cells, returns_cells, controlled_cells, goes_on_cells, does_cells, are_within, within_cells, performs_cells, outcome_on_cells}
use Rattle.tt_setting.specs.Settings.{instruction_of}
use Rattle.tt_abs.proofs.Choosing.{zero_is_number, one_is_number}
use Rattle.tt_abs.proofs.Takes.{StandsFor, operands_stand}
use Rattle.tt_abs.proofs.ArithmeticLemmas.{number_by_test}

-- What holds of a value, where there is one.

abbrev pub Holds : {A : Type 0} → (A → Type 0) → Tested A → Type 0
Holds P (Ok x) = P x
Holds P (Err r) = Unit {0}

pub holds_then : {A B : Type 0} (P : A → Type 0) (Q : B → Type 0) (t : Tested A) (f : A → Tested B) → Holds P t → ((x : A) → P x → Holds Q (f x)) → Holds Q (t >>= f)
holds_then P Q (Ok x) f h k = k x h
holds_then P Q (Err r) f h k = tt

pub holds_any : {A B : Type 0} (Q : B → Type 0) (t : Tested A) (f : A → Tested B) → ((x : A) → Holds Q (f x)) → Holds Q (t >>= f)
holds_any Q (Ok x) f k = k x
holds_any Q (Err r) f k = tt

-- Lists of cells.

in_parts : (xs ys : List Cell) → AreInRange (xs ++ ys) → AreInRange xs × AreInRange ys
in_parts [] ys h = (tt, h)
in_parts (x ∷ xs) ys h = let (p, q) = in_parts xs ys h.1 in ((h.0, p), q)

at_in_range : (cs : List Cell) (i : ℕ) → AreInRange cs → IsInRange (taken_at (Known (pos 1)) cs i)
at_in_range [] i h = one_is_number
at_in_range (c ∷ cs) zero h = h.0
at_in_range (c ∷ cs) (suc i) h = at_in_range cs i h.1

removed_in_range : (cs : List Cell) (i : ℕ) → AreInRange cs → AreInRange (remove cs i)
removed_in_range [] zero h = tt
removed_in_range [] (suc i) h = tt
removed_in_range (c ∷ cs) zero h = h.1
removed_in_range (c ∷ cs) (suc i) h = (h.0, removed_in_range cs i h.1)

on_in_range : (cs stack : List Cell) → AreInRange cs → AreInRange stack → AreInRange (cells_on cs stack)
on_in_range [] stack h k = k
on_in_range (c ∷ cs) stack h k = on_in_range cs (c ∷ stack) h.1 (h.0, k)

abbrev TopInRange : Cell × List Cell → Type 0
TopInRange t = IsInRange t.0 × AreInRange t.1

top_in_range : (cs : List Cell) → AreInRange cs → Holds TopInRange (top cs)
top_in_range [] h = tt
top_in_range (c ∷ cs) h = h

element_in_range : (k : ℤ) (cs : List Cell) → AreInRange cs → Holds IsInRange (element k cs)
element_in_range (negsuc n) cs h = tt
element_in_range (pos zero) cs h = tt
element_in_range (pos (suc n)) [] h = tt
element_in_range (pos (suc zero)) (c ∷ cs) h = h.0
element_in_range (pos (suc (suc n))) (c ∷ cs) h = element_in_range (pos (suc n)) cs h.1

-- An abstract state that is in range where it isn't too deep: DEPTH pushes no more than the greatest depth.
abbrev IsKept : ℕ → Abstract → Type 0
IsKept depth a = length a.stack ≤ depth → IsStateInRange a

left_in_range : (depth : ℕ) (a : Abstract) (stack pushed : List Cell) → IsStateInRange a → AreInRange stack → AreInRange pushed → IsKept depth (leaves_cells a stack pushed)
left_in_range depth a stack pushed h k l = λ shallow. record { stack = on_in_range pushed stack l k; registers = h.registers }

-- Plain lines.

reference_in_range : (q : Reference) (x : Registers Cell ZoneCell) → AreRegistersInRange x → IsInRange (reference q x.graphics)
reference_in_range Rp0 x h = h.rp0
reference_in_range Rp1 x h = h.rp1
reference_in_range Rp2 x h = h.rp2

if_in_range : (b : Bool) (c d : Cell) → IsInRange c → IsInRange d → IsInRange (if b then c else d)
if_in_range true c d h k = h
if_in_range false c d h k = k

updated_in_range : (taken : List Cell) (u : Update) (x : Registers Cell ZoneCell) → AreInRange taken → AreRegistersInRange x → AreRegistersInRange (updated cells taken u x)
updated_in_range taken (update.SetReference Rp0 (new_number.Taken i)) x h k = record { rp0 = at_in_range taken i h; rp1 = k.rp1; rp2 = k.rp2; loop_number = k.loop_number; storage = k.storage }
updated_in_range taken (update.SetReference Rp1 (new_number.Taken i)) x h k = record { rp0 = k.rp0; rp1 = at_in_range taken i h; rp2 = k.rp2; loop_number = k.loop_number; storage = k.storage }
updated_in_range taken (update.SetReference Rp2 (new_number.Taken i)) x h k = record { rp0 = k.rp0; rp1 = k.rp1; rp2 = at_in_range taken i h; loop_number = k.loop_number; storage = k.storage }
updated_in_range taken (update.SetReference Rp0 (new_number.Same q)) x h k = record { rp0 = reference_in_range q x k; rp1 = k.rp1; rp2 = k.rp2; loop_number = k.loop_number; storage = k.storage }
updated_in_range taken (update.SetReference Rp1 (new_number.Same q)) x h k = record { rp0 = k.rp0; rp1 = reference_in_range q x k; rp2 = k.rp2; loop_number = k.loop_number; storage = k.storage }
updated_in_range taken (update.SetReference Rp2 (new_number.Same q)) x h k = record { rp0 = k.rp0; rp1 = k.rp1; rp2 = reference_in_range q x k; loop_number = k.loop_number; storage = k.storage }
updated_in_range taken (update.SetPointer Zp0 i) x h k = record { rp0 = k.rp0; rp1 = k.rp1; rp2 = k.rp2; loop_number = k.loop_number; storage = k.storage }
updated_in_range taken (update.SetPointer Zp1 i) x h k = record { rp0 = k.rp0; rp1 = k.rp1; rp2 = k.rp2; loop_number = k.loop_number; storage = k.storage }
updated_in_range taken (update.SetPointer Zp2 i) x h k = record { rp0 = k.rp0; rp1 = k.rp1; rp2 = k.rp2; loop_number = k.loop_number; storage = k.storage }
updated_in_range taken (update.SetLoop i) x h k = record { rp0 = k.rp0; rp1 = k.rp1; rp2 = k.rp2; loop_number = at_in_range taken i h; storage = k.storage }
updated_in_range taken update.LoopIsOne x h k = record { rp0 = k.rp0; rp1 = k.rp1; rp2 = k.rp2; loop_number = one_is_number; storage = k.storage }
updated_in_range taken (update.Store i n) x h k = record {
  rp0 = k.rp0;
  rp1 = k.rp1;
  rp2 = k.rp2;
  loop_number = k.loop_number;
  storage = λ j. if_in_range (nat_eq (index_in (taken_at (Known (pos 1)) taken i)) j) (taken_at (Known (pos 1)) taken n) (x.storage j) (at_in_range taken n h) (k.storage j);
}

all_updated_in_range : (taken : List Cell) (us : List Update) (x : Registers Cell ZoneCell) → AreInRange taken → AreRegistersInRange x → AreRegistersInRange (all_updated cells taken us x)
all_updated_in_range taken [] x h k = k
all_updated_in_range taken (u ∷ us) x h k = all_updated_in_range taken us (updated cells taken u x) h (updated_in_range taken u x h k)

pushes_in_range : (taken : List Cell) (area : ℕ → Cell) (ps : List Pushed) → ((i : ℕ) → IsInRange (area i)) → AreInRange (cells_pushed taken area ps)
pushes_in_range taken area [] h = tt
pushes_in_range taken area (pushed.Any ∷ ps) h = (tt, pushes_in_range taken area ps h)
pushes_in_range taken area (pushed.Stored i ∷ ps) h = (h (index_in (taken_at (Known (pos 1)) taken i)), pushes_in_range taken area ps h)

plain_kept : (depth : ℕ) (s : Setting) (a : Abstract) (line : Lists) → IsStateInRange a → Holds (IsKept depth) (plain_cells s a line)
plain_kept depth s a line h = go (take_cells s a.registers.graphics line.operands a.stack) (operands_stand s a.registers.graphics line.operands a.stack)
  where
    go : (r : Tested (Taking Cell)) → StandsFor a.registers.graphics a.stack (λ g. take_operands s g line.operands) r
        → Holds (IsKept depth)
        (r >>= (λ t. test_cell_uses s a.registers.graphics line.uses >>= (λ ok. Ok (leaves_cells (record a { registers = all_updated cells t.0 line.updates a.registers }) t.1 (cells_pushed t.0 a.registers.storage line.pushes)))))
    go (Err r) w = tt
    go (Ok t) w =
        let (taken, rest) = in_parts t.0 t.1 (subst AreInRange (sym w.joined) h.stack) in
        holds_any (IsKept depth) (test_cell_uses s a.registers.graphics line.uses)
        (λ ok. Ok (leaves_cells (record a { registers = all_updated cells t.0 line.updates a.registers }) t.1 (cells_pushed t.0 a.registers.storage line.pushes)))
        (λ ok shallow. record {
          stack = on_in_range (cells_pushed t.0 a.registers.storage line.pushes) t.1 (pushes_in_range t.0 a.registers.storage line.pushes h.registers.storage) rest;
          registers = all_updated_in_range t.0 line.updates a.registers taken h.registers;
        })

-- Pushes.

byte_fits : (b : ℕ) → b < 256 → IsNumber (pos b)
byte_fits b h = grind (arith, ints)

low_word_fits : (high low : ℕ) → high < 256 → low < 256 → IsNumber (pos (256 * high + low))
low_word_fits high low h k = grind (arith, ints)

high_word_fits : (high low : ℕ) → high < 256 → low < 256 → IsNumber (pos (256 * high + low) -ℤ pos 65536)
high_word_fits high low h k = grind (arith, ints)

word_fits : (high low : ℕ) → high < 256 → low < 256 → IsNumber (word_number high low)
word_fits high low h k = go (nat_lt high 128)
  where
    go : (b : Bool) → IsNumber (if b then pos (256 * high + low) else pos (256 * high + low) -ℤ pos 65536)
    go true = low_word_fits high low h k
    go false = high_word_fits high low h k

bytes_in_range : (bytes : List ℕ) → AreBytes bytes → AreInRange (map Known (map pos bytes))
bytes_in_range [] h = tt
bytes_in_range (b ∷ bytes) h = (byte_fits b h.0, bytes_in_range bytes h.1)

words_in_range : (bytes : List ℕ) → AreBytes bytes → AreInRange (map Known (words bytes))
words_in_range [] h = tt
words_in_range (b ∷ []) h = tt
words_in_range (high ∷ low ∷ bytes) h = (word_fits high low h.0 h.1.0, words_in_range bytes h.1.1)

tail_bytes : (bytes : List ℕ) → AreBytes bytes → AreBytes (drop 1 bytes)
tail_bytes [] h = tt
tail_bytes (b ∷ bytes) h = h.1

numbers_in_range : (push : Push) (rest : List ℕ) → AreBytes rest → AreInRange (map Known (numbers_in push (data_after push rest)))
numbers_in_range CountedBytes rest h = bytes_in_range (drop 1 rest) (tail_bytes rest h)
numbers_in_range CountedWords rest h = words_in_range (drop 1 rest) (tail_bytes rest h)
numbers_in_range (Bytes n) rest h = bytes_in_range rest h
numbers_in_range (Words n) rest h = words_in_range rest h

pushed_kept : (depth : ℕ) (push : Push) (a : Abstract) (rest : List ℕ) → AreBytes rest → IsStateInRange a → IsKept depth (pushed_cells push a rest)
pushed_kept depth push a rest h k = left_in_range depth a a.stack (map Known (numbers_in push (data_after push rest))) k k.stack (numbers_in_range push rest h)

-- Stack instructions.

depth_fits : (depth n : ℕ) → depth < 2 ^ 16 → suc n ≤ depth → IsNumber (pos n)
depth_fits depth n h k = grind (arith, ints)

shuffled_kept : (depth : ℕ) (op : StackOp) (a : Abstract) → depth < 2 ^ 16 → IsStateInRange a → Holds (IsKept depth) (shuffled_cells op a)
shuffled_kept depth Dup a small h =
    holds_then TopInRange (IsKept depth) (top a.stack) _ (top_in_range a.stack h.stack) (λ t k. left_in_range depth a t.1 (t.0 ∷ t.0 ∷ []) h k.1 (k.0, (k.0, tt)))
shuffled_kept depth Pop a small h =
    holds_then TopInRange (IsKept depth) (top a.stack) _ (top_in_range a.stack h.stack) (λ t k. left_in_range depth a t.1 [] h k.1 tt)
shuffled_kept depth Clear a small h = left_in_range depth a [] [] h tt tt
shuffled_kept depth Swap a small h =
    holds_then TopInRange (IsKept depth) (top a.stack) _ (top_in_range a.stack h.stack) (λ t k.
    holds_then TopInRange (IsKept depth) (top t.1) _ (top_in_range t.1 k.1) (λ u l. left_in_range depth a u.1 (t.0 ∷ u.0 ∷ []) h l.1 (k.0, (l.0, tt))))
shuffled_kept depth Depth a small h = λ shallow. record { stack = (depth_fits depth (length a.stack) small (omega (arith, shallow)), h.stack); registers = h.registers }
shuffled_kept depth CopyIndexed a small h =
    holds_then TopInRange (IsKept depth) (top a.stack) _ (top_in_range a.stack h.stack) (λ t k.
    holds_any (IsKept depth) (known t.0) _ (λ z.
    holds_then IsInRange (IsKept depth) (element z t.1) _ (element_in_range z t.1 k.1) (λ c l. left_in_range depth a t.1 (c ∷ []) h k.1 (l, tt))))
shuffled_kept depth MoveIndexed a small h =
    holds_then TopInRange (IsKept depth) (top a.stack) _ (top_in_range a.stack h.stack) (λ t k.
    holds_any (IsKept depth) (known t.0) _ (λ z.
    holds_then IsInRange (IsKept depth) (element z t.1) _ (element_in_range z t.1 k.1) (λ c l.
    left_in_range depth a (remove t.1 (position_of z)) (c ∷ []) h (removed_in_range t.1 (position_of z) k.1) (l, tt))))
shuffled_kept depth Roll a small h =
    holds_then TopInRange (IsKept depth) (top a.stack) _ (top_in_range a.stack h.stack) (λ t k.
    holds_then TopInRange (IsKept depth) (top t.1) _ (top_in_range t.1 k.1) (λ u l.
    holds_then TopInRange (IsKept depth) (top u.1) _ (top_in_range u.1 l.1) (λ v m. left_in_range depth a v.1 (u.0 ∷ t.0 ∷ v.0 ∷ []) h m.1 (l.0, (k.0, (m.0, tt))))))

-- Arithmetic.

exact_in_range : (z : ℤ) → IsInRange (exact_cell z)
exact_in_range z = go (is_number z) refl
  where
    go : (b : Bool) → is_number z ≡ b → IsInRange (if b then Known z else Unknown)
    go true e = number_by_test z e
    go false e = tt

truth_in_range : (b : Bool) → IsInRange (truth_cell b)
truth_in_range true = one_is_number
truth_in_range false = zero_is_number

only_if_in_range : (b : Bool) (c : Cell) → IsInRange c → IsInRange (only_if b c)
only_if_in_range true c h = h
only_if_in_range false c h = tt

known_in_range : (f : ℤ → Cell) → ((z : ℤ) → IsInRange (f z)) → (c : Cell) → IsInRange (of_known f c)
known_in_range f h (Known a) = h a
known_in_range f h Unknown = tt

both_in_range : (f : ℤ → ℤ → Cell) → ((y z : ℤ) → IsInRange (f y z)) → (c d : Cell) → IsInRange (of_both_known f c d)
both_in_range f h (Known a) (Known b) = h a b
both_in_range f h Unknown b = tt
both_in_range f h (Known a) Unknown = tt

lt_in_range : (c d : Cell) → IsInRange (lt_cells c d)
lt_in_range (Known a) (Known b) = truth_in_range (int_lt a b)
lt_in_range Unknown (Known b) = only_if_in_range (equal b LEAST) (truth_cell false) zero_is_number
lt_in_range (Known a) Unknown = only_if_in_range (equal a GREATEST) (truth_cell false) zero_is_number
lt_in_range Unknown Unknown = tt

le_in_range : (c d : Cell) → IsInRange (le_cells c d)
le_in_range (Known a) (Known b) = truth_in_range (int_le a b)
le_in_range Unknown (Known b) = only_if_in_range (equal b GREATEST) (truth_cell true) one_is_number
le_in_range (Known a) Unknown = only_if_in_range (equal a LEAST) (truth_cell true) one_is_number
le_in_range Unknown Unknown = tt

and_in_range : (c d : Cell) → IsInRange (and_cells c d)
and_in_range (Known a) (Known b) = truth_in_range (is_true a && is_true b)
and_in_range Unknown (Known b) = only_if_in_range (not (is_true b)) (truth_cell false) zero_is_number
and_in_range (Known a) Unknown = only_if_in_range (not (is_true a)) (truth_cell false) zero_is_number
and_in_range Unknown Unknown = tt

or_in_range : (c d : Cell) → IsInRange (or_cells c d)
or_in_range (Known a) (Known b) = truth_in_range (is_true a || is_true b)
or_in_range Unknown (Known b) = only_if_in_range (is_true b) (truth_cell true) one_is_number
or_in_range (Known a) Unknown = only_if_in_range (is_true a) (truth_cell true) one_is_number
or_in_range Unknown Unknown = tt

one_kept : (depth : ℕ) (a : Abstract) (f : Cell → Cell) → IsStateInRange a → ((c : Cell) → IsInRange (f c)) → Holds (IsKept depth) (of_one_cell a f)
one_kept depth a f h k =
    holds_then TopInRange (IsKept depth) (top a.stack) _ (top_in_range a.stack h.stack) (λ t l. left_in_range depth a t.1 (f t.0 ∷ []) h l.1 (k t.0, tt))

two_kept : (depth : ℕ) (a : Abstract) (f : Cell → Cell → Cell) → IsStateInRange a → ((c d : Cell) → IsInRange (f c d)) → Holds (IsKept depth) (of_two_cells a f)
two_kept depth a f h k =
    holds_then TopInRange (IsKept depth) (top a.stack) _ (top_in_range a.stack h.stack) (λ t l.
    holds_then TopInRange (IsKept depth) (top t.1) _ (top_in_range t.1 l.1) (λ u m. left_in_range depth a u.1 (f u.0 t.0 ∷ []) h m.1 (k u.0 t.0, tt)))

computed_kept : (depth : ℕ) (op : Arithmetic) (a : Abstract) → IsStateInRange a → Holds (IsKept depth) (computed_cells op a)
computed_kept depth Add a h = two_kept depth a (of_both_known (λ x y. exact_cell (x +ℤ y))) h (both_in_range (λ x y. exact_cell (x +ℤ y)) (λ x y. exact_in_range (x +ℤ y)))
computed_kept depth Sub a h = two_kept depth a (of_both_known (λ x y. exact_cell (x -ℤ y))) h (both_in_range (λ x y. exact_cell (x -ℤ y)) (λ x y. exact_in_range (x -ℤ y)))
computed_kept depth Abs a h = one_kept depth a (of_known (λ x. exact_cell (absolute x))) h (known_in_range (λ x. exact_cell (absolute x)) (λ x. exact_in_range (absolute x)))
computed_kept depth Neg a h = one_kept depth a (of_known (λ x. exact_cell (neg_ℤ x))) h (known_in_range (λ x. exact_cell (neg_ℤ x)) (λ x. exact_in_range (neg_ℤ x)))
computed_kept depth Lt a h = two_kept depth a lt_cells h lt_in_range
computed_kept depth LtEq a h = two_kept depth a le_cells h le_in_range
computed_kept depth Gt a h = two_kept depth a (λ x y. lt_cells y x) h (λ x y. lt_in_range y x)
computed_kept depth GtEq a h = two_kept depth a (λ x y. le_cells y x) h (λ x y. le_in_range y x)
computed_kept depth Eq a h = two_kept depth a (of_both_known (λ x y. truth_cell (equal x y))) h (both_in_range (λ x y. truth_cell (equal x y)) (λ x y. truth_in_range (equal x y)))
computed_kept depth Neq a h = two_kept depth a (of_both_known (λ x y. truth_cell (not (equal x y)))) h (both_in_range (λ x y. truth_cell (not (equal x y))) (λ x y. truth_in_range (not (equal x y))))
computed_kept depth And a h = two_kept depth a and_cells h and_in_range
computed_kept depth Or a h = two_kept depth a or_cells h or_in_range
computed_kept depth Not a h = one_kept depth a (of_known (λ x. truth_cell (not (is_true x)))) h (known_in_range (λ x. truth_cell (not (is_true x))) (λ x. truth_in_range (not (is_true x))))

-- Control.

abbrev AreKept : ℕ → List Next → Type 0
AreKept depth nexts = AllByRecursion (λ n. IsKept depth n.state) nexts

two_ways_kept : (depth : ℕ) (fs : List Frame) (m n : ℕ) (a : Abstract) → IsKept depth a → AreKept depth (two_ways fs m n a)
two_ways_kept depth fs m n a h = go (nat_eq m n) (nat_lt m n)
  where
    go : (b c : Bool)
        → AreKept depth (if b then one_way fs m a else if c then record { frames = fs; offset = m; state = a } ∷ one_way fs n a else record { frames = fs; offset = n; state = a } ∷ one_way fs m a)
    go true c = (h, tt)
    go false true = (h, (h, tt))
    go false false = (h, (h, tt))

module _ (depth : ℕ) (s : Setting) (fs : List Frame) (at : ℕ) (a : Abstract) (fits : IsStateInRange a) where
  jumps_kept : (by : Cell) (stack : List Cell) → AreInRange stack → Holds (AreKept depth) (jumps_cells s fs at a by stack)
  jumps_kept by stack h = holds_any (AreKept depth) (jump_target s fs at by stack) _ (λ t. (left_in_range depth a stack [] fits h tt, tt))

  jumps_by_kept : (holds : ℤ → Bool) (e by : Cell) (stack : List Cell) → AreInRange stack → Holds (AreKept depth) (jumps_by s fs at a holds e by stack)
  jumps_by_kept holds (Known e) by stack h = go (holds e)
    where
      go : (b : Bool) → Holds (AreKept depth) (if b then jumps_cells s fs at a by stack else Ok (one_way fs (at + 1) (leaves_cells a stack [])))
      go true = jumps_kept by stack h
      go false = (left_in_range depth a stack [] fits h tt, tt)
  jumps_by_kept holds Unknown by stack h =
      holds_any (AreKept depth) (jump_target s fs at by stack) _ (λ t. two_ways_kept depth fs (at + 1) t (leaves_cells a stack []) (left_in_range depth a stack [] fits h tt))

  jumps_if_kept : (holds : ℤ → Bool) → Holds (AreKept depth) (jumps_if_cells s fs at a holds)
  jumps_if_kept holds =
      holds_then TopInRange (AreKept depth) (top a.stack) _ (top_in_range a.stack fits.stack) (λ e k.
      holds_then TopInRange (AreKept depth) (top e.1) _ (top_in_range e.1 k.1) (λ by l. jumps_by_kept holds e.0 by.0 by.1 l.1))

  if_kept : (e : Cell) (stack : List Cell) → AreInRange stack → Holds (AreKept depth) (if_ways s fs at a e stack)
  if_kept (Known e) stack h =
      holds_any (AreKept depth) (if is_true e then Ok (at + 1) else some_or (after_if (program_of s fs) at) reason.Target) _ (λ after. (left_in_range depth a stack [] fits h tt, tt))
  if_kept Unknown stack h =
      holds_any (AreKept depth) (some_or (after_if (program_of s fs) at) reason.Target) _
      (λ after. two_ways_kept depth fs (at + 1) after (leaves_cells a stack []) (left_in_range depth a stack [] fits h tt))

  enters_kept : (name : ℕ) (stack : List Cell) (turns : ℕ) → AreInRange stack → Holds (AreKept depth) (enters_cells s fs at a name stack turns)
  enters_kept name stack turns h =
      holds_any (AreKept depth) (holds_or (nat_le (length stack) s.limits.stack) reason.Overflow) _ (λ deep.
      holds_any (AreKept depth) (holds_or (not (is_running name fs)) reason.Recursion) _ (λ fresh. (left_in_range depth a stack [] fits h tt, tt)))

  loops_kept : (name : ℕ) (stack : List Cell) (count : ℤ) → AreInRange stack → Holds (AreKept depth) (loops_cells s fs at a name stack count)
  loops_kept name stack (pos zero) h = (left_in_range depth a stack [] fits h tt, tt)
  loops_kept name stack (pos (suc n)) h = enters_kept name stack (suc n) h
  loops_kept name stack (negsuc n) h = (left_in_range depth a stack [] fits h tt, tt)

  returns_kept : (calls : List Frame) → Holds (AreKept depth) (returns_cells a calls)
  returns_kept [] = tt
  returns_kept (f ∷ calls) = go (nat_lt f.turn f.count)
    where
      go : (b : Bool)
          → Holds (AreKept depth)
          (if b then Ok (one_way (record f { turn = f.turn + 1 } ∷ calls) (body_offset f.body) (leaves_cells a a.stack [])) else Ok (one_way calls (f.call + 1) (leaves_cells a a.stack [])))
      go true = (left_in_range depth a a.stack [] fits fits.stack tt, tt)
      go false = (left_in_range depth a a.stack [] fits fits.stack tt, tt)

  controlled_kept : (c : Control) → Holds (AreKept depth) (controlled_cells s fs at a c)
  controlled_kept If = holds_then TopInRange (AreKept depth) (top a.stack) _ (top_in_range a.stack fits.stack) (λ e k. if_kept e.0 e.1 k.1)
  controlled_kept Else = holds_any (AreKept depth) (some_or (after_else (program_of s fs) at) reason.Target) _ (λ after. (left_in_range depth a a.stack [] fits fits.stack tt, tt))
  controlled_kept Jump = holds_then TopInRange (AreKept depth) (top a.stack) _ (top_in_range a.stack fits.stack) (λ by k. jumps_kept by.0 by.1 k.1)
  controlled_kept JumpIfTrue = jumps_if_kept is_true
  controlled_kept JumpIfFalse = jumps_if_kept (λ e. not (is_true e))
  controlled_kept FunctionDefinition =
      holds_any (AreKept depth) (holds_or (may_define s.kind) reason.Definition) _ (λ may.
      holds_then TopInRange (AreKept depth) (top a.stack) _ (top_in_range a.stack fits.stack) (λ t k.
      holds_any (AreKept depth) (known t.0) _ (λ n.
      holds_any (AreKept depth) (holds_or (is_below n s.limits.functions) reason.Function) _ (λ ok.
      holds_any (AreKept depth) (some_or (after_fdef (program_of s fs) at) reason.Target) _ (λ after. ((λ shallow. record { stack = k.1; registers = fits.registers }), tt))))))
  controlled_kept Call =
      holds_then TopInRange (AreKept depth) (top a.stack) _ (top_in_range a.stack fits.stack) (λ t k.
      holds_any (AreKept depth) (called_cell s a.functions t.0) _ (λ name. enters_kept name t.1 1 k.1))
  controlled_kept LoopCall =
      holds_then TopInRange (AreKept depth) (top a.stack) _ (top_in_range a.stack fits.stack) (λ t k.
      holds_any (AreKept depth) (called_cell s a.functions t.0) _ (λ name.
      holds_then TopInRange (AreKept depth) (top t.1) _ (top_in_range t.1 k.1) (λ u l.
      holds_any (AreKept depth) (known u.0) _ (λ count. loops_kept name u.1 count l.1))))
  controlled_kept EndFunction = returns_kept fs
  controlled_kept InstructionDefinition = tt

  -- Any instruction.

  goes_on_kept : (next : ℕ) (r : Tested Abstract) → Holds (IsKept depth) r → Holds (AreKept depth) (goes_on_cells fs next r)
  goes_on_kept next r h = holds_then (IsKept depth) (AreKept depth) r _ h (λ b k. (k, tt))

  does_kept : (w : Meaning) (rest : List ℕ) (next : ℕ) → depth < 2 ^ 16 → AreBytes rest → Holds (AreKept depth) (does_cells s fs at a w rest next)
  does_kept NoEntry rest next small h = tt
  does_kept (Plain line) rest next small h = goes_on_kept next (plain_cells s a line) (plain_kept depth s a line fits)
  does_kept (Pushes push) rest next small h = goes_on_kept next (Ok (pushed_cells push a rest)) (pushed_kept depth push a rest h fits)
  does_kept (Stack op) rest next small h = goes_on_kept next (shuffled_cells op a) (shuffled_kept depth op a small fits)
  does_kept (Computes op) rest next small h = goes_on_kept next (computed_cells op a) (computed_kept depth op a fits)
  does_kept (Controls c) rest next small h = controlled_kept c

-- The depth afterwards.

within_in_range : (s : Setting) (nexts : List Next) → AreKept s.limits.stack nexts → are_within s nexts ≡ true → AreNextInRange nexts
within_in_range s [] h e = tt
within_in_range s (n ∷ ns) h e =
    let (first, others) = and_parts (nat_le (length n.state.stack) s.limits.stack) (are_within s ns) e in
    (h.0 (leb-true (length n.state.stack) s.limits.stack first), within_in_range s ns h.1 others)

within_kept : (s : Setting) (nexts : List Next) → AreKept s.limits.stack nexts → Holds AreNextInRange (within_cells s nexts)
within_kept s nexts h = go (are_within s nexts) refl
  where
    go : (b : Bool) → are_within s nexts ≡ b → Holds AreNextInRange (holds_or b reason.Overflow >>= (λ ok. Ok nexts))
    go true e = within_in_range s nexts h e
    go false e = tt

-- The bytes of the instruction at an offset.

abbrev AreBytesOf : Option Instruction → Type 0
AreBytesOf None = Unit {0}
AreBytesOf (Some i) = AreBytes i

instruction_bytes : (is : List Instruction) (k : ℕ) → AllByRecursion AreBytes is → AreBytesOf (instruction_at is k)
instruction_bytes [] k h = tt
instruction_bytes (i ∷ is) zero h = h.0
instruction_bytes (i ∷ is) (suc k) h = go (nat_lt (suc k) (length i)) (instruction_bytes is (suc k - length i) h.1)
  where
    go : (b : Bool) → AreBytesOf (instruction_at is (suc k - length i)) → AreBytesOf (if b then None else instruction_at is (suc k - length i))
    go true l = tt
    go false l = l

program_bytes : (s : Setting) (fs : List Frame) → IsSettingInRange s → AllByRecursion AreBytes (program_of s fs)
program_bytes s [] h = h.main
program_bytes s (f ∷ fs) h = go (nat_lt f.body CVT_BODIES)
  where
    go : (b : Bool) → AllByRecursion AreBytes (if b then s.font else s.prep)
    go true = h.font
    go false = h.prep

of_bytes : (s : Setting) (fs : List Frame) (at : ℕ) → IsSettingInRange s → AreBytesOf (instruction_of s fs at)
of_bytes s fs at h = go (starts_in_body s fs at)
  where
    go : (b : Bool) → AreBytesOf (if b then instruction_at (program_of s fs) at else None)
    go true = instruction_bytes (program_of s fs) at (program_bytes s fs h)
    go false = tt

performs_kept : (s : Setting) (fs : List Frame) (at : ℕ) (a : Abstract) (i : Option Instruction) → IsSettingInRange s → IsStateInRange a → AreBytesOf i → Holds AreNextInRange (performs_cells s fs at a i)
performs_kept s fs at a None h k l = tt
performs_kept s fs at a (Some []) h k l = tt
performs_kept s fs at a (Some (code ∷ rest)) h k l =
    holds_then (AreKept s.limits.stack) AreNextInRange (does_cells s fs at a (effect_of code) rest (at + suc (length rest))) (within_cells s)
    (does_kept s.limits.stack s fs at a k (effect_of code) rest (at + suc (length rest)) h.depth l.1)
    (λ nexts m. within_kept s nexts m)

next_in_range : (s : Setting) (fs : List Frame) (at : ℕ) (a : Abstract) → IsSettingInRange s → IsStateInRange a → Holds AreNextInRange (outcome_on_cells s fs at a)
unfolding outcome_on_cells
next_in_range s fs at a h k = performs_kept s fs at a (instruction_of s fs at) h k (of_bytes s fs at h)

-- where the cells of an abstract state are in range, so are those of each next one
pub keeps_range : (s : Setting) (fs : List Frame) (at : ℕ) (a : Abstract) (nexts : List Next) → IsSettingInRange s → IsStateInRange a → outcome_on_cells s fs at a ≡ Ok nexts → AreNextInRange nexts
keeps_range s fs at a nexts h k e = subst (Holds AreNextInRange) e (next_in_range s fs at a h k)
