-- What an instruction makes of an abstract state: the machine's tests in the machine's order, read
-- on cells, where an unknown cell fails each test that reads it. (Apple TrueType Reference Manual,
-- "The TrueType instruction set"; the reading on cells is own.) What reads no number is the
-- machine's own definition, used on cells.
use Rattle.std.specs.Prelude.{ℕ, zero, suc, ◌+◌, ℤ, pos, negsuc, ◌+ℤ◌, ◌-ℤ◌, neg_ℤ, int_lt, int_le, List, [], ◌∷◌, Option, None, Some, Ok, Err, Bool, true, false, not, ◌&&◌, ◌||◌, length, map, remove, nat_eq, nat_lt, nat_le, if◌then◌else◌}
use Rattle.tt_code.specs.Refusals.{Tested, ◌>>=◌, holds_or, some_or}
use Rattle.tt_code.specs.Table.{Meaning, NoEntry, Plain, Pushes, Stack, Computes, Controls, Lists, effect_of}
use Rattle.tt_code.specs.Cut.{Instruction, instruction_at, data_after}
use Rattle.tt_code.specs.Structure.{after_if, after_else, after_fdef}
use Rattle.tt_code.specs.Settings.{Setting, ZoneNumber, Zero, One, zone_size, contours_in, body_name, body_offset, program_of, starts_in_body, is_target}
use Rattle.tt_code.specs.States.{is_number, is_below, is_true, reference, pointer}
use Rattle.tt_code.specs.Operands.{Taking, top, take_one, then_take, counted, pairs, count_of, is_zone}
use Rattle.tt_code.specs.Changes.{Reading, natural, zone_of, taken_at, all_updated}
use Rattle.tt_code.specs.Computing.{numbers_in, element, position_of, absolute, equal}
use Rattle.tt_code.specs.Control.{may_define, body_named}
use Rattle.tt_code.specs.declared.machine.Frame.{Frame}
use Rattle.tt_code.specs.declared.reason.Reason.{Reason}
use Rattle.tt_code.specs.declared.reason.Reason.TheVariants as reason
use Rattle.tt_code.specs.declared.kinds.Within.{Within}
use Rattle.tt_code.specs.declared.kinds.Within.TheVariants.{In, Both, GlyphAnd}
use Rattle.tt_code.specs.declared.kinds.Operand.{Operand}
use Rattle.tt_code.specs.declared.kinds.Operand.TheVariants as operand
use Rattle.tt_code.specs.declared.kinds.Use.{Use}
use Rattle.tt_code.specs.declared.kinds.Pushed.{Pushed}
use Rattle.tt_code.specs.declared.kinds.Pushed.TheVariants as pushed
use Rattle.tt_code.specs.declared.kinds.Push.{Push}
use Rattle.tt_code.specs.declared.kinds.StackOp.{StackOp}
use Rattle.tt_code.specs.declared.kinds.StackOp.TheVariants.{Dup, Pop, Clear, Swap, Depth, CopyIndexed, MoveIndexed, Roll}
use Rattle.tt_code.specs.declared.kinds.Arithmetic.{Arithmetic}
use Rattle.tt_code.specs.declared.kinds.Arithmetic.TheVariants.{Add, Sub, Abs, Neg, Lt, LtEq, Gt, GtEq, Eq, Neq, And, Or, Not}
use Rattle.tt_code.specs.declared.kinds.Control.{Control}
use Rattle.tt_code.specs.declared.kinds.Control.TheVariants.{If, Else, Jump, JumpIfTrue, JumpIfFalse, Call, LoopCall, FunctionDefinition, EndFunction, InstructionDefinition}
use Rattle.tt_abs.specs.declared.cells.Cell.{Cell}
use Rattle.tt_abs.specs.declared.cells.Cell.TheVariants.{Known, Unknown}
use Rattle.tt_setting.specs.declared.zone.ZoneCell.{ZoneCell}
use Rattle.tt_setting.specs.declared.zone.ZoneCell.TheVariants as zone
use Rattle.tt_abs.specs.Cells.{Cells, Abstract}
use Rattle.tt_setting.specs.Entries.{with_entry}
use Rattle.tt_setting.specs.Settings.{instruction_of, is_below_in}

-- Operands.

-- the number of a cell
abbrev pub known : Cell → Tested ℤ
known (Known k) = Ok k
known Unknown = Err reason.UnknownOperand

-- whether the number names a point in each zone in which it is tested, whichever zones the pointers
-- name
abbrev pub is_point_in : Setting → Cells → Within → ℤ → Bool
is_point_in s a (In p) z = is_below_in (zone_size s) (pointer p a) z
is_point_in s a (Both p q) z =
    is_below_in (zone_size s) (pointer p a) z && is_below_in (zone_size s) (pointer q a) z
is_point_in s a (GlyphAnd p) z =
    is_below z (zone_size s One) && is_below_in (zone_size s) (pointer p a) z

-- one known number that passes a test
abbrev pub tested_cell : (ℤ → Bool) → Reason → List Cell → Tested (Taking Cell)
tested_cell passes r cells = do
  t ← top cells
  z ← known t.0
  ok ← holds_or (passes z) r
  Ok (t.0 ∷ [], t.1)

-- a known count of 0 or more
abbrev pub known_count : Cell → Tested ℕ
known_count c = known c >>= count_of

-- what an operand takes; a number that is tested has to be known
abbrev pub take_cell : Setting → Cells → Operand → List Cell → Tested (Taking Cell)
take_cell s a operand.Number cells = take_one cells
take_cell s a (operand.Point within) cells = tested_cell (is_point_in s a within) reason.Point cells
take_cell s a operand.Cvt cells = tested_cell (λ z. is_below z s.cvt) reason.Cvt cells
take_cell s a operand.Storage cells =
    tested_cell (λ z. is_below z s.limits.storage) reason.Storage cells
take_cell s a operand.Zone cells = tested_cell (is_zone s) reason.Zone cells
take_cell s a operand.Contour cells =
    tested_cell (is_below_in (contours_in s) a.zp2) reason.Contour cells
take_cell s a (operand.LoopPoints within) cells =
    counted (known_count a.loop_number) (tested_cell (is_point_in s a within) reason.Point) cells
take_cell s a (operand.PointPairs within) cells =
    pairs known_count (tested_cell (is_point_in s a within) reason.Point) cells
take_cell s a operand.CvtPairs cells =
    pairs known_count (tested_cell (λ z. is_below z s.cvt) reason.Cvt) cells

-- all operands of a line, in their order
abbrev pub take_cells : Setting → Cells → List Operand → List Cell → Tested (Taking Cell)
take_cells s a [] cells = Ok ([], cells)
take_cells s a (o ∷ os) cells = then_take (take_cell s a o cells) (take_cells s a os)

-- the reference points that are used: each is known, and names a point in each zone that its
-- pointer may name
abbrev pub test_cell_uses : Setting → Cells → List Use → Tested (Unit {0})
test_cell_uses s a [] = Ok tt
test_cell_uses s a (u ∷ us) = do
  z ← known (reference u.reference a)
  ok ← holds_or (is_below_in (zone_size s) (pointer u.pointer a) z) reason.Point
  test_cell_uses s a us

-- Plain lines.

-- the index that a cell holds; 0 for an unknown one, which no test lets through
abbrev pub index_in : Cell → ℕ
index_in (Known k) = natural k
index_in Unknown = 0

-- a zone of the machine as a zone cell
abbrev pub zone_cell : ZoneNumber → ZoneCell
zone_cell Zero = zone.Zero
zone_cell One = zone.One

-- the zone that a cell names, once its number is tested to be 0 or 1; either one for an unknown
-- cell
abbrev pub zone_in : Cell → ZoneCell
zone_in (Known k) = zone_cell (zone_of k)
zone_in Unknown = zone.Either

-- how changes read the cells that were taken
abbrev pub cells : Reading Cell ZoneCell
cells = record { one = Known (pos 1); index = index_in; zone = zone_in }

-- what one push of a line gives, by the cells that were taken and the storage area
abbrev pub cell_pushed : List Cell → (ℕ → Cell) → Pushed → Cell
cell_pushed taken area pushed.Any = Unknown
cell_pushed taken area (pushed.Stored i) = area (index_in (taken_at (Known (pos 1)) taken i))

-- what all pushes of a line give, the deepest first
abbrev pub cells_pushed : List Cell → (ℕ → Cell) → List Pushed → List Cell
cells_pushed taken area [] = []
cells_pushed taken area (p ∷ ps) = cell_pushed taken area p ∷ cells_pushed taken area ps

-- cells pushed on a stack, the first one first
abbrev pub cells_on : List Cell → List Cell → List Cell
cells_on [] stack = stack
cells_on (c ∷ cs) stack = cells_on cs (c ∷ stack)

-- the state with this stack left, and these cells pushed on it
abbrev pub leaves_cells : Abstract → List Cell → List Cell → Abstract
leaves_cells a stack pushed = record a { stack = cells_on pushed stack }

-- a plain line: its operands are taken, its reference points tested, and then it changes and pushes
abbrev pub plain_cells : Setting → Abstract → Lists → Tested Abstract
plain_cells s a line = do
  t ← take_cells s a.registers.graphics line.operands a.stack
  ok ← test_cell_uses s a.registers.graphics line.uses
  Ok (leaves_cells (record a { registers = all_updated cells t.0 line.updates a.registers }) t.1
      (cells_pushed t.0 a.registers.storage line.pushes))

-- Pushes and stack instructions.

-- a push instruction: the numbers of its data are known
abbrev pub pushed_cells : Push → Abstract → List ℕ → Abstract
pushed_cells push a rest =
    leaves_cells a a.stack (map Known (numbers_in push (data_after push rest)))

-- what a stack instruction does; an index has to be known
abbrev pub shuffled_cells : StackOp → Abstract → Tested Abstract
shuffled_cells Dup a = do
  t ← top a.stack
  Ok (leaves_cells a t.1 (t.0 ∷ t.0 ∷ []))
shuffled_cells Pop a = do
  t ← top a.stack
  Ok (leaves_cells a t.1 [])
shuffled_cells Clear a = Ok (leaves_cells a [] [])
shuffled_cells Swap a = do
  t ← top a.stack
  u ← top t.1
  Ok (leaves_cells a u.1 (t.0 ∷ u.0 ∷ []))
shuffled_cells Depth a = Ok (leaves_cells a a.stack (Known (pos (length a.stack)) ∷ []))
shuffled_cells CopyIndexed a = do
  t ← top a.stack
  k ← known t.0
  c ← element k t.1
  Ok (leaves_cells a t.1 (c ∷ []))
shuffled_cells MoveIndexed a = do
  t ← top a.stack
  k ← known t.0
  c ← element k t.1
  Ok (leaves_cells a (remove t.1 (position_of k)) (c ∷ []))
shuffled_cells Roll a = do
  t ← top a.stack
  u ← top t.1
  v ← top u.1
  Ok (leaves_cells a v.1 (u.0 ∷ t.0 ∷ v.0 ∷ []))

-- Arithmetic. A result is known exactly where it is the same for all numbers that the operands'
-- cells cover.

-- the least number of the machine, -2^31
abbrev pub LEAST : ℤ
LEAST = negsuc 2147483647

-- the greatest number of the machine, 2^31 - 1
abbrev pub GREATEST : ℤ
GREATEST = pos 2147483647

-- a result is known if it is a number of the machine
abbrev pub exact_cell : ℤ → Cell
exact_cell z = if is_number z then Known z else Unknown

-- a comparison that holds is 1, another one 0
abbrev pub truth_cell : Bool → Cell
truth_cell true = Known (pos 1)
truth_cell false = Known (pos 0)

-- the answer if the test holds, otherwise unknown
abbrev pub only_if : Bool → Cell → Cell
only_if true c = c
only_if false c = Unknown

-- what is computed of one number, if it is known
abbrev pub of_known : (ℤ → Cell) → Cell → Cell
of_known f (Known a) = f a
of_known f Unknown = Unknown

-- what is computed of two numbers, if both are known
abbrev pub of_both_known : (ℤ → ℤ → Cell) → Cell → Cell → Cell
of_both_known f (Known a) (Known b) = f a b
of_both_known f Unknown b = Unknown
of_both_known f a Unknown = Unknown

-- whether the first is less than the second; no number is less than the least one, and the greatest
-- one is less than none
abbrev pub lt_cells : Cell → Cell → Cell
lt_cells (Known a) (Known b) = truth_cell (int_lt a b)
lt_cells Unknown (Known b) = only_if (equal b LEAST) (truth_cell false)
lt_cells (Known a) Unknown = only_if (equal a GREATEST) (truth_cell false)
lt_cells Unknown Unknown = Unknown

-- whether the first is at most the second; the least number is at most each, and each is at most
-- the greatest
abbrev pub le_cells : Cell → Cell → Cell
le_cells (Known a) (Known b) = truth_cell (int_le a b)
le_cells Unknown (Known b) = only_if (equal b GREATEST) (truth_cell true)
le_cells (Known a) Unknown = only_if (equal a LEAST) (truth_cell true)
le_cells Unknown Unknown = Unknown

-- whether both are true: one that is false decides
abbrev pub and_cells : Cell → Cell → Cell
and_cells (Known a) (Known b) = truth_cell (is_true a && is_true b)
and_cells Unknown (Known b) = only_if (not (is_true b)) (truth_cell false)
and_cells (Known a) Unknown = only_if (not (is_true a)) (truth_cell false)
and_cells Unknown Unknown = Unknown

-- whether one of the two is true: one that is true decides
abbrev pub or_cells : Cell → Cell → Cell
or_cells (Known a) (Known b) = truth_cell (is_true a || is_true b)
or_cells Unknown (Known b) = only_if (is_true b) (truth_cell true)
or_cells (Known a) Unknown = only_if (is_true a) (truth_cell true)
or_cells Unknown Unknown = Unknown

-- an instruction that takes one cell and pushes what it gives
abbrev pub of_one_cell : Abstract → (Cell → Cell) → Tested Abstract
of_one_cell a f = do
  t ← top a.stack
  Ok (leaves_cells a t.1 (f t.0 ∷ []))

-- an instruction that takes two cells and pushes what they give, the one below the top first
abbrev pub of_two_cells : Abstract → (Cell → Cell → Cell) → Tested Abstract
of_two_cells a f = do
  t ← top a.stack
  u ← top t.1
  Ok (leaves_cells a u.1 (f u.0 t.0 ∷ []))

-- what an arithmetic instruction does
abbrev pub computed_cells : Arithmetic → Abstract → Tested Abstract
computed_cells Add a = of_two_cells a (of_both_known (λ x y. exact_cell (x +ℤ y)))
computed_cells Sub a = of_two_cells a (of_both_known (λ x y. exact_cell (x -ℤ y)))
computed_cells Abs a = of_one_cell a (of_known (λ x. exact_cell (absolute x)))
computed_cells Neg a = of_one_cell a (of_known (λ x. exact_cell (neg_ℤ x)))
computed_cells Lt a = of_two_cells a lt_cells
computed_cells LtEq a = of_two_cells a le_cells
computed_cells Gt a = of_two_cells a (λ x y. lt_cells y x)
computed_cells GtEq a = of_two_cells a (λ x y. le_cells y x)
computed_cells Eq a = of_two_cells a (of_both_known (λ x y. truth_cell (equal x y)))
computed_cells Neq a = of_two_cells a (of_both_known (λ x y. truth_cell (not (equal x y))))
computed_cells And a = of_two_cells a and_cells
computed_cells Or a = of_two_cells a or_cells
computed_cells Not a = of_one_cell a (of_known (λ x. truth_cell (not (is_true x))))

-- Control.

-- A place to which an instruction leads, and what is known of all machines that come there.
pub record Next : Type 0 where
  -- the calls that haven't returned, the innermost first
  pub frames : List Frame
  pub offset : ℕ
  pub state : Abstract

-- one way, to this place
abbrev pub one_way : List Frame → ℕ → Abstract → List Next
one_way fs offset a = record { frames = fs; offset = offset; state = a } ∷ []

-- two ways with one state, the smaller offset first; one way where they lead to one place
abbrev pub two_ways : List Frame → ℕ → ℕ → Abstract → List Next
two_ways fs m n a =
    if nat_eq m n then one_way fs m a
    else if nat_lt m n then record { frames = fs; offset = m; state = a } ∷ one_way fs n a
    else record { frames = fs; offset = n; state = a } ∷ one_way fs m a

-- where a jump leads by a cell: the depth is tested before its offset, and that before its target
abbrev pub jump_target : Setting → List Frame → ℕ → Cell → List Cell → Tested ℕ
jump_target s fs at by stack = do
  deep ← holds_or (nat_le (length stack) s.limits.stack) reason.Overflow
  z ← known by
  ok ← holds_or (is_target s fs (pos at +ℤ z)) reason.Target
  Ok (natural (pos at +ℤ z))

-- a jump by a cell, with this stack left
abbrev pub jumps_cells : Setting → List Frame → ℕ → Abstract → Cell → List Cell → Tested (List Next)
jumps_cells s fs at a by stack = do
  target ← jump_target s fs at by stack
  Ok (one_way fs target (leaves_cells a stack []))

-- a jump by the second cell, if a condition holds for the number of the first; where that is
-- unknown, both ways are possible
abbrev pub jumps_by : Setting → List Frame → ℕ → Abstract → (ℤ → Bool) → Cell → Cell → List Cell
    → Tested (List Next)
jumps_by s fs at a holds (Known e) by stack =
    if holds e then jumps_cells s fs at a by stack
    else Ok (one_way fs (at + 1) (leaves_cells a stack []))
jumps_by s fs at a holds Unknown by stack = do
  target ← jump_target s fs at by stack
  Ok (two_ways fs (at + 1) target (leaves_cells a stack []))

-- a jump by a condition, which is on top; the jump's offset is below it
abbrev pub jumps_if_cells : Setting → List Frame → ℕ → Abstract → (ℤ → Bool) → Tested (List Next)
jumps_if_cells s fs at a holds = do
  e ← top a.stack
  by ← top e.1
  jumps_by s fs at a holds e.0 by.0 by.1

-- the ways of an IF by its cell
abbrev pub if_ways : Setting → List Frame → ℕ → Abstract → Cell → List Cell → Tested (List Next)
if_ways s fs at a (Known e) stack = do
  after ← if is_true e then Ok (at + 1) else some_or (after_if (program_of s fs) at) reason.Target
  Ok (one_way fs after (leaves_cells a stack []))
if_ways s fs at a Unknown stack = do
  after ← some_or (after_if (program_of s fs) at) reason.Target
  Ok (two_ways fs (at + 1) after (leaves_cells a stack []))

-- the body that a called number names: it is known, below maxFunctionDefs and listed
abbrev pub called_cell : Setting → List (ℕ × ℕ) → Cell → Tested ℕ
called_cell s functions c = do
  n ← known c
  ok ← holds_or (is_below n s.limits.functions) reason.Function
  some_or (body_named functions (natural n)) reason.Function

-- whether the body is one that is running already
abbrev pub is_running : ℕ → List Frame → Bool
is_running name [] = false
is_running name (f ∷ fs) = nat_eq f.body name || is_running name fs

-- a call of a body for this many turns: the depth is tested before recursion
abbrev pub enters_cells : Setting → List Frame → ℕ → Abstract → ℕ → List Cell → ℕ
    → Tested (List Next)
enters_cells s fs at a name stack turns = do
  deep ← holds_or (nat_le (length stack) s.limits.stack) reason.Overflow
  fresh ← holds_or (not (is_running name fs)) reason.Recursion
  Ok (one_way (record { body = name; call = at; turn = 1; count = turns } ∷ fs) (body_offset name)
      (leaves_cells a stack []))

-- a LOOPCALL of a body by its count; 0 or less calls nothing
abbrev pub loops_cells : Setting → List Frame → ℕ → Abstract → ℕ → List Cell → ℤ
    → Tested (List Next)
loops_cells s fs at a name stack (pos zero) = Ok (one_way fs (at + 1) (leaves_cells a stack []))
loops_cells s fs at a name stack (pos (suc n)) = enters_cells s fs at a name stack (suc n)
loops_cells s fs at a name stack (negsuc n) = Ok (one_way fs (at + 1) (leaves_cells a stack []))

-- at the end of a body: to its next turn, or to just after the call
abbrev pub returns_cells : Abstract → List Frame → Tested (List Next)
returns_cells a [] = Err reason.Target
returns_cells a (f ∷ fs) =
    if nat_lt f.turn f.count
    then Ok (one_way (record f { turn = f.turn + 1 } ∷ fs) (body_offset f.body)
    (leaves_cells a a.stack []))
    else Ok (one_way fs (f.call + 1) (leaves_cells a a.stack []))

-- what an instruction does that leads elsewhere, or defines a function
abbrev pub controlled_cells : Setting → List Frame → ℕ → Abstract → Control → Tested (List Next)
controlled_cells s fs at a If = do
  e ← top a.stack
  if_ways s fs at a e.0 e.1
controlled_cells s fs at a Else = do
  after ← some_or (after_else (program_of s fs) at) reason.Target
  Ok (one_way fs after (leaves_cells a a.stack []))
controlled_cells s fs at a Jump = do
  by ← top a.stack
  jumps_cells s fs at a by.0 by.1
controlled_cells s fs at a JumpIfTrue = jumps_if_cells s fs at a is_true
controlled_cells s fs at a JumpIfFalse = jumps_if_cells s fs at a (λ e. not (is_true e))
controlled_cells s fs at a FunctionDefinition = do
  may ← holds_or (may_define s.kind) reason.Definition
  t ← top a.stack
  n ← known t.0
  ok ← holds_or (is_below n s.limits.functions) reason.Function
  after ← some_or (after_fdef (program_of s fs) at) reason.Target
  Ok (one_way fs after (leaves_cells
      (record a { functions = with_entry (natural n) (body_name s.kind (at + 1)) a.functions })
      t.1 []))
controlled_cells s fs at a Call = do
  t ← top a.stack
  name ← called_cell s a.functions t.0
  enters_cells s fs at a name t.1 1
controlled_cells s fs at a LoopCall = do
  t ← top a.stack
  name ← called_cell s a.functions t.0
  u ← top t.1
  count ← known u.0
  loops_cells s fs at a name u.1 count
controlled_cells s fs at a EndFunction = returns_cells a fs
controlled_cells s fs at a InstructionDefinition = Err reason.InstructionDefinition

-- An instruction.

-- an outcome that goes on after the instruction
abbrev pub goes_on_cells : List Frame → ℕ → Tested Abstract → Tested (List Next)
goes_on_cells fs next result = do
  a ← result
  Ok (one_way fs next a)

-- what an instruction does, by what its code stands for, the bytes after its code, and the offset
-- after the instruction
abbrev pub does_cells : Setting → List Frame → ℕ → Abstract → Meaning → List ℕ → ℕ
    → Tested (List Next)
does_cells s fs at a NoEntry rest next = Err reason.Opcode
does_cells s fs at a (Plain line) rest next = goes_on_cells fs next (plain_cells s a line)
does_cells s fs at a (Pushes push) rest next = goes_on_cells fs next (Ok (pushed_cells push a rest))
does_cells s fs at a (Stack op) rest next = goes_on_cells fs next (shuffled_cells op a)
does_cells s fs at a (Computes op) rest next = goes_on_cells fs next (computed_cells op a)
does_cells s fs at a (Controls c) rest next = controlled_cells s fs at a c

-- whether no stack is deeper than maxStackElements
abbrev pub are_within : Setting → List Next → Bool
are_within s [] = true
are_within s (n ∷ ns) = nat_le (length n.state.stack) s.limits.stack && are_within s ns

-- the depth afterwards, tested for every instruction
abbrev pub within_cells : Setting → List Next → Tested (List Next)
within_cells s ns = do
  ok ← holds_or (are_within s ns) reason.Overflow
  Ok ns

-- what happens at an instruction, if there is one, and the test of the depth after it
abbrev pub performs_cells : Setting → List Frame → ℕ → Abstract → Option Instruction
    → Tested (List Next)
performs_cells s fs at a None = Err reason.Target
performs_cells s fs at a (Some []) = Err reason.Target
performs_cells s fs at a (Some (code ∷ rest)) =
    does_cells s fs at a (effect_of code) rest (at + suc (length rest)) >>= within_cells s

-- what an abstract state becomes at a place, or the reason of the first test that fails
unfoldable pub outcome_on_cells : Setting → List Frame → ℕ → Abstract → Tested (List Next)
outcome_on_cells s fs at a = performs_cells s fs at a (instruction_of s fs at)
