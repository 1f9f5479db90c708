-- The instructions that push data, move the stack's elements, or compute. (Apple TrueType Reference
-- Manual, "Pushing data onto the interpreter stack", "Managing the stack", "Logical functions",
-- "Arithmetic and math instructions".)
use Rattle.std.specs.Prelude.{ℕ, zero, suc, ◌+◌, ◌*◌, ℤ, pos, negsuc, ◌+ℤ◌, ◌-ℤ◌, neg_ℤ, int_lt, int_le, List, [], ◌∷◌, Ok, Err, Bool, true, false, not, ◌&&◌, ◌||◌, length, map, nat_lt, remove, if◌then◌else◌}
use Rattle.tt_code.specs.Refusals.{Tested, ◌>>=◌}
use Rattle.tt_code.specs.States.{Machine, Value, Exactly, Anything, Outcome, leaves, is_number, is_true}
use Rattle.tt_code.specs.Cut.{data_after}
use Rattle.tt_code.specs.Operands.{top}
use Rattle.tt_code.specs.declared.reason.Reason.TheVariants as reason
use Rattle.tt_code.specs.declared.kinds.Push.{Push}
use Rattle.tt_code.specs.declared.kinds.Push.TheVariants.{CountedBytes, CountedWords, Bytes, Words}
use Rattle.tt_code.specs.declared.kinds.StackOp.{StackOp}
use Rattle.tt_code.specs.declared.kinds.StackOp.TheVariants.{Dup, Pop, Clear, Swap, Depth, CopyIndexed, MoveIndexed, Roll}
use Rattle.tt_code.specs.declared.kinds.Arithmetic.{Arithmetic}
use Rattle.tt_code.specs.declared.kinds.Arithmetic.TheVariants.{Add, Sub, Abs, Neg, Lt, LtEq, Gt, GtEq, Eq, Neq, And, Or, Not}

-- Pushes: bytes are unsigned, words are signed, the high byte first; the last one ends on top.

-- the signed number of two bytes
abbrev pub word_number : ℕ → ℕ → ℤ
word_number high low =
    if nat_lt high 128 then pos (256 * high + low) else pos (256 * high + low) -ℤ pos 65536

-- the signed numbers of bytes, two bytes each
abbrev pub words : List ℕ → List ℤ
words (high ∷ low ∷ rest) = word_number high low ∷ words rest
words _ = []

-- the numbers that the data of a push instruction spell
abbrev pub numbers_in : Push → List ℕ → List ℤ
numbers_in CountedBytes bytes = map pos bytes
numbers_in CountedWords bytes = words bytes
numbers_in (Bytes n) bytes = map pos bytes
numbers_in (Words n) bytes = words bytes

-- numbers that are known
abbrev pub exactly : List ℤ → List Value
exactly zs = map Exactly zs

-- a push instruction: its data are pushed
abbrev pub pushed : Push → Machine → List ℕ → Outcome
pushed push m rest = leaves m m.stack (exactly (numbers_in push (data_after push rest)))

-- Stack instructions. For CINDEX and MINDEX index 1 is the top of what is left once the index is
-- taken; an index below 1 is refused as a count (36), one above the depth as an underflow (26)
-- (own).

-- the element that an index names, counted from 1, or why there is none
abbrev pub element : {N : Type 0} → ℤ → List N → Tested N
element (negsuc n) stack = Err reason.Count
element (pos zero) stack = Err reason.Count
element (pos (suc n)) [] = Err reason.Underflow
element (pos (suc zero)) (x ∷ xs) = Ok x
element (pos (suc (suc n))) (x ∷ xs) = element (pos (suc n)) xs

-- the position of that element, the top being 0
abbrev pub position_of : ℤ → ℕ
position_of (pos (suc n)) = n
position_of _ = 0

-- what a stack instruction does
abbrev pub shuffled : StackOp → Machine → Tested Outcome
shuffled Dup m = do
  t ← top m.stack
  Ok (leaves m t.1 (Exactly t.0 ∷ Exactly t.0 ∷ []))
shuffled Pop m = do
  t ← top m.stack
  Ok (leaves m t.1 [])
shuffled Clear m = Ok (leaves m [] [])
shuffled Swap m = do
  a ← top m.stack
  b ← top a.1
  Ok (leaves m b.1 (Exactly a.0 ∷ Exactly b.0 ∷ []))
shuffled Depth m = Ok (leaves m m.stack (Exactly (pos (length m.stack)) ∷ []))
shuffled CopyIndexed m = do
  k ← top m.stack
  z ← element k.0 k.1
  Ok (leaves m k.1 (Exactly z ∷ []))
shuffled MoveIndexed m = do
  k ← top m.stack
  z ← element k.0 k.1
  Ok (leaves m (remove k.1 (position_of k.0)) (Exactly z ∷ []))
shuffled Roll m = do
  a ← top m.stack
  b ← top a.1
  c ← top b.1
  Ok (leaves m c.1 (Exactly b.0 ∷ Exactly a.0 ∷ Exactly c.0 ∷ []))

-- Arithmetic. A result is exact where it is a number of the machine, otherwise any number (own). Of
-- two operands the first is the one below the top. Comparisons are signed and give 1 or 0.

-- a result that is a number of the machine is pushed as it is
abbrev pub exact : ℤ → Value
exact z = if is_number z then Exactly z else Anything

-- what a comparison or a logical function pushes: 1 for true, 0 for false
abbrev pub truth : Bool → Value
truth true = Exactly (pos 1)
truth false = Exactly (pos 0)

-- a number without its sign
abbrev pub absolute : ℤ → ℤ
absolute (pos n) = pos n
absolute (negsuc n) = pos (suc n)

-- whether two numbers are equal
abbrev pub equal : ℤ → ℤ → Bool
equal a b = int_le a b && int_le b a

-- an instruction that takes one number and pushes what `f` makes of it
abbrev pub of_one : Machine → (ℤ → Value) → Tested Outcome
of_one m f = do
  a ← top m.stack
  Ok (leaves m a.1 (f a.0 ∷ []))

-- an instruction that takes two numbers and pushes what `f` makes of them
abbrev pub of_two : Machine → (ℤ → ℤ → Value) → Tested Outcome
of_two m f = do
  b ← top m.stack
  a ← top b.1
  Ok (leaves m a.1 (f a.0 b.0 ∷ []))

-- what an arithmetic instruction does
abbrev pub computed : Arithmetic → Machine → Tested Outcome
computed Add m = of_two m (λ a b. exact (a +ℤ b))
computed Sub m = of_two m (λ a b. exact (a -ℤ b))
computed Abs m = of_one m (λ a. exact (absolute a))
computed Neg m = of_one m (λ a. exact (neg_ℤ a))
computed Lt m = of_two m (λ a b. truth (int_lt a b))
computed LtEq m = of_two m (λ a b. truth (int_le a b))
computed Gt m = of_two m (λ a b. truth (int_lt b a))
computed GtEq m = of_two m (λ a b. truth (int_le b a))
computed Eq m = of_two m (λ a b. truth (equal a b))
computed Neq m = of_two m (λ a b. truth (not (equal a b)))
computed And m = of_two m (λ a b. truth (is_true a && is_true b))
computed Or m = of_two m (λ a b. truth (is_true a || is_true b))
computed Not m = of_one m (λ a. truth (not (is_true a)))
