-- Programs cut into instructions. A program is a list of bytes, an instruction the list of its
-- bytes. (Apple TrueType Reference Manual, "Instructions", the push instructions: only they are
-- longer than one byte.)
use Rattle.std.specs.Prelude.{◌≡◌, ℕ, zero, suc, ◌+◌, ◌*◌, ◌-◌, ◌<◌, ◌≤◌, List, [], ◌∷◌, ◌++◌, Option, None, Some, length, take, drop, nat_lt, if◌then◌else◌}
use Rattle.std.specs.List.{concat, AllByRecursion}
use Rattle.tt_code.specs.Table.{Meaning, NoEntry, Plain, Pushes, Stack, Computes, Controls, effect_of}
use Rattle.tt_code.specs.declared.kinds.Push.{Push}
use Rattle.tt_code.specs.declared.kinds.Push.TheVariants.{CountedBytes, CountedWords, Bytes, Words}

-- the bytes of one instruction
abbrev pub Instruction : Type 0
Instruction = List ℕ

-- How many bytes follow the code: NPUSHB and NPUSHW have a count byte first. None where the count
-- byte is missing.
abbrev pub data_length : Meaning → List ℕ → Option ℕ
data_length (Pushes CountedBytes) [] = None
data_length (Pushes CountedBytes) (count ∷ rest) = Some (1 + count)
data_length (Pushes CountedWords) [] = None
data_length (Pushes CountedWords) (count ∷ rest) = Some (1 + 2 * count)
data_length (Pushes (Bytes n)) rest = Some n
data_length (Pushes (Words n)) rest = Some (2 * n)
data_length NoEntry rest = Some 0
data_length (Plain lists) rest = Some 0
data_length (Stack op) rest = Some 0
data_length (Computes op) rest = Some 0
data_length (Controls op) rest = Some 0

-- the bytes are one instruction, as long as its code says
abbrev pub IsInstruction : List ℕ → Type 0
IsInstruction [] = ⊥
IsInstruction (code ∷ rest) = data_length (effect_of code) rest ≡ Some (length rest)

-- the first n bytes are an instruction
abbrev pub IsInstructionInFront : List ℕ → ℕ → Type 0
IsInstructionInFront bytes n = (0 < n) × (n ≤ length bytes) × IsInstruction (take n bytes)

-- the bytes don't begin with an instruction
abbrev pub NoInstructionInFront : List ℕ → Type 0
NoInstructionInFront bytes = (i rest : List ℕ) → IsInstruction i → i ++ rest ≡ bytes → ⊥

-- the data of a push instruction, among the bytes after its code: all of them but a count byte
abbrev pub data_after : Push → List ℕ → List ℕ
data_after CountedBytes rest = drop 1 rest
data_after CountedWords rest = drop 1 rest
data_after (Bytes n) rest = rest
data_after (Words n) rest = rest

-- the data among the bytes after a code: those of a push, otherwise none
abbrev pub data_in : Meaning → List ℕ → List ℕ
data_in (Pushes push) rest = data_after push rest
data_in NoEntry rest = []
data_in (Plain lists) rest = []
data_in (Stack op) rest = []
data_in (Computes op) rest = []
data_in (Controls op) rest = []

-- an instruction's code
abbrev pub code_of : Instruction → Option ℕ
code_of [] = None
code_of (code ∷ rest) = Some code

-- an instruction's data: those of a push, otherwise none
abbrev pub data_of : Instruction → List ℕ
data_of [] = []
data_of (code ∷ rest) = data_in (effect_of code) rest

-- how many bytes the instructions have, which is the offset of what comes after them
abbrev pub size : List Instruction → ℕ
size [] = 0
size (i ∷ is) = length i + size is

-- a cut: the instructions, joined, are the program
pub record IsCut (bytes : List ℕ) (is : List Instruction) : Type 0 where
  pub joined : concat is ≡ bytes
  pub each : AllByRecursion IsInstruction is

-- there is a cut
abbrev pub CanBeCut : List ℕ → Type 0
CanBeCut bytes = (is : List Instruction) × IsCut bytes is

-- the program begins with these instructions, and this rest is left
pub record BeginsWith (bytes : List ℕ) (is : List Instruction) (rest : List ℕ) : Type 0 where
  pub joined : concat is ++ rest ≡ bytes
  pub each : AllByRecursion IsInstruction is

-- The program cannot be cut, and this is the offset of the instruction that passes the end: the
-- size of the longest list of instructions with which the program begins. (Own: the whole program
-- is then refused, at this offset.)
pub record CannotBeCut (bytes : List ℕ) (offset : ℕ) : Type 0 where
  pub uncut : (is : List Instruction) → IsCut bytes is → ⊥
  pub reached : (is : List Instruction) × (rest : List ℕ) × BeginsWith bytes is rest ×
      (size is ≡ offset)
  pub longest : (is : List Instruction) (rest : List ℕ) → BeginsWith bytes is rest →
      size is ≤ offset

-- the instruction that starts at the offset
abbrev pub instruction_at : List Instruction → ℕ → Option Instruction
instruction_at [] offset = None
instruction_at (i ∷ is) zero = Some i
instruction_at (i ∷ is) (suc k) =
    if nat_lt (suc k) (length i) then None else instruction_at is (suc k - length i)
