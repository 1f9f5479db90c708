-- Functions and cells that are read many at a time. Only private contracts of reading need it.
use Rattle.std.specs.Prelude.{◌≡◌, ℕ, ◌+◌, ◌-◌, ◌*◌, ◌^◌, ◌<◌, ◌≤◌, true, List, [], ◌∷◌, ◌++◌, length, take, drop, Option, is_some, unwrap_or, Result, Ok, Err}
use Rattle.std.specs.Io.KnownBytes.{Consumes, IsAtEnd}
use Rattle.tt_setting.specs.declared.cert_fault.CertFault.{CertFault}
use Rattle.tt_setting.specs.declared.cert_fault.CertFault.TheVariants as fault
use Rattle.tt_cert.specs.Answers.{Fails, input_at}
use Rattle.tt_abs.specs.declared.cells.Cell.{Cell}
use Rattle.tt_setting.specs.Entries.{Ascends}
use Rattle.tt_cert.specs.Readers.{Answer, Input, list_at, place_after}
use Rattle.tt_cert.specs.Reading.{cell_at, function_at}

-- these bytes at a place, and then others
abbrev pub input_of : ℕ → List ℕ → List ℕ → Input
input_of place bytes rest = record { place = place; bytes = bytes ++ rest }

-- Functions were taken from the front of the bytes and put after the old ones, and the bytes `left`
-- weren't taken: the rest of a list is read from there on.
pub record IsTaking (old now : List (ℕ × ℕ)) (place at : ℕ) (bytes left : List ℕ) : Type 0 where
  pub taken : ℕ
  pub long : length bytes ≡ 6 * taken + length left
  pub at_is : at ≡ place_after place (6 * taken)
  pub reads : (n : ℕ) (rest : List ℕ)
      → list_at function_at old (taken + n) (input_of place bytes rest)
      ≡ list_at function_at now n (input_of at left rest)
  pub anywhere : (p n : ℕ) (rest : List ℕ) → p < 2 ^ 64
      → list_at function_at old (taken + n) (input_of p bytes rest)
      ≡ list_at function_at now n (input_of (place_after p (6 * taken)) left rest)

-- all functions that are whole were taken; this many bytes are left
pub record AreTaken (over : ℕ) (old new : List (ℕ × ℕ)) (place : ℕ) (bytes : List ℕ) : Type 0 where
  pub at : ℕ
  pub left : List ℕ
  pub over_is : over ≡ length left
  pub short : over < 6
  pub suffix : left ≡ drop (length bytes - over) bytes
  pub taking : IsTaking old new place at bytes left

-- a function in the bytes breaks the rule, and this is its place
abbrev pub BreaksAt : List (ℕ × ℕ) → ℕ → List ℕ → ℕ → Type 0
BreaksAt old place bytes broken = (n : ℕ) (rest : List ℕ) → length bytes ≤ 6 * n
    → list_at function_at old n (input_of place bytes rest) ≡ Err broken

-- what comes of taking the functions of these bytes; out of memory is unspecified, and no read or
-- write fails
abbrev pub Takes : Result ℕ CertFault → List (ℕ × ℕ) → List (ℕ × ℕ) → ℕ → List ℕ → Type 0
Takes (Ok over) old new place bytes = AreTaken over old new place bytes
Takes (Err (fault.Form broken)) old new place bytes = BreaksAt old place bytes broken
Takes (Err fault.Read) old new place bytes = ⊥
Takes (Err fault.Write) old new place bytes = ⊥
Takes (Err (fault.OutOfMemory error)) old new place bytes = Unit {0}

-- This many more of the wanted bytes were read into the buffer, after those that it holds; none
-- only at the input's end.
pub record FillsOn (old new : Option (List ℕ)) (held wanted more : ℕ)
    (before buf : List ℕ) : Type 0 where
  pub long : length buf ≡ length before
  pub few : held + more ≤ wanted
  pub room : wanted ≤ length buf
  pub held_is : take held buf ≡ take held before
  pub consumed : Consumes old new (take more (drop held buf))
  pub at_end : more ≡ 0 → IsAtEnd new

-- the input of which these bytes are held already
abbrev pub input_held : ℕ → List ℕ → Option (List ℕ) → Input
input_held place held known = input_of place held (unwrap_or known [])

-- This many functions of a list were read after those before them; the rest of the list is read
-- from there on.
abbrev pub ReadsBlock : Result ℕ CertFault → Option (List ℕ) → Option (List ℕ)
    → List (ℕ × ℕ) → List (ℕ × ℕ) → ℕ → ℕ → Type 0
ReadsBlock (Ok after) old new before now place count = is_some old ≡ true → (is_some new ≡ true)
    × ((n : ℕ) → list_at function_at before (count + n) (input_at place old)
    ≡ list_at function_at now n (input_at after new))
ReadsBlock (Err e) old new before now place count = is_some old ≡ true → (n : ℕ)
    → Fails e (list_at function_at before (count + n) (input_at place old))

-- bytes were read into the buffer after those that it held, until it was full or the input ended
pub record FillsRest (old new : Option (List ℕ)) (held read : ℕ)
    (before buf : List ℕ) : Type 0 where
  pub long : length buf ≡ length before
  pub few : held + read ≤ length buf
  pub held_is : take held buf ≡ take held before
  pub consumed : Consumes old new (take read (drop held buf))
  pub at_end : held + read < length buf → IsAtEnd new

-- this many cells, after those before them
abbrev pub cells_at : List Cell → ℕ → Input → Answer (List Cell)
cells_at before n i = list_at (λ _. cell_at) before n i

-- cells after those before them, until there are this many in all
abbrev pub cells_up_to : List Cell → ℕ → Input → Answer (List Cell)
cells_up_to before count i = cells_at before (count - length before) i

-- Cells of at least one byte each were taken from the front of the bytes and put after the old
-- ones, and the bytes `left` weren't taken: the rest of a list is read from there on.
pub record IsTakingCells (old now : List Cell) (place at : ℕ) (bytes left : List ℕ) : Type 0 where
  pub taken : ℕ
  pub grown : length now ≡ length old + taken
  pub few : taken + length left ≤ length bytes
  pub some : length left < length bytes → 0 < taken
  pub at_is : at ≡ place_after place (length bytes - length left)
  pub reads : (n : ℕ) (rest : List ℕ) → cells_at old (taken + n) (input_of place bytes rest)
      ≡ cells_at now n (input_of at left rest)

-- the bytes are the tag of a known cell and fewer than the four bytes of its number
pub record IsBegun (left : List ℕ) : Type 0 where
  pub number : List ℕ
  pub left_is : left ≡ 1 ∷ number
  pub short : length number < 4

-- all cells that are whole were taken; this many bytes are left
pub record AreCellsTaken (over : ℕ) (old new : List Cell) (place : ℕ)
    (bytes : List ℕ) : Type 0 where
  pub at : ℕ
  pub left : List ℕ
  pub over_is : over ≡ length left
  pub suffix : left ≡ drop (length bytes - over) bytes
  pub begun : 0 < over → IsBegun left
  pub taking : IsTakingCells old new place at bytes left

-- what comes of taking the cells of these bytes; out of memory is unspecified, and no read or write
-- fails
abbrev pub TakesCells : Result ℕ CertFault → List Cell → List Cell → ℕ → List ℕ → Type 0
TakesCells (Ok over) old new place bytes = AreCellsTaken over old new place bytes
TakesCells (Err (fault.Form broken)) old new place bytes =
    (n : ℕ) (rest : List ℕ) → length bytes ≤ n
    → cells_at old n (input_of place bytes rest) ≡ Err broken
TakesCells (Err fault.Read) old new place bytes = ⊥
TakesCells (Err fault.Write) old new place bytes = ⊥
TakesCells (Err (fault.OutOfMemory error)) old new place bytes = Unit {0}

-- the input from a known cell on, whose tag and these bytes of its number were read
abbrev pub input_begun : ℕ → List ℕ → Option (List ℕ) → Input
input_begun place number known = record {
  place = place;
  bytes = 1 ∷ (number ++ unwrap_or known []);
}

-- One more cell was read, whose tag and first bytes were read before; the rest of the list is read
-- from there on.
abbrev pub ReadsRest : Result ℕ CertFault → Option (List ℕ) → Option (List ℕ) → List ℕ
    → List Cell → List Cell → ℕ → Type 0
ReadsRest (Ok after) old new number before now place = (length now ≡ length before + 1)
    × (is_some old ≡ true → (is_some new ≡ true)
    × ((n : ℕ) → cells_at before (1 + n) (input_begun place number old)
    ≡ cells_at now n (input_at after new)))
ReadsRest (Err e) old new number before now place = is_some old ≡ true → (n : ℕ)
    → Fails e (cells_at before (1 + n) (input_begun place number old))

-- The cells now are those before and others that were read after them; the rest of the list is read
-- from there on.
abbrev pub ReadsFurther : ℕ → Option (List ℕ) → Option (List ℕ) → List Cell → List Cell → ℕ → Type 0
ReadsFurther after old new before now place = is_some old ≡ true → (is_some new ≡ true)
    × ((n : ℕ) → cells_at before ((length now - length before) + n) (input_at place old)
    ≡ cells_at now n (input_at after new))

-- Cells, at least one, were read after those before them, so that there are at most `count` in all;
-- the rest of the list is read from there on.
abbrev pub ReadsCells : Result ℕ CertFault → Option (List ℕ) → Option (List ℕ)
    → List Cell → List Cell → ℕ → ℕ → Type 0
ReadsCells (Ok after) old new before now place count = (length before < length now)
    × (length now ≤ count) × ReadsFurther after old new before now place
ReadsCells (Err e) old new before now place count = is_some old ≡ true
    → Fails e (cells_up_to before count (input_at place old))

-- Cells, perhaps none, were taken from the front of the bytes, so that there are at most `count` in
-- all, and `used` bytes were used.
pub record AreSomeCellsTaken (used : ℕ) (old new : List Cell) (place : ℕ) (bytes : List ℕ)
    (count : ℕ) : Type 0 where
  pub at : ℕ
  pub left : List ℕ
  pub used_is : used ≡ length bytes - length left
  pub suffix : left ≡ drop (length bytes - length left) bytes
  pub few : length new ≤ count
  pub taking : IsTakingCells old new place at bytes left

-- what comes of taking some of these bytes' cells; out of memory is unspecified, and no read or
-- write fails
abbrev pub TakesSomeCells : Result ℕ CertFault → List Cell → List Cell → ℕ → List ℕ → ℕ → Type 0
TakesSomeCells (Ok used) old new place bytes count =
    AreSomeCellsTaken used old new place bytes count
TakesSomeCells (Err (fault.Form broken)) old new place bytes count =
    (rest : List ℕ) → cells_up_to old count (input_of place bytes rest) ≡ Err broken
TakesSomeCells (Err fault.Read) old new place bytes count = ⊥
TakesSomeCells (Err fault.Write) old new place bytes count = ⊥
TakesSomeCells (Err (fault.OutOfMemory error)) old new place bytes count = Unit {0}

-- Cells, perhaps none, were read after those before them, so that there are at most `count` in all;
-- the rest of the list is read from there on.
abbrev pub ReadsMoreCells : Result ℕ CertFault → Option (List ℕ) → Option (List ℕ)
    → List Cell → List Cell → ℕ → ℕ → Type 0
ReadsMoreCells (Ok after) old new before now place count = (length before ≤ length now)
    × (length now ≤ count) × ReadsFurther after old new before now place
ReadsMoreCells (Err e) old new before now place count = is_some old ≡ true
    → Fails e (cells_up_to before count (input_at place old))

-- these bytes are read as these functions, wherever they are
pub record AreSpelled (text : List ℕ) (functions : List (ℕ × ℕ)) : Type 0 where
  pub count : ℕ
  pub long : length text ≡ 6 * count
  pub reads : (p n : ℕ) (rest : List ℕ) → p < 2 ^ 64
      → list_at function_at [] (count + n) (input_of p text rest)
      ≡ list_at function_at functions n (input_of (place_after p (6 * count)) [] rest)

-- functions ascend, and where there is a text, it is theirs
abbrev pub AreKept : List ℕ → List (ℕ × ℕ) → Type 0
AreKept text functions = Ascends functions × (0 < length text → AreSpelled text functions)
