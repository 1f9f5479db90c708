-- The programs of a font and where their runs start, for the machine with control values: the font
-- program with no function and any memory, the CVT program with the functions that the font program
-- has at its end and any memory, each glyph program with the functions that the CVT program has at
-- its end, and with a memory that it may hold. (OpenType specification, `fpgm`, `prep`, `cvt ` and
-- `glyf`. Own: interpreters keep, undo or copy what glyph programs write; all of these are covered.)
use Rattle.std.specs.Prelude.{◌≡◌, ◌⊎◌, ℕ, ℤ, List, [], Option, Some, true}
use Rattle.tt_code.specs.Fonts.{Font, cvt_setting, font_setting}
use Rattle.tt_code.specs.Runs.{IsFresh, is_at_end}
use Rattle.tt_code.specs.Settings.{Setting}
use Rattle.tt_code.specs.States.{IsNumber}
use Rattle.tt_symbolic_state.specs.CvtMachine.{CvtMachine, CvtRuns}

-- each entry of an area is a number of the machine
abbrev pub AreNumbers : (ℕ → ℤ) → Type 0
AreNumbers area = (i : ℕ) → IsNumber (area i)

-- the storage area and the control values
pub record Memory : Type 0 where
  pub storage : ℕ → ℤ
  pub controls : ℕ → ℤ

-- those of a machine
abbrev pub memory_of : CvtMachine → Memory
memory_of m = record { storage = m.machine.registers.storage; controls = m.controls }

-- a run from one of these machines reaches the main program's end, and leaves this machine
pub record Leaves (s : Setting) (Starts : CvtMachine → Type 0) (last : CvtMachine) : Type 0 where
  pub first : CvtMachine
  pub starts : Starts first
  pub runs : CvtRuns s first last
  pub ends : is_at_end s last.machine ≡ true

-- such a run leaves these functions
pub record LeavesFunctions (s : Setting) (Starts : CvtMachine → Type 0)
    (functions : List (ℕ × ℕ)) : Type 0 where
  pub last : CvtMachine
  pub leaves : Leaves s Starts last
  pub left : last.machine.functions ≡ functions

-- the font program starts with no function, and any memory
pub record StartsFontProgram (m : CvtMachine) : Type 0 where
  pub fresh : IsFresh m.machine
  pub controls : AreNumbers m.controls
  pub none : m.machine.functions ≡ []

-- the CVT program starts with functions that the font program leaves, and any memory
pub record StartsCvtProgram (f : Font) (m : CvtMachine) : Type 0 where
  pub fresh : IsFresh m.machine
  pub controls : AreNumbers m.controls
  pub left : LeavesFunctions (font_setting f) StartsFontProgram m.machine.functions

-- a glyph program starts with functions that the CVT program leaves
pub record StartsWithFunctions (f : Font) (m : CvtMachine) : Type 0 where
  pub fresh : IsFresh m.machine
  pub left : LeavesFunctions (cvt_setting f) (StartsCvtProgram f) m.machine.functions

-- the settings of the glyph programs that may be run, by glyph
abbrev pub GlyphPrograms : Type 0
GlyphPrograms = ℕ → Option Setting

-- each entry of the new memory is that of one of two memories
pub record IsMixed (one other new : Memory) : Type 0 where
  pub storage :
      (i : ℕ) → (new.storage i ≡ one.storage i) ⊎ (new.storage i ≡ other.storage i)
  pub controls :
      (i : ℕ) → (new.controls i ≡ one.controls i) ⊎ (new.controls i ≡ other.controls i)
  pub stored : AreNumbers new.storage
  pub controlled : AreNumbers new.controls

-- The memory with which a glyph program may start, where these glyph programs may be
-- run: one that the CVT program leaves; and where a glyph program is started with such a
-- memory and comes to another one, each memory whose entries are of these two.
pub data MayHold (f : Font) (programs : GlyphPrograms) : Memory → Type 0 where
  left : (last : CvtMachine) → Leaves (cvt_setting f) (StartsCvtProgram f) last
      → MayHold f programs (memory_of last)
  written : (glyph : ℕ) (s : Setting) (m n : CvtMachine) (new : Memory) → programs glyph ≡ Some s
      → StartsWithFunctions f m → MayHold f programs (memory_of m) → CvtRuns s m n
      → IsMixed (memory_of m) (memory_of n) new → MayHold f programs new

-- a glyph program starts with such a memory
pub record StartsGlyphProgram (f : Font) (programs : GlyphPrograms) (m : CvtMachine) : Type 0 where
  pub functions : StartsWithFunctions f m
  pub memory : MayHold f programs (memory_of m)
