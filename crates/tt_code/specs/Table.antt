-- The instruction set, line by line as it is printed: the codes and names of a line, what its
-- instructions take from the stack (top first), which reference points they use and in which
-- pointer's zone, what they change, and what they push. (Apple TrueType Reference Manual, "The
-- TrueType instruction set"; OpenType specification, "The TrueType Instruction Set".) Own: the
-- zones in which a point of `Both` or `GlyphAnd` is tested; DIV, MUL, MAX and MIN push a number of
-- which nothing is known; 0x91, 0x92 and the codes that an IDEF defines have no entry.
use Rattle.std.specs.Prelude.{codes, ℕ, ◌+◌, List, [], ◌∷◌, Bool, false, Option, None, Some, ◌&&◌, ◌||◌, nat_eq, nat_le, nat_lt, if◌then◌else◌}
use Rattle.tt_code.specs.declared.kinds.Reference.{Reference}
use Rattle.tt_code.specs.declared.kinds.Reference.TheVariants.{Rp0, Rp1, Rp2}
use Rattle.tt_code.specs.declared.kinds.Pointer.{Pointer}
use Rattle.tt_code.specs.declared.kinds.Pointer.TheVariants.{Zp0, Zp1, Zp2}
use Rattle.tt_code.specs.declared.kinds.Within.TheVariants.{In, Both, GlyphAnd}
use Rattle.tt_code.specs.declared.kinds.Operand.{Operand}
use Rattle.tt_code.specs.declared.kinds.Operand.TheVariants.{Number, Point, Cvt, Storage, Zone, Contour, LoopPoints, PointPairs, CvtPairs}
use Rattle.tt_code.specs.declared.kinds.Use.{Use}
use Rattle.tt_code.specs.declared.kinds.NewNumber.TheVariants.{Taken, Same}
use Rattle.tt_code.specs.declared.kinds.Update.{Update}
use Rattle.tt_code.specs.declared.kinds.Update.TheVariants.{SetReference, SetPointer, SetLoop, LoopIsOne, Store}
use Rattle.tt_code.specs.declared.kinds.Pushed.{Pushed}
use Rattle.tt_code.specs.declared.kinds.Pushed.TheVariants.{Any, Stored}
use Rattle.tt_code.specs.declared.kinds.Push.{Push}
use Rattle.tt_code.specs.declared.kinds.Push.TheVariants.{CountedBytes, CountedWords, Bytes, Words}
use Rattle.tt_code.specs.declared.kinds.StackOp.{StackOp}
use Rattle.tt_code.specs.declared.kinds.StackOp.TheVariants.{Dup, Pop, Clear, Swap, Depth, CopyIndexed, MoveIndexed, Roll}
use Rattle.tt_code.specs.declared.kinds.Arithmetic.{Arithmetic}
use Rattle.tt_code.specs.declared.kinds.Arithmetic.TheVariants.{Add, Sub, Abs, Neg, Lt, LtEq, Gt, GtEq, Eq, Neq, And, Or, Not}
use Rattle.tt_code.specs.declared.kinds.Refinement.{Refinement}
use Rattle.tt_code.specs.declared.kinds.Refinement.TheVariants as refinement
use Rattle.tt_code.specs.declared.kinds.Written.{Written}
use Rattle.tt_code.specs.declared.kinds.Written.TheVariants.{StorageCell, ControlValue, ControlValues, Nothing}
use Rattle.tt_code.specs.declared.kinds.Control.{Control}
use Rattle.tt_code.specs.declared.kinds.Control.TheVariants.{If, Else, Jump, JumpIfTrue, JumpIfFalse, Call, LoopCall, FunctionDefinition, EndFunction, InstructionDefinition}

-- the four lists of a line: what is taken, used, changed and pushed
pub record Lists : Type 0 where
  pub operands : List Operand
  pub uses : List Use
  pub updates : List Update
  pub pushes : List Pushed

-- what an instruction code stands for
pub data Meaning : Type 0 where
  NoEntry : Meaning
  Plain : Lists → Meaning
  Pushes : Push → Meaning
  Stack : StackOp → Meaning
  Computes : Arithmetic → Meaning
  Controls : Control → Meaning

-- `count` codes that share a name, from the first one on
pub record Named : Type 0 where
  pub first : ℕ
  pub count : ℕ
  pub name : List ℕ

-- a printed line
pub record Line : Type 0 where
  pub instructions : List Named
  pub meaning : Meaning

-- Abbreviations for writing lines.

-- one code with a name
abbrev pub one : ℕ → List ℕ → Named
one code name = record { first = code; count = 1; name = name }

-- two codes with a name
abbrev pub two : ℕ → List ℕ → Named
two code name = record { first = code; count = 2; name = name }

-- four codes with a name
abbrev pub four : ℕ → List ℕ → Named
four code name = record { first = code; count = 4; name = name }

-- sixteen codes with a name
abbrev pub sixteen : ℕ → List ℕ → Named
sixteen code name = record { first = code; count = 16; name = name }

-- the instructions of a line, and what they stand for
abbrev pub line : List Named → Meaning → Line
line instructions meaning = record { instructions = instructions; meaning = meaning }

-- a line that takes operands, uses reference points, changes and pushes
abbrev pub plain : List Operand → List Use → List Update → List Pushed → Meaning
plain operands uses updates pushes =
    Plain (record { operands = operands; uses = uses; updates = updates; pushes = pushes })

-- a line that takes and pushes nothing, and changes nothing that `States` keeps
abbrev pub nothing : Meaning
nothing = plain [] [] [] []

-- a line that only takes operands
abbrev pub takes : List Operand → Meaning
takes operands = plain operands [] [] []

-- a line that takes operands and pushes one number of which nothing is known
abbrev pub measures : List Operand → Meaning
measures operands = plain operands [] [] (Any ∷ [])

-- a reference point as a point of a pointer's zone
abbrev pub «in» : Reference → Pointer → Use
«in» r p = record { reference = r; pointer = p }

-- The table.

-- all lines of the instruction set
abbrev pub table : List Line
table =
    line (two 0x00 (codes "SVTCA") ∷ two 0x02 (codes "SPVTCA") ∷ two 0x04 (codes "SFVTCA")
    ∷ one 0x0e (codes "SFVTPV") ∷ one 0x18 (codes "RTG") ∷ one 0x19 (codes "RTHG")
    ∷ two 0x30 (codes "IUP") ∷ one 0x3d (codes "RTDG") ∷ one 0x4d (codes "FLIPON")
    ∷ one 0x4e (codes "FLIPOFF") ∷ one 0x59 (codes "EIF") ∷ one 0x7a (codes "ROFF")
    ∷ one 0x7c (codes "RUTG") ∷ one 0x7d (codes "RDTG") ∷ [])
    nothing ∷
    line (one 0x1a (codes "SMD") ∷ one 0x1d (codes "SCVTCI") ∷ one 0x1e (codes "SSWCI")
    ∷ one 0x1f (codes "SSW") ∷ one 0x4f (codes "DEBUG") ∷ one 0x5e (codes "SDB")
    ∷ one 0x5f (codes "SDS") ∷ one 0x76 (codes "SROUND") ∷ one 0x77 (codes "S45ROUND")
    ∷ one 0x7e (codes "SANGW") ∷ one 0x7f (codes "AA") ∷ one 0x85 (codes "SCANCTRL")
    ∷ one 0x8d (codes "SCANTYPE") ∷ [])
    (takes (Number ∷ [])) ∷
    line (one 0x0a (codes "SPVFS") ∷ one 0x0b (codes "SFVFS") ∷ one 0x8e (codes "INSTCTRL") ∷ [])
    (takes (Number ∷ Number ∷ [])) ∷
    line (two 0x06 (codes "SPVTL") ∷ two 0x08 (codes "SFVTL") ∷ two 0x86 (codes "SDPVTL") ∷ [])
    (takes (Point (Both Zp1 Zp2) ∷ Point (Both Zp1 Zp2) ∷ [])) ∷
    line (one 0x0c (codes "GPV") ∷ one 0x0d (codes "GFV") ∷ [])
    (plain [] [] [] (Any ∷ Any ∷ [])) ∷
    line (one 0x0f (codes "ISECT") ∷ [])
    (takes (Point (In Zp0) ∷ Point (In Zp0) ∷ Point (In Zp1) ∷ Point (In Zp1)
    ∷ Point (In Zp2) ∷ [])) ∷
    line (one 0x10 (codes "SRP0") ∷ [])
    (plain (Number ∷ []) [] (SetReference Rp0 (Taken 0) ∷ []) []) ∷
    line (one 0x11 (codes "SRP1") ∷ [])
    (plain (Number ∷ []) [] (SetReference Rp1 (Taken 0) ∷ []) []) ∷
    line (one 0x12 (codes "SRP2") ∷ [])
    (plain (Number ∷ []) [] (SetReference Rp2 (Taken 0) ∷ []) []) ∷
    line (one 0x13 (codes "SZP0") ∷ [])
    (plain (Zone ∷ []) [] (SetPointer Zp0 0 ∷ []) []) ∷
    line (one 0x14 (codes "SZP1") ∷ [])
    (plain (Zone ∷ []) [] (SetPointer Zp1 0 ∷ []) []) ∷
    line (one 0x15 (codes "SZP2") ∷ [])
    (plain (Zone ∷ []) [] (SetPointer Zp2 0 ∷ []) []) ∷
    line (one 0x16 (codes "SZPS") ∷ [])
    (plain (Zone ∷ []) [] (SetPointer Zp0 0 ∷ SetPointer Zp1 0 ∷ SetPointer Zp2 0 ∷ []) []) ∷
    line (one 0x17 (codes "SLOOP") ∷ [])
    (plain (Number ∷ []) [] (SetLoop 0 ∷ []) []) ∷
    line (one 0x27 (codes "ALIGNPTS") ∷ [])
    (takes (Point (Both Zp0 Zp1) ∷ Point (Both Zp0 Zp1) ∷ [])) ∷
    line (one 0x29 (codes "UTP") ∷ [])
    (takes (Point (In Zp0) ∷ [])) ∷
    line (two 0x2e (codes "MDAP") ∷ [])
    (plain (Point (In Zp0) ∷ []) []
    (SetReference Rp0 (Taken 0) ∷ SetReference Rp1 (Taken 0) ∷ []) []) ∷
    line (one 0x32 (codes "SHP") ∷ [])
    (plain (LoopPoints (In Zp2) ∷ []) («in» Rp2 Zp1 ∷ []) (LoopIsOne ∷ []) []) ∷
    line (one 0x33 (codes "SHP") ∷ [])
    (plain (LoopPoints (In Zp2) ∷ []) («in» Rp1 Zp0 ∷ []) (LoopIsOne ∷ []) []) ∷
    line (one 0x34 (codes "SHC") ∷ [])
    (plain (Contour ∷ []) («in» Rp2 Zp1 ∷ []) [] []) ∷
    line (one 0x35 (codes "SHC") ∷ [])
    (plain (Contour ∷ []) («in» Rp1 Zp0 ∷ []) [] []) ∷
    line (one 0x36 (codes "SHZ") ∷ [])
    (plain (Zone ∷ []) («in» Rp2 Zp1 ∷ []) [] []) ∷
    line (one 0x37 (codes "SHZ") ∷ [])
    (plain (Zone ∷ []) («in» Rp1 Zp0 ∷ []) [] []) ∷
    line (one 0x38 (codes "SHPIX") ∷ [])
    (plain (Number ∷ LoopPoints (In Zp2) ∷ []) [] (LoopIsOne ∷ []) []) ∷
    line (one 0x39 (codes "IP") ∷ [])
    (plain (LoopPoints (In Zp2) ∷ []) («in» Rp1 Zp0 ∷ «in» Rp2 Zp1 ∷ []) (LoopIsOne ∷ []) []) ∷
    line (one 0x3a (codes "MSIRP") ∷ [])
    (plain (Number ∷ Point (In Zp1) ∷ []) («in» Rp0 Zp0 ∷ [])
    (SetReference Rp1 (Same Rp0) ∷ SetReference Rp2 (Taken 1) ∷ []) []) ∷
    line (one 0x3b (codes "MSIRP") ∷ [])
    (plain (Number ∷ Point (In Zp1) ∷ []) («in» Rp0 Zp0 ∷ [])
    (SetReference Rp1 (Same Rp0) ∷ SetReference Rp2 (Taken 1)
    ∷ SetReference Rp0 (Taken 1) ∷ []) []) ∷
    line (one 0x3c (codes "ALIGNRP") ∷ [])
    (plain (LoopPoints (In Zp1) ∷ []) («in» Rp0 Zp0 ∷ []) (LoopIsOne ∷ []) []) ∷
    line (two 0x3e (codes "MIAP") ∷ [])
    (plain (Cvt ∷ Point (In Zp0) ∷ []) []
    (SetReference Rp0 (Taken 1) ∷ SetReference Rp1 (Taken 1) ∷ []) []) ∷
    line (one 0x42 (codes "WS") ∷ [])
    (plain (Number ∷ Storage ∷ []) [] (Store 1 0 ∷ []) []) ∷
    line (one 0x43 (codes "RS") ∷ [])
    (plain (Storage ∷ []) [] [] (Stored 0 ∷ [])) ∷
    line (one 0x44 (codes "WCVTP") ∷ one 0x70 (codes "WCVTF") ∷ [])
    (takes (Number ∷ Cvt ∷ [])) ∷
    line (one 0x45 (codes "RCVT") ∷ [])
    (measures (Cvt ∷ [])) ∷
    line (two 0x46 (codes "GC") ∷ [])
    (measures (Point (In Zp2) ∷ [])) ∷
    line (one 0x48 (codes "SCFS") ∷ [])
    (takes (Number ∷ Point (In Zp2) ∷ [])) ∷
    line (two 0x49 (codes "MD") ∷ [])
    (measures (Point (Both Zp0 Zp1) ∷ Point (Both Zp0 Zp1) ∷ [])) ∷
    line (one 0x4b (codes "MPPEM") ∷ one 0x4c (codes "MPS") ∷ [])
    (measures []) ∷
    line (one 0x5d (codes "DELTAP1") ∷ one 0x71 (codes "DELTAP2") ∷ one 0x72 (codes "DELTAP3") ∷ [])
    (takes (PointPairs (In Zp0) ∷ [])) ∷
    line (one 0x73 (codes "DELTAC1") ∷ one 0x74 (codes "DELTAC2") ∷ one 0x75 (codes "DELTAC3") ∷ [])
    (takes (CvtPairs ∷ [])) ∷
    line (one 0x56 (codes "ODD") ∷ one 0x57 (codes "EVEN") ∷ one 0x66 (codes "FLOOR")
    ∷ one 0x67 (codes "CEILING") ∷ four 0x68 (codes "ROUND")
    ∷ four 0x6c (codes "NROUND") ∷ one 0x88 (codes "GETINFO") ∷ [])
    (measures (Number ∷ [])) ∷
    line (one 0x62 (codes "DIV") ∷ one 0x63 (codes "MUL") ∷ one 0x8b (codes "MAX")
    ∷ one 0x8c (codes "MIN") ∷ [])
    (measures (Number ∷ Number ∷ [])) ∷
    line (one 0x80 (codes "FLIPPT") ∷ [])
    (plain (LoopPoints (GlyphAnd Zp0) ∷ []) [] (LoopIsOne ∷ []) []) ∷
    line (one 0x81 (codes "FLIPRGON") ∷ one 0x82 (codes "FLIPRGOFF") ∷ [])
    (takes (Point (GlyphAnd Zp0) ∷ Point (GlyphAnd Zp0) ∷ [])) ∷
    line (sixteen 0xc0 (codes "MDRP") ∷ [])
    (plain (Point (In Zp1) ∷ []) («in» Rp0 Zp0 ∷ [])
    (SetReference Rp1 (Same Rp0) ∷ SetReference Rp2 (Taken 0) ∷ []) []) ∷
    line (sixteen 0xd0 (codes "MDRP") ∷ [])
    (plain (Point (In Zp1) ∷ []) («in» Rp0 Zp0 ∷ [])
    (SetReference Rp1 (Same Rp0) ∷ SetReference Rp2 (Taken 0)
    ∷ SetReference Rp0 (Taken 0) ∷ []) []) ∷
    line (sixteen 0xe0 (codes "MIRP") ∷ [])
    (plain (Cvt ∷ Point (In Zp1) ∷ []) («in» Rp0 Zp0 ∷ [])
    (SetReference Rp1 (Same Rp0) ∷ SetReference Rp2 (Taken 1) ∷ []) []) ∷
    line (sixteen 0xf0 (codes "MIRP") ∷ [])
    (plain (Cvt ∷ Point (In Zp1) ∷ []) («in» Rp0 Zp0 ∷ [])
    (SetReference Rp1 (Same Rp0) ∷ SetReference Rp2 (Taken 1)
    ∷ SetReference Rp0 (Taken 1) ∷ []) []) ∷
    line (one 0x40 (codes "NPUSHB") ∷ []) (Pushes CountedBytes) ∷
    line (one 0x41 (codes "NPUSHW") ∷ []) (Pushes CountedWords) ∷
    line (one 0xb0 (codes "PUSHB") ∷ []) (Pushes (Bytes 1)) ∷
    line (one 0xb1 (codes "PUSHB") ∷ []) (Pushes (Bytes 2)) ∷
    line (one 0xb2 (codes "PUSHB") ∷ []) (Pushes (Bytes 3)) ∷
    line (one 0xb3 (codes "PUSHB") ∷ []) (Pushes (Bytes 4)) ∷
    line (one 0xb4 (codes "PUSHB") ∷ []) (Pushes (Bytes 5)) ∷
    line (one 0xb5 (codes "PUSHB") ∷ []) (Pushes (Bytes 6)) ∷
    line (one 0xb6 (codes "PUSHB") ∷ []) (Pushes (Bytes 7)) ∷
    line (one 0xb7 (codes "PUSHB") ∷ []) (Pushes (Bytes 8)) ∷
    line (one 0xb8 (codes "PUSHW") ∷ []) (Pushes (Words 1)) ∷
    line (one 0xb9 (codes "PUSHW") ∷ []) (Pushes (Words 2)) ∷
    line (one 0xba (codes "PUSHW") ∷ []) (Pushes (Words 3)) ∷
    line (one 0xbb (codes "PUSHW") ∷ []) (Pushes (Words 4)) ∷
    line (one 0xbc (codes "PUSHW") ∷ []) (Pushes (Words 5)) ∷
    line (one 0xbd (codes "PUSHW") ∷ []) (Pushes (Words 6)) ∷
    line (one 0xbe (codes "PUSHW") ∷ []) (Pushes (Words 7)) ∷
    line (one 0xbf (codes "PUSHW") ∷ []) (Pushes (Words 8)) ∷
    line (one 0x20 (codes "DUP") ∷ []) (Stack Dup) ∷
    line (one 0x21 (codes "POP") ∷ []) (Stack Pop) ∷
    line (one 0x22 (codes "CLEAR") ∷ []) (Stack Clear) ∷
    line (one 0x23 (codes "SWAP") ∷ []) (Stack Swap) ∷
    line (one 0x24 (codes "DEPTH") ∷ []) (Stack Depth) ∷
    line (one 0x25 (codes "CINDEX") ∷ []) (Stack CopyIndexed) ∷
    line (one 0x26 (codes "MINDEX") ∷ []) (Stack MoveIndexed) ∷
    line (one 0x8a (codes "ROLL") ∷ []) (Stack Roll) ∷
    line (one 0x60 (codes "ADD") ∷ []) (Computes Add) ∷
    line (one 0x61 (codes "SUB") ∷ []) (Computes Sub) ∷
    line (one 0x64 (codes "ABS") ∷ []) (Computes Abs) ∷
    line (one 0x65 (codes "NEG") ∷ []) (Computes Neg) ∷
    line (one 0x50 (codes "LT") ∷ []) (Computes Lt) ∷
    line (one 0x51 (codes "LTEQ") ∷ []) (Computes LtEq) ∷
    line (one 0x52 (codes "GT") ∷ []) (Computes Gt) ∷
    line (one 0x53 (codes "GTEQ") ∷ []) (Computes GtEq) ∷
    line (one 0x54 (codes "EQ") ∷ []) (Computes Eq) ∷
    line (one 0x55 (codes "NEQ") ∷ []) (Computes Neq) ∷
    line (one 0x5a (codes "AND") ∷ []) (Computes And) ∷
    line (one 0x5b (codes "OR") ∷ []) (Computes Or) ∷
    line (one 0x5c (codes "NOT") ∷ []) (Computes Not) ∷
    line (one 0x58 (codes "IF") ∷ []) (Controls If) ∷
    line (one 0x1b (codes "ELSE") ∷ []) (Controls Else) ∷
    line (one 0x1c (codes "JMPR") ∷ []) (Controls Jump) ∷
    line (one 0x78 (codes "JROT") ∷ []) (Controls JumpIfTrue) ∷
    line (one 0x79 (codes "JROF") ∷ []) (Controls JumpIfFalse) ∷
    line (one 0x2b (codes "CALL") ∷ []) (Controls Call) ∷
    line (one 0x2a (codes "LOOPCALL") ∷ []) (Controls LoopCall) ∷
    line (one 0x2c (codes "FDEF") ∷ []) (Controls FunctionDefinition) ∷
    line (one 0x2d (codes "ENDF") ∷ []) (Controls EndFunction) ∷
    line (one 0x89 (codes "IDEF") ∷ []) (Controls InstructionDefinition) ∷
    []

-- What a code stands for, and its name.

-- whether a code is one of these codes that share a name
abbrev pub is_one_of : Named → ℕ → Bool
is_one_of n code = nat_le n.first code && nat_lt code (n.first + n.count)

-- the name of a code, among the instructions of a line
abbrev pub name_among : List Named → ℕ → Option (List ℕ)
name_among [] code = None
name_among (n ∷ ns) code = if is_one_of n code then Some n.name else name_among ns code

-- whether a code is one of a line's
abbrev pub is_among : List Named → ℕ → Bool
is_among [] code = false
is_among (n ∷ ns) code = is_one_of n code || is_among ns code

-- what a code stands for, by the lines
abbrev pub meaning_in : List Line → ℕ → Meaning
meaning_in [] code = NoEntry
meaning_in (l ∷ ls) code = if is_among l.instructions code then l.meaning else meaning_in ls code

-- a code's name, by the lines
abbrev pub name_in : List Line → ℕ → Option (List ℕ)
name_in [] code = None
name_in (l ∷ ls) code =
    if is_among l.instructions code then name_among l.instructions code else name_in ls code

-- what the code stands for
unfoldable pub effect_of : ℕ → Meaning
effect_of code = meaning_in table code

-- the code's name; a code without an entry has none
unfoldable pub name_of : ℕ → Option (List ℕ)
name_of code = name_in table code

-- what the machine with control values says more of the code's instructions: RCVT, WCVTP, WCVTF,
-- DELTAC1 to DELTAC3, MAX, MIN, MUL, DIV, FLOOR, CEILING
abbrev pub refinement_of : ℕ → Refinement
refinement_of code =
    if nat_eq code 0x45 then refinement.ReadsControl
    else if nat_eq code 0x44 then refinement.WritesControl
    else if nat_eq code 0x70 then refinement.ChangesControl
    else if nat_eq code 0x73 then refinement.ChangesControls
    else if nat_eq code 0x74 then refinement.ChangesControls
    else if nat_eq code 0x75 then refinement.ChangesControls
    else if nat_eq code 0x8b then refinement.Greatest
    else if nat_eq code 0x8c then refinement.Least
    else if nat_eq code 0x63 then refinement.Product
    else if nat_eq code 0x62 then refinement.Quotient
    else if nat_eq code 0x66 then refinement.Floor
    else if nat_eq code 0x67 then refinement.Ceiling
    else refinement.Ordinary

-- what an instruction that is refined so writes
abbrev pub written_by : Refinement → Written
written_by refinement.WritesControl = ControlValue
written_by refinement.ChangesControl = ControlValue
written_by refinement.ChangesControls = ControlValues
written_by _ = Nothing

-- what the code's instructions write of the memory that programs share: WS a storage cell
abbrev pub written_of : ℕ → Written
written_of code = if nat_eq code 0x42 then StorageCell else written_by (refinement_of code)
