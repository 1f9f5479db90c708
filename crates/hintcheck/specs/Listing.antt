-- The names of a font's programs as words, and what is listed of a program.
use Rattle.std.specs.Prelude.{◌≡◌, ◌≢◌, ℕ, ℤ, ◌+◌, ◌/◌, ◌%◌, ◌<◌, ◌^◌, codes, false, List, [], ◌∷◌, ◌++◌, Option, Some, length, option_and_then, option_map, slice_get, slice_index, unwrap_or}
use Rattle.std.specs.Fmt.{decimal, digit_glyph, signed_decimal}
use Rattle.std.specs.Io.KnownBytes.{Appends}
use Rattle.std.specs.List.{flat_map}
use Rattle.tt_code.specs.Computing.{numbers_in}
use Rattle.tt_code.specs.Cut.{CannotBeCut, Instruction, IsCut, code_of, data_after, size}
use Rattle.tt_code.specs.Grammar.{IsFault, IsStructured}
use Rattle.tt_code.specs.declared.reason.Reason.{Reason}
use Rattle.tt_code.specs.declared.reason.Reason.TheVariants.{CannotCut, Structure}
use Rattle.tt_code.specs.Table.{Meaning, Pushes, effect_of, name_of}
use Rattle.tt_font.specs.Reading.{FontData, Reads}
use Rattle.tt_setting.specs.Names.{text_of}
use Rattle.tt_setting.specs.declared.name.Name.{Name}
use Rattle.tt_setting.specs.declared.name.Name.TheVariants as name
use Rattle.tt_names.specs.Names.{IsFirstNamed}
use Rattle.tt_names.specs.Post.{post_of}
use Rattle.hintcheck_words.specs.declared.words.Detail.{Detail}
use Rattle.hintcheck_words.specs.declared.words.Detail.TheVariants.{Names as Named, Numbers}
use Rattle.hintcheck_report.specs.Texts.{refused_text}
use Rattle.hintcheck_report.specs.declared.refused.Refused.{Refused}

-- the text has no plus sign in front, and no zero there except as its only digit
pub record IsPlain (text : List ℕ) : Type 0 where
  pub unsigned : slice_index text 0 ≢ 43
  pub first : slice_index text 0 ≡ 48 → length text ≡ 1

-- the number of a glyph is one of 16 bits
abbrev pub IsOf16Bits : Name → Type 0
IsOf16Bits name.Font = Unit {0}
IsOf16Bits name.Cvt = Unit {0}
IsOf16Bits (name.Glyph id) = id < 2 ^ 16

-- the bytes of the font's program of this name, if the font has it
abbrev pub program_in : FontData → Name → Option (List ℕ)
program_in d name.Font = Some d.fpgm
program_in d name.Cvt = Some d.prep
program_in d (name.Glyph id) = option_map (λ g. g.program) (slice_get d.glyphs id)

-- The word is the name of this program: as programs are printed; or that of the table that holds the
-- font program or the CVT program. (OpenType specification, `fpgm` and `prep`.)
pub data IsNameOf (word : List ℕ) : Name → Type 0 where
  printed : (called : Name) → word ≡ text_of called → IsNameOf word called
  font_table : word ≡ codes "fpgm" → IsNameOf word name.Font
  cvt_table : word ≡ codes "prep" → IsNameOf word name.Cvt

-- the word is the name of no program, whichever font has it
abbrev pub IsNoName : List ℕ → Type 0
IsNoName word = (called : Name) → IsOf16Bits called → IsNameOf word called → ⊥

-- The word calls the program of this name in the font in these bytes: it is a name of it; or it is the
-- name of no program, and the program is that of the first glyph that has it as its name.
pub data Calls (bytes word : List ℕ) (called : Name) : Type 0 where
  by_name : IsNameOf word called → Calls bytes word called
  by_glyph_name : (id : ℕ) → called ≡ name.Glyph id → IsNoName word
      → IsFirstNamed (post_of bytes) word id → Calls bytes word called

-- the word calls this program of the font in these bytes
pub record Names (bytes word : List ℕ) (d : FontData) (program : List ℕ) : Type 0 where
  pub name : Name
  pub text : Calls bytes word name
  pub there : program_in d name ≡ Some program

-- no cut of the program is structured
abbrev pub CannotBeListed : List ℕ → Type 0
CannotBeListed program = (is : List Instruction) → IsCut program is → IsStructured is → ⊥

-- The bytes hold a font, and the word is the name of a program of it that can't be cut or isn't
-- structured.
pub record HoldUnlistedProgram (bytes word : List ℕ) : Type 0 where
  pub font : FontData
  pub reads : Reads bytes font
  pub program : List ℕ
  pub named : Names bytes word font program
  pub unlisted : CannotBeListed program

-- why a program isn't listed, and at which of its offsets: it can't be cut, or its structure is at
-- fault
pub data IsUnlistedAt (program : List ℕ) : ℕ → Reason → Type 0 where
  no_cut : (offset : ℕ) → CannotBeCut program offset → IsUnlistedAt program offset CannotCut
  no_structure : (is : List Instruction) (offset : ℕ) → IsCut program is → IsFault is offset
      → IsUnlistedAt program offset Structure

-- a program by this name, refused at this offset of its own
abbrev pub refused_in : Name → ℕ → Reason → Refused
refused_in called offset reason =
    record { program = called; place = record { program = called; offset = offset }; reason = reason }

-- Why the program by this name isn't listed was reported in one line, where the written bytes are
-- known.
pub record TellsUnlisted (called : Name) (program : List ℕ)
    (old new : Option (List ℕ)) : Type 0 where
  pub offset : ℕ
  pub reason : Reason
  pub why : IsUnlistedAt program offset reason
  pub written : Appends old new (refused_text (refused_in called offset reason) ++ codes "\n")

-- The bytes hold a font, and the word is the name of a program of it of which one line tells why it
-- isn't listed.
pub record HoldToldProgram (bytes word : List ℕ) (old new : Option (List ℕ)) : Type 0 where
  pub font : FontData
  pub reads : Reads bytes font
  pub name : Name
  pub text : Calls bytes word name
  pub program : List ℕ
  pub there : program_in font name ≡ Some program
  pub told : TellsUnlisted name program old new

-- What is listed. (OpenType specification, "The TrueType Instruction Set": the names.)

-- two hexadecimal digits for each byte
abbrev pub hex_digits : List ℕ → List ℕ
hex_digits bytes =
    flat_map (λ b. digit_glyph false (b / 16) ∷ digit_glyph false (b % 16) ∷ []) bytes

-- the name of the instruction's code, `?` where it has none
unfoldable pub shown_name : Instruction → List ℕ
shown_name i = unwrap_or (option_and_then name_of (code_of i)) (codes "?")

-- the numbers that the bytes after a code of this meaning spell: those of a push
abbrev pub numbers_after : Meaning → List ℕ → List ℤ
numbers_after (Pushes push) rest = numbers_in push (data_after push rest)
numbers_after other rest = []

-- the numbers that a push instruction pushes; none of another one
abbrev pub numbers_of : Instruction → List ℤ
numbers_of [] = []
numbers_of (code ∷ rest) = numbers_after (effect_of code) rest

-- a number after a space
unfoldable pub spaced : ℤ → List ℕ
spaced number = codes " " ++ signed_decimal number

-- what a line tells after the instruction's name: the numbers that it pushes, where they are asked for
abbrev pub shown_numbers : Detail → Instruction → List ℕ
shown_numbers Named i = []
shown_numbers Numbers i = flat_map spaced (numbers_of i)

-- the line of the instruction at an offset
unfoldable pub line_of : Detail → ℕ → Instruction → List ℕ
line_of detail offset i = decimal offset ++ (codes ": " ++ (hex_digits i ++ (codes " "
    ++ (shown_name i ++ (shown_numbers detail i ++ codes "\n")))))

-- the lines of instructions, the first of which is at an offset
abbrev pub lines_of : Detail → ℕ → List Instruction → List ℕ
lines_of detail offset [] = []
lines_of detail offset (i ∷ is) = line_of detail offset i ++ lines_of detail (offset + length i) is

-- the line after them, with the program's length
unfoldable pub last_line : List Instruction → List ℕ
last_line is = codes "end: " ++ (decimal (size is) ++ codes "\n")

-- The program is cut into structured instructions, and their lines and the last one were written,
-- where the written bytes are known.
pub record IsListed (detail : Detail) (program : List ℕ) (old new : Option (List ℕ)) : Type 0 where
  pub instructions : List Instruction
  pub is_cut : IsCut program instructions
  pub structured : IsStructured instructions
  pub written : Appends old new (lines_of detail 0 instructions ++ last_line instructions)

-- The bytes hold a font, and the word is the name of a program of it that was listed.
pub record HoldListedProgram (detail : Detail) (bytes word : List ℕ)
    (old new : Option (List ℕ)) : Type 0 where
  pub font : FontData
  pub reads : Reads bytes font
  pub program : List ℕ
  pub named : Names bytes word font program
  pub listed : IsListed detail program old new

-- The lines of the instructions before an offset were written. (Representation: no public clause
-- cites it.)
pub record IsListedBefore (detail : Detail) (is : List Instruction) (offset : ℕ)
    (old new : Option (List ℕ)) : Type 0 where
  pub before : List Instruction
  pub after : List Instruction
  pub whole : is ≡ before ++ after
  pub reached : size before ≡ offset
  pub written : Appends old new (lines_of detail 0 before)
