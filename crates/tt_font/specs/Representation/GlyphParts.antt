-- The glyphs as the code has them, and lists that grow glyph by glyph. (Representation.)
use Rattle.std.specs.Prelude.{◌≡◌, ℕ, ◌<◌, List, [], length, map, slice_index_or, Some}
use denote.Bor.{Bor}
use Rattle.tt_font.specs.declared.glyph_part.GlyphPart.{GlyphPart}
use Rattle.tt_font.specs.declared.glyph_table.GlyphTable.{GlyphTable}
use Rattle.tt_font.specs.declared.outline_size.OutlineSize.{OutlineSize}
use Rattle.tt_font.specs.Glyphs.{program_of}
use Rattle.tt_font.specs.PlacedGlyphs.{glyphs_of, outlines_in}
use Rattle.tt_font.specs.Representation.OutlineSizes.{size_at}
use Rattle.tt_font.specs.Reading.{GlyphData, ReadsGlyphs, glyph_at, glyph_data}

-- the bytes of a slice of the file
abbrev pub bytes_of : Bor (List ℕ) → List ℕ
bytes_of slice = slice.now

-- the program of a glyph, by its number
abbrev pub program_in : List (List ℕ) → ℕ → List ℕ
program_in programs id = slice_index_or programs id []

-- the programs of the first n glyphs
pub record ProgramsAre (glyphs : ℕ → List ℕ) (n : ℕ) (programs : List (List ℕ)) : Type 0 where
  pub len : length programs ≡ n
  pub programs_at : (id : ℕ) → id < n → program_of (glyphs id) ≡ Some (program_in programs id)

-- the programs of all glyphs, as slices of the file
abbrev pub AreAllPrograms : GlyphTable → List (Bor (List ℕ)) → Type 0
AreAllPrograms glyphs programs = ProgramsAre (glyphs_of glyphs) glyphs.count (map bytes_of programs)

-- the data of a glyph, from its size and its program
abbrev pub joined : OutlineSize → List ℕ → GlyphData
joined size program = record { points = size.points; contours = size.contours; program = program }

-- what is known of the first n glyphs, put together
pub record PartsAre (programs : List (List ℕ)) (sizes : List OutlineSize) (n : ℕ)
    (parts : List GlyphData) : Type 0 where
  pub len : length parts ≡ n
  pub parts_at : (id : ℕ) → id < n
      → glyph_at parts id ≡ joined (size_at sizes id) (program_in programs id)

-- the same of slices and parts as the code has them
abbrev pub ArePutTogether : List (Bor (List ℕ)) → List OutlineSize → ℕ → List GlyphPart → Type 0
ArePutTogether programs sizes n parts =
    PartsAre (map bytes_of programs) sizes n (map glyph_data parts)

-- the glyphs of a font are read
abbrev pub AreRead : GlyphTable → List GlyphPart → Type 0
AreRead glyphs parts =
    ReadsGlyphs glyphs.count (glyphs_of glyphs) (outlines_in glyphs) (map glyph_data parts)
