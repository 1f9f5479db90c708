-- Conditions on which there is no verdict on a font file, each with its fault. Of a list of
-- conditions the first that holds is the answer. (OpenType specification, "Table directory",
-- `maxp`, `loca` and `glyf`.)
use Rattle.std.specs.Prelude.{◌≡◌, ◌≢◌, ℕ, ◌+◌, ◌*◌, ◌&&◌, ◌||◌, List, [], ◌∷◌, length, Bool, true, Option, Some, None, is_some, is_none, not, alloc_error, Result, MatchResult, nat_le, nat_lt, ◌==◌, if◌then◌else◌}
use Rattle.std.specs.Option.{option_map, option_map_or, option_or}
use Rattle.tt_font.specs.declared.fault.FontFault.{FontFault}
use Rattle.tt_font.specs.declared.fault.FontFault.TheVariants as faults
use Rattle.tt_font.specs.declared.tag.Tag.{Tag}
use Rattle.tt_font.specs.declared.tag.Tag.TheVariants.{Maxp}
use Rattle.tt_font.specs.Numbers.{u32_at, first_below}
use Rattle.tt_font.specs.Directory.{Extent, extent, record_count}
use Rattle.tt_font.specs.Locations.{entry_fits}
use Rattle.tt_font.specs.Glyphs.{program_of}
use Rattle.tt_font.specs.Outlines.{Outline, refused}

-- a condition: its fault where it holds, and none where it doesn't
abbrev pub Condition : Type 0
Condition = Option FontFault

-- the condition that a test fails
abbrev pub unless : Bool → FontFault → Condition
unless test fault = if test then None else Some fault

-- the first condition that holds
abbrev pub first : List Condition → Condition
first [] = None
first (c ∷ cs) = option_or c (first cs)

-- the answer is Ok exactly if the condition doesn't hold, and otherwise its fault
abbrev pub Tests : {T : Type 0} → Condition → Result T FontFault → Type 0
Tests condition answer =
    MatchResult answer (λ _. condition ≡ None) (λ fault. condition ≡ Some fault)

-- the same of a call that takes memory: it may also answer that there is none left
abbrev pub TestsWithMemory : {T : Type 0} → Condition → Result T FontFault → Type 0
TestsWithMemory condition answer =
    MatchResult answer (λ _. condition ≡ None)
    (λ fault. fault ≢ faults.OutOfMemory alloc_error → condition ≡ Some fault)

-- memory ran out
abbrev pub IsOutOfMemory : FontFault → Type 0
IsOutOfMemory (faults.OutOfMemory error) = Unit {0}
IsOutOfMemory _ = ⊥

-- ---- the directory

-- the file has fewer than n bytes
abbrev pub ends_before : ℕ → List ℕ → Condition
ends_before n bytes = unless (nat_le n (length bytes)) faults.DirectoryTruncated

-- the version isn't that of TrueType outlines: 1.0, or the letters `true`
abbrev pub no_sfnt : List ℕ → Condition
no_sfnt bytes = unless (u32_at 0 bytes == 0x10000 || u32_at 0 bytes == 0x74727565) faults.NotSfnt

-- the faults of the directory: its header of 12 bytes is cut short, its version isn't that of
-- TrueType outlines, or its records are cut short
unfoldable pub directory_fault : List ℕ → Condition
directory_fault bytes =
    first (
    ends_before 12 bytes
    ∷ no_sfnt bytes
    ∷ ends_before (12 + 16 * record_count bytes) bytes ∷ [])

-- ---- a table by its record

-- the directory has no record of the table
abbrev pub missing : Tag → List ℕ → Condition
missing tag bytes = unless (is_some (extent tag bytes)) (faults.MissingTable tag)

-- whether a table lies in the file and has from `least` to `most` bytes
abbrev pub lies_in : List ℕ → ℕ → ℕ → Extent → Bool
lies_in bytes least most e =
    nat_le (e.offset + e.len) (length bytes) && (nat_le least e.len && nat_le e.len most)

-- the directory has a record of the table, and the table doesn't lie in the file, or has fewer than
-- `least` or more than `most` bytes
abbrev pub outside : Tag → ℕ → ℕ → List ℕ → Condition
outside tag least most bytes =
    unless (option_map_or (lies_in bytes least most) (extent tag bytes) true)
    (faults.TableOutside tag)

-- the faults of a table that every font has
unfoldable pub table_fault : Tag → ℕ → List ℕ → Condition
table_fault tag least bytes = first (missing tag bytes ∷ outside tag least 0xFFFF_FFFF bytes ∷ [])

-- the faults of a table that may be missing
unfoldable pub optional_table_fault : Tag → ℕ → List ℕ → Condition
optional_table_fault tag most bytes = outside tag 0 most bytes

-- ---- the faults of `maxp`

-- `maxp` has fewer than `least` bytes
abbrev pub maxp_is_short : ℕ → List ℕ → Condition
maxp_is_short least maxp = unless (nat_le least (length maxp)) (faults.TableOutside Maxp)

-- `maxp` isn't of version 1.0
abbrev pub no_maxp_version : List ℕ → Condition
no_maxp_version maxp = unless (u32_at 0 maxp == 0x10000) faults.MaxpVersion

-- the faults of `maxp`: it has no room for a version, isn't of version 1.0, or is too short for
-- that
unfoldable pub maxp_fault : List ℕ → Condition
maxp_fault maxp = first (maxp_is_short 4 maxp ∷ no_maxp_version maxp ∷ maxp_is_short 32 maxp ∷ [])

-- ---- the faults of `loca`, for the format of `head` and a number of glyphs

-- the format is neither 0 nor 1
abbrev pub unknown_format : ℕ → Condition
unknown_format format = unless (nat_lt format 2) (faults.Loca 0)

-- the first entry that doesn't fit
abbrev pub misplaced_entry : ℕ → List ℕ → List ℕ → ℕ → Option ℕ
misplaced_entry format loca glyf entries =
    first_below (λ i. not (entry_fits format loca glyf i)) entries

-- the faults of `loca`: its format isn't known, or an entry doesn't fit
unfoldable pub loca_fault : ℕ → List ℕ → List ℕ → ℕ → Condition
loca_fault format loca glyf glyph_count =
    first (
    unknown_format format
    ∷ option_map (λ i. faults.Loca i) (misplaced_entry format loca glyf (glyph_count + 1)) ∷ [])

-- ---- the glyphs, by their number and their bytes

-- the first glyph whose bytes end too early
unfoldable pub truncated_glyph : ℕ → (ℕ → List ℕ) → Option ℕ
truncated_glyph count glyphs = first_below (λ id. is_none (program_of (glyphs id))) count

-- the bytes of some glyph end too early: the first such glyph is named
abbrev pub glyph_fault : ℕ → (ℕ → List ℕ) → Condition
glyph_fault count glyphs =
    option_map (λ id. faults.GlyphTruncated id) (truncated_glyph count glyphs)

-- the first glyph whose components, points or contours are at fault
unfoldable pub refused_glyph : ℕ → (ℕ → Outline) → Option ℕ
refused_glyph count outlines = first_below (refused count outlines) count

-- the components, points or contours of some glyph are at fault: the first such glyph is named
abbrev pub composite_fault : ℕ → (ℕ → Outline) → Condition
composite_fault count outlines =
    option_map (λ id. faults.Composite id) (refused_glyph count outlines)

-- the faults of the glyphs: first those of the bytes of all glyphs, then those of their components,
-- points and contours
unfoldable pub glyphs_fault : ℕ → (ℕ → List ℕ) → (ℕ → Outline) → Condition
glyphs_fault count glyphs outlines =
    first (glyph_fault count glyphs ∷ composite_fault count outlines ∷ [])
