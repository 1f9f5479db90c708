-- Why there is no verdict on a file: the conditions in their order, of which the first that holds
-- is the answer.
use Rattle.std.specs.Prelude.{ℕ, List, [], ◌∷◌}
use Rattle.tt_font.specs.declared.tag.Tag.TheVariants.{Cvt, Fpgm, Glyf, Head, Loca, Maxp, Prep}
use Rattle.tt_font.specs.Directory.{table}
use Rattle.tt_font.specs.Locations.{loca_format}
use Rattle.tt_font.specs.Files.{font_glyph_count, font_glyphs, font_outlines}
use Rattle.tt_font.specs.Conditions.{Condition, first, directory_fault, table_fault, optional_table_fault, maxp_fault, loca_fault, glyphs_fault}

-- the greatest length of a font program or a CVT program, in bytes (own)
abbrev pub program_most : ℕ
program_most = 0x7FFF_FFFF

-- the conditions on the directory and the tables, in their order
abbrev pub table_conditions : List ℕ → List Condition
table_conditions bytes =
    directory_fault bytes
    ∷ table_fault Maxp 0 bytes ∷ maxp_fault (table Maxp bytes)
    ∷ table_fault Head 54 bytes
    ∷ table_fault Loca 0 bytes ∷ table_fault Glyf 0 bytes
    ∷ optional_table_fault Cvt 0xFFFF_FFFF bytes
    ∷ optional_table_fault Fpgm program_most bytes ∷ optional_table_fault Prep program_most bytes
    ∷ loca_fault (loca_format (table Head bytes)) (table Loca bytes) (table Glyf bytes)
    (font_glyph_count bytes) ∷ []

-- the directory and the tables
unfoldable pub tables_fault : List ℕ → Condition
tables_fault bytes = first (table_conditions bytes)

-- the file: its tables, and then its glyphs
unfoldable pub font_fault : List ℕ → Condition
font_fault bytes = first (
    tables_fault bytes
    ∷ glyphs_fault (font_glyph_count bytes) (font_glyphs bytes) (font_outlines bytes) ∷ [])
