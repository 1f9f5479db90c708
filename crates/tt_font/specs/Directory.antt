-- The directory of a font file, and the tables that it names (OpenType specification, "Table
-- directory").
use Rattle.std.specs.Prelude.{ℕ, ◌+◌, ◌*◌, List, [], take, drop, Option, ◌==◌}
use Rattle.std.specs.Option.{option_map, option_map_or}
use Rattle.tt_font.specs.declared.tag.Tag.{Tag}
use Rattle.tt_font.specs.Numbers.{u16_at, u32_at, first_below}
use Rattle.tt_font.specs.Tags.{tag_number}

-- numTables
abbrev pub record_count : List ℕ → ℕ
record_count bytes = u16_at 4 bytes

-- the offset of the i-th record of the directory
abbrev pub record_place : ℕ → ℕ
record_place i = 12 + 16 * i

-- where a table is in the file: its offset and its length, in bytes
pub record Extent : Type 0 where
  pub offset : ℕ
  pub len : ℕ

-- what the i-th record says of its table
abbrev pub extent_of : List ℕ → ℕ → Extent
extent_of bytes i = record {
  offset = u32_at (record_place i + 8) bytes;
  len = u32_at (record_place i + 12) bytes;
}

-- the index of the first record, among the first `count`, whose tag is this number
abbrev pub first_record : ℕ → List ℕ → ℕ → Option ℕ
first_record tag bytes count = first_below (λ i. u32_at (record_place i) bytes == tag) count

-- where a table is: the first record with its tag counts
unfoldable pub extent : Tag → List ℕ → Option Extent
extent tag bytes =
    option_map (extent_of bytes) (first_record (tag_number tag) bytes (record_count bytes))

-- the bytes of a table; a missing one is empty
unfoldable pub table : Tag → List ℕ → List ℕ
table tag bytes = option_map_or (λ e. take e.len (drop e.offset bytes)) (extent tag bytes) []
