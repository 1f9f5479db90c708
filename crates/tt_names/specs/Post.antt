-- The table `post` of a font, as far as it names glyphs (OpenType specification, `post`).
use Rattle.std.specs.Prelude.{ℕ, zero, suc, ◌+◌, ◌*◌, ◌-◌, ◌==◌, ◌&&◌, List, [], length, take, drop, nat_le, nat_lt, Option, None, Some, if◌then◌else◌, slice_get, slice_index}
use Rattle.tt_font.specs.Directory.{record_count, table}
use Rattle.tt_font.specs.Numbers.{u16_at, u32_at}
use Rattle.tt_font.specs.declared.tag.Tag.TheVariants.{Post}
use Rattle.tt_names.specs.Standard.{standard_names}
use Rattle.tt_names.specs.declared.post.Format.{Format}
use Rattle.tt_names.specs.declared.post.Format.TheVariants.{Unnamed, Standard, Listed}

-- the bytes of a font's table `post`: none where it has no such table, or its directory is cut off
unfoldable pub post_of : List ℕ → List ℕ
post_of font = if nat_le (12 + 16 * record_count font) (length font) then table Post font else []

-- numGlyphs, which is after the 32 bytes of the header
abbrev pub glyph_count : List ℕ → ℕ
glyph_count post = u16_at 32 post

-- the offset after numGlyphs and glyphNameIndex, at which the strings begin
abbrev pub strings_start : List ℕ → ℕ
strings_start post = 34 + 2 * glyph_count post

-- By which format the table names glyphs: 1.0, or 2.0 where the indices of all glyphs are there. It
-- names none where its header is cut off, or by any other version.
unfoldable pub format_of : List ℕ → Format
format_of post =
    if nat_lt (length post) 32 then Unnamed else
    (if u32_at 0 post == 0x10000 then Standard else
    (if (u32_at 0 post == 0x20000) && nat_le (strings_start post) (length post) then Listed
    else Unnamed))

-- the offset after the string at an offset, which has its length in a byte before it
abbrev pub string_end : List ℕ → ℕ → ℕ
string_end post place = place + 1 + slice_index post place

-- the offset at which the string of a number begins: they follow one another
unfoldable pub string_place : List ℕ → ℕ → ℕ
string_place post zero = strings_start post
string_place post (suc k) = string_end post (string_place post k)

-- the bytes of the string at an offset, if all are there
unfoldable pub string_at : List ℕ → ℕ → Option (List ℕ)
string_at post place =
    if nat_le (string_end post place) (length post)
    then Some (take (slice_index post place) (drop (place + 1) post))
    else None

-- the name that an index of glyphNameIndex stands for: a standard one, or from 258 on a string
abbrev pub text_of_index : List ℕ → ℕ → Option (List ℕ)
text_of_index post index =
    if nat_lt index 258 then slice_get standard_names index
    else string_at post (string_place post (index - 258))

-- the name of a glyph as a table of this format has it
abbrev pub text_in : Format → List ℕ → ℕ → Option (List ℕ)
text_in Unnamed post glyph = None
text_in Standard post glyph = slice_get standard_names glyph
text_in Listed post glyph =
    if nat_lt glyph (glyph_count post) then text_of_index post (u16_at (34 + 2 * glyph) post)
    else None
