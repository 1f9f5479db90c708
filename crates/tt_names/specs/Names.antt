-- The names of a font's glyphs, as far as they can be printed. (OpenType specification, `post`. Own:
-- which names count.)
use Rattle.std.specs.Prelude.{◌≡◌, ◌≢◌, ℕ, ◌<◌, ◌==◌, ◌&&◌, not, List, length, Bool, Option, None, Some, if◌then◌else◌, option_and_then}
use Rattle.std.specs.Char.{is_ascii_graphic}
use Rattle.std.specs.List.{list_all}
use Rattle.tt_names.specs.Post.{format_of, text_in}

-- the text has at least one byte, and each is from 0x21 to 0x7E: a graphic character of ASCII
abbrev pub is_printable : List ℕ → Bool
is_printable text = not (length text == 0) && list_all is_ascii_graphic text

-- a text that counts as a name
unfoldable pub printable : List ℕ → Option (List ℕ)
printable text = if is_printable text then Some text else None

-- the name of a glyph by the table `post`, if it has one that counts
unfoldable pub name_of_glyph : List ℕ → ℕ → Option (List ℕ)
name_of_glyph post glyph = option_and_then printable (text_in (format_of post) post glyph)

-- the glyph is the first one that has this name by the table
pub record IsFirstNamed (post name : List ℕ) (glyph : ℕ) : Type 0 where
  pub named : name_of_glyph post glyph ≡ Some name
  pub first : (other : ℕ) → other < glyph → name_of_glyph post other ≢ Some name

-- no glyph has this name by the table
abbrev pub NamesNone : List ℕ → List ℕ → Type 0
NamesNone post name = (glyph : ℕ) → name_of_glyph post glyph ≢ Some name
