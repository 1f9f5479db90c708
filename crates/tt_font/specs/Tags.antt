-- The tables that are read, and their tags (OpenType specification, "Table directory").
use Rattle.std.specs.Prelude.{ℕ, List, [], ◌∷◌}
use Rattle.byteorder.specs.Endian.{big_number}
use Rattle.tt_font.specs.declared.tag.Tag.{Tag}
use Rattle.tt_font.specs.declared.tag.Tag.TheVariants.{Cvt, Fpgm, Glyf, Head, Loca, Maxp, Post, Prep}

-- the four bytes of a tag
abbrev pub tag_bytes : Tag → List ℕ
tag_bytes Cvt = 0x63 ∷ 0x76 ∷ 0x74 ∷ 0x20 ∷ []
tag_bytes Fpgm = 0x66 ∷ 0x70 ∷ 0x67 ∷ 0x6D ∷ []
tag_bytes Glyf = 0x67 ∷ 0x6C ∷ 0x79 ∷ 0x66 ∷ []
tag_bytes Head = 0x68 ∷ 0x65 ∷ 0x61 ∷ 0x64 ∷ []
tag_bytes Loca = 0x6C ∷ 0x6F ∷ 0x63 ∷ 0x61 ∷ []
tag_bytes Maxp = 0x6D ∷ 0x61 ∷ 0x78 ∷ 0x70 ∷ []
tag_bytes Post = 0x70 ∷ 0x6F ∷ 0x73 ∷ 0x74 ∷ []
tag_bytes Prep = 0x70 ∷ 0x72 ∷ 0x65 ∷ 0x70 ∷ []

-- the number of a tag: its four bytes as a record of the directory has them, big-endian
abbrev pub tag_number : Tag → ℕ
tag_number tag = big_number 4 (tag_bytes tag)
