-- The header of a font collection, which says where the directories of its faces are (OpenType
-- specification, "Font Collections").
use Rattle.std.specs.Prelude.{ℕ, ◌+◌, ◌*◌, ◌&&◌, List, drop, length, Bool, nat_le, ◌==◌, if◌then◌else◌}
use Rattle.tt_font.specs.Numbers.{u32_at}

-- whether a file begins as a collection does, with the tag `ttcf`
abbrev pub is_collection : List ℕ → Bool
is_collection bytes = nat_le 4 (length bytes) && u32_at 0 bytes == 0x74746366

-- majorVersion and minorVersion
abbrev pub version : List ℕ → ℕ
version bytes = u32_at 4 bytes

-- numFonts, how many faces there are
abbrev pub face_count : List ℕ → ℕ
face_count bytes = u32_at 8 bytes

-- how many bytes the header has: 12, an offset for each face, and in version 2.0 the three fields
-- that say where its signature is
abbrev pub header_length : List ℕ → ℕ
header_length bytes =
    12 + 4 * face_count bytes + (if version bytes == 0x20000 then 12 else 0)

-- where the directory of a face begins: its entry of tableDirectoryOffsets
abbrev pub directory_offset : ℕ → List ℕ → ℕ
directory_offset number bytes = u32_at (12 + 4 * number) bytes

-- the bytes of a collection from the directory of a face on
abbrev pub directory_of : ℕ → List ℕ → List ℕ
directory_of number bytes = drop (directory_offset number bytes) bytes
