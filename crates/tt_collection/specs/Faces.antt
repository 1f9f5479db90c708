-- The font file that a face of a collection is: its directory, in which the offsets are moved,
-- before the bytes of the collection (OpenType specification, "Font Collections", "Table
-- directory"). What is said of a face is said of the bytes of this file (own).
use Rattle.std.specs.Prelude.{ℕ, zero, suc, ◌+◌, List, ◌++◌, take, drop}
use Rattle.byteorder.specs.Endian.{big_bytes}
use Rattle.tt_font.specs.Numbers.{u32_at}
use Rattle.tt_font.specs.Directory.{record_count, record_place}
use Rattle.tt_collection.specs.Headers.{directory_of}

-- how many bytes a directory has
abbrev pub directory_length : List ℕ → ℕ
directory_length directory = record_place (record_count directory)

-- a record whose offset is raised by so many bytes: tableTag and checksum, offset, length
abbrev pub moved_record : ℕ → List ℕ → List ℕ
moved_record shift entry =
    take 8 entry ++ (big_bytes 4 (u32_at 8 entry + shift) ++ take 4 (drop 12 entry))

-- the 12 bytes before the records of a directory, and its first records, with their offsets raised
unfoldable pub moved_directory : ℕ → List ℕ → ℕ → List ℕ
moved_directory shift directory zero = take 12 directory
moved_directory shift directory (suc n) =
    moved_directory shift directory n ++ moved_record shift (drop (record_place n) directory)

-- a directory before the bytes of its collection, its offsets raised by its length
unfoldable pub unpacked : List ℕ → List ℕ → List ℕ
unpacked directory bytes =
    moved_directory (directory_length directory) directory (record_count directory) ++ bytes

-- the font file that the face of a number is
abbrev pub face_file : ℕ → List ℕ → List ℕ
face_file number bytes = unpacked (directory_of number bytes) bytes
