-- What the font file of a face has of the face in its collection (OpenType specification, "Font
-- Collections", "Table directory").
use Rattle.std.specs.Prelude.{◌≡◌, ℕ, ◌+◌, List, [], length, take, drop, Option, None}
use Rattle.std.specs.Option.{option_map, option_map_or}
use Rattle.tt_font.specs.declared.tag.Tag.{Tag}
use Rattle.tt_font.specs.Directory.{Extent, extent, record_count, table}
use Rattle.tt_collection.specs.Headers.{directory_of}
use Rattle.tt_collection.specs.Faces.{directory_length, face_file}
use Rattle.tt_collection.specs.CollectionFaults.{face_fault}

-- where a table is, further on by so many bytes
abbrev pub further : ℕ → Extent → Extent
further shift e = record { offset = e.offset + shift; len = e.len }

-- the bytes of a table where it is in the collection; a missing one is empty
abbrev pub table_in : List ℕ → Option Extent → List ℕ
table_in bytes place = option_map_or (λ e. take e.len (drop e.offset bytes)) place []

-- a face without a fault: its number, the bytes of the collection, these from the face's directory
-- on, and the font file that it is
pub record IsFace (number : ℕ) (bytes directory file : List ℕ) : Type 0 where
  pub faultless : face_fault number bytes ≡ None
  pub is_directory : directory ≡ directory_of number bytes
  pub is_file : file ≡ face_file number bytes

-- the font file of a face begins as its directory does, and has all of it before the collection
abbrev pub BeginsAsFace : Type 0
BeginsAsFace =
    (number : ℕ) (bytes directory file : List ℕ) → IsFace number bytes directory file
    → (take 12 file ≡ take 12 directory)
    × (record_count file ≡ record_count directory)
    × (length file ≡ directory_length directory + length bytes)

-- each table is in the font file of a face where it is in the collection, after the directory
abbrev pub PlacesTablesOfFace : Type 0
PlacesTablesOfFace =
    (number : ℕ) (bytes directory file : List ℕ) → IsFace number bytes directory file
    → (tag : Tag)
    → extent tag file ≡ option_map (further (directory_length directory)) (extent tag directory)

-- each table of the font file of a face has the bytes that it has in the collection
abbrev pub HasTablesOfFace : Type 0
HasTablesOfFace =
    (number : ℕ) (bytes directory file : List ℕ) → IsFace number bytes directory file
    → (tag : Tag) → table tag file ≡ table_in bytes (extent tag directory)
