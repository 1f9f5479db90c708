-- The font file on which a call is asked, by the bytes that are handed in and the number of a face.
-- (Own: that bytes which are no collection have one face.)
use Rattle.std.specs.Prelude.{ℕ, List, [], ◌∷◌, ◌==◌, if◌then◌else◌}
use Rattle.tt_collection.specs.CollectionFaults.{Condition, face_fault, first, header_fault, unless}
use Rattle.tt_collection.specs.Faces.{face_file}
use Rattle.tt_collection.specs.Headers.{is_collection}
use Rattle.tt_collection.specs.declared.fault.CollectionFault.TheVariants.{MissingFace}
use Rattle.hintcheck_c.specs.declared.font_file.FontFile.{FontFile}
use Rattle.hintcheck_c.specs.declared.font_file.FontFile.TheVariants.{Alone, Face}

-- the bytes of a font file that is read
abbrev pub bytes_in : FontFile → List ℕ
bytes_in (Alone bytes) = bytes.now
bytes_in (Face bytes) = bytes.items

-- the font file: the face of this number where the bytes are a collection, otherwise the bytes
abbrev pub font_file : ℕ → List ℕ → List ℕ
font_file face bytes = if is_collection bytes then face_file face bytes else bytes

-- why there is no such font file: the faults of the collection's header and of the face, or another
-- face than 0 is asked for of bytes that are no collection
abbrev pub file_fault : ℕ → List ℕ → Condition
file_fault face bytes =
    if is_collection bytes then first (header_fault bytes ∷ face_fault face bytes ∷ [])
    else unless (face == 0) (MissingFace face 1)
