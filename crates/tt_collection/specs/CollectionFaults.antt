-- Why a collection, or a face of it, can't be read: the conditions in their order, of which the
-- first that holds is the answer (OpenType specification, "Font Collections"; the order is own).
use Rattle.std.specs.Prelude.{◌≡◌, ◌≢◌, ℕ, ◌+◌, ◌^◌, ◌&&◌, ◌||◌, List, [], ◌∷◌, length, Bool, Option, Some, None, not, alloc_error, Result, MatchResult, nat_le, nat_lt, ◌==◌, if◌then◌else◌}
use Rattle.std.specs.Option.{option_map, option_or}
use Rattle.tt_font.specs.Numbers.{u32_at, first_below}
use Rattle.tt_font.specs.Directory.{record_count, record_place}
use Rattle.tt_collection.specs.declared.fault.CollectionFault.{CollectionFault}
use Rattle.tt_collection.specs.declared.fault.CollectionFault.TheVariants as faults
use Rattle.tt_collection.specs.Headers.{directory_of, face_count, header_length, is_collection, version}
use Rattle.tt_collection.specs.Faces.{directory_length}

-- a condition: its fault where it holds, and none where it doesn't
abbrev pub Condition : Type 0
Condition = Option CollectionFault

-- the condition that a test fails
abbrev pub unless : Bool → CollectionFault → Condition
unless test fault = if test then None else Some fault

-- the first condition that holds
abbrev pub first : List Condition → Condition
first [] = None
first (c ∷ cs) = option_or c (first cs)

-- the answer is Ok exactly if the condition doesn't hold, and otherwise its fault
abbrev pub Tests : {T : Type 0} → Condition → Result T CollectionFault → Type 0
Tests condition answer =
    MatchResult answer (λ _. condition ≡ None) (λ fault. condition ≡ Some fault)

-- the same of a call that takes memory: it may also answer that there is none left
abbrev pub TestsWithMemory : {T : Type 0} → Condition → Result T CollectionFault → Type 0
TestsWithMemory condition answer =
    MatchResult answer (λ _. condition ≡ None)
    (λ fault. fault ≢ faults.OutOfMemory alloc_error → condition ≡ Some fault)

-- memory ran out
abbrev pub IsOutOfMemory : CollectionFault → Type 0
IsOutOfMemory (faults.OutOfMemory error) = Unit {0}
IsOutOfMemory _ = ⊥

-- ---- the header

-- the file has fewer than n bytes
abbrev pub ends_before : ℕ → List ℕ → Condition
ends_before n bytes = unless (nat_le n (length bytes)) faults.HeaderTruncated

-- the file doesn't begin as a collection does, or its version is neither 1.0 nor 2.0
abbrev pub no_collection : List ℕ → Condition
no_collection bytes =
    unless (is_collection bytes && (version bytes == 0x10000 || version bytes == 0x20000))
    faults.NotCollection

-- there is no face
abbrev pub no_face : List ℕ → Condition
no_face bytes = unless (nat_lt 0 (face_count bytes)) faults.NoFace

-- the faults of the header: its fixed part is cut short, it is no header of a collection of version
-- 1.0 or 2.0, it has no face, or it is cut short
unfoldable pub header_fault : List ℕ → Condition
header_fault bytes =
    first (
    ends_before 12 bytes
    ∷ no_collection bytes
    ∷ no_face bytes
    ∷ ends_before (header_length bytes) bytes ∷ [])

-- ---- a face

-- the collection has no face of this number
abbrev pub missing_face : ℕ → List ℕ → Condition
missing_face number bytes =
    unless (nat_lt number (face_count bytes)) (faults.MissingFace number (face_count bytes))

-- the directory is cut short
abbrev pub directory_is_cut : ℕ → List ℕ → Condition
directory_is_cut number directory =
    unless (nat_le (directory_length directory) (length directory)) (faults.DirectoryOutside number)

-- whether the offset of the i-th record fits into 32 bits once it is raised by so many bytes
abbrev pub can_be_moved : ℕ → List ℕ → ℕ → Bool
can_be_moved shift directory i = nat_lt (u32_at (record_place i + 8) directory + shift) (2 ^ 32)

-- the first of these records whose offset doesn't fit
abbrev pub misfit_below : ℕ → List ℕ → ℕ → Option ℕ
misfit_below shift directory count =
    first_below (λ i. not (can_be_moved shift directory i)) count

-- the first record whose offset doesn't fit once the directory is before the collection
abbrev pub first_misfit : List ℕ → Option ℕ
first_misfit directory =
    misfit_below (directory_length directory) directory (record_count directory)

-- the offset of some record doesn't fit: the first such record is named
abbrev pub offset_is_too_large : ℕ → List ℕ → Condition
offset_is_too_large number directory =
    option_map (λ i. faults.OffsetTooLarge number i) (first_misfit directory)

-- the faults of the directory of the face of a number: it is cut short, or an offset doesn't fit
unfoldable pub directory_fault : ℕ → List ℕ → Condition
directory_fault number directory =
    first (directory_is_cut number directory ∷ offset_is_too_large number directory ∷ [])

-- the faults of a face: there is none of this number, or its directory has a fault
unfoldable pub face_fault : ℕ → List ℕ → Condition
face_fault number bytes =
    first (missing_face number bytes ∷ directory_fault number (directory_of number bytes) ∷ [])
