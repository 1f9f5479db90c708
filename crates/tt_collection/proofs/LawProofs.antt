-- The laws of the font file that a face is.
use Rattle.std.specs.Prelude.{◌==◌, ◌^◌}
use Rattle.std.specs.Option.{option_map, option_or}
use Rattle.std.proofs.Common.{◌≡◌, ℕ, zero, suc, ◌+◌, ◌<◌, ◌≤◌, ◌∙◌, List, ◌++◌, length, take, drop, Bool, true, false, Option, None, Some, refl, sym, ap, subst, arith}
use Rattle.std.proofs.lemmas.Bool.{leb-true}
use Rattle.std.proofs.lemmas.List.{drop-drop, drop_at, length-append}
use Rattle.tt_font.specs.declared.tag.Tag.{Tag}
use Rattle.tt_font.specs.Numbers.{first_below, u32_at}
use Rattle.tt_font.specs.Tags.{tag_number}
use Rattle.tt_font.specs.Directory.{Extent, extent, extent_of, first_record, record_count, record_place, table}
use Rattle.tt_font.specs.Laws.{IsLeastBelow}
use Rattle.tt_font.proofs.LawProofs.{finds_least}
use Rattle.tt_collection.specs.declared.fault.CollectionFault.{CollectionFault}
use Rattle.tt_collection.specs.Headers.{directory_of}
use Rattle.tt_collection.specs.Faces.{directory_length, moved_directory, unpacked}
use Rattle.tt_collection.specs.CollectionFaults.{Condition, directory_fault, face_fault, first_misfit, unless}
use Rattle.tt_collection.specs.Laws.{BeginsAsFace, HasTablesOfFace, PlacesTablesOfFace, further, table_in}
use Rattle.tt_collection.proofs.Records.{count_in_front, in_record, moved_at, moved_front, moved_length, moved_offset, moved_size, moved_tag, offset_fits}

-- ---- a directory without a fault

-- the directory is whole, and its offsets can be moved
pub record IsFaultless (d : List ℕ) : Type 0 where
  pub whole : directory_length d ≤ length d
  pub movable : first_misfit d ≡ None

second_none : (a b : Condition) → option_or a (option_or b None) ≡ None → b ≡ None
second_none None None e = refl
second_none None (Some x) e = absurd (cc)
second_none (Some x) b e = absurd (cc)

first_is_none : (a b : Condition) → option_or a b ≡ None → a ≡ None
first_is_none None b e = refl
first_is_none (Some x) b e = absurd (cc)

is_met : (b : Bool) (f : CollectionFault) → unless b f ≡ None → b ≡ true
is_met true f e = refl
is_met false f e = absurd (cc)

none_mapped : (f : ℕ → CollectionFault) (o : Option ℕ) → option_map f o ≡ None → o ≡ None
none_mapped f None e = refl
none_mapped f (Some i) e = absurd (cc)

directory_faultless : (number : ℕ) (d : List ℕ) → directory_fault number d ≡ None → IsFaultless d
unfolding directory_fault
directory_faultless number d e = record {
  whole = leb-true _ _ (is_met _ _ (first_is_none _ _ e));
  movable = none_mapped _ (first_misfit d) (second_none _ _ e);
}

faultless : (number : ℕ) (bytes : List ℕ) → face_fault number bytes ≡ None → IsFaultless (directory_of number bytes)
unfolding face_fault
faultless number bytes e = directory_faultless number (directory_of number bytes) (second_none _ _ e)

-- ---- the font file of a directory and the bytes of a collection

front : (d bytes : List ℕ) → IsFaultless d → take 12 (unpacked d bytes) ≡ take 12 d
unfolding unpacked
front d bytes is = moved_front (directory_length d) d (record_count d) bytes is.whole

len : (d bytes : List ℕ) → IsFaultless d → length (unpacked d bytes) ≡ directory_length d + length bytes
unfolding unpacked
len d bytes is =
    length-append (moved_directory (directory_length d) d (record_count d)) bytes
    ∙ ap (λ n. n + length bytes) (moved_length (directory_length d) d (record_count d) is.whole)

count : (d bytes : List ℕ) → IsFaultless d → record_count (unpacked d bytes) ≡ record_count d
count d bytes is = count_in_front (unpacked d bytes) d (front d bytes is)

-- the three numbers of a record
record Fields (d bytes : List ℕ) (i : ℕ) : Type 0 where
  tag : u32_at (record_place i) (unpacked d bytes) ≡ u32_at (record_place i) d
  offset : u32_at (record_place i + 8) (unpacked d bytes) ≡ u32_at (record_place i + 8) d + directory_length d
  size : u32_at (record_place i + 12) (unpacked d bytes) ≡ u32_at (record_place i + 12) d

fields : (d bytes : List ℕ) → IsFaultless d → (i : ℕ) → i < record_count d → Fields d bytes i
unfolding unpacked
fields d bytes is i lt =
    let shift = directory_length d in
    let whole : record_place (record_count d) ≤ length d = is.whole in
    let there : record_place i + 16 ≤ length d = omega arith in
    let at = moved_at shift d (record_count d) i bytes is.whole lt in
    let fits : u32_at (record_place i + 8) d + shift < 2 ^ 32 =
    subst (λ x. x + shift < 2 ^ 32) (in_record 8 (record_place i) d) (offset_fits d i is.movable lt) in
    record {
      tag = moved_tag shift d i _ there at;
      offset = moved_offset shift d i _ there at fits;
      size = moved_size shift d i _ there at;
    }

same_first : (f g : ℕ → Bool) (n : ℕ) → ((i : ℕ) → i < n → f i ≡ g i) → first_below f n ≡ first_below g n
unfolding first_below
same_first f g zero h = refl
same_first f g (suc n) h = rw (same_first f g n (λ i lt. h i (omega arith)), h n (omega arith)) refl

below : (f : ℕ → Bool) (n i : ℕ) → first_below f n ≡ Some i → i < n
below f n i e = (subst (IsLeastBelow f n) e (finds_least f n)).0

record_found : (tag : Tag) (d bytes : List ℕ) → IsFaultless d
    → first_record (tag_number tag) (unpacked d bytes) (record_count d) ≡ first_record (tag_number tag) d (record_count d)
record_found tag d bytes is =
    same_first _ _ (record_count d) (λ i lt. ap (λ x. x == tag_number tag) (fields d bytes is i lt).tag)

placed : (d bytes : List ℕ) → IsFaultless d → (o : Option ℕ) → ((i : ℕ) → o ≡ Some i → i < record_count d)
    → option_map (extent_of (unpacked d bytes)) o ≡ option_map (further (directory_length d)) (option_map (extent_of d) o)
placed d bytes is None h = refl
placed d bytes is (Some i) h =
    let at = fields d bytes is i (h i refl) in
    let E : ℕ → ℕ → Option Extent = λ a b. Some (record { offset = a; len = b }) in
    ap (λ a. E a (u32_at (record_place i + 12) (unpacked d bytes))) at.offset
    ∙ ap (E (u32_at (record_place i + 8) d + directory_length d)) at.size

places : (tag : Tag) (d bytes : List ℕ) → IsFaultless d
    → extent tag (unpacked d bytes) ≡ option_map (further (directory_length d)) (extent tag d)
unfolding extent
places tag d bytes is =
    ap (λ n. option_map (extent_of (unpacked d bytes)) (first_record (tag_number tag) (unpacked d bytes) n)) (count d bytes is)
    ∙ ap (option_map (extent_of (unpacked d bytes))) (record_found tag d bytes is)
    ∙ placed d bytes is (first_record (tag_number tag) d (record_count d)) (λ i e. below _ (record_count d) i e)

after_directory : (d bytes : List ℕ) (k : ℕ) → IsFaultless d → drop (k + directory_length d) (unpacked d bytes) ≡ drop k bytes
unfolding unpacked
after_directory d bytes k is =
    let moved = moved_directory (directory_length d) d (record_count d) in
    let e : k + directory_length d ≡ directory_length d + k = omega arith in
    ap (λ n. drop n (moved ++ bytes)) e ∙ sym (drop-drop k (directory_length d) (moved ++ bytes))
    ∙ ap (drop k) (drop_at moved bytes (directory_length d) (moved_length (directory_length d) d (record_count d) is.whole))

same_table : (d bytes : List ℕ) → IsFaultless d → (o : Option Extent)
    → table_in (unpacked d bytes) (option_map (further (directory_length d)) o) ≡ table_in bytes o
same_table d bytes is None = refl
same_table d bytes is (Some e) = ap (take e.len) (after_directory d bytes e.offset is)

tables : (tag : Tag) (d bytes : List ℕ) → IsFaultless d → table tag (unpacked d bytes) ≡ table_in bytes (extent tag d)
unfolding table
tables tag d bytes is =
    ap (table_in (unpacked d bytes)) (places tag d bytes is) ∙ same_table d bytes is (extent tag d)

-- ---- the laws

pub begins_as_face : BeginsAsFace
begins_as_face number bytes directory file face =
    let is : IsFaultless directory = subst IsFaultless (sym face.is_directory) (faultless number bytes face.faultless) in
    let same : file ≡ unpacked directory bytes = face.is_file ∙ ap (λ d. unpacked d bytes) (sym face.is_directory) in
    (ap (take 12) same ∙ front directory bytes is, ap record_count same ∙ count directory bytes is, ap length same ∙ len directory bytes is)

pub places_tables : PlacesTablesOfFace
places_tables number bytes directory file face tag =
    let is : IsFaultless directory = subst IsFaultless (sym face.is_directory) (faultless number bytes face.faultless) in
    let same : file ≡ unpacked directory bytes = face.is_file ∙ ap (λ d. unpacked d bytes) (sym face.is_directory) in
    ap (extent tag) same ∙ places tag directory bytes is

pub has_tables : HasTablesOfFace
has_tables number bytes directory file face tag =
    let is : IsFaultless directory = subst IsFaultless (sym face.is_directory) (faultless number bytes face.faultless) in
    let same : file ≡ unpacked directory bytes = face.is_file ∙ ap (λ d. unpacked d bytes) (sym face.is_directory) in
    ap (table tag) same ∙ tables tag directory bytes is
