-- The records of a directory, and those of the directory in which they are moved.
use Rattle.std.specs.Option.{SomeIff}
use Rattle.std.specs.Prelude.{is_some, nat_lt, not, ◌^◌}
use Rattle.std.proofs.Common.{◌≡◌, ℕ, zero, suc, ◌+◌, ◌*◌, ◌-◌, ◌<◌, ◌≤◌, ◌∙◌, List, ◌++◌, length, take, drop, Bool, true, false, Option, None, Some, refl, sym, ap, arith, inl, inr, append_assoc}
use Rattle.std.proofs.lemmas.Bool.{cases_eq, cases_lt, le-ltb, lt-ltb, ltb-true}
use Rattle.std.proofs.lemmas.List.{drop-drop, drop-take, drop_at, length-append, length-drop, length-take-le, take_at, take_rest}
use Rattle.byteorder.specs.Endian.{big_bytes, big_number}
use Rattle.byteorder.specs.Numbers.{big_from-append, big_from-take, big_number-reads_back, length-bytes_high_first}
use Rattle.tt_font.specs.Numbers.{u16_at, u32_at}
use Rattle.tt_font.specs.Directory.{record_count, record_place}
use Rattle.tt_font.proofs.FirstBelow.{first_none}
use Rattle.tt_collection.specs.Faces.{directory_length, moved_directory, moved_record}
use Rattle.tt_collection.specs.CollectionFaults.{can_be_moved, first_misfit}

-- ---- the moved directory, record by record

pub moved_none : (shift : ℕ) (d : List ℕ) → moved_directory shift d 0 ≡ take 12 d
unfolding moved_directory
moved_none shift d = refl

pub moved_more : (shift : ℕ) (d : List ℕ) (i : ℕ)
    → moved_directory shift d (i + 1) ≡ moved_directory shift d i ++ moved_record shift (drop (record_place i) d)
unfolding moved_directory
moved_more shift d i = let e : i + 1 ≡ suc i = omega arith in rw e refl

-- one more record, which is read from the rest of the directory
pub one_more : (shift : ℕ) (d : List ℕ) (i j : ℕ) (items new : List ℕ) → j ≡ i → items ≡ moved_directory shift d i
    → new ≡ items ++ moved_record shift (take (length d - (12 + 16 * j)) (drop (12 + 16 * j) d))
    → new ≡ moved_directory shift d (i + 1)
one_more shift d i j items new same before pushed =
    let R : ℕ → List ℕ = λ k. moved_record shift (take (length d - (12 + 16 * k)) (drop (12 + 16 * k) d)) in
    pushed ∙ ap (λ xs. xs ++ R j) before
    ∙ ap (λ k. moved_directory shift d i ++ R k) same
    ∙ ap (λ xs. moved_directory shift d i ++ moved_record shift xs) (take_rest d (12 + 16 * i))
    ∙ sym (moved_more shift d i)

-- ---- an offset that can be moved

-- a sum that has no room doesn't fit, and one that has room does
pub misfits : (x shift v : ℕ) (o : Option ℕ) → SomeIff o (x + shift < 2 ^ 32) v → is_some o ≡ false → not (nat_lt (x + shift) (2 ^ 32)) ≡ true
misfits x shift v None h e = ap not (le-ltb (x + shift) (2 ^ 32) (not_below (x + shift) (2 ^ 32) h))
  where
    not_below : (a b : ℕ) → (a < b → ⊥) → b ≤ a
    not_below a b h = elim (cases_lt a b) [ inl lt ↦ absurd (h lt) | inr le ↦ le ]
misfits x shift v (Some y) h e = absurd (cc)

pub fits : (x shift v : ℕ) (o : Option ℕ) → SomeIff o (x + shift < 2 ^ 32) v → is_some o ≡ true → not (nat_lt (x + shift) (2 ^ 32)) ≡ false
fits x shift v None h e = absurd (cc)
fits x shift v (Some y) h e = ap not (lt-ltb (x + shift) (2 ^ 32) h.0)

passes : (b : Bool) → not b ≡ false → b ≡ true
passes true e = refl
passes false e = absurd (cc)

-- a number in a record, by its place in the directory
pub in_record : (k p : ℕ) (d : List ℕ) → u32_at k (drop p d) ≡ u32_at (p + k) d
unfolding u32_at
in_record k p d = ap (big_number 4) (drop-drop k p d)

-- without a misfit each offset fits
pub offset_fits : (d : List ℕ) (i : ℕ) → first_misfit d ≡ None → i < record_count d
    → u32_at 8 (drop (record_place i) d) + directory_length d < 2 ^ 32
offset_fits d i none lt =
    let fits = ltb-true _ _ (passes _ (first_none (λ k. not (can_be_moved (directory_length d) d k)) (record_count d) none i lt)) in
    let same = in_record 8 (record_place i) d in omega arith

-- the same of a record that is read from the rest of the directory
pub rest_fits : (d : List ℕ) (i j shift : ℕ) → first_misfit d ≡ None → j ≡ i → shift ≡ directory_length d → i < record_count d
    → u32_at 8 (take (length d - (12 + 16 * j)) (drop (12 + 16 * j) d)) + shift < 2 ^ 32
rest_fits d i j shift none same is lt =
    let R : ℕ → ℕ = λ k. u32_at 8 (take (length d - (12 + 16 * k)) (drop (12 + 16 * k) d)) in
    let at : R j ≡ u32_at 8 (drop (record_place i) d) = ap R same ∙ ap (u32_at 8) (take_rest d (12 + 16 * i)) in
    let fit = offset_fits d i none lt in omega arith

-- ---- lengths

record_length : (shift : ℕ) (r : List ℕ) → 16 ≤ length r → length (moved_record shift r) ≡ 16
record_length shift r h =
    let front : length (take 8 r) ≡ 8 = length-take-le 8 r (omega arith) in
    let left = length-drop 12 r in
    let back : length (take 4 (drop 12 r)) ≡ 4 = length-take-le 4 (drop 12 r) (omega arith) in
    let offset = length-bytes_high_first 4 (u32_at 8 r + shift) in
    let inner = length-append (big_bytes 4 (u32_at 8 r + shift)) (take 4 (drop 12 r)) in
    let outer = length-append (take 8 r) (big_bytes 4 (u32_at 8 r + shift) ++ take 4 (drop 12 r)) in
    omega arith

pub moved_length : (shift : ℕ) (d : List ℕ) (n : ℕ) → record_place n ≤ length d
    → length (moved_directory shift d n) ≡ record_place n
unfolding moved_directory
moved_length shift d zero h = length-take-le 12 d (omega arith)
moved_length shift d (suc n) h =
    let before = moved_length shift d n (omega arith) in
    let left = length-drop (record_place n) d in
    let last = record_length shift (drop (record_place n) d) (omega arith) in
    let both = length-append (moved_directory shift d n) (moved_record shift (drop (record_place n) d)) in
    omega arith

-- ---- a record of the moved directory

-- at the place of a record is the record, moved, and something follows
pub record IsMovedAt (shift : ℕ) (d : List ℕ) (i : ℕ) (file : List ℕ) : Type 0 where
  pub rest : List ℕ
  pub same : drop (record_place i) file ≡ moved_record shift (drop (record_place i) d) ++ rest

pub moved_at : (shift : ℕ) (d : List ℕ) (n i : ℕ) (ys : List ℕ) → record_place n ≤ length d → i < n
    → IsMovedAt shift d i (moved_directory shift d n ++ ys)
unfolding moved_directory
moved_at shift d zero i ys h lt = absurd (omega arith)
moved_at shift d (suc n) i ys h lt =
    let r = moved_record shift (drop (record_place n) d) in
    let assoc : (moved_directory shift d n ++ r) ++ ys ≡ moved_directory shift d n ++ (r ++ ys) = append_assoc (moved_directory shift d n) r ys in
    elim (cases_eq i n) [
      | inl same ↦ record {
        rest = ys;
        same = ap (drop (record_place i)) assoc
            ∙ ap (λ k. drop (record_place k) (moved_directory shift d n ++ (r ++ ys))) same
            ∙ drop_at (moved_directory shift d n) (r ++ ys) (record_place n) (moved_length shift d n (omega arith))
            ∙ ap (λ k. moved_record shift (drop (record_place k) d) ++ ys) (sym same);
      }
      | inr other ↦ (let there = moved_at shift d n i (r ++ ys) (omega arith) (omega arith) in
          record { rest = there.rest; same = ap (drop (record_place i)) assoc ∙ there.same })
    ]

-- its tag
pub moved_tag : (shift : ℕ) (d : List ℕ) (i : ℕ) (file : List ℕ) → record_place i + 16 ≤ length d → IsMovedAt shift d i file
    → u32_at (record_place i) file ≡ u32_at (record_place i) d
unfolding u32_at
moved_tag shift d i file h at =
    let r = drop (record_place i) d in
    let left = length-drop (record_place i) d in
    let whole = record_length shift r (omega arith) in
    let front : length (take 8 r) ≡ 8 = length-take-le 8 r (omega arith) in
    ap (big_number 4) at.same
    ∙ big_from-append 4 (moved_record shift r) at.rest (omega arith)
    ∙ big_from-append 4 (take 8 r) _ (omega arith)
    ∙ big_from-take 0 4 8 r (omega arith)

read_written : (k : ℕ) (xs : List ℕ) (x : ℕ) (ys : List ℕ) → length xs ≡ k → x < 2 ^ 32 → u32_at k (xs ++ (big_bytes 4 x ++ ys)) ≡ x
unfolding u32_at
read_written k xs x ys len lt = ap (big_number 4) (drop_at xs (big_bytes 4 x ++ ys) k len) ∙ big_number-reads_back 4 x ys lt

-- its offset
pub moved_offset : (shift : ℕ) (d : List ℕ) (i : ℕ) (file : List ℕ) → record_place i + 16 ≤ length d → IsMovedAt shift d i file
    → u32_at (record_place i + 8) d + shift < 2 ^ 32 → u32_at (record_place i + 8) file ≡ u32_at (record_place i + 8) d + shift
moved_offset shift d i file h at fits =
    let r = drop (record_place i) d in
    let left = length-drop (record_place i) d in
    let front : length (take 8 r) ≡ 8 = length-take-le 8 r (omega arith) in
    let number = u32_at 8 r + shift in
    let tail = take 4 (drop 12 r) in
    let same : number ≡ u32_at (record_place i + 8) d + shift = ap (λ x. x + shift) (in_record 8 (record_place i) d) in
    let joined : (take 8 r ++ (big_bytes 4 number ++ tail)) ++ at.rest ≡ take 8 r ++ (big_bytes 4 number ++ (tail ++ at.rest)) = simp append_assoc in
    sym (in_record 8 (record_place i) file) ∙ ap (u32_at 8) (at.same ∙ joined)
    ∙ read_written 8 (take 8 r) number (tail ++ at.rest) front (omega arith) ∙ same

read_copied : (k : ℕ) (xs ys zs : List ℕ) → length xs ≡ k → 4 ≤ length ys → u32_at k (xs ++ (take 4 ys ++ zs)) ≡ big_number 4 ys
unfolding u32_at
read_copied k xs ys zs len four =
    let there : length (take 4 ys) ≡ 4 = length-take-le 4 ys four in
    ap (big_number 4) (drop_at xs (take 4 ys ++ zs) k len) ∙ big_from-append 4 (take 4 ys) zs (omega arith) ∙ big_from-take 0 4 4 ys (omega arith)

number_at : (k : ℕ) (ys : List ℕ) → big_number 4 (drop k ys) ≡ u32_at k ys
unfolding u32_at
number_at k ys = refl

-- its length
pub moved_size : (shift : ℕ) (d : List ℕ) (i : ℕ) (file : List ℕ) → record_place i + 16 ≤ length d → IsMovedAt shift d i file
    → u32_at (record_place i + 12) file ≡ u32_at (record_place i + 12) d
moved_size shift d i file h at =
    let r = drop (record_place i) d in
    let left = length-drop (record_place i) d in
    let front : length (take 8 r) ≡ 8 = length-take-le 8 r (omega arith) in
    let bytes = big_bytes 4 (u32_at 8 r + shift) in
    let four : length bytes ≡ 4 = length-bytes_high_first 4 (u32_at 8 r + shift) in
    let len : length (take 8 r ++ bytes) ≡ 12 = length-append (take 8 r) bytes ∙ (omega arith) in
    let joined : (take 8 r ++ (bytes ++ take 4 (drop 12 r))) ++ at.rest ≡ (take 8 r ++ bytes) ++ (take 4 (drop 12 r) ++ at.rest) = simp append_assoc in
    let more = length-drop 12 r in
    sym (in_record 12 (record_place i) file) ∙ ap (u32_at 12) (at.same ∙ joined)
    ∙ read_copied 12 (take 8 r ++ bytes) (drop 12 r) at.rest len (omega arith)
    ∙ number_at 12 r ∙ in_record 12 (record_place i) d

-- ---- the bytes before the records

front : (zs : List ℕ) → big_number 2 (drop 4 (take 12 zs)) ≡ big_number 2 (drop 4 zs)
front zs = ap (big_number 2) (drop-take 4 8 zs) ∙ big_from-take 0 2 8 (drop 4 zs) (omega arith)

-- the number of records is read of the first 12 bytes
pub count_in_front : (xs ys : List ℕ) → take 12 xs ≡ take 12 ys → record_count xs ≡ record_count ys
unfolding u16_at
count_in_front xs ys same =
    sym (front xs) ∙ ap (λ zs. big_number 2 (drop 4 zs)) same ∙ front ys

-- the moved directory begins as the directory does
pub moved_front : (shift : ℕ) (d : List ℕ) (n : ℕ) (ys : List ℕ) → record_place n ≤ length d
    → take 12 (moved_directory shift d n ++ ys) ≡ take 12 d
unfolding moved_directory
moved_front shift d zero ys h = take_at (take 12 d) ys 12 (length-take-le 12 d (omega arith))
moved_front shift d (suc n) ys h =
    ap (take 12) (append_assoc (moved_directory shift d n) _ ys) ∙ moved_front shift d n _ (omega arith)
