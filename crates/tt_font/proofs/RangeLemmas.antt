-- Each program of a font that was read is a list of fewer than 2^31 bytes.
use Rattle.std.specs.Prelude.{◌==◌, nat_le, if◌then◌else◌, ◌&&◌, ◌-◌, ◌*◌, ◌^◌, slice_get, slice_range}
use Rattle.std.specs.List.{AllByRecursion}
use Rattle.std.specs.Option.{option_map_or}
use Rattle.std.proofs.Common.{◌≡◌, ℕ, zero, suc, ◌+◌, ◌<◌, ◌≤◌, List, [], ◌∷◌, Option, None, Some, Bool, true, false, length, take, drop, get_or, refl, sym, subst, arith}
use Rattle.std.proofs.lemmas.Bool.{leb-true}
use Rattle.std.proofs.lemmas.Option.{get_or_from_slice_get, slice_get_within}
use Rattle.tt_font.proofs.Placed.{and_right}
use Rattle.tt_font.specs.Numbers.{u16_at}
use Rattle.tt_font.specs.Directory.{Extent, extent, table}
use Rattle.tt_font.specs.Conditions.{Condition, first, lies_in, optional_table_fault, unless}
use Rattle.tt_font.specs.declared.tag.Tag.{Tag}
use Rattle.tt_font.specs.declared.tag.Tag.TheVariants.{Fpgm, Glyf, Maxp, Prep}
use Rattle.tt_font.specs.declared.fault.FontFault.{FontFault}
use Rattle.tt_font.specs.declared.fault.FontFault.TheVariants as faults
use Rattle.tt_font.specs.Components.{last_of, components, has_instructions}
use Rattle.tt_font.specs.Glyphs.{contour_count, is_composite, program_at, simple_program, composite_program, program_of}
use Rattle.tt_font.specs.FileFaults.{program_most, table_conditions, tables_fault}
use Rattle.tt_font.specs.Files.{font_glyphs}
use Rattle.tt_font.specs.Locations.{glyph_bytes}
use Rattle.tt_font.specs.Reading.{FontData, GlyphData, Reads, font_around, glyph_at, no_glyph}
use Rattle.tt_code.specs.declared.limits.Limits.{Limits}
use Rattle.tt_font.specs.Ranges.{AreFewBytes, IsFontInRange}

abbrev AreBytes : List ℕ → Type 0
AreBytes bytes = AllByRecursion (λ b. b < 256) bytes

-- lists of bytes

dropped : (n : ℕ) (xs : List ℕ) → AreBytes xs → AreBytes (drop n xs)
dropped zero xs h = h
dropped (suc n) [] h = tt
dropped (suc n) (x ∷ xs) h = dropped n xs h.1

taken : (n : ℕ) (xs : List ℕ) → AreBytes xs → AreBytes (take n xs)
taken zero xs h = tt
taken (suc n) [] h = tt
taken (suc n) (x ∷ xs) h = (h.0, taken n xs h.1)

taken_most : (n : ℕ) (xs : List ℕ) → length (take n xs) ≤ n
taken_most zero xs = omega arith
taken_most (suc n) [] = omega arith
taken_most (suc n) (x ∷ xs) = let h = taken_most n xs in omega arith

byte_at : (k : ℕ) (xs : List ℕ) → AreBytes xs → get_or xs k 0 < 256
byte_at k [] h = omega arith
byte_at zero (x ∷ xs) h = h.0
byte_at (suc k) (x ∷ xs) h = byte_at k xs h.1

pub small_number : (place : ℕ) (xs : List ℕ) → AreBytes xs → u16_at place xs < 2 ^ 16
unfolding u16_at
small_number place xs h =
    let high = byte_at 0 (drop place xs) (dropped place xs h) in
    let low = byte_at 1 (drop place xs) (dropped place xs h) in omega arith

-- a program, if it is there

abbrev HasFewBytes : Option (List ℕ) → Type 0
HasFewBytes None = Unit {0}
HasFewBytes (Some p) = AreFewBytes p

either : (b : Bool) (x y : Option (List ℕ)) → HasFewBytes x → HasFewBytes y → HasFewBytes (if b then x else y)
either true x y h k = h
either false x y h k = k

none_few : HasFewBytes (Some [])
none_few = record { bytes = tt; few = omega arith }

at_few : (place : ℕ) (glyph : List ℕ) → AreBytes glyph → HasFewBytes (program_at place glyph)
unfolding program_at
at_few place glyph h =
    let most = taken_most (place + 2 + u16_at place glyph - (place + 2)) (drop (place + 2) glyph) in
    let small = small_number place glyph h in
    either (nat_le (place + 2 + u16_at place glyph) (length glyph)) (Some (slice_range glyph (place + 2) (place + 2 + u16_at place glyph))) None (record {
      bytes = taken (place + 2 + u16_at place glyph - (place + 2)) (drop (place + 2) glyph) (dropped (place + 2) glyph h);
      few = omega arith;
    }) tt

composite_few : (glyph : List ℕ) → AreBytes glyph → HasFewBytes (composite_program glyph (last_of (components glyph)))
composite_few glyph h =
    elim (last_of (components glyph)) as (λ o. HasFewBytes (composite_program glyph o)) [
      | None ↦ tt
      | Some last ↦ either (has_instructions last.flags) (program_at last.after glyph) (Some []) (at_few last.after glyph h) none_few
    ]

program_few : (glyph : List ℕ) → AreBytes glyph → HasFewBytes (program_of glyph)
unfolding program_of
program_few glyph h =
    either (is_composite glyph) (composite_program glyph (last_of (components glyph))) (if nat_le 10 (length glyph) then simple_program glyph else (if length glyph == 0 then Some [] else None))
    (composite_few glyph h)
    (either (nat_le 10 (length glyph)) (simple_program glyph) (if length glyph == 0 then Some [] else None)
    (either (contour_count glyph == 0 && length glyph == 10) (Some []) (program_at (10 + 2 * contour_count glyph) glyph) none_few (at_few (10 + 2 * contour_count glyph) glyph h))
    (either (length glyph == 0) (Some []) None none_few tt))

-- tables

table_bytes : (tag : Tag) (bytes : List ℕ) → AreBytes bytes → AreBytes (table tag bytes)
unfolding table
table_bytes tag bytes h = go (extent tag bytes)
  where
    go : (o : Option Extent) → AreBytes (option_map_or (λ e. take e.len (drop e.offset bytes)) o [])
    go None = tt
    go (Some e) = taken e.len (drop e.offset bytes) (dropped e.offset bytes h)

glyph_are_bytes : (bytes : List ℕ) (id : ℕ) → AreBytes bytes → AreBytes (font_glyphs bytes id)
unfolding glyph_bytes
glyph_are_bytes bytes id h = taken _ _ (dropped _ _ (table_bytes Glyf bytes h))

is_met : (b : Bool) (f : FontFault) → unless b f ≡ None → b ≡ true
is_met true f e = refl
is_met false f e = absurd (cc)

table_most : (tag : Tag) (most : ℕ) (bytes : List ℕ) → optional_table_fault tag most bytes ≡ None → length (table tag bytes) ≤ most
unfolding optional_table_fault table
table_most tag most bytes e = go (extent tag bytes) (is_met (option_map_or (lies_in bytes 0 most) (extent tag bytes) true) (faults.TableOutside tag) e)
  where
    go : (o : Option Extent) → option_map_or (lies_in bytes 0 most) o true ≡ true → length (option_map_or (λ x. take x.len (drop x.offset bytes)) o []) ≤ most
    go None e = omega arith
    go (Some x) e =
        let fits : nat_le x.len most ≡ true = and_right (nat_le 0 x.len) (nat_le x.len most) (and_right (nat_le (x.offset + x.len) (length bytes)) (nat_le 0 x.len && nat_le x.len most) e) in
        let le = leb-true x.len most fits in let len = taken_most x.len (drop x.offset bytes) in omega arith

-- the conditions that don't hold

none_stands : (cs : List Condition) → first cs ≡ None → (k : ℕ) (c : Condition) → slice_get cs k ≡ Some c → c ≡ None
none_stands [] e k c at = absurd (cc)
none_stands (None ∷ cs) e zero c at = let same : None ≡ c = cc in sym same
none_stands (None ∷ cs) e (suc k) c at = none_stands cs e k c at
none_stands (Some x ∷ cs) e k c at = absurd (cc)

no_table_fault : (bytes : List ℕ) → tables_fault bytes ≡ None → first (table_conditions bytes) ≡ None
unfolding tables_fault
no_table_fault bytes e = e

-- the font

table_few : (tag : Tag) (bytes program : List ℕ) → AreBytes bytes → optional_table_fault tag program_most bytes ≡ None → program ≡ table tag bytes → AreFewBytes program
table_few tag bytes program h fits is =
    let most = table_most tag program_most bytes fits in
    subst AreFewBytes (sym is) (record { bytes = table_bytes tag bytes h; few = omega arith })

pub font_in_range : (bytes : List ℕ) (d : FontData) → AreBytes bytes → tables_fault bytes ≡ None → Reads bytes d → IsFontInRange d
font_in_range bytes d h none reads = record {
  depth = let D : Limits → Type 0 = λ l. l.stack < 2 ^ 16 in subst D (sym reads.limits) (small_number 24 (table Maxp bytes) (table_bytes Maxp bytes h));
  fpgm = table_few Fpgm bytes d.fpgm h (none_stands (table_conditions bytes) (no_table_fault bytes none) 7 (optional_table_fault Fpgm program_most bytes) refl) reads.fpgm;
  prep = table_few Prep bytes d.prep h (none_stands (table_conditions bytes) (no_table_fault bytes none) 8 (optional_table_fault Prep program_most bytes) refl) reads.prep;
  glyphs = λ id g e.
      let there = slice_get_within d.glyphs id g e in
      let is : glyph_at d.glyphs id ≡ g = get_or_from_slice_get d.glyphs id g no_glyph e in
      let glyph = reads.glyphs.each id (let l = reads.glyphs.len in omega arith) in
      let G : GlyphData → Type 0 = λ x. AreFewBytes x.program in
      subst G is (subst HasFewBytes glyph.program (program_few (font_glyphs bytes id) (glyph_are_bytes bytes id h)));
}

pub around_in_range : (limits : Limits) (cvt_count : ℕ) (g : GlyphData) → limits.stack < 2 ^ 16 → AreFewBytes g.program → IsFontInRange (font_around limits cvt_count g)
around_in_range limits cvt_count g depth few = record {
  depth = depth;
  fpgm = record { bytes = tt; few = omega arith };
  prep = record { bytes = tt; few = omega arith };
  glyphs = λ id h at. only_few id h at;
}
  where
    only_few : (id : ℕ) (h : GlyphData) → slice_get (g ∷ []) id ≡ Some h → AreFewBytes h.program
    only_few zero h at = let same : g ≡ h = cc in subst (λ (x : GlyphData). AreFewBytes x.program) same few
    only_few (suc id) h at = absurd cc
