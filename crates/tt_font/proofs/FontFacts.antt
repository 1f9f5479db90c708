-- What holds of a font file that is read without a fault.
use Rattle.std.proofs.Common.{◌≡◌, ℕ, ◌+◌, ◌-◌, ◌*◌, ◌<◌, ◌≤◌, List, [], ◌∷◌, length, take, drop, Bool, true, false, nat_lt, Option, Some, None, refl, arith, length-drop}
use Rattle.std.specs.Prelude.{nat_le, ◌||◌, is_some}
use Rattle.std.specs.Option.{option_map, option_map_or}
use Rattle.std.proofs.lemmas.Bool.{leb-true, ltb-true}
use Rattle.std.proofs.lemmas.List.{length-take-le}
use Rattle.tt_font.specs.declared.fault.FontFault.{FontFault}
use Rattle.tt_font.specs.declared.fault.FontFault.TheVariants as faults
use Rattle.tt_font.specs.declared.tag.Tag.{Tag}
use Rattle.tt_font.specs.declared.tag.Tag.TheVariants.{Glyf, Head, Loca, Maxp}
use Rattle.tt_font.specs.Conditions.{Condition, first, unless, ends_before, no_sfnt, directory_fault, lies_in, missing, outside, table_fault, maxp_is_short, no_maxp_version, maxp_fault, unknown_format, loca_fault, misplaced_entry, glyph_fault, composite_fault, glyphs_fault, refused_glyph}
use Rattle.tt_font.specs.Directory.{Extent, extent, record_count, table}
use Rattle.tt_font.specs.FileFaults.{font_fault, table_conditions, tables_fault}
use Rattle.tt_font.specs.Files.{font_glyph_count, font_glyphs, font_outlines}
use Rattle.tt_font.specs.Locations.{entry_fits, loca_format}
use Rattle.tt_font.specs.Outlines.{Outline, leads_out, refused, starts_chain}
use Rattle.tt_font.proofs.FirstBelow.{first_none}
use Rattle.tt_font.proofs.Placed.{all_placed, and_left, and_right}

-- none of some conditions holds
abbrev NoneHolds : List Condition → Type 0
NoneHolds [] = Unit {0}
NoneHolds (c ∷ cs) = (c ≡ None) × NoneHolds cs

none_holds : (cs : List Condition) → first cs ≡ None → NoneHolds cs
none_holds [] e = tt
none_holds (None ∷ cs) e = (refl, none_holds cs e)
none_holds (Some fault ∷ cs) e = absurd (cc)

test_passes : (test : Bool) (fault : FontFault) → unless test fault ≡ None → test ≡ true
test_passes true fault e = refl
test_passes false fault e = absurd (cc)

none_found : {X : Type 0} → (f : X → FontFault) (o : Option X) → option_map f o ≡ None → o ≡ None
none_found f None e = refl
none_found f (Some x) e = absurd (cc)

or_left : (a b : Bool) → (a || b) ≡ false → a ≡ false
or_left true b e = cc
or_left false b e = refl

or_right : (a b : Bool) → (a || b) ≡ false → b ≡ false
or_right true b e = cc
or_right false b e = e

-- the directory
whole_directory : (bytes : List ℕ) → directory_fault bytes ≡ None → 12 + 16 * record_count bytes ≤ length bytes
unfolding directory_fault
whole_directory bytes e =
    let none = none_holds (ends_before 12 bytes ∷ no_sfnt bytes ∷ ends_before (12 + 16 * record_count bytes) bytes ∷ []) e in
    leb-true _ _ (test_passes (nat_le (12 + 16 * record_count bytes) (length bytes)) faults.DirectoryTruncated none.1.1.0)

-- a table
long_part : (bytes : List ℕ) (least most : ℕ) (o : Option Extent) → is_some o ≡ true → option_map_or (lies_in bytes least most) o true ≡ true
    → least ≤ length (option_map_or (λ e. take e.len (drop e.offset bytes)) o [])
long_part bytes least most None some lies = absurd (cc)
long_part bytes least most (Some e) some lies =
    let within : e.offset + e.len ≤ length bytes = leb-true _ _ (and_left (nat_le (e.offset + e.len) (length bytes)) _ lies) in
    let long : least ≤ e.len = leb-true _ _ (and_left (nat_le least e.len) _ (and_right (nat_le (e.offset + e.len) (length bytes)) _ lies)) in
    let rest : length (drop e.offset bytes) ≡ length bytes - e.offset = length-drop e.offset bytes in
    let same : length (take e.len (drop e.offset bytes)) ≡ e.len = length-take-le e.len (drop e.offset bytes) (omega arith) in
    omega arith

long_table : (tag : Tag) (least : ℕ) (bytes : List ℕ) → table_fault tag least bytes ≡ None → least ≤ length (table tag bytes)
unfolding table_fault table
long_table tag least bytes e =
    let none = none_holds (missing tag bytes ∷ outside tag least 0xFFFF_FFFF bytes ∷ []) e in
    long_part bytes least 0xFFFF_FFFF (extent tag bytes) (test_passes (is_some (extent tag bytes)) (faults.MissingTable tag) none.0)
    (test_passes (option_map_or (lies_in bytes least 0xFFFF_FFFF) (extent tag bytes) true) (faults.TableOutside tag) none.1.0)

long_maxp : (maxp : List ℕ) → maxp_fault maxp ≡ None → 32 ≤ length maxp
unfolding maxp_fault
long_maxp maxp e =
    let none = none_holds (maxp_is_short 4 maxp ∷ no_maxp_version maxp ∷ maxp_is_short 32 maxp ∷ []) e in
    leb-true _ _ (test_passes (nat_le 32 (length maxp)) (faults.TableOutside Maxp) none.1.1.0)

-- the entries of `loca`
record IsPlaced (format : ℕ) (loca glyf : List ℕ) (count : ℕ) : Type 0 where
  known : format < 2
  placed : (i : ℕ) → i ≤ count → entry_fits format loca glyf i ≡ true

is_placed : (format : ℕ) (loca glyf : List ℕ) (count : ℕ) → loca_fault format loca glyf count ≡ None → IsPlaced format loca glyf count
unfolding loca_fault
is_placed format loca glyf count e =
    let none = none_holds (unknown_format format ∷ option_map (λ i. faults.Loca i) (misplaced_entry format loca glyf (count + 1)) ∷ []) e in
    let all : misplaced_entry format loca glyf (count + 1) ≡ None = none_found (λ i. faults.Loca i) _ none.1.0 in
    record {
      known = ltb-true _ _ (test_passes (nat_lt format 2) (faults.Loca 0) none.0);
      placed = λ i le. all_placed format loca glyf (count + 1) all i (omega arith);
    }

-- the chains of components
no_long_chain : (count : ℕ) (outlines : ℕ → Outline) (id : ℕ) → refused count outlines id ≡ false → starts_chain outlines 17 id ≡ false
unfolding refused
no_long_chain count outlines id e = or_left (starts_chain outlines 17 id) _ (or_right (leads_out count outlines 16 id) _ e)

no_way_out : (count : ℕ) (outlines : ℕ → Outline) (id : ℕ) → refused count outlines id ≡ false → leads_out count outlines 16 id ≡ false
unfolding refused
no_way_out count outlines id e = or_left (leads_out count outlines 16 id) _ e

-- what holds of the chains from each glyph
record IsSound (count : ℕ) (outlines : ℕ → Outline) (id : ℕ) : Type 0 where
  out : leads_out count outlines 16 id ≡ false
  short : starts_chain outlines 17 id ≡ false

sound_chains : (count : ℕ) (glyphs : ℕ → List ℕ) (outlines : ℕ → Outline) → glyphs_fault count glyphs outlines ≡ None
    → (id : ℕ) → id < count → IsSound count outlines id
unfolding glyphs_fault refused_glyph
sound_chains count glyphs outlines e id lt =
    let none = none_holds (glyph_fault count glyphs ∷ composite_fault count outlines ∷ []) e in
    let accepted : refused count outlines id ≡ false = first_none (refused count outlines) count (none_found (λ id. faults.Composite id) _ none.1.0) id lt in
    record { out = no_way_out count outlines id accepted; short = no_long_chain count outlines id accepted }

-- all of this of a file
pub record IsFont (bytes : List ℕ) : Type 0 where
  pub directory : 12 + 16 * record_count bytes ≤ length bytes
  pub maxp : 32 ≤ length (table Maxp bytes)
  pub head : 54 ≤ length (table Head bytes)
  pub known : loca_format (table Head bytes) < 2
  pub placed : (i : ℕ) → i ≤ font_glyph_count bytes → entry_fits (loca_format (table Head bytes)) (table Loca bytes) (table Glyf bytes) i ≡ true
  pub out : (id : ℕ) → id < font_glyph_count bytes → leads_out (font_glyph_count bytes) (font_outlines bytes) 16 id ≡ false
  pub short : (id : ℕ) → id < font_glyph_count bytes → starts_chain (font_outlines bytes) 17 id ≡ false

pub is_font : (bytes : List ℕ) → font_fault bytes ≡ None → IsFont bytes
unfolding font_fault tables_fault
is_font bytes e =
    let both = none_holds (tables_fault bytes ∷ glyphs_fault (font_glyph_count bytes) (font_glyphs bytes) (font_outlines bytes) ∷ []) e in
    let none = none_holds (table_conditions bytes) both.0 in
    let entries = is_placed (loca_format (table Head bytes)) (table Loca bytes) (table Glyf bytes) (font_glyph_count bytes) none.1.1.1.1.1.1.1.1.1.0 in
    let sound = sound_chains (font_glyph_count bytes) (font_glyphs bytes) (font_outlines bytes) both.1.0 in
    record {
      directory = whole_directory bytes none.0;
      maxp = long_maxp (table Maxp bytes) none.1.1.0;
      head = long_table Head 54 bytes none.1.1.1.0;
      known = entries.known;
      placed = entries.placed;
      out = λ id lt. (sound id lt).out;
      short = λ id lt. (sound id lt).short;
    }
