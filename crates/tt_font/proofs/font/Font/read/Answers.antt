use Rattle.std.proofs.Common.{◌≡◌, subst, ℕ, List, map, arith}
use Rattle.std.proofs.lemmas.List.{length-map}
use Rattle.std.proofs.lemmas.Result.{err_from_is_err_and}
use Rattle.tt_code.proofs.ByteLemmas.{bytes_fit}
use Rattle.tt_font.specs.declared.glyph_part.GlyphPart.{GlyphPart}
use Rattle.tt_font.specs.declared.glyph_table.GlyphTable.{GlyphTable}
use Rattle.tt_font.specs.declared.tag.Tag.TheVariants.{Glyf, Head, Loca}
use Rattle.tt_font.specs.Directory.{table}
use Rattle.tt_font.specs.Locations.{loca_format}
use Rattle.tt_font.specs.Representation.GlyphParts.{AreRead}
use Rattle.tt_font.specs.PlacedGlyphs.{glyphs_of}
use Rattle.tt_font.specs.Outlines.{outlines_of}
use Rattle.tt_font.specs.Reading.{glyph_data, ReadsGlyphs}
use Rattle.tt_font.specs.Files.{font_glyph_count, font_glyphs, font_outlines}
use Rattle.tt_font.proofs.ReadGlyphs.{room_for_all, same_glyphs}
use Rattle.tt_font.proofs.MemoryLemmas.{tables_never}
use Rattle.tt_font.proofs.RangeLemmas.{font_in_range}
use Rattle.tt_font.proofs.font.Font.read.Goals as goal

pub read_glyphs-requires : goal.read_glyphs-requires
read_glyphs-requires c =
    let glyphs = c.in_ok-tables.tables.glyphs in
    let few = room_for_all glyphs.format glyphs.loca.now glyphs.glyf.now glyphs.count glyphs.small c.in_ok-tables.ensures.few_glyphs in
    let none = c.new-reader.ensures in
    record { room = omega arith }

-- the glyphs of the tables are those of the file
in_file : (bytes : List ℕ) (glyphs : GlyphTable) (parts : List GlyphPart) → glyphs.count ≡ font_glyph_count bytes → glyphs.format ≡ loca_format (table Head bytes)
    → glyphs.loca.now ≡ table Loca bytes → glyphs.glyf.now ≡ table Glyf bytes → AreRead glyphs parts
    → ReadsGlyphs (font_glyph_count bytes) (font_glyphs bytes) (font_outlines bytes) (map glyph_data parts)
in_file bytes glyphs parts count format loca glyf are =
    let C : ℕ → Type 0 = λ n. ReadsGlyphs n (glyphs_of glyphs) (outlines_of n (glyphs_of glyphs)) (map glyph_data parts) in
    let G : (ℕ → List ℕ) → Type 0 = λ f. ReadsGlyphs (font_glyph_count bytes) f (outlines_of (font_glyph_count bytes) f) (map glyph_data parts) in
    subst G (same_glyphs _ _ _ _ _ _ format loca glyf) (subst C count are)

pub invariant_of-result : goal.invariant_of-result
invariant_of-result c =
    let t = c.in_ok-tables.ensures in
    let glyphs = in_file c.args.bytes.now c.in_ok-tables.tables.glyphs c.in_ok-glyphs.glyphs.items t.glyph_count t.format t.loca t.glyf c.in_ok-glyphs.ensures.glyphs in
    record {
      few_glyphs = let count = simp length-map at c.in_ok-glyphs.ensures.glyphs.len in let few = t.few_glyphs in omega arith;
      in_range = font_in_range c.args.bytes.now _ (bytes_fit c.args.bytes.now c.type_inv.bytes) t.fault
          (record { limits = t.limits; cvt_count = t.cvt_count; fpgm = t.fpgm; prep = t.prep; glyphs = glyphs });
    }

pub returns-clause-reads : goal.returns-clause-reads
returns-clause-reads c =
    let t = c.in_ok-tables.ensures in
    record {
      limits = t.limits;
      cvt_count = t.cvt_count;
      fpgm = t.fpgm;
      prep = t.prep;
      glyphs = in_file c.args.bytes.now c.in_ok-tables.tables.glyphs c.in_ok-glyphs.glyphs.items t.glyph_count t.format t.loca t.glyf c.in_ok-glyphs.ensures.glyphs;
    }

pub returns-in_err-tables-clause-memory : goal.returns-in_err-tables-clause-memory
returns-in_err-tables-clause-memory c =
    let p = err_from_is_err_and c.from_residual.result c.from_residual.ensures.1 in
    rw (p.1, p.2) (λ wants. absurd (tables_never _ c.in_err-tables.field-0.0 c.in_err-tables.ensures.fault wants))
