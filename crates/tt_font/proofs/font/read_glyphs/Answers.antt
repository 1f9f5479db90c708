use Rattle.std.proofs.Common.{◌<◌, ◌≤◌, sym, subst, ℕ, List, map}
use Rattle.std.proofs.lemmas.Result.{IfOk-weaker}
use denote.Bor.{Bor}
use Rattle.tt_font.specs.declared.outline_size.OutlineSize.{OutlineSize}
use Rattle.tt_font.specs.declared.fault.FontFault.TheVariants as faults
use Rattle.tt_font.specs.Representation.OutlineSizes.{size_at}
use Rattle.tt_font.specs.Representation.GlyphParts.{bytes_of, PartsAre}
use Rattle.tt_font.specs.Reading.{glyph_data}
use Rattle.tt_font.proofs.ReadGlyphs.{no_fault, points_are_few, contours_are_few, glyphs_are_read}
use Rattle.tt_font.proofs.font.read_glyphs.Goals as goal

pub put_together-requires-clause-points : goal.put_together-requires-clause-points
put_together-requires-clause-points c =
    let P : List OutlineSize → Type 0 = λ sizes. (id : ℕ) → id < c.args.glyphs.now.count → (size_at sizes id).points ≤ 65535 in
    subst P (sym c.deref-2.ensures.value) (points_are_few _ _ _ c.in_ok-sizes.ensures.sizes (no_fault (λ id. faults.Composite id) _ c.in_ok-sizes.ensures.fault))

pub put_together-requires-clause-contours : goal.put_together-requires-clause-contours
put_together-requires-clause-contours c =
    let P : List OutlineSize → Type 0 = λ sizes. (id : ℕ) → id < c.args.glyphs.now.count → (size_at sizes id).contours ≤ 65535 in
    subst P (sym c.deref-2.ensures.value) (contours_are_few _ _ _ c.in_ok-sizes.ensures.sizes (no_fault (λ id. faults.Composite id) _ c.in_ok-sizes.ensures.fault))

pub returns-clause-glyphs : goal.returns-clause-glyphs
returns-clause-glyphs c =
    let none = no_fault (λ id. faults.Composite id) _ c.in_ok-sizes.ensures.fault in
    IfOk-weaker c.put_together.result _ _
    (λ parts are.
    let P : List (Bor (List ℕ)) → Type 0 = λ programs. PartsAre (map bytes_of programs) c.in_ok-sizes.sizes.items c.args.glyphs.now.count (map glyph_data parts.items) in
    let T : List OutlineSize → Type 0 = λ sizes. PartsAre (map bytes_of c.deref.result.now) sizes c.args.glyphs.now.count (map glyph_data parts.items) in
    glyphs_are_read _ _ _ _ _ _ c.in_ok-programs.ensures.programs c.in_ok-sizes.ensures.sizes none
    (subst P c.deref.ensures.value (subst T c.deref-2.ensures.value are)))
    c.put_together.ensures.glyphs
