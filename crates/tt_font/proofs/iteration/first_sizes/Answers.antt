use Rattle.std.proofs.Common.{◌≡◌, ℕ, List, ◌+◌, ◌∙◌, sym, ap, subst, arith, length}
use Rattle.tt_font.specs.Glyphs.{is_composite}
use Rattle.tt_font.specs.Outlines.{outline_of}
use Rattle.tt_font.specs.Representation.CompositeLists.{AreComposites}
use Rattle.tt_font.specs.PlacedGlyphs.{glyphs_of, outlines_in}
use Rattle.tt_font.proofs.CountLemmas.{outline_below}
use Rattle.tt_font.proofs.SizeLemmas.{sizes_more, size_is_first}
use Rattle.tt_font.proofs.CompositeLemmas.{no_composites, composites_more, composites_same}
use Rattle.tt_font.proofs.iteration.first_sizes.Goals.{then-size+in_ok-push, else-size}
use Rattle.tt_font.proofs.iteration.first_sizes.Goals as goal

pub loop-id-init : goal.loop-id-init
loop-id-init c = record {
  sizes = record { len = ap (λ xs. length xs) c.in_ok-sizes.ensures.items; each = λ id lt. absurd (omega arith) };
  composites = no_composites _ _ c.requires.empty;
}

pub loop-id-preserved : goal.loop-id-preserved
loop-id-preserved c = record {
  sizes = sizes_more c.args.glyphs.now.count (outlines_in c.args.glyphs.now) 0 c.loop-id.id c.loop-id.sizes.items _ c.own-size.result c.loop-id.invariant.sizes c.in_ok-push-2.ensures.items
      (size_is_first c.args.glyphs.now.count (outlines_in c.args.glyphs.now) (outline_of c.glyph.result.now) c.loop-id.id c.own-size.result
      (outline_below c.args.glyphs.now.count (glyphs_of c.args.glyphs.now) c.loop-id.id c.loop-id-test.true ∙ ap outline_of (sym c.glyph.ensures.bytes))
      c.own-size.ensures.unresolved c.own-size.ensures.points c.own-size.ensures.contours);
  composites =
      let made : c.own-size.result.unresolved ≡ is_composite (glyphs_of c.args.glyphs.now c.loop-id.id) = c.own-size.ensures.made ∙ ap is_composite c.glyph.ensures.bytes in
      elim c.if-size.branch [
        | then-size+in_ok-push w ↦
            composites_more _ _ _ _ c.loop-id.invariant.composites (sym made ∙ w.if-size.true) (ap (λ v. v.items) w.composites-is ∙ w.in_ok-push.ensures.items)
        | else-size w ↦
            let A : List ℕ → Type 0 = λ x. AreComposites (glyphs_of c.args.glyphs.now) (c.loop-id.id + 1) x in
            subst A (sym (ap (λ v. v.items) w.composites-is)) (composites_same _ _ _ c.loop-id.invariant.composites (sym made ∙ w.if-size.false))
      ];
}

pub returns-clause-composites : goal.returns-clause-composites
returns-clause-composites c =
    let A : ℕ → Type 0 = λ n. AreComposites (glyphs_of c.args.glyphs.now) n c.loop-id.composites.items in
    let test = c.loop-id-test.false in
    let end = c.loop-id.auto.id-end in
    subst A (let e : c.loop-id.id ≡ c.args.glyphs.now.count = omega arith in e) c.loop-id.invariant.composites
