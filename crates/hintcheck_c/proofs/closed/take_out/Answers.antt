use Rattle.std.proofs.Common.{◌+◌, ◌<◌, refl, sym, subst, arith, ℕ, Bool, slice_set, length}
use Rattle.hintcheck_c.specs.Representation.Retained.{is_in}
use Rattle.tt_font.specs.PlacedGlyphs.{outlines_in}
use Rattle.hintcheck_c.proofs.Retaining.{IsTaken, glyph_more, still_same}
use Rattle.hintcheck_c.proofs.closed.take_out.Goals as goal

pub loop-id-preserved : goal.loop-id-preserved
loop-id-preserved c =
    let inside : c.loop-id.id < length c.loop-id.set =
    let test = c.loop-id-test.true in
    let len = c.loop-id.auto.set in
    let count = c.requires in
    omega arith in
    let T : ℕ → Bool → Type 0 = λ at stays. IsTaken (outlines_in c.args.glyphs.now) c.args.set.now (c.loop-id.id + 1) (slice_set c.loop-id.set at stays) in
    record {
      taken = subst (λ at. T at c.has_whole-stays.result) (sym c.from-place.ensures) (subst (T c.loop-id.id) (sym c.has_whole-stays.ensures)
          (glyph_more (outlines_in c.args.glyphs.now) c.args.set.now c.loop-id.set c.loop-id.id c.loop-id.invariant.taken inside));
      same = λ e. still_same c.args.set.now c.loop-id.set c.from-place.result c.loop-id.changed (is_in c.loop-id.set c.from-place.result) c.has_whole-stays.result refl e
          c.loop-id.invariant.same;
    }
