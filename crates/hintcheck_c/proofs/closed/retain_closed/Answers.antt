use Rattle.std.proofs.Common.{◌≡◌, sym, subst, arith, ℕ, Bool, List}
use Rattle.tt_font.specs.Files.{font_outlines}
use Rattle.tt_font.specs.Outlines.{Outline}
use Rattle.hintcheck_c.specs.Representation.Retained.{TakesOut}
use Rattle.hintcheck_c.proofs.Retaining.{IsRetained, closed_after_16, closed_early, step_more}
use Rattle.hintcheck_c.proofs.closed.retain_closed.Goals as goal

pub returns-then-not-take_out-clause-closed : goal.returns-then-not-take_out-clause-closed
returns-then-not-take_out-clause-closed c =
    let same : c.take_out.new.set ≡ c.loop.set = c.take_out.ensures.none c.if-not-take_out.true in
    let T : (ℕ → Outline) → Type 0 = λ outlines. TakesOut outlines c.loop.set c.take_out.new.set in
    let S : List Bool → Type 0 = λ set. TakesOut (font_outlines c.args.bytes.now) set c.take_out.new.set in
    let R : List Bool → Type 0 = IsRetained (font_outlines c.args.bytes.now) c.args.set.now c.loop.counter in
    closed_early (font_outlines c.args.bytes.now) c.args.set.now c.take_out.new.set c.loop.counter (subst R (sym same) c.loop.invariant)
    (subst S (sym same) (subst T c.of-glyphs.ensures.outlines c.take_out.ensures.taken))

pub loop-preserved : goal.loop-preserved
loop-preserved c =
    let T : (ℕ → Outline) → Type 0 = λ outlines. TakesOut outlines c.loop.set c.take_out.new.set in
    step_more (font_outlines c.args.bytes.now) c.args.set.now c.loop.set c.take_out.new.set c.loop.counter c.loop.invariant
    (subst T c.of-glyphs.ensures.outlines c.take_out.ensures.taken)

pub returns-clause-closed : goal.returns-clause-closed
returns-clause-closed c =
    let R : ℕ → Type 0 = λ k. IsRetained (font_outlines c.args.bytes.now) c.args.set.now k c.loop.set in
    let test = c.loop-test.false in
    let end = c.loop.auto.counter-end in
    let e : c.loop.counter ≡ 16 = omega arith in
    closed_after_16 c.args.bytes.now c.args.set.now c.loop.set c.requires.font (subst R e c.loop.invariant)
