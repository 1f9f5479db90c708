use Rattle.std.proofs.Common.{◌≡◌, ◌+◌, ◌||◌, ◌∙◌, sym, ap, subst, List, ℕ, length, min, arith, rules, true, false}
use Rattle.tt_font.specs.Components.{components, glyphs_named, has_more}
use Rattle.tt_font.proofs.ComponentLists.{none_is_there, one_is_there, more_are_there}
use Rattle.tt_font.proofs.Adding.{AddsOn, adds_one, adds_all}
use Rattle.tt_font.proofs.outline_size.add_up.Goals as goal

pub returns-then-not-has_more-clause-sum : goal.returns-then-not-has_more-clause-sum
returns-then-not-has_more-clause-sum c =
    let more : has_more c.in-Some.component.flags ≡ false = search rules in
    let one = one_is_there c.loop-component.place c.args.glyph.now c.in-Some.component (sym c.in-Some.ensures.component) more in
    let P : List ℕ → Type 0 = λ rest. AddsOn c.args.sizes.now (glyphs_named (components c.args.glyph.now)) rest c.loop-component.sum in
    adds_all _ _ _ (adds_one _ _ _ c.in-Some.component.glyph _ _ (subst P (ap glyphs_named one) c.loop-component.invariant.sum)
    (c.plus-sum.ensures.unresolved ∙ ap (λ x. c.loop-component.sum.unresolved || x.unresolved) c.of.ensures)
    (c.plus-sum.ensures.points ∙ ap (λ x. min (c.loop-component.sum.points + x.points) 65536) c.of.ensures)
    (c.plus-sum.ensures.contours ∙ ap (λ x. min (c.loop-component.sum.contours + x.contours) 65536) c.of.ensures))

pub returns-then-not-has_more-clause-counted : goal.returns-then-not-has_more-clause-counted
returns-then-not-has_more-clause-counted c =
    let more : has_more c.in-Some.component.flags ≡ false = search rules in
    let one = ap length (one_is_there c.loop-component.place c.args.glyph.now c.in-Some.component (sym c.in-Some.ensures.component) more) in
    let counted = c.in-Some.ensures.counted in
    let before = c.loop-component.invariant.counted in
    omega arith

pub loop-component-preserved : goal.loop-component-preserved
loop-component-preserved c =
    let more : has_more c.in-Some.component.flags ≡ true = search rules in
    let all = more_are_there c.loop-component.place c.args.glyph.now c.in-Some.component (sym c.in-Some.ensures.component) more in
    let P : List ℕ → Type 0 = λ rest. AddsOn c.args.sizes.now (glyphs_named (components c.args.glyph.now)) rest c.loop-component.sum in
    let counted = c.in-Some.ensures.counted in
    let within = c.in-Some.ensures.within in
    let before = c.loop-component.invariant.counted in
    let longer = ap length all in
    record {
      sum = adds_one _ _ _ c.in-Some.component.glyph _ _ (subst P (ap glyphs_named all) c.loop-component.invariant.sum)
          (c.plus-sum.ensures.unresolved ∙ ap (λ x. c.loop-component.sum.unresolved || x.unresolved) c.of.ensures)
          (c.plus-sum.ensures.points ∙ ap (λ x. min (c.loop-component.sum.points + x.points) 65536) c.of.ensures)
          (c.plus-sum.ensures.contours ∙ ap (λ x. min (c.loop-component.sum.contours + x.contours) 65536) c.of.ensures);
      counted = omega arith;
      near = omega arith;
    }

pub returns-clause-sum : goal.returns-clause-sum
returns-clause-sum c =
    let P : List ℕ → Type 0 = λ rest. AddsOn c.args.sizes.now (glyphs_named (components c.args.glyph.now)) rest c.loop-component.sum in
    adds_all _ _ _ (subst P (ap glyphs_named (none_is_there c.loop-component.place c.args.glyph.now (sym c.in_default.ensures.component))) c.loop-component.invariant.sum)

pub returns-clause-counted : goal.returns-clause-counted
returns-clause-counted c =
    let none = ap length (none_is_there c.loop-component.place c.args.glyph.now (sym c.in_default.ensures.component)) in
    let counted = c.in_default.ensures.counted in
    let before = c.loop-component.invariant.counted in
    omega arith
