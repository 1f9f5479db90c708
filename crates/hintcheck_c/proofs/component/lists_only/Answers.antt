use Rattle.std.proofs.Common.{◌≡◌, ◌∙◌, sym, arith, rules, true, false}
use Rattle.tt_font.specs.Components.{has_more}
use Rattle.hintcheck_c.specs.Representation.Retained.{is_in}
use Rattle.hintcheck_c.proofs.ComponentTests.{fails_from, last_from, more_from, none_from}
use Rattle.hintcheck_c.proofs.component.lists_only.Goals as goal

pub returns-then-not-is_in : goal.returns-then-not-is_in
returns-then-not-is_in c =
    let fails : is_in c.args.set.now c.in-Some.component.glyph ≡ false = search rules in
    sym (fails_from (is_in c.args.set.now) c.loop-component.place c.args.glyph.now c.in-Some.component (sym c.in-Some.ensures.component) fails) ∙ c.loop-component.invariant.rest

pub returns-then-not-has_more : goal.returns-then-not-has_more
returns-then-not-has_more c =
    let passes : is_in c.args.set.now c.in-Some.component.glyph ≡ true = search rules in
    let last : has_more c.in-Some.component.flags ≡ false = search rules in
    sym (last_from (is_in c.args.set.now) c.loop-component.place c.args.glyph.now c.in-Some.component (sym c.in-Some.ensures.component) last passes) ∙ c.loop-component.invariant.rest

pub loop-component-preserved : goal.loop-component-preserved
loop-component-preserved c =
    let passes : is_in c.args.set.now c.in-Some.component.glyph ≡ true = search rules in
    let more : has_more c.in-Some.component.flags ≡ true = search rules in
    let within = c.in-Some.ensures.within in
    let further = c.in-Some.ensures.further in
    let counted = c.in-Some.ensures.counted in
    let before = c.loop-component.invariant.counted in
    record {
      rest = sym (more_from (is_in c.args.set.now) c.loop-component.place c.args.glyph.now c.in-Some.component (sym c.in-Some.ensures.component) more passes) ∙ c.loop-component.invariant.rest;
      near = omega arith;
      counted = omega arith;
    }

pub returns : goal.returns
returns c = sym (none_from (is_in c.args.set.now) c.loop-component.place c.args.glyph.now (sym c.in_default.ensures.component)) ∙ c.loop-component.invariant.rest
