use Rattle.std.proofs.Common.{◌≡◌, length, arith, rules, sym, ap, ◌∙◌, true, false, []}
use Rattle.tt_font.specs.Components.{components_at, has_more, last_of}
use Rattle.tt_font.proofs.ComponentLists.{none_is_there, one_is_there, more_are_there, last_is, last_goes_on}
use Rattle.tt_font.proofs.component.ComponentReader.read_last.Goals as goal

pub returns-then-not-has_more-clause-last : goal.returns-then-not-has_more-clause-last
returns-then-not-has_more-clause-last c =
    let more : has_more c.in-Some.component.flags ≡ false = search rules in
    let one = one_is_there _ _ c.in-Some.component (sym c.in-Some.ensures.component) more in
    sym (last_is c.in-Some.component [] more) ∙ sym (ap last_of one) ∙ c.loop-component.invariant.last

pub returns-then-not-has_more-clause-counted : goal.returns-then-not-has_more-clause-counted
returns-then-not-has_more-clause-counted c =
    let more : has_more c.in-Some.component.flags ≡ false = search rules in
    let one = ap length (one_is_there _ _ c.in-Some.component (sym c.in-Some.ensures.component) more) in
    let counted = c.in-Some.ensures.counted in
    let before = c.loop-component.invariant.counted in
    omega arith

pub loop-component-preserved : goal.loop-component-preserved
loop-component-preserved c =
    let more : has_more c.in-Some.component.flags ≡ true = search rules in
    let all = more_are_there c.loop-component.place c.args.glyph.now c.in-Some.component (sym c.in-Some.ensures.component) more in
    let counted = c.in-Some.ensures.counted in
    let within = c.in-Some.ensures.within in
    let before = c.loop-component.invariant.counted in
    let longer = ap length all in
    record {
      last = sym (last_goes_on c.in-Some.component (components_at c.in-Some.component.after c.args.glyph.now) more) ∙ sym (ap last_of all) ∙ c.loop-component.invariant.last;
      counted = omega arith;
      near = omega arith;
    }

pub returns-clause-last : goal.returns-clause-last
returns-clause-last c = sym (ap last_of (none_is_there _ _ (sym c.in_default.ensures.component))) ∙ c.loop-component.invariant.last

pub returns-clause-counted : goal.returns-clause-counted
returns-clause-counted c =
    let none = ap length (none_is_there _ _ (sym c.in_default.ensures.component)) in
    let counted = c.in_default.ensures.counted in
    let before = c.loop-component.invariant.counted in
    omega arith
