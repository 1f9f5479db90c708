use Rattle.std.proofs.Common.{◌≡◌, ◌+◌, ◌-◌, ◌∙◌, ap, arith, length, refl, sym, take}
use Rattle.std.specs.Prelude.{false, true}
use Rattle.tt_abs.specs.Representation.Codes.{cells_of}
use Rattle.tt_abs.proofs.CodedCells.{lowest_from_parts, parts_from_lowest}
use Rattle.tt_abs.proofs.stack.Stack.shares_bottom.Goals as goal

pub returns-then-have_same_front : goal.returns-then-have_same_front
returns-then-have_same_front c =
    let wide = c.self.inside.wide.items in
    let theirs = c.other.inside.wide.items in
    let codes = c.self.inside.codes.items in
    let other_codes = c.other.inside.codes.items in
    let n = c.args.count - c.len-wide.result in
    let long : length wide ≡ length theirs = omega (arith, c.self.inside.wide.ok.0, c.other.inside.wide.ok.0, c.len-wide.ensures, c.len-2.ensures, c.if-wide-len.true) in
    let sum : c.args.count ≡ length wide + n = omega (arith, c.self.inside.wide.ok.0, c.len-wide.ensures, c.if-wide-count.true) in (
      λ equal. record {
        enough = omega arith;
        enough_there = omega arith;
        same =
            lowest_from_parts wide theirs codes other_codes c.args.self.now c.args.other.now c.args.count n c.self.view_is c.other.view_is sum
            (sym c.as_slice-then-have_same_front.ensures.value ∙ c.cells_equal.ensures.0 equal ∙ c.as_slice-then-have_same_front-2.ensures.value)
            (ap (λ l. take n (cells_of l)) (sym c.as_slice.ensures) ∙ c.if-have_same_front.ensures.0 refl ∙ ap (λ l. take n (cells_of l)) c.as_slice-then-wide-count.ensures);
      },
      λ shared.
          let parts =
          parts_from_lowest wide theirs codes other_codes c.args.self.now c.args.other.now c.args.count n c.self.view_is c.other.view_is long sum shared.same in
          c.cells_equal.ensures.1 (c.as_slice-then-have_same_front.ensures.value ∙ parts.0 ∙ sym c.as_slice-then-have_same_front-2.ensures.value),
    )

pub returns-else-have_same_front : goal.returns-else-have_same_front
returns-else-have_same_front c =
    let wide = c.self.inside.wide.items in
    let theirs = c.other.inside.wide.items in
    let codes = c.self.inside.codes.items in
    let other_codes = c.other.inside.codes.items in
    let n = c.args.count - c.len-wide.result in
    let long : length wide ≡ length theirs = omega (arith, c.self.inside.wide.ok.0, c.other.inside.wide.ok.0, c.len-wide.ensures, c.len-2.ensures, c.if-wide-len.true) in
    let sum : c.args.count ≡ length wide + n = omega (arith, c.self.inside.wide.ok.0, c.len-wide.ensures, c.if-wide-count.true) in (
      λ equal. let bad : false ≡ true = sym c.if-have_same_front.false ∙ equal in cc,
      λ shared.
          let parts =
          parts_from_lowest wide theirs codes other_codes c.args.self.now c.args.other.now c.args.count n c.self.view_is c.other.view_is long sum shared.same in
          c.have_same_front.ensures.1
          (ap (λ l. take n (cells_of l)) c.as_slice.ensures ∙ parts.1 ∙ ap (λ l. take n (cells_of l)) (sym c.as_slice-then-wide-count.ensures)),
    )
