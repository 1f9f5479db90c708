use Rattle.std.proofs.Common.{◌-◌, ap, arith, ◌∙◌, ◌≡◌, ◌≤◌, length, sym, take, take_all}
use Rattle.std.specs.Prelude.{reverse}
use Rattle.tt_abs.specs.Representation.Codes.{kept_cells}
use Rattle.tt_abs.proofs.CodedCells.{cut_kept}
use Rattle.tt_abs.proofs.stack.Stack.cut.Goals as goal

pub returns-then-more-gt0 : goal.returns-then-more-gt0
returns-then-more-gt0 c =
    let wide = c.self.inside.wide.items in
    let codes = c.self.inside.codes.items in
    let left : c.saturating_sub.result ≡ length wide - (c.args.count - length codes) = omega (arith, c.self.inside.wide.ok.0, c.saturating_sub.ensures, c.len-wide.ensures, c.saturating_sub-more.ensures, c.len-codes.ensures.value) in
    ap (λ x. reverse (kept_cells c.truncate.new.self.items x)) c.shorten.ensures
    ∙ ap (λ x. reverse (kept_cells x (take (length codes - c.args.count) codes))) c.truncate.ensures.items
    ∙ ap (λ n. reverse (kept_cells (take n wide) (take (length codes - c.args.count) codes))) left
    ∙ cut_kept wide codes c.args.self.now c.args.count c.self.view_is

pub returns-else-more-gt0 : goal.returns-else-more-gt0
returns-else-more-gt0 c =
    let wide = c.self.inside.wide.items in
    let codes = c.self.inside.codes.items in
    let left = length wide - (c.args.count - length codes) in
    let all : length wide ≤ left = omega (arith, c.if-more-gt0.false, c.saturating_sub-more.ensures, c.len-codes.ensures.value) in
    ap (λ x. reverse (kept_cells wide x)) c.shorten.ensures
    ∙ ap (λ x. reverse (kept_cells x (take (length codes - c.args.count) codes))) (sym (take_all left wide all))
    ∙ cut_kept wide codes c.args.self.now c.args.count c.self.view_is
