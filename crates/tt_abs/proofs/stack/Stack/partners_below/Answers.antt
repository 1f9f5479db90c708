use Rattle.std.proofs.Common.{◌≡◌, ap, arith, ◌∙◌, length, sym}
use Rattle.std.specs.Prelude.{reverse}
use Rattle.std.proofs.lemmas.Bool.{eqb-true}
use Rattle.tt_abs.specs.Representation.Codes.{cells_of}
use Rattle.tt_abs.proofs.CodedCells.{coded_alone}
use Rattle.tt_abs.proofs.StackOrders.{below_kept, kept_below}
use Rattle.tt_abs.proofs.stack.Stack.partners_below.Goals as goal

pub returns-then-is_empty-2 : goal.returns-then-is_empty-2
returns-then-is_empty-2 c =
    let none : length c.self.inside.wide.items ≡ 0 = omega (arith, c.self.inside.wide.ok.0, eqb-true _ _ (sym c.if-is_empty.ensures)) in
    let none_there : length c.other.inside.wide.items ≡ 0 = omega (arith, c.other.inside.wide.ok.0, eqb-true _ _ (sym c.if-is_empty-2.ensures)) in
    let mine : reverse (cells_of c.as_slice.result.now) ≡ c.args.self.now =
    ap (λ x. reverse (cells_of x)) c.as_slice.ensures ∙ coded_alone _ _ _ none c.self.view_is in
    let theirs : reverse (cells_of c.as_slice-then-is_empty-2.result.now) ≡ c.args.other.now =
    ap (λ x. reverse (cells_of x)) c.as_slice-then-is_empty-2.ensures ∙ coded_alone _ _ _ none_there c.other.view_is in
    (λ h. below_kept _ _ _ _ mine theirs (c.are_below.ensures.0 h), λ h. c.are_below.ensures.1 (kept_below _ _ _ _ mine theirs h))
