use Rattle.std.proofs.Common.{◌≡◌, List, length, ap, ◌∙◌, sym, subst, arith, ℕ}
use Rattle.std.specs.Prelude.{reverse}
use Rattle.std.proofs.lemmas.Bool.{eqb-true}
use Rattle.std.proofs.lemmas.List.{length-map}
use Rattle.tt_abs.specs.Representation.Codes.{cell_of_code, cells_of, kept_cells}
use Rattle.tt_abs.specs.Orders.{IsLeastAbove}
use Rattle.tt_abs.specs.Stacks.{stack_order}
use Rattle.tt_abs.proofs.CodedCells.{alone_coded, coded_alone, coded_length}
use Rattle.tt_abs.proofs.CodeLists.{least_codes}
use Rattle.tt_abs.proofs.StackOrders.{least_of_cells, least_kept, refilled}
use Rattle.tt_abs.proofs.stack.Stack.raise.Goals as goal

pub returns-then-is_empty-2 : goal.returns-then-is_empty-2
returns-then-is_empty-2 c =
    let none : length c.self.inside.wide.items ≡ 0 = omega (arith, c.self.inside.wide.ok.0, eqb-true _ _ (sym c.if-is_empty.ensures)) in
    let none_there : length c.other.inside.wide.items ≡ 0 = omega (arith, c.other.inside.wide.ok.0, eqb-true _ _ (sym c.if-is_empty-2.ensures)) in
    let old = c.as_mut_slice.result.now in
    let new = c.join_codes.new.mine in
    let other = c.as_slice.result.now in
    let mine : reverse (cells_of old) ≡ c.args.self.now =
    ap (λ x. reverse (cells_of x)) c.as_mut_slice.ensures.value ∙ coded_alone _ _ _ none c.self.view_is in
    let theirs : reverse (cells_of other) ≡ c.args.other.now =
    ap (λ x. reverse (cells_of x)) c.as_slice.ensures ∙ coded_alone _ _ _ none_there c.other.view_is in
    let long : length new ≡ length old = omega arith in
    let same : length old ≡ length other = coded_length _ _ mine ∙ c.requires ∙ sym (coded_length _ _ theirs) in
    let P : List ℕ → Type 0 = λ x. IsLeastAbove stack_order c.args.self.now c.args.other.now (reverse (kept_cells c.self.inside.wide.items x)) in
    subst P (sym (refilled c.self.inside.codes.items new (long ∙ ap length c.as_mut_slice.ensures.value)))
    (alone_coded (λ x. IsLeastAbove stack_order c.args.self.now c.args.other.now x) c.self.inside.wide.items new none
    (least_kept _ _ (cells_of new) c.args.self.now c.args.other.now mine theirs
    (least_of_cells _ _ (cells_of new)
    (length-map old cell_of_code ∙ same ∙ sym (length-map other cell_of_code))
    (length-map new cell_of_code ∙ long ∙ sym (length-map old cell_of_code))
    (least_codes old other new same long c.join_codes.ensures))))
