use Rattle.std.proofs.Common.{◌∙◌, ◌-◌, List, drop, get_or, length, subst, sym, take}
use Rattle.std.specs.Prelude.{pos}
use Rattle.tt_abs.specs.CellOrders.{CellInRange}
use Rattle.tt_abs.specs.declared.cells.Cell.{Cell}
use Rattle.tt_abs.specs.declared.cells.Cell.TheVariants.{Known}
use Rattle.tt_abs.specs.Stacks.{StackInRange}
use Rattle.tt_abs.proofs.CodedCells.{one_in_range, one_on, rest_on}
use Rattle.tt_abs.proofs.stack.Stack.push_cells.Goals as goal

pub loop-i-init : goal.loop-i-init
loop-i-init c = record {
  pushed = rest_on c.in_ok-coded.coded c.args.cells.now c.args.self.now c.push_coded.new.self c.in_ok-coded.ensures.pushed;
  in_range = c.in_ok-coded.ensures.in_range;
}

pub loop-i-preserved : goal.loop-i-preserved
loop-i-preserved c =
    let rest : List Cell = take (length c.args.cells.now - c.in_ok-coded.coded) (drop c.in_ok-coded.coded c.args.cells.now) in
    let cell : Cell = get_or rest c.loop-i.i (Known (pos 0)) in
    let fits : CellInRange cell = c.number_facts.ensures in
    record {
      pushed = one_on rest c.loop-i.i (Known (pos 0)) c.loop-i.self c.push.new.self c.loop-i-test.true c.in_ok-push.ensures.ok ∙ c.loop-i.invariant.pushed;
      in_range = λ h. subst (λ (l : List Cell). StackInRange l) (sym c.in_ok-push.ensures.ok) (one_in_range cell c.loop-i.self fits (c.loop-i.invariant.in_range h));
    }
