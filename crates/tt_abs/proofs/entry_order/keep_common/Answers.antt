use Rattle.std.proofs.Common.{subst, sym, ℕ, List}
use Rattle.tt_abs.specs.Orders.{IsLeastAbove}
use Rattle.tt_abs.specs.EntryOrders.{entry_order}
use Rattle.tt_abs.specs.EntryLaws.{common_is_least}
use Rattle.tt_abs.proofs.entry_order.keep_common.Goals as goal

pub returns : goal.returns
returns g c =
    let order = entry_order g.T.EntryValue.is_in_range in
    let P = λ (es : List (ℕ × g.row.T.Denot)). IsLeastAbove order c.args.mine.now c.args.theirs.now es in
    subst P (sym c.keep.ensures) (common_is_least g.T.EntryValue.is_in_range g.T.PartialEq.eq g.met.T.EntryValue.decides c.args.mine.now c.args.theirs.now c.requires)
