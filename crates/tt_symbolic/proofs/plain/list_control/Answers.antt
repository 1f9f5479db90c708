use Rattle.std.proofs.Common.{refl}
use Rattle.tt_symbolic.proofs.plain.list_control.Goals as goal

pub returns : goal.returns
returns c = record { middle = c.fresh.new.state; fresh = c.in_ok-cell.ensures; same = refl; put = c.in_ok-put.ensures.ok }
