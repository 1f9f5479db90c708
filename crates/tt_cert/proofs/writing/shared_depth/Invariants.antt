use Rattle.std.proofs.Common.{◌-◌}
use Rattle.tt_cert.proofs.writing.shared_depth.Given as goal

abbrev pub decreases-loop-fewer : goal.decreases-loop-fewer
decreases-loop-fewer l = l.depth - l.fewer
