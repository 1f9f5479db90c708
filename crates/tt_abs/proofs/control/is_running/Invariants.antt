use Rattle.std.proofs.Common.{◌≡◌, ◌≤◌, length}
use Rattle.std.specs.Prelude.{reverse}
use Rattle.tt_abs.specs.Transfers.{is_running}
use Rattle.tt_abs.proofs.control.is_running.Given as goal

abbrev pub invariant-loop-rest : goal.invariant-loop-rest
invariant-loop-rest l = record {
  shorter : length l.rest ≤ length l.fn.frames;
  same : is_running l.fn.body (reverse l.fn.frames) ≡ is_running l.fn.body (reverse l.rest);
}

abbrev pub decreases-loop-rest : goal.decreases-loop-rest
decreases-loop-rest l = length l.rest
