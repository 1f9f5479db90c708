use Rattle.std.proofs.Common.{◌≡◌, cond, take}
use Rattle.std.specs.List.{list_any}
use Rattle.hintcheck.specs.KnownRefusals.{fails_for}
use Rattle.hintcheck.proofs.commands.scan_task.verdict_status.Given as goal

abbrev pub invariant-loop-refused : goal.invariant-loop-refused
invariant-loop-refused l = l.status ≡ cond (list_any (fails_for l.fail_on) (take l.refused-index l.refused-items)) 1 0
