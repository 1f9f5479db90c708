use Rattle.std.proofs.Common.{◌≤◌, ◌<◌, length}
use Rattle.tt_cert.proofs.shared_cells.count_ahead.Given as goal

abbrev pub invariant-guesses : goal.invariant-guesses
invariant-guesses l = (l.count ≤ l.fn.most) × (l.count ≤ length l.fn.text.ends.items) × (0 < l.fewer)

abbrev pub decreases-guesses : goal.decreases-guesses
decreases-guesses l = l.count
