use Rattle.std.proofs.Common.{◌≡◌, ◌≤◌, length}
use Rattle.tt_cert.proofs.Bodies.{new_in}
use Rattle.tt_cert.proofs.contexts.is_new_body.Given as goal

abbrev pub invariant-loop-at : goal.invariant-loop-at
invariant-loop-at l = (l.at ≤ length l.contexts) × (new_in l.contexts l.fn.number l.fn.body ≡ new_in l.contexts l.at l.fn.body)

abbrev pub decreases-loop-at : goal.decreases-loop-at
decreases-loop-at l = l.at
