use Rattle.std.proofs.Common.{◌≡◌, ◌+◌, [], length}
use Rattle.tt_family.specs.Contents.{IsFamily, points_of}
use Rattle.tt_family.proofs.Moves.{HasSoFar}
use Rattle.tt_family.proofs.finish.move_states.Given as goal

abbrev pub invariant-loop-context : goal.invariant-loop-context
invariant-loop-context l = record {
  family : IsFamily l.new;
  contexts : l.new.contexts ≡ l.initial.new.contexts;
  same : HasSoFar l.old l.new l.spare.keys l.states;
  points : l.spare.keys ≡ [] → points_of l.new + length l.states ≡ points_of l.old;
}

abbrev pub decreases-loop-context : goal.decreases-loop-context
decreases-loop-context l = length l.states
