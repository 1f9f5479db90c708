use Rattle.std.proofs.Common.{◌-◌}
use Rattle.tt_family.specs.Contents.{family_of}
use Rattle.tt_family.specs.Representation.Cursors.{calls_of, nexts_made}
use Rattle.tt_family.proofs.Checked.{AreMetBelow}
use Rattle.tt_family.proofs.meeting.check_successors.Given as goal

abbrev pub invariant-loop-way : goal.invariant-loop-way
invariant-loop-way l =
    AreMetBelow (family_of l.certificate) (calls_of l.certificate l.walk) l.after l.walk.next l.walk.made (nexts_made l.certificate l.walk l.moves) l.index l.met

abbrev pub decreases-loop-way : goal.decreases-loop-way
decreases-loop-way l = 2 - l.index
