use Rattle.std.proofs.Common.{◌+◌, sym, subst}
use Rattle.tt_abs.specs.Moves.{next_by}
use Rattle.tt_abs.specs.States.{abstract_of}
use Rattle.tt_family.specs.Contents.{family_of}
use Rattle.tt_family.specs.Representation.Cursors.{calls_of, nexts_made}
use Rattle.tt_family.specs.declared.meeting.Coverage.{Coverage}
use Rattle.tt_family.proofs.Checked.{AreMetBelow, gap_next, met_all, met_below, met_first, met_more, next_found, no_next, none_all_below}
use Rattle.tt_family.proofs.meeting.check_successors.Goals as goal

pub returns-in-Err-clause-gap : goal.returns-in-Err-clause-gap
returns-in-Err-clause-gap c =
    let v = c.args.certificate.now in
    let walk = c.args.walk.now in
    let a = abstract_of walk.made in
    let ns = nexts_made v walk c.args.moves in
    gap_next (family_of v) (calls_of v walk) c.args.after walk.next walk.made ns 0 (next_by (calls_of v walk) a c.first.result)
    (next_found (calls_of v walk) c.args.moves a 0 c.first.result c.first.ensures) (none_all_below (family_of v) (calls_of v walk) c.args.after walk.next walk.made ns) c.in-Err.fault c.in-Err.ensures.gap

pub loop-way-init : goal.loop-way-init
loop-way-init c =
    let v = c.args.certificate.now in
    let walk = c.args.walk.now in
    let a = abstract_of walk.made in
    met_first (family_of v) (calls_of v walk) c.args.after walk.next walk.made (nexts_made v walk c.args.moves) (next_by (calls_of v walk) a c.first.result)
    (next_found (calls_of v walk) c.args.moves a 0 c.first.result c.first.ensures) c.in-Ok.met c.in-Ok.ensures.met

pub returns-in-Err-check_successor-clause-gap : goal.returns-in-Err-check_successor-clause-gap
returns-in-Err-check_successor-clause-gap c =
    let v = c.args.certificate.now in
    let walk = c.args.walk.now in
    let a = abstract_of walk.made in
    let ns = nexts_made v walk c.args.moves in
    let k = c.loop-way.index in
    gap_next (family_of v) (calls_of v walk) c.args.after walk.next walk.made ns k (next_by (calls_of v walk) a c.in-Some.way)
    (next_found (calls_of v walk) c.args.moves a k c.in-Some.way (sym c.in-Some.ensures)) (met_below (family_of v) (calls_of v walk) c.args.after walk.next walk.made ns k c.loop-way.met c.loop-way.invariant)
    c.in-Err-check_successor.fault c.in-Err-check_successor.ensures.gap

pub loop-way-preserved : goal.loop-way-preserved
loop-way-preserved c =
    let v = c.args.certificate.now in
    let walk = c.args.walk.now in
    let a = abstract_of walk.made in
    let ns = nexts_made v walk c.args.moves in
    let k = c.loop-way.index in
    let M : Coverage → Type 0 = λ m. AreMetBelow (family_of v) (calls_of v walk) c.args.after walk.next walk.made ns (k + 1) m in
    subst M (sym c.both_coverages-met.ensures)
    (met_more (family_of v) (calls_of v walk) c.args.after walk.next walk.made ns k (next_by (calls_of v walk) a c.in-Some.way)
    (next_found (calls_of v walk) c.args.moves a k c.in-Some.way (sym c.in-Some.ensures)) c.loop-way.met c.in-Ok-check_successor.other c.loop-way.invariant c.in-Ok-check_successor.ensures.met)

pub returns-clause-met : goal.returns-clause-met
returns-clause-met c =
    let v = c.args.certificate.now in
    let walk = c.args.walk.now in
    met_all (family_of v) (calls_of v walk) c.args.after walk.next walk.made (nexts_made v walk c.args.moves) c.loop-way.index
    (no_next (calls_of v walk) c.args.moves (abstract_of walk.made) c.loop-way.index (sym c.in_default.ensures)) c.loop-way.met c.loop-way.invariant
