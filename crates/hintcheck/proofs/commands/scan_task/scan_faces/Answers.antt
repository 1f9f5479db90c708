use Rattle.std.proofs.Common.{◌∙◌, Some, arith, refl}
use Rattle.hintcheck.proofs.ScannedFileLemmas.{all_faces, next_face, no_face}
use Rattle.hintcheck.proofs.commands.scan_task.scan_faces.Goals as goal

pub loop-number-init : goal.loop-number-init
loop-number-init g c = record { printed = no_face c.args.plan c.args.name.now (g.O.Sink.contents c.args.out.now); failures = refl }

pub loop-number-preserved : goal.loop-number-preserved
loop-number-preserved g c = record {
  printed = next_face c.args.plan c.args.name.now (record { file = c.args.name.now; face = Some c.loop-number.number }) c.loop-number.number c.loop-number.greatest c.in_ok-status.status c.max-greatest.result _ _ _ refl c.loop-number.invariant.printed c.in_ok-status.ensures.printed c.max-greatest.ensures;
  failures = c.in_ok-status.ensures.failures ∙ c.loop-number.invariant.failures;
}

pub returns-clause-printed : goal.returns-clause-printed
returns-clause-printed g c =
    all_faces c.args.plan c.args.name.now c.loop-number.number c.loop-number.greatest _ _ (omega (arith, c.face_count-number-end.ensures.some, c.loop-number-test.false)) c.loop-number.invariant.printed
