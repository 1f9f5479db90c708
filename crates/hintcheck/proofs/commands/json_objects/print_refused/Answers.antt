use Rattle.std.proofs.Common.{◌∙◌, refl}
use Rattle.hintcheck.proofs.ScannedLines.{only_both, only_nothing}
use Rattle.hintcheck.proofs.commands.json_objects.print_refused.Goals as goal

pub loop-one-init : goal.loop-one-init
loop-one-init g c = record { kept = only_nothing (g.O.Sink.contents c.args.out.now); failures = refl }

pub loop-one-preserved : goal.loop-one-preserved
loop-one-preserved g c = record {
  kept = only_both (g.O.Sink.contents c.args.out.now) _ _ c.loop-one.invariant.kept c.write.ensures.kept;
  failures = c.in_ok-write.ensures.failures ∙ c.loop-one.invariant.failures;
}
