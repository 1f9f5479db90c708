use Rattle.std.proofs.Common.{◌∙◌, refl}
use Rattle.std.specs.Prelude.{string_bytes}
use Rattle.hintcheck.proofs.ScannedFileLemmas.{all_files, next_file, no_file}
use Rattle.hintcheck.proofs.commands.scan_task.scan_all.Goals as goal

pub loop-font-init : goal.loop-font-init
loop-font-init g c = record { printed = no_file c.args.plan (g.O.Sink.contents c.args.out.now); failures = refl }

pub loop-font-preserved : goal.loop-font-preserved
loop-font-preserved g c = record {
  printed = next_file c.args.plan (λ s. string_bytes s) c.args.fonts.now c.loop-font.font-index c.font-item.result c.deref-in-loop-font.result.now c.loop-font.greatest c.in_ok-status.status c.max-greatest.result _ _ _ c.loop-font-test.true
      c.font-item.is c.deref-in-loop-font.ensures c.loop-font.invariant.printed c.in_ok-status.ensures.printed c.max-greatest.ensures;
  failures = c.in_ok-status.ensures.failures ∙ c.loop-font.invariant.failures;
}

pub returns-clause-printed : goal.returns-clause-printed
returns-clause-printed g c = all_files c.args.plan (λ s. string_bytes s) c.args.fonts.now c.loop-font.font-index c.loop-font.greatest _ _ c.loop-font-test.false c.loop-font.invariant.printed
