use Rattle.std.proofs.Common.{◌≡◌}
use Rattle.tt_cert.specs.Answers.{input_at}
use Rattle.tt_stream.specs.Reads.{ConsumesBeginning}
use Rattle.hintcheck_certificates.specs.CheckedFonts.{IsTold}
use Rattle.hintcheck_certificates.specs.Upgrades.{AreUpgraded}
use Rattle.hintcheck_certificates.proofs.certificate_upgrade.upgrade_sections.Given as goal

abbrev pub invariant-loop-number : goal.invariant-loop-number
invariant-loop-number g l = record {
  told : IsTold (g.S.Source.remaining l.fn.source) → IsTold (g.S.Source.remaining l.source)
      × AreUpgraded l.fn.progress.form 0 l.number (input_at l.fn.progress.place (g.S.Source.remaining l.fn.source)) (input_at l.progress.place (g.S.Source.remaining l.source)) (g.W.Sink.contents l.fn.sink) (g.W.Sink.contents l.sink);
  form : l.progress.form ≡ l.fn.progress.form;
  beginning : ConsumesBeginning (g.S.Source.remaining l.fn.source) (g.S.Source.remaining l.source);
  reads : g.S.Source.failures l.source ≡ g.S.Source.failures l.fn.source;
  writes : g.W.Sink.failures l.sink ≡ g.W.Sink.failures l.fn.sink;
}
