use Rattle.std.proofs.Common.{◌≡◌}
use Rattle.tt_setting.specs.Budgets.{AreAlike, Spends}
use Rattle.hintcheck_programs.specs.ProgramVerdicts.{IsForCertificate}
use Rattle.hintcheck_programs.specs.Representation.ProgramOrder.{stage_of}
use Rattle.hintcheck_certificates.proofs.CertificateWriting.{IsWrittenSoFar}
use Rattle.hintcheck_programs.proofs.ProgramSteps.{calls_left}
use Rattle.hintcheck_certificates.proofs.certificate.write_sections.Given as goal

abbrev pub invariant-loop-encoder : goal.invariant-loop-encoder
invariant-loop-encoder g l = record {
  font : l.programs.font.now ≡ l.fn.font;
  certificate : IsForCertificate l.judge.search;
  written : IsWrittenSoFar l.programs.font.now (g.W.Sink.contents l.fn.sink) (stage_of l.programs) (g.W.Sink.contents l.sink);
  failures : g.W.Sink.failures l.sink ≡ g.W.Sink.failures l.fn.sink;
  spends : Spends l.fn.budget l.budget;
  alike : AreAlike l.fn.budget l.budget;
}

abbrev pub decreases-loop-encoder : goal.decreases-loop-encoder
decreases-loop-encoder g l = calls_left l.programs.font.now (stage_of l.programs)
