use Rattle.std.proofs.Common.{length, take}
use Rattle.std.specs.List.{AllByRecursion}
use Rattle.tt_cert.specs.Rules.{CallFits}
use Rattle.tt_cert.specs.Text.{context_text, word}
use Rattle.tt_cert.specs.Sections.{contexts_in}
use Rattle.tt_cert.proofs.Pushed.{AreWritten}
use Rattle.tt_cert.proofs.writing.push_contexts.Given as goal

abbrev pub invariant-loop-number : goal.invariant-loop-number
invariant-loop-number l = AreWritten context_text l.fn.out.items (word (length (contexts_in l.certificate.contexts))) (take l.number (contexts_in l.certificate.contexts)) l.out.items
    × AllByRecursion CallFits (take l.number (contexts_in l.certificate.contexts))
