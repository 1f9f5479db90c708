use Rattle.std.proofs.Common.{◌≤◌, length}
use Rattle.tt_cert.specs.Reading.{context_at}
use Rattle.tt_cert.specs.Rules.{AreContexts}
use Rattle.tt_cert.proofs.Loops.{IsReading}
use Rattle.tt_cert.proofs.contexts.read_context_list.Given as goal

abbrev pub invariant-contexts : goal.invariant-contexts
invariant-contexts g l =
    IsReading (context_at) (g.S.Source.remaining l.fn.source) (g.S.Source.remaining l.source)
    l.fn.place l.contexts.items l.fn.count l.counter l.at
    (g.S.Source.failures l.fn.source) (g.S.Source.failures l.source) × ((length l.contexts.items ≤ l.counter) × AreContexts l.contexts.items)
