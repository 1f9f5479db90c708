use Rattle.std.proofs.Common.{◌≡◌, length}
use Rattle.tt_cert.specs.Reading.{entry_at}
use Rattle.tt_cert.specs.Rules.{last_point}
use Rattle.tt_cert.specs.Representation.SharedCells.{IsLast}
use Rattle.tt_cert.proofs.Loops.{IsReading}
use Rattle.tt_cert.proofs.states.read_state_list.Given as goal

abbrev pub invariant-states : goal.invariant-states
invariant-states g l =
    IsReading (entry_at l.fn.form (length l.fn.builder.contexts)) (g.S.Source.remaining l.fn.source) (g.S.Source.remaining l.source)
    l.fn.place l.builder.states l.fn.count l.counter l.at
    (g.S.Source.failures l.fn.source) (g.S.Source.failures l.source) × (l.builder.contexts ≡ l.fn.builder.contexts) × (l.last ≡ last_point l.builder.states) × IsLast l.state
