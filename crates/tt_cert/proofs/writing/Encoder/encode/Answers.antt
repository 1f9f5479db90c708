use Rattle.std.proofs.Common.{ℕ, List, ◌∙◌, subst}
use Rattle.std.specs.Io.KnownBytes.{Appends}
use Rattle.tt_cert.proofs.writing.Encoder.encode.Goals as goal

pub returns-clause-written : goal.returns-clause-written
returns-clause-written g c =
    subst (λ (l : List ℕ). Appends (g.W.Sink.contents c.args.sink.now) (g.W.Sink.contents c.write_all.new.sink) l) (c.deref.ensures.value ∙ c.in_ok-push_section.ensures.text)
    c.in_ok-write_all.ensures.written

pub returns-clause-text : goal.returns-clause-text
returns-clause-text g c = λ turns. record { finished = c.order_facts.ensures; fits = c.in_ok-push_section.ensures.fits turns }
