use Rattle.std.proofs.Common.{◌∙◌, ap}
use Rattle.tt_stream.specs.declared.text.TheConstants.{ROOM}
use Rattle.tt_stream.specs.Representation.Windows.{Part}
use Rattle.tt_stream.proofs.Windows.{shown}
use Rattle.tt_stream.proofs.text.render.Goals as goal

pub returns-in-Ok-clause-text : goal.returns-in-Ok-clause-text
returns-in-Ok-clause-text g c =
    shown ROOM c.args.skip _ _ c.in-Ok.field-0 (g.D.Display.output c.args.value.now) c.into_inner.result
    (ap (λ (p : Part). p.skip) c.new-formatter.ensures.writer ∙ c.new.ensures.skip)
    (ap (λ (p : Part). p.kept) c.new-formatter.ensures.writer ∙ c.new.ensures.empty)
    c.new-formatter.ensures.plain c.into_inner.ensures c.in-Ok.ensures.writes
