use Rattle.hintcheck.proofs.AnswerLemmas.{font_answered}
use Rattle.hintcheck.proofs.commands.explain_font.explain_of_font.Goals as goal

pub returns-clause-answer : goal.returns-clause-answer
returns-clause-answer g c = λ place.
    let contents = g.O.Sink.contents in
    let told = c.explain_within.ensures in
    font_answered c.args.name.now c.deref.result.now place c.args.options c.explain_within.result (contents c.args.out.now) (contents c.explain_within.new.out) told.status told.safe told.refused
