use Rattle.hintcheck.proofs.AnswerLemmas.{list_answered}
use Rattle.hintcheck.proofs.commands.list_task.list_of_file.Goals as goal

pub returns-clause-answer : goal.returns-clause-answer
returns-clause-answer g c =
    let contents = g.O.Sink.contents in
    let told = c.list_program.ensures in
    list_answered c.args.name.now c.args.word.now c.args.options c.deref.result.now c.list_program.result (contents c.args.out.now) (contents c.list_program.new.out) told.status told.listed told.unlisted told.told
