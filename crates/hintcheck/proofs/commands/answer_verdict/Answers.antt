use Rattle.std.proofs.Common.{Bool, OnOk, subst}
use Rattle.std.specs.Io.KnownBytes.{Appends}
use Rattle.hintcheck_words.specs.Requests.{asked}
use Rattle.hintcheck.specs.Texts.{told_text}
use Rattle.hintcheck.proofs.AnswerLemmas.{printing_fault, verdict_answered}
use Rattle.hintcheck.proofs.commands.answer_verdict.Goals as goal

pub returns-clause-answer : goal.returns-clause-answer
returns-clause-answer g c =
    let contents = g.O.Sink.contents in
    let old = contents c.args.out.now in
    let new = contents c.tell_verdict.new.out in
    let told = c.tell_verdict.ensures in
    let j = c.in_ok-judged.judged in
    verdict_answered (asked c.args.task.now) c.tell_verdict.result j.by j.verdict old new c.requires c.in_ok-judged.ensures.given told.status told.accepted told.refused
    (subst (λ (last : Bool). OnOk c.tell_verdict.result (Appends old new (told_text last j.by j.verdict))) c.asks_last_line.ensures told.written)

pub returns-clause-faults : goal.returns-clause-faults
returns-clause-faults g c = printing_fault (asked c.args.task.now) c.tell_verdict.result c.in_ok-judged.ensures.given.none c.tell_verdict.ensures.faults
