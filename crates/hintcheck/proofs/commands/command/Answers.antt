use Rattle.std.proofs.Common.{inl, map}
use Rattle.hintcheck_words.specs.Requests.{asked}
use Rattle.hintcheck.specs.CommandFaults.{of_request, reported, told}
use Rattle.hintcheck.proofs.AnswerLemmas.{no_task}
use Rattle.hintcheck.proofs.commands.command.Goals as goal

pub returns-in-Ok-do_task-clause-told : goal.returns-in-Ok-do_task-clause-told
returns-in-Ok-do_task-clause-told g c = λ two. told (asked c.in-Ok.task) c.in-Ok.ensures.asked (c.in-Ok-do_task.ensures.answer.told two)

pub returns-in-Ok-clause-told : goal.returns-in-Ok-clause-told
returns-in-Ok-clause-told g c = λ two. let fault = c.in-Err-do_task in reported (fault.fault, of_request fault.fault (asked c.in-Ok.task) c.in-Ok.ensures.asked fault.ensures.faults, c.tell-status.ensures.status)

pub returns-in-Ok-clause-scanned : goal.returns-in-Ok-clause-scanned
returns-in-Ok-clause-scanned g c = λ two. let fault = c.in-Err-do_task in inl (fault.fault, of_request fault.fault (asked c.in-Ok.task) c.in-Ok.ensures.asked fault.ensures.faults, c.tell-status.ensures.status)

pub returns-clause-told : goal.returns-clause-told
returns-clause-told g c = λ two. reported (no_task (map (λ w. w.now) c.args.words.now) c.in-Err.fault c.tell_words.result c.in-Err.ensures.refused (c.tell_words.ensures.told two))

pub returns-clause-scanned : goal.returns-clause-scanned
returns-clause-scanned g c = λ two. inl (no_task (map (λ w. w.now) c.args.words.now) c.in-Err.fault c.tell_words.result c.in-Err.ensures.refused (c.tell_words.ensures.told two))
