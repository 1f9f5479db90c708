use Rattle.std.proofs.Common.{rules}
use Rattle.hintcheck.proofs.BareLemmas.{bare_given}
use Rattle.hintcheck.proofs.commands.bare_task.bare_verdict.Goals as goal

pub returns-in-Ok-clause-given : goal.returns-in-Ok-clause-given
returns-in-Ok-clause-given c =
    let words = c.args.words in
    let judged = c.in-Ok.judged in
    bare_given words.maxp.now words.cvt words.points words.contours words.program.now c.args.profile judged.by judged.verdict c.in_ok-maxp.maxp.items c.in_ok-program.program.items (search rules) (search rules) (search rules, search rules) (search rules) (search rules)
