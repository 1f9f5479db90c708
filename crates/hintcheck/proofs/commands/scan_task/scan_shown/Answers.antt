use Rattle.std.proofs.lemmas.Result.{IfOk-weaker}
use Rattle.hintcheck.proofs.ScannedFileLemmas.{only_file}
use Rattle.hintcheck.proofs.commands.scan_task.scan_shown.Goals as goal

pub returns-in-Some-len1-clause-printed : goal.returns-in-Some-len1-clause-printed
returns-in-Some-len1-clause-printed g c =
    let contents = g.O.Sink.contents in
    let name = c.in-Some-len1.name in
    IfOk-weaker c.scan_renamed.result _ _ (λ status p. rw c.in-Some-len1.is-0 (only_file c.args.plan name.now status (contents c.args.out.now) (contents c.scan_renamed.new.out) p)) c.scan_renamed.ensures.printed
