use Rattle.std.proofs.Common.{[]}
use Rattle.hintcheck.specs.Representation.Known.{are_alone, is_listed_by}
use Rattle.hintcheck.specs.Representation.ScannedFiles.{label_of}
use Rattle.hintcheck.specs.Scans.{unread}
use Rattle.hintcheck.proofs.ScannedLines.{scans_one}
use Rattle.hintcheck.proofs.commands.scan_task.scan_unread.Goals as goal

pub returns-clause-printed : goal.returns-clause-printed
returns-clause-printed g c =
    let contents = g.O.Sink.contents in
    let plan = c.args.plan in
    scans_one plan.options (are_alone plan.options plan.known.now) (is_listed_by plan.known.now) (label_of c.args.label) [] (unread c.args.fault.now) c.status.result (contents c.args.out.now) (contents c.tell_unread.new.out)
    c.requires c.status.ensures.status c.in_ok-tell_unread.ensures.written
