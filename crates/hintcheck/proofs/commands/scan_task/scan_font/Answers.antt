use Rattle.hintcheck.specs.Representation.Known.{are_alone, is_listed_by}
use Rattle.hintcheck.specs.Representation.ScannedFiles.{label_of}
use Rattle.hintcheck.specs.Scans.{judged}
use Rattle.hintcheck.proofs.ScannedLines.{scans_one}
use Rattle.hintcheck.proofs.commands.scan_task.scan_font.Goals as goal

pub returns-clause-printed : goal.returns-clause-printed
returns-clause-printed g c =
    let contents = g.O.Sink.contents in
    let plan = c.args.plan in
    let given = c.in-Ok.judged in
    scans_one plan.options (are_alone plan.options plan.known.now) (is_listed_by plan.known.now) (label_of c.args.label) c.args.bytes.now (judged given.by given.verdict) c.in_ok-noted.noted.status (contents c.args.out.now) (contents c.tell_judged.new.out)
    c.in-Ok.ensures.given c.in_ok-noted.ensures.status c.in_ok-tell_judged.ensures.written
