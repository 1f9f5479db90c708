use Rattle.std.proofs.Common.{refl}
use Rattle.std.proofs.lemmas.Result.{on_ok_weaker}
use Rattle.hintcheck.specs.Representation.Known.{are_alone}
use Rattle.hintcheck.specs.Representation.ScannedFiles.{label_of}
use Rattle.hintcheck.specs.Scans.{unread}
use Rattle.hintcheck.proofs.ScannedLines.{first_then, json_alone, tells_fault, tells_object}
use Rattle.hintcheck.proofs.commands.scan_task.tell_unread.Goals as goal

pub returns-in-Json-clause-written : goal.returns-in-Json-clause-written
returns-in-Json-clause-written g c =
    let contents = g.O.Sink.contents in
    let plan = c.args.plan in
    on_ok_weaker c.print_fault_object.result
    (λ first. tells_object plan.options (are_alone plan.options plan.known.now) (label_of c.args.label) (unread c.args.fault.now) (contents c.args.out.now) (contents c.print_fault_object.new.out) (json_alone plan.options plan.known.now c.in-Json.is) refl c.in-Json.is first)
    c.print_fault_object.ensures.written

pub returns-clause-written : goal.returns-clause-written
returns-clause-written g c =
    let contents = g.O.Sink.contents in
    let plan = c.args.plan in
    let old = contents c.args.out.now in
    let new = contents c.writeln.new.self in
    tells_fault plan.options (are_alone plan.options plan.known.now) (label_of c.args.label) c.args.fault.now old new c.in_default.not-Json
    (first_then _ old (contents c.print_unread.new.out) new c.in_ok-print_unread.ensures.written c.in_ok-writeln.ensures.kept)
