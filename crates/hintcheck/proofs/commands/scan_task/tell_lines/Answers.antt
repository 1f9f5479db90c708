use Rattle.std.proofs.Common.{◌∙◌, refl, sym}
use Rattle.hintcheck.specs.Representation.Known.{are_alone}
use Rattle.hintcheck.specs.Representation.ScannedFiles.{label_of}
use Rattle.hintcheck.proofs.ScannedLines.{only_nothing, tells_line}
use Rattle.hintcheck.proofs.commands.scan_task.tell_lines.Goals as goal

pub returns-then-are_alone-clause-written : goal.returns-then-are_alone-clause-written
returns-then-are_alone-clause-written g c =
    let contents = g.O.Sink.contents in
    let plan = c.args.plan in
    let given = c.args.font.judged.now in
    let new = contents c.print_line.new.out in
    tells_line plan.options (are_alone plan.options plan.known.now) (label_of c.args.font.label) given.by given.verdict (contents c.args.out.now) new new c.requires.loud c.requires.lines (λ alone. refl) c.in_ok-print_line.ensures.written (only_nothing new)

pub returns-clause-written : goal.returns-clause-written
returns-clause-written g c =
    let contents = g.O.Sink.contents in
    let plan = c.args.plan in
    let given = c.args.font.judged.now in
    tells_line plan.options (are_alone plan.options plan.known.now) (label_of c.args.font.label) given.by given.verdict (contents c.args.out.now) (contents c.print_line.new.out) (contents c.write.new.self) c.requires.loud c.requires.lines
    (λ alone. let other = sym c.are_alone.ensures ∙ c.if-are_alone.false in cc) c.in_ok-print_line.ensures.written c.write.ensures.kept
