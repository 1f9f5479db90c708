use Rattle.std.proofs.Common.{ℕ, List, subst}
use Rattle.hintcheck_explain.specs.Texts.{WritesFirst}
use Rattle.hintcheck.specs.JsonObjects.{beginning}
use Rattle.hintcheck.specs.Representation.ScannedFiles.{label_of}
use Rattle.hintcheck.proofs.ScannedLines.{first_then, only_both}
use Rattle.hintcheck.proofs.commands.json_objects.print_verdict_object.Goals as goal

pub returns-clause-written : goal.returns-clause-written
returns-clause-written g c =
    let contents = g.O.Sink.contents in
    let old = contents c.args.out.now in
    let new = contents c.writeln.new.self in
    subst (λ (profile : List ℕ). WritesFirst (beginning (label_of c.args.font.label) profile c.args.status) old new) c.name_of_request.ensures
    (first_then _ old (contents c.print_beginning.new.out) new c.in_ok-print_beginning.ensures.written
    (only_both _ (contents c.print_refused.new.out) _ (only_both _ (contents c.write.new.self) _ c.write.ensures.kept c.in_ok-print_refused.ensures.kept) c.writeln.ensures.kept))
