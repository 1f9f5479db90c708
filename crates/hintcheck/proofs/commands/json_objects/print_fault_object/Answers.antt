use Rattle.std.proofs.Common.{ℕ, List, subst}
use Rattle.hintcheck_explain.specs.Texts.{WritesFirst}
use Rattle.hintcheck.specs.JsonObjects.{beginning, profile_name}
use Rattle.hintcheck.specs.Representation.ScannedFiles.{label_of}
use Rattle.hintcheck.proofs.ScannedLines.{first_then}
use Rattle.hintcheck.proofs.commands.json_objects.print_fault_object.Goals as goal

pub returns-clause-written : goal.returns-clause-written
returns-clause-written g c =
    let contents = g.O.Sink.contents in
    let old = contents c.args.out.now in
    let new = contents c.writeln.new.self in
    let label = label_of c.args.label in
    subst (λ (status : ℕ). WritesFirst (beginning label (profile_name c.args.profile) status) old new) c.status.ensures.status
    (subst (λ (profile : List ℕ). WritesFirst (beginning label profile c.status.result) old new) c.name_of_profile.ensures
    (first_then _ old (contents c.print_beginning.new.out) new c.in_ok-print_beginning.ensures.written c.writeln.ensures.kept))
