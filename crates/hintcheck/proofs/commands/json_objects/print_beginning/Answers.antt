use Rattle.std.proofs.Common.{ℕ, List, ◌++◌, codes, subst}
use Rattle.std.specs.Fmt.{decimal}
use Rattle.std.specs.Io.KnownBytes.{Appends}
use Rattle.hintcheck.specs.JsonObjects.{face_member}
use Rattle.hintcheck.proofs.commands.json_objects.print_beginning.Goals as goal

pub returns-clause-written : goal.returns-clause-written
returns-clause-written g c =
    let contents = g.O.Sink.contents in
    let front : List ℕ = codes "{\"version\":1,\"tool\":{\"name\":\"hintcheck\",\"version\":\"0.9.0\"},\"file\":" in
    let last : List ℕ = face_member c.args.label.face ++ (codes ",\"profile\":\"" ++ (c.args.profile.now ++ (codes "\",\"status\":" ++ (decimal c.args.status ++ codes ",")))) in
    subst (λ (file : List ℕ). Appends (contents c.args.out.now) (contents c.write.new.self) (front ++ (file ++ last))) c.in_ok-file.ensures c.in_ok-write.ensures.written
