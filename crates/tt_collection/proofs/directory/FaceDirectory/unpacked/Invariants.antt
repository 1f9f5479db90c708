use Rattle.std.proofs.Common.{◌≡◌}
use Rattle.tt_collection.specs.Faces.{moved_directory}
use Rattle.tt_collection.proofs.directory.FaceDirectory.unpacked.Given as goal

abbrev pub invariant-loop-i : goal.invariant-loop-i
invariant-loop-i l = l.file.items ≡ moved_directory l.len l.self.bytes.now l.i
