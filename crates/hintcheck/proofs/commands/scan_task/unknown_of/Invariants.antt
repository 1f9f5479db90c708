use Rattle.std.proofs.Common.{◌≡◌, take}
use Rattle.std.specs.Prelude.{not}
use Rattle.std.specs.List.{list_any}
use Rattle.hintcheck.specs.KnownRefusals.{is_unknown}
use Rattle.hintcheck.specs.Representation.Known.{is_listed_by}
use Rattle.hintcheck.specs.Representation.ScannedFiles.{label_of}
use Rattle.hintcheck.specs.Scans.{names_none}
use Rattle.hintcheck.proofs.commands.scan_task.unknown_of.Given as goal

abbrev pub invariant-loop-refused : goal.invariant-loop-refused
invariant-loop-refused l = not (names_none l.unknown.items) ≡ list_any (is_unknown l.plan.options.fail_on (is_listed_by l.plan.known.now) (label_of l.font.label) l.font.bytes.now) (take l.refused-index l.refused-items)
