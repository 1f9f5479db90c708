use Rattle.std.proofs.Common.{◌≤◌, ◌*◌, drop, reverse, take}
use Rattle.tt_cert.specs.Representation.KeptTexts.{KeepsCut}
use Rattle.tt_cert.proofs.writing.spell_cells.Given as goal

abbrev pub invariant-loop-i : goal.invariant-loop-i
invariant-loop-i l = record {
  few : l.used ≤ 5 * l.i;
  spelled : KeepsCut l.start (take l.used l.bytes) (take l.i l.ends) (take l.i (drop l.from (reverse l.state.stack)));
}
