use Rattle.std.proofs.Common.{◌≡◌, ◌≤◌, take}
use Rattle.hintcheck.specs.RefusalClasses.{number_of_class}
use Rattle.hintcheck.proofs.commands.scan_lines.count_of.Given as goal

abbrev pub invariant-loop-program : goal.invariant-loop-program
invariant-loop-program l = record {
  counted : l.count ≡ number_of_class l.class (take l.program-index l.refused);
  few : l.count ≤ l.program-index;
}
