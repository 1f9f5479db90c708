use Rattle.std.proofs.Common.{◌≡◌}
use Rattle.hintcheck_programs.specs.Representation.ProgramOrder.{stage_of}
use Rattle.hintcheck_programs.specs.Representation.FontVerdicts.{KeepsKnown}
use Rattle.hintcheck_programs.proofs.ProgramSteps.{calls_left}
use Rattle.hintcheck.proofs.ProgramsBefore.{IsOnWay}
use Rattle.hintcheck.proofs.explanation.refused_before.Given as goal

abbrev pub invariant-loop-alloc : goal.invariant-loop-alloc
invariant-loop-alloc l = record {
  font : l.programs.font ≡ l.fn.programs.font;
  known : KeepsKnown l.programs.font.now (stage_of l.programs);
  way : IsOnWay l.called (stage_of l.programs);
}

abbrev pub decreases-loop-alloc : goal.decreases-loop-alloc
decreases-loop-alloc l = calls_left l.programs.font.now (stage_of l.programs)
