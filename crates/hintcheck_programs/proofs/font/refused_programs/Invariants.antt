use Rattle.std.proofs.Common.{◌≡◌}
use Rattle.tt_setting.specs.Budgets.{AreAlike, Spends}
use Rattle.hintcheck_programs.specs.Representation.ProgramOrder.{stage_of}
use Rattle.hintcheck_programs.specs.Representation.FontVerdicts.{KeepsKnown}
use Rattle.hintcheck_programs.proofs.ProgramSteps.{calls_left}
use Rattle.hintcheck_programs.proofs.VerdictSteps.{AreRefusedTill}
use Rattle.hintcheck_programs.proofs.font.refused_programs.Given as goal

abbrev pub invariant-loop-refused : goal.invariant-loop-refused
invariant-loop-refused l = record {
  font : l.programs.font.now ≡ l.fn.font;
  known : KeepsKnown l.programs.font.now (stage_of l.programs);
  till : AreRefusedTill l.programs.font.now (stage_of l.programs) l.refused.items;
  spends : Spends l.fn.budget l.budget;
  alike : AreAlike l.fn.budget l.budget;
}

abbrev pub decreases-loop-refused : goal.decreases-loop-refused
decreases-loop-refused l = calls_left l.programs.font.now (stage_of l.programs)
