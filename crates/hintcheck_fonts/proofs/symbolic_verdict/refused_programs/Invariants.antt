use Rattle.std.proofs.Common.{◌≡◌}
use Rattle.tt_setting.specs.Entries.{Ascends}
use Rattle.hintcheck_programs.specs.Representation.ProgramOrder.{CanGoOn, stage_of}
use Rattle.hintcheck_fonts.proofs.SymbolicSteps.{AreJudgedTill, takings_left}
use Rattle.hintcheck_fonts.proofs.symbolic_verdict.refused_programs.Given as goal

abbrev pub invariant-loop-outcome : goal.invariant-loop-outcome
invariant-loop-outcome l = record {
  font : l.programs.font.now ≡ l.fn.font;
  can : CanGoOn (λ functions. Ascends functions) (stage_of l.programs);
  judged : AreJudgedTill l.programs.font.now l.judge (stage_of l.programs) l.refused.items;
}

abbrev pub decreases-loop-outcome : goal.decreases-loop-outcome
decreases-loop-outcome l = takings_left l.programs.font.now l.again (stage_of l.programs)
