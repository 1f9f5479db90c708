use Rattle.std.proofs.Common.{◌≡◌}
use Rattle.tt_setting.specs.Budgets.{AreAlike, Spends}
use Rattle.tt_stream.specs.Reads.{ConsumesBeginning}
use Rattle.hintcheck_programs.proofs.ProgramSteps.{calls_left}
use Rattle.hintcheck_certificates.proofs.SessionRuns.{IsCheckedSoFar}
use Rattle.hintcheck_certificates.proofs.UnreadBytes.{IsUnreadSoFar}
use Rattle.hintcheck_certificates.proofs.font_check.check_programs.Given as goal

abbrev pub invariant-loop-refused : goal.invariant-loop-refused
invariant-loop-refused g l =
    IsCheckedSoFar l.fn.font (g.S.Source.remaining l.fn.source) l.session (g.S.Source.remaining l.source) l.refused.items
    × (g.S.Source.failures l.source ≡ g.S.Source.failures l.fn.source)
    × ConsumesBeginning (g.S.Source.remaining l.fn.source) (g.S.Source.remaining l.source)
    × Spends l.fn.budget l.budget
    × IsUnreadSoFar (g.S.Source.remaining l.fn.source) l.session (g.S.Source.remaining l.source) l.refused.items
    × AreAlike l.fn.budget l.budget

abbrev pub decreases-loop-refused : goal.decreases-loop-refused
decreases-loop-refused g l = calls_left l.session.font l.session.stage
