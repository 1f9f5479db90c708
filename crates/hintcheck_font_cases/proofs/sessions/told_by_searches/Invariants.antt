use Rattle.hintcheck_certificates.specs.FindingSessions.{IsForFinding}
use Rattle.hintcheck_font_cases.proofs.sessions.told_by_searches.Given as goal

abbrev pub invariant-loop : goal.invariant-loop
invariant-loop l = IsForFinding l.session
