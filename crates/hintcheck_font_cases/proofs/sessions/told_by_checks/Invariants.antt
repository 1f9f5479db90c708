use Rattle.hintcheck_certificates.specs.Sessions.{IsForChecking}
use Rattle.hintcheck_font_cases.proofs.sessions.told_by_checks.Given as goal

abbrev pub invariant-loop : goal.invariant-loop
invariant-loop l = IsForChecking l.session
