use Rattle.hintcheck_certificates.proofs.UnlimitedFaults.{counts_found, font_unlimited}
use Rattle.hintcheck_certificates.proofs.certificate.find_font.Goals as goal

pub returns-in-Err-clause-failures : goal.returns-in-Err-clause-failures
returns-in-Err-clause-failures g c = rw c.without_budget.ensures (counts_found _ _ c.in-Err.fault c.in-Err.ensures.failures)

pub returns-in-Err-clause-faults : goal.returns-in-Err-clause-faults
returns-in-Err-clause-faults g c = rw c.without_budget.ensures (font_unlimited _ c.in-Err.fault c.in-Err.ensures.faults)
