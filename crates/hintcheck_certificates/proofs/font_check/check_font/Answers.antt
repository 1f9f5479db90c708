use Rattle.hintcheck_certificates.proofs.UnlimitedFaults.{counts_unlimited, finds_unlimited, font_unlimited, read_unlimited}
use Rattle.hintcheck_certificates.proofs.font_check.check_font.Goals as goal

pub returns-in-Err-clause-exact : goal.returns-in-Err-clause-exact
returns-in-Err-clause-exact g c = λ told. rw c.without_budget.ensures (finds_unlimited _ _ c.in-Err.fault (c.in-Err.ensures.exact told))

pub returns-in-Err-clause-accepts : goal.returns-in-Err-clause-accepts
returns-in-Err-clause-accepts g c = λ told d reads checked. rw c.without_budget.ensures (finds_unlimited _ _ c.in-Err.fault (c.in-Err.ensures.accepts told d reads checked))

pub returns-in-Err-clause-whole_units : goal.returns-in-Err-clause-whole_units
returns-in-Err-clause-whole_units g c = rw c.without_budget.ensures (read_unlimited _ _ _ c.in-Err.fault c.in-Err.ensures.whole_units)

pub returns-in-Err-clause-failures : goal.returns-in-Err-clause-failures
returns-in-Err-clause-failures g c = rw c.without_budget.ensures (counts_unlimited _ _ c.in-Err.fault c.in-Err.ensures.failures)

pub returns-in-Err-clause-faults : goal.returns-in-Err-clause-faults
returns-in-Err-clause-faults g c = rw c.without_budget.ensures (font_unlimited _ c.in-Err.fault c.in-Err.ensures.faults)
