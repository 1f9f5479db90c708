use Rattle.hintcheck_programs.proofs.UnlimitedFaults.{font_fault_told}
use Rattle.hintcheck_programs.proofs.font.verdict.Goals as goal

pub returns-in-Err-clause-faults : goal.returns-in-Err-clause-faults
returns-in-Err-clause-faults c = rw c.into_font_fault.ensures (font_fault_told _ c.in-Err.fault c.in-Err.ensures.faults)
