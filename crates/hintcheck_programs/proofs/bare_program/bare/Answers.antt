use Rattle.hintcheck_programs.proofs.UnlimitedFaults.{table_fault_told}
use Rattle.hintcheck_programs.proofs.bare_program.bare.Goals as goal

pub returns-in-Err-clause-faults : goal.returns-in-Err-clause-faults
returns-in-Err-clause-faults c =
    rw c.into_font_fault.ensures (table_fault_told c.unlimited-budget.result _ c.in-Err.fault (λ exceeded. let never = rw c.unlimited-budget.ensures at exceeded in cc) c.in-Err.ensures.faults)
