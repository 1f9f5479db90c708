use Rattle.std.proofs.Common.{[], refl, subst}
use Rattle.std.specs.Prelude.{IfErr}
use Rattle.tt_code.specs.Faults.{IsMemory}
use Rattle.tt_code.specs.Grammar.{none}
use Rattle.hintcheck_programs.proofs.program.empty_program.Goals as goal

pub memory_error-requires : goal.memory_error-requires
memory_error-requires c = subst (λ r. IfErr r IsMemory) c.in-Err.is (c.cut.ensures.only [] (record { joined = refl; each = tt }) none)
