-- The instructions of which the machine with control values says more, on a symbolic state.
use Rattle.std.specs.Prelude.{ℕ, [], ◌∷◌}
use Rattle.tt_code.specs.Table.{Lists, refinement_of}
use Rattle.tt_code.specs.Settings.{Setting}
use Rattle.tt_code.specs.Changes.{plain}
use Rattle.tt_code.specs.declared.kinds.Operand.TheVariants as operand
use Rattle.tt_code.specs.declared.kinds.Pushed.TheVariants as pushed
use Rattle.tt_code.specs.declared.kinds.Row.{Row}
use Rattle.tt_symbolic_state.specs.declared.state.State.{State}
use Rattle.tt_code.specs.declared.kinds.Refinement.{Refinement}
use Rattle.tt_code.specs.declared.kinds.Refinement.TheVariants.{ChangesControl, ReadsControl, WritesControl}
use Rattle.tt_symbolic_state.specs.CvtMachine.{Refines}
use Rattle.tt_code.specs.declared.kinds.Refinement.TheVariants as kinds
use Rattle.tt_symbolic_cells.specs.declared.exact.Exact.{Exact}
use Rattle.tt_symbolic_cells.specs.declared.exact.Exact.TheVariants as exact
use Rattle.tt_symbolic.specs.Representation.Plain.{line_of}
use Rattle.tt_symbolic.specs.Sound.{Allowing, Works}

-- what a kind of instruction allows
abbrev pub refined : Refinement → Allowing
refined kind m old choices new = Refines kind m.stack old choices new

-- the line of RCVT
abbrev pub read_line : Lists
read_line = record {
  operands = operand.Cvt ∷ [];
  uses = [];
  updates = [];
  pushes = pushed.Any ∷ [];
}

-- the line of WCVTP and WCVTF
abbrev pub write_line : Lists
write_line = record {
  operands = operand.Number ∷ operand.Cvt ∷ [];
  uses = [];
  updates = [];
  pushes = [];
}

-- the line of MAX, MIN, MUL and DIV
abbrev pub of_two_line : Lists
of_two_line = record {
  operands = operand.Number ∷ operand.Number ∷ [];
  uses = [];
  updates = [];
  pushes = pushed.Any ∷ [];
}

-- the line of FLOOR and CEILING
abbrev pub of_one_line : Lists
of_one_line = record {
  operands = operand.Number ∷ [];
  uses = [];
  updates = [];
  pushes = pushed.Any ∷ [];
}

-- what the machine says of the result of such an instruction
abbrev pub refinement_for : Exact → Refinement
refinement_for exact.Greatest = kinds.Greatest
refinement_for exact.Least = kinds.Least
refinement_for exact.Product = kinds.Product
refinement_for exact.Quotient = kinds.Quotient
refinement_for exact.Floor = kinds.Floor
refinement_for exact.Ceiling = kinds.Ceiling

-- its line
abbrev pub exact_line : Exact → Lists
exact_line exact.Greatest = of_two_line
exact_line exact.Least = of_two_line
exact_line exact.Product = of_two_line
exact_line exact.Quotient = of_two_line
exact_line exact.Floor = of_one_line
exact_line exact.Ceiling = of_one_line

-- the instruction is carried out
abbrev pub ExactWorks : Exact → Setting → State → State → Type 0
ExactWorks op s old new =
    Works (λ m. plain s m (exact_line op)) (refined (refinement_for op)) old new

-- RCVT, WCVTP and WCVTF are carried out
abbrev pub ReadWorks : Setting → State → State → Type 0
ReadWorks s old new = Works (λ m. plain s m read_line) (refined ReadsControl) old new

abbrev pub WriteWorks : Setting → State → State → Type 0
WriteWorks s old new = Works (λ m. plain s m write_line) (refined WritesControl) old new

abbrev pub ChangeWorks : Setting → State → State → Type 0
ChangeWorks s old new = Works (λ m. plain s m write_line) (refined ChangesControl) old new

-- the plain line of this code is carried out
abbrev pub LineWorks : Setting → ℕ → Row → State → State → Type 0
LineWorks s code line old new =
    Works (λ m. plain s m (line_of line)) (refined (refinement_of code)) old new
