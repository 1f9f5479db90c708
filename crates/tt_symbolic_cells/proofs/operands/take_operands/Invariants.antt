use Rattle.std.proofs.Common.{drop}
use Rattle.tt_code.specs.Operands.{take_operands}
use Rattle.tt_setting.specs.Settings.{setting_of}
use Rattle.tt_symbolic_state.specs.Values.{Fits, Valuation}
use Rattle.tt_symbolic_state.specs.Shows.{graphics_of, values}
use Rattle.tt_symbolic_cells.specs.Taking.{GoesOn}
use Rattle.tt_symbolic_cells.proofs.operands.take_operands.Given as goal

abbrev pub invariant-loop-operand : goal.invariant-loop-operand
invariant-loop-operand l = (v : Valuation) → Fits l.fn.ranges v
    → GoesOn (take_operands (setting_of l.fn.setting) (graphics_of v l.fn.graphics) l.fn.operands (values v l.fn.stack)) (drop l.taken (values v l.fn.stack)) (take_operands (setting_of l.fn.setting) (graphics_of v l.fn.graphics) (drop l.operand-index l.fn.operands))
