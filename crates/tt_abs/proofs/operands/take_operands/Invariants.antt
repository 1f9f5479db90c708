use Rattle.std.proofs.Common.{drop, take}
use Rattle.tt_abs.specs.Transfers.{take_cells}
use Rattle.tt_setting.specs.Settings.{setting_of}
use Rattle.tt_abs.specs.Representation.Taken.{GoesOn, TakesTo}
use Rattle.tt_abs.proofs.operands.take_operands.Given as goal

abbrev pub invariant-loop-operand : goal.invariant-loop-operand
invariant-loop-operand l =
    (GoesOn (take_cells (setting_of l.fn.setting) l.fn.graphics l.fn.operands l.fn.stack) (drop l.taken l.fn.stack) (take_cells (setting_of l.fn.setting) l.fn.graphics (drop l.operand-index l.fn.operands)))
    × (TakesTo l.fn.stack l.taken (take_cells (setting_of l.fn.setting) l.fn.graphics (take l.operand-index l.fn.operands) l.fn.stack))
