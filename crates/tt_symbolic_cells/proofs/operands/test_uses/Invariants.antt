use Rattle.std.proofs.Common.{drop, ◌≡◌}
use Rattle.tt_code.specs.Operands.{test_uses}
use Rattle.tt_setting.specs.Settings.{setting_of}
use Rattle.tt_symbolic_state.specs.Values.{Fits, Valuation}
use Rattle.tt_symbolic_state.specs.Shows.{graphics_of}
use Rattle.tt_symbolic_cells.proofs.operands.test_uses.Given as goal

abbrev pub invariant-loop-used : goal.invariant-loop-used
invariant-loop-used l = (v : Valuation) → Fits l.fn.ranges v
    → test_uses (setting_of l.fn.setting) (graphics_of v l.fn.graphics) l.fn.uses ≡ test_uses (setting_of l.fn.setting) (graphics_of v l.fn.graphics) (drop l.used-index l.fn.uses)
