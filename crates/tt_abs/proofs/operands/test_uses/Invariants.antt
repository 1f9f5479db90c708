use Rattle.std.proofs.Common.{◌≡◌, drop}
use Rattle.tt_abs.specs.Transfers.{test_cell_uses}
use Rattle.tt_setting.specs.Settings.{setting_of}
use Rattle.tt_abs.proofs.operands.test_uses.Given as goal

abbrev pub invariant-loop-used : goal.invariant-loop-used
invariant-loop-used l = test_cell_uses (setting_of l.fn.setting) l.fn.graphics l.fn.uses ≡ test_cell_uses (setting_of l.fn.setting) l.fn.graphics (drop l.used-index l.fn.uses)
