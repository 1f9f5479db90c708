use Rattle.std.proofs.Common.{◌≡◌, ◌+◌, ◌-◌, drop}
use Rattle.tt_code.specs.Operands.{times, pair, pairs}
use Rattle.tt_code.specs.declared.reason.Reason.TheVariants as reason
use Rattle.tt_abs.specs.Transfers.{tested_cell, is_point_in, known_count}
use Rattle.tt_setting.specs.Settings.{setting_of}
use Rattle.tt_abs.specs.Representation.Taken.{GoesOn}
use Rattle.tt_abs.proofs.operands.take_point_pairs.Given as goal

abbrev pub invariant-loop-i : goal.invariant-loop-i
invariant-loop-i l =
    (GoesOn (pairs known_count (tested_cell (is_point_in (setting_of l.fn.setting) l.fn.graphics l.fn.within) reason.Point) (drop l.fn.taken l.fn.stack)) (drop l.after l.fn.stack)
    (times (l.n - l.i) (pair (tested_cell (is_point_in (setting_of l.fn.setting) l.fn.graphics l.fn.within) reason.Point))))
    × (l.after ≡ l.fn.taken + 1 + (l.i + l.i))
