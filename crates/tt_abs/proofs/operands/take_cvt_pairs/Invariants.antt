use Rattle.std.proofs.Common.{◌≡◌, ◌+◌, ◌-◌, drop}
use Rattle.tt_code.specs.Operands.{times, pair, pairs}
use Rattle.tt_code.specs.States.{is_below}
use Rattle.tt_code.specs.declared.reason.Reason.TheVariants as reason
use Rattle.tt_abs.specs.Transfers.{tested_cell, known_count}
use Rattle.tt_abs.specs.Representation.Taken.{GoesOn}
use Rattle.tt_abs.proofs.operands.take_cvt_pairs.Given as goal

abbrev pub invariant-loop-i : goal.invariant-loop-i
invariant-loop-i l =
    (GoesOn (pairs known_count (tested_cell (λ z. is_below z l.fn.setting.cvt) reason.Cvt) (drop l.fn.taken l.fn.stack)) (drop l.after l.fn.stack)
    (times (l.n - l.i) (pair (tested_cell (λ z. is_below z l.fn.setting.cvt) reason.Cvt))))
    × (l.after ≡ l.fn.taken + 1 + (l.i + l.i))
