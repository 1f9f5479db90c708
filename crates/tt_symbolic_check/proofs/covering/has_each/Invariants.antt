use Rattle.std.proofs.Common.{take, ℕ, ◌≡◌, Some}
use Rattle.std.specs.List.{All}
use Rattle.tt_setting.specs.Entries.{listed}
use Rattle.tt_symbolic_check.proofs.covering.has_each.Given as goal

abbrev pub invariant-loop-i : goal.invariant-loop-i
invariant-loop-i l = All (λ (e : ℕ × ℕ). listed l.mine e.0 ≡ Some e.1) (take l.i l.theirs)
