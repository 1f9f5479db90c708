use Rattle.std.proofs.Common.{◌≡◌, ◌-◌, length, take}
use Rattle.tt_abs.proofs.stack.shorten.Given as goal

abbrev pub invariant-loop : goal.invariant-loop
invariant-loop l = l.codes.items ≡ take (length l.initial.codes.items - l.counter) l.initial.codes.items
