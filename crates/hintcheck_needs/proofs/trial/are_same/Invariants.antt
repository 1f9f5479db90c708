use Rattle.std.proofs.Common.{◌≡◌, ◌↔◌, length}
use Rattle.hintcheck_needs.proofs.trial.are_same.Given as goal

abbrev pub invariant-loop-one : goal.invariant-loop-one
invariant-loop-one l = record {
  len : length l.one-iterator.a.rest.now ≡ length l.one-iterator.b.rest.now;
  same : (l.one-iterator.a.rest.now ≡ l.one-iterator.b.rest.now) ↔ (l.fn.some ≡ l.fn.others);
}
