use Rattle.std.proofs.Common.{◌≡◌, ℕ, ◌<◌, ◌+◌, Some}
use Rattle.std.specs.Prelude.{slice_get}
use Rattle.std.specs.declared.cmp.Ordering.TheVariants.{Less}
use Rattle.tt_code.specs.declared.machine.Frame.{Frame}
use Rattle.tt_family.specs.Built.{key_cmp, key_of}
use Rattle.tt_family.proofs.builder.ascends.Given as goal

abbrev pub invariant-loop-i : goal.invariant-loop-i
invariant-loop-i l = record {
  ascends : (k : ℕ) (d e : ℕ × Frame) → k + 1 < l.i → slice_get l.entries k ≡ Some d → slice_get l.entries (k + 1) ≡ Some e → key_cmp (key_of d) (key_of e) ≡ Less;
}
