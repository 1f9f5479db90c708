use Rattle.std.proofs.Common.{◌-◌, length, reverse, take}
use Rattle.tt_cert.specs.Representation.KeptTexts.{IsStackText}
use Rattle.tt_cert.proofs.writing.keep_stack.Given as goal

abbrev pub invariant-cells : goal.invariant-cells
invariant-cells l = IsStackText l.text (take l.place (reverse l.state.stack))

abbrev pub decreases-cells : goal.decreases-cells
decreases-cells l = length l.state.stack - l.place
