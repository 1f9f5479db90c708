use Rattle.std.proofs.Common.{take}
use Rattle.std.specs.List.{All}
use Rattle.tt_symbolic_state.specs.Shows.{IsFreeCall}
use Rattle.tt_symbolic_state.proofs.state.any_call_mentions.Given as goal

abbrev pub invariant-loop-call : goal.invariant-loop-call
invariant-loop-call l = All (IsFreeCall l.number) (take l.call-index l.calls)
