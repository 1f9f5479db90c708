use Rattle.std.proofs.Common.{[], take}
use Rattle.std.specs.List.{AllByRecursion}
use Rattle.tt_cert.specs.Text.{pair_text}
use Rattle.tt_cert.proofs.Fields.{PairFits}
use Rattle.tt_cert.proofs.Pushed.{AreWritten}
use Rattle.tt_cert.proofs.writing.push_pairs.Given as goal

abbrev pub invariant-loop-function : goal.invariant-loop-function
invariant-loop-function l = AreWritten pair_text l.fn.out.items [] (take l.function-index l.functions) l.out.items
    × AllByRecursion PairFits (take l.function-index l.functions)
