use Rattle.std.proofs.Common.{arith}
use Rattle.tt_abs.proofs.CodedCells.{all_lowest, share_all}
use Rattle.tt_abs.proofs.stack.Stack.is_same.Goals as goal

pub returns-then-len : goal.returns-then-len
returns-then-len c =
    let mine = c.args.self.now in
    let theirs = c.args.other.now in
    let n = c.len-then-len.result in (
      λ shared. all_lowest mine theirs n (omega arith) (omega arith) (c.shares_bottom.ensures.0 shared).same,
      λ same. c.shares_bottom.ensures.1 (share_all mine theirs n (omega arith) same),
    )
