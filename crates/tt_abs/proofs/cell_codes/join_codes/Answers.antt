use Rattle.std.proofs.Common.{◌<◌, length, arith, ◌∙◌}
use Rattle.std.proofs.lemmas.List.{length-set}
use Rattle.tt_abs.proofs.CodeLists.{joined_more, rest_kept}
use Rattle.tt_abs.proofs.cell_codes.join_codes.Goals as goal

pub loop-i-preserved : goal.loop-i-preserved
loop-i-preserved c =
    let lt : c.loop-i.i < length c.loop-i.mine = omega arith in record {
      depth = length-set c.loop-i.mine c.loop-i.i c.joined_code.result ∙ c.loop-i.invariant.depth;
      done = joined_more c.args.mine.now c.loop-i.mine c.args.theirs.now c.loop-i.i c.joined_code.result lt c.loop-i.invariant.done c.loop-i.invariant.rest c.joined_code.ensures;
      rest = rest_kept c.args.mine.now c.loop-i.mine c.loop-i.i c.joined_code.result c.loop-i.invariant.rest;
    }
