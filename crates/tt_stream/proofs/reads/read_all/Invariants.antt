use Rattle.std.proofs.Common.{◌-◌, ◌^◌, vec_len}
use Rattle.tt_stream.proofs.Written.{IsRead}
use Rattle.tt_stream.proofs.reads.read_all.Given as goal

abbrev pub invariant-loop-bytes : goal.invariant-loop-bytes
invariant-loop-bytes g l = IsRead (g.R.Source.remaining l.fn.source) (g.R.Source.remaining l.source) (g.R.Source.failures l.fn.source) (g.R.Source.failures l.source) l.bytes.items

abbrev pub decreases-loop-bytes : goal.decreases-loop-bytes
decreases-loop-bytes g l = 2 ^ 64 - vec_len l.bytes
