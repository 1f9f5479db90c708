use Rattle.std.proofs.Common.{rules, ◌++◌, take}
use Rattle.std.proofs.KnownBytes.{Consumes-trans}
use Rattle.tt_stream.specs.Reads.{ConsumesBeginning}
use Rattle.tt_stream.proofs.reads.read_all.Goals as goal

pub returns-in_err-extend_from_slice-clause-beginning :
    goal.returns-in_err-extend_from_slice-clause-beginning
returns-in_err-extend_from_slice-clause-beginning g c =
    let beginning : ConsumesBeginning (g.R.Source.remaining c.args.source.now) (g.R.Source.remaining c.read.new.self) = record {
      bytes = c.loop-bytes.bytes.items ++ take c.in_ok-count.count c.read.new.buf;
      consumed = Consumes-trans _ _ _ _ _ c.loop-bytes.invariant.consumed c.in_ok-count.ensures.bytes.0;
    } in
    search rules
