use Rattle.std.proofs.lemmas.Result.{on_ok_weaker}
use Rattle.hintcheck.proofs.ScannedLines.{counts_written}
use Rattle.hintcheck.proofs.commands.scan_lines.print_counts.Goals as goal

pub returns-clause-written : goal.returns-clause-written
returns-clause-written g c =
    let contents = g.O.Sink.contents in
    on_ok_weaker c.writeln.result
    (λ written. counts_written c.args.by c.args.programs c.count_of-possible.result c.count_of-undecided.result c.count_of-left.result c.end_of_profile-end.result.now c.args.refused.now (contents c.args.out.now) (contents c.writeln.new.self)
    c.count_of-possible.ensures c.count_of-undecided.ensures c.count_of-left.ensures c.end_of_profile-end.ensures written) c.writeln.ensures.written
