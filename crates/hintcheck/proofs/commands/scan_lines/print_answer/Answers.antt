use Rattle.std.proofs.lemmas.Result.{on_ok_weaker}
use Rattle.hintcheck.proofs.ScannedLines.{glyph_line}
use Rattle.hintcheck.proofs.commands.scan_lines.print_answer.Goals as goal

pub returns-in-Glyph-clause-written : goal.returns-in-Glyph-clause-written
returns-in-Glyph-clause-written g c =
    let contents = g.O.Sink.contents in
    on_ok_weaker c.print_counts.result
    (λ written. glyph_line c.args.by c.programs-programs.result c.args.verdict.now c.refused.result.now c.refused-in-Glyph.result.now c.in-Some.first.now c.in-Glyph.field-0
    (contents c.args.out.now) (contents c.print_counts.new.out) c.in-Some.ensures.value c.refused.ensures c.refused-in-Glyph.ensures c.programs-programs.ensures c.in-Glyph.is written)
    c.print_counts.ensures.written
