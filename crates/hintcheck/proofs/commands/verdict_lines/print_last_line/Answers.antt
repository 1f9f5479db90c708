use Rattle.std.proofs.Common.{◌++◌, List, ℕ, codes, subst}
use Rattle.std.specs.Io.KnownBytes.{Appends}
use Rattle.std.proofs.lemmas.Result.{on_ok_weaker}
use Rattle.tt_setting.specs.declared.name.Name.TheVariants.{Cvt, Font}
use Rattle.hintcheck.proofs.PrintedLemmas.{refused_end}
use Rattle.hintcheck.proofs.commands.verdict_lines.print_last_line.Goals as goal

pub returns-in-Font-clause-written : goal.returns-in-Font-clause-written
returns-in-Font-clause-written g c =
    let old = g.O.Sink.contents c.args.out.now in
    let new = g.O.Sink.contents c.writeln-in-Font.new.self in
    on_ok_weaker c.writeln-in-Font.result
    (λ written. refused_end c.args.by Font c.args.verdict.now c.refused-2.result.now c.in-Some.first.now old new c.in-Some.ensures.value c.refused-2.ensures c.in-Font.is
    (subst (λ (text : List ℕ). Appends old new (codes "refused: font program" ++ (text ++ codes "\n"))) c.end_of_profile-end.ensures written)) c.writeln-in-Font.ensures.written

pub returns-in-Cvt-clause-written : goal.returns-in-Cvt-clause-written
returns-in-Cvt-clause-written g c =
    let old = g.O.Sink.contents c.args.out.now in
    let new = g.O.Sink.contents c.writeln-in-Cvt.new.self in
    on_ok_weaker c.writeln-in-Cvt.result
    (λ written. refused_end c.args.by Cvt c.args.verdict.now c.refused-2.result.now c.in-Some.first.now old new c.in-Some.ensures.value c.refused-2.ensures c.in-Cvt.is
    (subst (λ (text : List ℕ). Appends old new (codes "refused: cvt program" ++ (text ++ codes "\n"))) c.end_of_profile-end.ensures written)) c.writeln-in-Cvt.ensures.written
