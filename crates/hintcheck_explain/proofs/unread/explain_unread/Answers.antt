use Rattle.std.proofs.Common.{◌++◌, ap}
use Rattle.std.specs.Prelude.{codes}
use Rattle.hintcheck_report.specs.Texts.{refused_text}
use Rattle.hintcheck_report.specs.declared.refused.Refused.{Refused}
use Rattle.hintcheck_explain.proofs.Written.{first_is, first_line, first_then}
use Rattle.hintcheck_explain.proofs.unread.explain_unread.Goals as goal

pub returns-clause-begins : goal.returns-clause-begins
returns-clause-begins g c =
    first_is _ _ _ _ (ap (λ (r : Refused). refused_text r ++ codes "\n") c.at-refused.ensures)
    (first_then _ _ _ _ (first_then _ _ _ _ (first_line _ _ _ c.in_ok-writeln.ensures.written) c.in_ok-writeln-2.ensures.kept) c.in_ok-writeln-3.ensures.kept)
