use Rattle.std.proofs.Common.{◌++◌, ap, ℕ}
use Rattle.std.specs.Fmt.{decimal}
use Rattle.std.specs.Prelude.{codes}
use Rattle.tt_code.specs.Refusals.{reason_text}
use Rattle.hintcheck_explain.proofs.Written.{first_is, first_line, first_then}
use Rattle.hintcheck_explain.proofs.reason_text.explain_reason.Goals as goal

pub returns-clause-begins : goal.returns-clause-begins
returns-clause-begins g c =
    first_is _ _ _ _ (ap (λ (n : ℕ). decimal n ++ (codes " " ++ (reason_text c.args.reason ++ codes "\n"))) c.number-number.ensures)
    (first_then _ _ _ _ (first_then _ _ _ _ (first_line _ _ _ c.in_ok-writeln.ensures.written) c.in_ok-writeln-2.ensures.kept) c.in_ok-writeln-3.ensures.kept)
