use Rattle.std.proofs.Common.{sym, ◌∙◌, ap}
use Rattle.hintcheck_programs.specs.Verdicts.{Judgement}
use Rattle.hintcheck_programs.proofs.FontSafety.{good_families_are_safe}
use Rattle.hintcheck_certificates.proofs.font_check.check_read_font.Goals as goal

pub returns-clause-safe : goal.returns-clause-safe
returns-clause-safe g c = λ none.
    good_families_are_safe c.args.font.now c.requires (c.in_ok-refused.ensures.good (sym (ap (λ (v : Judgement). v.refused) c.new.ensures) ∙ none))
