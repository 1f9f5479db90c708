use Rattle.std.proofs.Common.{◌∙◌}
use Rattle.tt_symbolic_check.proofs.covering.agree.Goals as goal

pub returns-clause-agrees : goal.returns-clause-agrees
returns-clause-agrees c = λ e. record { agrees = λ v w fits a. c.agree_simplified.ensures.agrees e v w a ∙ c.simplified.ensures v fits }
