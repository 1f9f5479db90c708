use Rattle.std.proofs.Common.{ap, ◌∙◌}
use Rattle.tt_code.specs.Computing.{exact as exact_value}
use Rattle.tt_symbolic_cells.proofs.Computings.{neg_is}
use Rattle.tt_symbolic_cells.proofs.results.exact_negative.Goals as goal

pub returns : goal.returns
returns c = λ v fits. ap exact_value (neg_is _ _ _ (c.in_ok-opposite.ensures v) (c.known.ensures v)) ∙ c.in_ok-negative.ensures v fits
