use Rattle.std.proofs.Common.{ap, option_map}
use Rattle.tt_code.proofs.program.Program.body_at.Goals as goal

pub returns-in_err-body-clause-only : goal.returns-in_err-body-clause-only
returns-in_err-body-clause-only c = λ i b stands is. absurd (c.in_err-body.ensures.none i stands)

pub returns-clause-only : goal.returns-clause-only
returns-clause-only c = λ i b stands is. ap (option_map (λ found. found.1)) (c.in_ok-body.ensures.only i b stands is)
