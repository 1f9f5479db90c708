use Rattle.tt_code.proofs.BodyLemmas.{one_body}
use Rattle.tt_code.proofs.laws.one_body.Goals as goal

pub returns : goal.returns
returns c = λ bytes is k i b d cut l stands g h. one_body is k b d i cut.each l stands g h
