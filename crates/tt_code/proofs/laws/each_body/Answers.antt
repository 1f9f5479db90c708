use Rattle.tt_code.proofs.StructureLawsOfBodies.{stands_in_body}
use Rattle.tt_code.proofs.laws.each_body.Goals as goal

pub returns : goal.returns
returns c = λ bytes is at i cut structured stands. stands_in_body structured cut.each stands
