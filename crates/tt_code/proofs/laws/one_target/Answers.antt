use Rattle.tt_code.proofs.LookupLemmas.{goes_same}
use Rattle.tt_code.proofs.laws.one_target.Goals as goal

pub returns : goal.returns
returns c = λ bytes is opener other k s t cut g h. goes_same is opener other k s t cut.each g h
