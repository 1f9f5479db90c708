use Rattle.std.proofs.Common.{refl}
use Rattle.tt_code.specs.Structure.{keyword}
use Rattle.tt_code.proofs.LookupLemmas.{ends_opens}
use Rattle.tt_code.proofs.StructureLaws.{opener_goes}
use Rattle.tt_code.proofs.laws.each_target.Goals as goal

pub returns : goal.returns
returns c = λ bytes is at i e cut structured stands ends. opener_goes structured (ends_opens (keyword i) e ends) stands refl
