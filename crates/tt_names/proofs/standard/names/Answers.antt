use Rattle.std.proofs.Common.{refl}
use Rattle.tt_names.specs.Standard.{standard_names}
use Rattle.tt_names.proofs.standard.names.Goals as goal

pub returns : goal.returns
unfolding standard_names
returns c = refl
