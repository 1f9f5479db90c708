use Rattle.std.proofs.Common.{refl}
use Rattle.tt_code.specs.Table.{name_of}
use Rattle.tt_code.proofs.table.names.Goals as goal

pub returns : goal.returns
unfolding name_of
returns c = refl
