use Rattle.tt_code.proofs.StructureLaws.{found_iff_stands}
use Rattle.tt_code.proofs.laws.instructions_are_found.Goals as goal

pub returns : goal.returns
returns c = found_iff_stands
