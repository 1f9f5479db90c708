use Rattle.tt_code.proofs.ByteLemmas.{bytes_fit}
use Rattle.tt_font.proofs.font.program_facts.Goals as goal

pub returns : goal.returns
returns c = record { bytes = bytes_fit c.args.program.now c.type_inv.program; few = c.requires }
