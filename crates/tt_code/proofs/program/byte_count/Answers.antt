use Rattle.tt_code.proofs.ByteLemmas.{bytes_fit}
use Rattle.tt_code.proofs.program.byte_count.Goals as goal

pub returns-clause-bytes : goal.returns-clause-bytes
returns-clause-bytes c = bytes_fit c.args.bytes.now c.type_inv.bytes
