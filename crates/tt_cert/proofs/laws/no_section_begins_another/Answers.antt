use Rattle.tt_cert.proofs.Decoded.{prefix_free}
use Rattle.tt_cert.proofs.laws.no_section_begins_another.Goals as goal

pub returns : goal.returns
returns c = prefix_free
