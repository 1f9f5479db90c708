use Rattle.tt_cert.proofs.OneText.{one_text_of_a_family}
use Rattle.tt_cert.proofs.laws.one_text_of_a_family.Goals as goal

pub returns : goal.returns
returns c = one_text_of_a_family
