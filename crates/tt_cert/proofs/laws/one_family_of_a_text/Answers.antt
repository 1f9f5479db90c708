use Rattle.tt_cert.proofs.Families.{one_family_of_a_text}
use Rattle.tt_cert.proofs.laws.one_family_of_a_text.Goals as goal

pub returns : goal.returns
returns c = one_family_of_a_text
