-- proofs/listing/name_of/Answers.antt
use Rattle.std.proofs.Common.{refl}
use Rattle.hintcheck.specs.Listing.{shown_name}
use Rattle.hintcheck.proofs.instruction_list.name_of.Goals as goal

pub returns-in-Some : goal.returns-in-Some
unfolding shown_name
returns-in-Some c = rw (c.code.ensures, ← c.in-Some.ensures) refl

pub returns-in-None : goal.returns-in-None
unfolding shown_name
returns-in-None c = rw (c.code.ensures, ← c.in-None.ensures) refl
