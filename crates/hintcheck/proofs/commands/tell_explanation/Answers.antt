use Rattle.std.proofs.Common.{option_map}
use Rattle.std.specs.Prelude.{string_bytes}
use Rattle.hintcheck.proofs.commands.tell_explanation.Goals as goal

pub returns-in-None-clause-answer : goal.returns-in-None-clause-answer
returns-in-None-clause-answer g c = rw c.in_default.is (c.explain_of_font.ensures.answer (option_map (λ s. string_bytes s) c.args.place.now))
