use Rattle.tt_code.proofs.DefinitionLemmas.{definition_in_main}
use Rattle.tt_code.proofs.laws.definitions_are_in_main.Goals as goal

pub returns : goal.returns
returns c = definition_in_main
