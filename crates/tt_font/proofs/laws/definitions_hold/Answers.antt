use Rattle.tt_font.proofs.LawProofs.{finds_least, lists_components, starts_ways, finds_ways_out}
use Rattle.tt_font.proofs.laws.definitions_hold.Goals as goal

pub returns : goal.returns
returns c = record { least = finds_least; components = lists_components; chains = starts_ways; ways_out = finds_ways_out }
