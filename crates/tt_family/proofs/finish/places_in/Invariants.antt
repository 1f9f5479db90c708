use Rattle.tt_family.proofs.Renumbering.{ArePlacesSoFar}
use Rattle.tt_family.proofs.finish.places_in.Given as goal

abbrev pub invariant-loop-i : goal.invariant-loop-i
invariant-loop-i l = record {
  so_far : ArePlacesSoFar l.old.contexts l.order l.places.items l.i;
}
