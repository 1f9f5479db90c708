use Rattle.std.proofs.Common.{◌≡◌, length}
use Rattle.tt_names.specs.Post.{string_place}
use Rattle.tt_names.specs.Representation.StringPlaces.{ListsPlaces}
use Rattle.tt_names.proofs.strings.string_places.Given as goal

abbrev pub invariant-loop : goal.invariant-loop
invariant-loop l = record {
  listed : ListsPlaces l.post l.places.items;
  counted : length l.places.items ≡ l.counter;
  at : l.place ≡ string_place l.post l.counter;
}
