use Rattle.std.proofs.Common.{sym}
use Rattle.tt_symbolic_check.proofs.Listings.{listed_place}
use Rattle.tt_symbolic_check.proofs.covering.listed_near.Goals as goal

pub returns-then-entry-number : goal.returns-then-entry-number
returns-then-entry-number g c =
    let made = listed_place c.as_slice-list.result.now c.args.place c.index-list-place.result c.args.number c.as_slice-list.ensures.ascends c.if-place-list.true c.index-list-place.is c.if-entry-number.true in
    let there = rw c.as_slice-list.ensures.value at made in
    sym there
