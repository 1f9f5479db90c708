use Rattle.std.proofs.Common.{arith}
use Rattle.std.proofs.lemmas.Option.{slice_get-get_or}
use Rattle.tt_family.proofs.Renumbering.{order_few, places_step, ArePlaces-from}
use Rattle.tt_family.proofs.finish.places_in.Goals as goal

pub overflow_cast-i : goal.overflow_cast-i
overflow_cast-i c =
    let lt = c.loop-i-test.true in
    let few = order_few c.args.old.now.contexts c.args.order.now c.requires in
    let most = c.contexts.ensures.family.few in
    omega arith

pub index_mut-requires : goal.index_mut-requires
index_mut-requires c =
    let lt = c.requires.within c.loop-i.i _ (slice_get-get_or c.args.order.now c.loop-i.i 0 c.loop-i-test.true) in
    let long = c.loop-i.invariant.so_far.long in
    omega arith

pub loop-i-preserved : goal.loop-i-preserved
loop-i-preserved c = record {
  so_far = places_step c.args.old.now.contexts c.args.order.now c.loop-i.places.items c.loop-i.i 0 c.requires c.loop-i.invariant.so_far c.loop-i-test.true;
}

pub returns : goal.returns
returns c =
    ArePlaces-from c.args.old.now.contexts c.args.order.now c.loop-i.places.items c.loop-i.i c.loop-i.invariant.so_far (let end = c.loop-i-test.false in omega arith)
