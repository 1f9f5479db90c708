use Rattle.std.proofs.Common.{subst}
use Rattle.std.specs.List.{All}
use Rattle.std.proofs.lemmas.List.{take_all}
use Rattle.tt_symbolic.specs.Representation.Keeping.{IsNoStore}
use Rattle.tt_symbolic.proofs.Keepings.{no_stores_more, stores_none}
use Rattle.tt_symbolic.proofs.kept.stores_nothing.Goals as goal

pub returns : goal.returns
returns c = λ e. stores_none c.args.updates.now (subst (All IsNoStore) (take_all c.loop-update.update-index c.args.updates.now c.loop-update-test.false) c.loop-update.invariant)

pub loop-update-preserved : goal.loop-update-preserved
loop-update-preserved c = no_stores_more c.args.updates.now c.loop-update.update-index _ c.loop-update-test.true c.loop-update.invariant (c.is_store.ensures c.if-is_store.false)
