use Rattle.std.proofs.Common.{◌∙◌, ap, take}
use Rattle.tt_abs.specs.Transfers.{index_in}
use Rattle.tt_abs.proofs.TakenLemmas.{stored_is}
use Rattle.tt_abs.proofs.changes.update.Goals as goal

pub returns-in_ok-set_storage-in-Store : goal.returns-in_ok-set_storage-in-Store
returns-in_ok-set_storage-in-Store c =
    stored_is c.args.state.now c.set_storage.new.self (take c.args.count c.args.state.now.stack) c.args.change c.in-Store.at c.in-Store.value c.index_of-index.result c.taken-cell-in-Store.result
    c.in-Store.is (c.index_of-index.ensures ∙ ap index_in c.taken-in-Store.ensures) c.taken-cell-in-Store.ensures c.in_ok-set_storage-in-Store.ensures.ok
