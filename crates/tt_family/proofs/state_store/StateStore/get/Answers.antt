use Rattle.std.proofs.Common.{sym, arith}
use Rattle.tt_family.proofs.StateSlots.{slot_there, state_found, none_found}
use Rattle.tt_family.proofs.state_store.StateStore.get.Goals as goal

pub index-requires : goal.index-requires
index-requires c =
    let lt = slot_there _ _ c.self.invariant (c.args.context, c.args.offset) c.in-Some.number c.in-Some.ensures in
    omega arith

pub returns-in-Some : goal.returns-in-Some
returns-in-Some c = state_found _ _ c.self.invariant _ c.self.view_is (c.args.context, c.args.offset) c.in-Some.number c.in-Some.ensures c.index.result.now c.index.ensures

pub returns-in-None : goal.returns-in-None
returns-in-None c = sym (none_found _ _ c.self.invariant _ c.self.view_is (c.args.context, c.args.offset) c.in-None.ensures)
