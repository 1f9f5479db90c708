use Rattle.std.proofs.Common.{rules}
use Rattle.std.proofs.lemmas.Int.{to_z-of_z}
use Rattle.tt_code.specs.States.{IsNumber}
use Rattle.tt_abs.proofs.EntriesInRange.{in_range-put, in_range-without}
use Rattle.tt_abs.proofs.state.State.set_storage.Goals as goal

pub returns-in-Known-clause-in_range : goal.returns-in-Known-clause-in_range
returns-in-Known-clause-in_range c = λ r.
    let fits : IsNumber c.in-Known.number = search rules in
    let ok = simp to_z-of_z at c.put.ensures.ok in
    (r.0, (r.1.0, (r.1.1.0, in_range-put IsNumber c.args.index c.in-Known.number _ c.put.new.self c.put.result fits ok c.put.ensures.err r.1.1.1)))

pub returns-in-Unknown-clause-in_range : goal.returns-in-Unknown-clause-in_range
returns-in-Unknown-clause-in_range c = λ r.
    (r.0, (r.1.0, (r.1.1.0, in_range-without IsNumber c.args.index _ c.remove.new.self c.remove.ensures r.1.1.1)))
