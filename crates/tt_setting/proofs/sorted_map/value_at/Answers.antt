use Rattle.std.proofs.Common.{sym}
use Rattle.tt_setting.proofs.EntryEdits.{listed-at, listed-gap}
use Rattle.tt_setting.proofs.sorted_map.value_at.Goals as goal

pub returns-in-Ok : goal.returns-in-Ok
returns-in-Ok g c = sym (listed-at c.args.number c.args.entries.now c.in-Ok.at c.index-entries-at.result c.in-Ok.ensures.place)

pub returns-in-Err : goal.returns-in-Err
returns-in-Err g c = sym (listed-gap c.args.number c.args.entries.now c.in-Err.field-0 c.in-Err.ensures.place)
