use Rattle.std.proofs.Common.{sym}
use Rattle.tt_setting.proofs.EntryEdits.{listed-at, listed-gap}
use Rattle.tt_family.proofs.offset_list.slot_at.Goals as goal

pub returns-in-Ok : goal.returns-in-Ok
returns-in-Ok c = sym (listed-at c.args.offset c.args.points.now c.in-Ok.at (0, 0) c.in-Ok.ensures.place)

pub returns-in-Err : goal.returns-in-Err
returns-in-Err c = sym (listed-gap c.args.offset c.args.points.now c.in-Err.field-0 c.in-Err.ensures.place)
