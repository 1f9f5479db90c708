use Rattle.tt_setting.proofs.EntryEdits.{Ascends-put}
use Rattle.tt_setting.proofs.sorted_map.SortedMap.put.Goals as goal

pub invariant_of-self : goal.invariant_of-self
invariant_of-self g c =
    Ascends-put c.args.number c.args.value c.self.inside.entries.items c.put_entry.new.entries.items c.put_entry.result c.self.invariant c.put_entry.ensures.ok c.put_entry.ensures.err
