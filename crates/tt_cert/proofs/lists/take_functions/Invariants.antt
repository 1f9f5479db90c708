use Rattle.std.proofs.Common.{◌≡◌, ◌-◌, length, drop}
use Rattle.tt_setting.specs.Entries.{Ascends}
use Rattle.tt_cert.specs.Representation.Blocks.{IsTaking}
use Rattle.tt_cert.proofs.lists.take_functions.Given as goal

abbrev pub invariant-functions : goal.invariant-functions
invariant-functions l =
    IsTaking l.fn.functions.items l.functions.items l.fn.place l.at l.fn.bytes l.left × (Ascends l.fn.functions.items → Ascends l.functions.items)
    × (l.left ≡ drop (length l.fn.bytes - length l.left) l.fn.bytes)

abbrev pub decreases-functions : goal.decreases-functions
decreases-functions l = length l.left
