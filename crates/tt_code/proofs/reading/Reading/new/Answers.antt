use Rattle.std.proofs.Common.{refl}
use Rattle.tt_code.proofs.NestingLemmas.{Leaves-start}
use Rattle.tt_code.proofs.SlotLemmas.{Table-start}
use Rattle.tt_code.proofs.reading.Reading.new.Goals as goal

pub returns-clause-start : goal.returns-clause-start
returns-clause-start c =
    rw (c.new.ensures.items, c.in_ok-with_capacity.ensures.items)
    (record { each = tt; leaves = Leaves-start; body = refl; each_length = refl; table = Table-start })
