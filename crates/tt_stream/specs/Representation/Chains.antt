-- The ticks that a chain of them has. (Representation of counts that only contracts see: no public
-- clause cites it.)
use Rattle.std.specs.Prelude.{ℕ, ◌+◌}
use Rattle.tt_stream.specs.declared.ticks.Chain.{Chain, Start, After'}

-- how many ticks there are
abbrev pub ticks_in : Chain → ℕ
ticks_in Start = 0
ticks_in (After' mark before) = ticks_in before + 1
