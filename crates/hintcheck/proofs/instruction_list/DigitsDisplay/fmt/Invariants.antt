-- proofs/listing/DigitsDisplay/fmt/Invariants.antt
use Rattle.std.proofs.Common.{take}
use Rattle.std.specs.Fmt.{HasWritten, IsPlainFormatter}
use Rattle.hintcheck.specs.Listing.{hex_digits}
use Rattle.hintcheck.proofs.instruction_list.DigitsDisplay.fmt.Given as goal

abbrev pub invariant-loop-byte : goal.invariant-loop-byte
invariant-loop-byte g l =
    IsPlainFormatter l.initial.f → HasWritten g.W.Write.write_str_gives l.initial.f (hex_digits (take l.byte-index l.byte-items)) l.f
