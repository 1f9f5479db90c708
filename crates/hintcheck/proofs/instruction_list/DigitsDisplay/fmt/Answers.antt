-- proofs/listing/DigitsDisplay/fmt/Answers.antt
use Rattle.std.specs.Fmt.{styled_digits_output}
use Rattle.std.proofs.Common.{◌≡◌, ◌+◌, ◌++◌, ◌<◌, take, Some, false, ap, get_or, rules}
use Rattle.std.proofs.Output.{has_written_append, has_written_of_eq}
use Rattle.std.proofs.lemmas.Fmt.{hex_byte}
use Rattle.hintcheck.specs.Listing.{hex_digits}
use Rattle.hintcheck.proofs.ListingLemmas.{digits_more, digits_of_byte}
use Rattle.hintcheck.proofs.instruction_list.DigitsDisplay.fmt.Goals as goal

pub loop-byte-preserved : goal.loop-byte-preserved
loop-byte-preserved g c = λ p.
    let bytes = c.args.self.now.0.now in
    let took = g.W.Write.write_str_gives in
    let f = c.args.f.now in
    let after = c.write.new.self in
    let i = c.loop-byte.byte-index in
    let byte = get_or bytes i 0 in
    let before = c.loop-byte.invariant p in
    let small : byte < 256 = search rules in
    let text : styled_digits_output c.in_radix.result c.laid_out.result ≡ Some (digits_of_byte byte) = rw (c.laid_out.ensures, c.in_radix.ensures) (ap Some (hex_byte false byte small)) in
    let write = rw text at c.in_ok-write.ensures.writes in
    let front = hex_digits (take i bytes) in
    has_written_of_eq took f (front ++ digits_of_byte byte) (hex_digits (take (i + 1) bytes)) after (digits_more bytes i c.loop-byte-test.true)
    (has_written_append took f front c.loop-byte.f (digits_of_byte byte) after before (write before.plain (search rules)))
