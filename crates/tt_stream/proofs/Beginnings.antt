-- Two reads of some beginnings are a read of some beginning.
use Rattle.std.proofs.Common.{List, ℕ, ◌++◌, Option}
use Rattle.std.proofs.KnownBytes.{Consumes-trans}
use Rattle.std.specs.Io.KnownBytes.{Consumes}
use Rattle.tt_stream.specs.Reads.{ConsumesBeginning}

pub consumes_beginning : (a b : Option (List ℕ)) (bytes : List ℕ) → Consumes a b bytes → ConsumesBeginning a b
consumes_beginning a b bytes consumed = record { bytes = bytes; consumed = consumed }

pub consumes_then : (a b c : Option (List ℕ)) → ConsumesBeginning a b → ConsumesBeginning b c → ConsumesBeginning a c
consumes_then a b c p q = record { bytes = p.bytes ++ q.bytes; consumed = Consumes-trans a b c p.bytes q.bytes p.consumed q.consumed }
