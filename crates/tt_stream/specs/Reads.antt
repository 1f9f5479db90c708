-- What reading to the end, or filling a buffer, does to known bytes, and to a count of failed
-- reads.
use Rattle.std.specs.Prelude.{◌≡◌, ◌+◌, ◌<◌, ℕ, List, [], ◌∷◌, Option, Result, Ok, Err, MatchResult, drop, length, min, take}
use Rattle.std.specs.Io.KnownBytes.{Consumes, IsAtEnd}
use Rattle.tt_stream.specs.declared.ReadFailed.{ReadFailed}
use Rattle.tt_stream.specs.Streams.{CountsFailure}
use Rattle.tt_stream.specs.declared.reads.ReadFault.{ReadFault}
use Rattle.tt_stream.specs.declared.reads.ReadFault.TheVariants as fault

-- these are all known bytes, and they were read
abbrev pub ConsumesAll : Option (List ℕ) → Option (List ℕ) → List ℕ → Type 0
ConsumesAll old new bytes = Consumes old new bytes × IsAtEnd new

-- some beginning of the known bytes was read
pub record ConsumesBeginning (old new : Option (List ℕ)) : Type 0 where
  pub bytes : List ℕ
  pub consumed : Consumes old new bytes

-- fewer than `count` of the known bytes were read
pub record ConsumesFewer (count : ℕ) (old new : Option (List ℕ)) : Type 0 where
  pub bytes : List ℕ
  pub few : length bytes < count
  pub consumed : Consumes old new bytes

-- the count rises by one exactly where a read failed
abbrev pub CountsReadFault : {T : Type 0} → Result T ReadFault → ℕ → ℕ → Type 0
CountsReadFault (Ok bytes) old new = new ≡ old
CountsReadFault (Err fault.Read) old new = new ≡ old + 1
CountsReadFault (Err (fault.OutOfMemory error)) old new = new ≡ old

-- the bytes at the front of the buffer were read: as many as it has room for, or all that were left
abbrev pub Fills : Option (List ℕ) → Option (List ℕ) → ℕ → List ℕ → Type 0
Fills old new count buf = Consumes old new (take count buf) × (count < length buf → IsAtEnd new)

-- where bytes are ahead, the read gives the first of them, as many as there is room for: it can't
-- fail
abbrev pub GivesAhead : Result ℕ ReadFailed → List ℕ → List ℕ → List ℕ → Type 0
GivesAhead r [] now buf = Unit {0}
GivesAhead (Err failed) (byte ∷ ahead) now buf = ⊥
GivesAhead (Ok n) (byte ∷ ahead) now buf =
    (n ≡ min (length buf) (length (byte ∷ ahead))) × (take n buf ≡ take n (byte ∷ ahead)) × (now ≡ drop n (byte ∷ ahead))

-- a source, and the bytes that were read from it and not yet taken
pub record ReadAhead (S : Type 0) : Type 0 where
  pub source : S
  pub ahead : List ℕ

-- one call of the source gave these bytes: none only at its end, or where the call failed, which is
-- counted
pub record Refills (r : Result (Unit {0}) ReadFailed) (old new : Option (List ℕ))
    (failures failures_now : ℕ) (ahead : List ℕ) : Type 0 where
  pub bytes : Consumes old new ahead
  pub at_end : MatchResult r (λ _. ahead ≡ [] → IsAtEnd new) (λ _. ahead ≡ [])
  pub count : CountsFailure r failures failures_now
