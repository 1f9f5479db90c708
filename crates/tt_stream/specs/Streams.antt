-- What calls do to a count of failed calls, and to known bytes.
use Rattle.std.specs.Prelude.{◌≡◌, ℕ, ◌+◌, List, Option, Result, Ok, Err, MatchResult, IfSome, take}
use Rattle.std.specs.Io.KnownBytes.{Appends}
use Rattle.tt_stream.specs.declared.text.PrintFailed.{PrintFailed}
use Rattle.tt_stream.specs.declared.text.PrintFailed.TheVariants as failures

-- a reader or a writer, and how many of its calls have failed
pub record Tally (T : Type 0) : Type 0 where
  pub inner : T
  pub failures : ℕ

-- the count rises by one exactly where the call failed
abbrev pub CountsFailure : {T E : Type 0} → Result T E → ℕ → ℕ → Type 0
CountsFailure r old new = MatchResult r (λ _. new ≡ old) (λ _. new ≡ old + 1)

-- a beginning of the bytes was written, perhaps an empty one
pub record AppendsBeginning (old new : Option (List ℕ)) (bytes : List ℕ) : Type 0 where
  pub count : ℕ
  pub appended : Appends old new (take count bytes)

-- what was held stays, and bytes, perhaps none, come after it
pub record AppendsOnly (old new : Option (List ℕ)) : Type 0 where
  pub bytes : List ℕ
  pub appended : Appends old new bytes

-- the text, where it is known, was written
abbrev pub AppendsText : Option (List ℕ) → Option (List ℕ) → Option (List ℕ) → Type 0
AppendsText text old new = IfSome text (Appends old new)

-- a beginning of the text, where it is known, was written
abbrev pub AppendsBeginningOfText : Option (List ℕ) → Option (List ℕ) → Option (List ℕ) → Type 0
AppendsBeginningOfText text old new = IfSome text (AppendsBeginning old new)

-- the count rises by one exactly where a write failed
abbrev pub CountsPrintFailure : Result (Unit {0}) PrintFailed → ℕ → ℕ → Type 0
CountsPrintFailure (Ok done) old new = new ≡ old
CountsPrintFailure (Err failures.Write) old new = new ≡ old + 1
CountsPrintFailure (Err failures.Format) old new = new ≡ old
