-- What is written first.
use Rattle.std.specs.Prelude.{ℕ, List, ◌++◌, codes, Option}
use Rattle.std.specs.Fmt.{decimal}
use Rattle.std.specs.Io.KnownBytes.{Appends}
use Rattle.tt_code.specs.Refusals.{number_of, reason_text}
use Rattle.tt_code.specs.declared.reason.Reason.{Reason}

-- the text was written first, and bytes, perhaps none, after it
pub record WritesFirst (text : List ℕ) (old new : Option (List ℕ)) : Type 0 where
  pub others : List ℕ
  pub written : Appends old new (text ++ others)

-- the line of a reason, as `28 unknown operand`
abbrev pub reason_line : Reason → List ℕ
reason_line r = decimal (number_of r) ++ (codes " " ++ (reason_text r ++ codes "\n"))
