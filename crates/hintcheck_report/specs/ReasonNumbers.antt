-- The numbers of reasons.
use Rattle.std.specs.Prelude.{◌≡◌, ℕ, List}
use Rattle.std.specs.Fmt.{decimal}
use Rattle.tt_code.specs.Refusals.{number_of}
use Rattle.tt_code.specs.declared.reason.Reason.{Reason}

-- a reason has this number
abbrev pub IsReasonNumber : ℕ → Type 0
IsReasonNumber number = (r : Reason) × (number_of r ≡ number)

-- the word is the number of a reason, in decimal digits
abbrev pub IsReasonWord : List ℕ → Type 0
IsReasonWord word = (r : Reason) × (word ≡ decimal (number_of r))
