-- Verdicts as contracts see them.
use Rattle.std.specs.Prelude.{ℕ, List}
use Rattle.hintcheck_report.specs.declared.refused.Refused.{Refused}

-- A verdict on some programs: how many there are, and which of them are refused.
pub record Judgement : Type 0 where
  -- how many programs there are
  pub programs : ℕ
  -- those that are refused, in their order
  pub refused : List Refused
