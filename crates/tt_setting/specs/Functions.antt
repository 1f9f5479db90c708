-- The functions that are known to be defined, and the machines with which a program starts where these
-- are.
use Rattle.std.specs.Prelude.{◌≡◌, ℕ, List, Some}
use Rattle.tt_code.specs.Control.{body_named}
use Rattle.tt_code.specs.Runs.{IsFresh}
use Rattle.tt_code.specs.States.{Machine}

-- each function that is listed is defined, with the body that is listed; others may be anything
abbrev pub CoversFunctions : List (ℕ × ℕ) → List (ℕ × ℕ) → Type 0
CoversFunctions listed functions =
    (n body : ℕ) → body_named listed n ≡ Some body → body_named functions n ≡ Some body

-- the machine is one with which a program starts, and each of these functions is defined in it,
-- with its body
pub record StartsWith (functions : List (ℕ × ℕ)) (m : Machine) : Type 0 where
  pub fresh : IsFresh m
  pub defined : CoversFunctions functions m.functions
