-- What a flow of abstract values through points is, and its laws. (Cousot and Cousot, "Abstract
-- interpretation": a monotone transfer between program points.)
use Rattle.std.specs.Prelude.{◌≡◌, ◌⊎◌, ℕ, ◌≤◌}
use Rattle.tt_code.specs.declared.reason.Reason.{Reason}
use Rattle.tt_abs.specs.Orders.{Order}

-- The parts of a flow: where a program starts and with what; where it can go; which values are
-- within the limits; which values are refused at a point, and why; the values that one value gives,
-- each with its point.
pub record Flow (P S : Type 0) : Type 1 where
  pub entry : P
  pub start : S
  pub IsPoint : P → Type 0
  pub Fits : S → Type 0
  pub Refuses : P → S → Reason → Type 0
  pub Gives : P → S → P → S → Type 0

-- The laws of a flow in which a value can rise at most `height` times. Where a value is refused,
-- each value above it is; what a value gives is below what a value above it gives.
pub record FlowLaws {P S : Type 0} (o : Order S) (f : Flow P S) (height : ℕ) : Type 0 where
  -- the start
  pub entry_point : f.IsPoint f.entry
  pub start_in_range : o.InRange f.start
  pub start_fits : f.Fits f.start
  -- what is given
  pub gives_point : (p : P) (s : S) (q : P) (t : S) → f.IsPoint p → o.InRange s → f.Fits s
      → f.Gives p s q t → f.IsPoint q
  pub gives_in_range : (p : P) (s : S) (q : P) (t : S) → f.Gives p s q t → o.InRange t
  pub gives_fits : (p : P) (s : S) (q : P) (t : S) → f.IsPoint p → o.InRange s → f.Fits s
      → f.Gives p s q t → f.Fits t
  pub one_at : (p : P) (s : S) (q : P) (t u : S) → f.Gives p s q t → f.Gives p s q u → t ≡ u
  -- what is refused, and what isn't
  pub one_reason : (p : P) (s : S) (r r' : Reason) → f.Refuses p s r → f.Refuses p s r' → r ≡ r'
  pub refused_or_not : (p : P) (s : S)
      → ((r : Reason) × f.Refuses p s r) ⊎ ((r : Reason) → f.Refuses p s r → ⊥)
  pub refused_gives_none : (p : P) (s : S) (r : Reason) (q : P) (t : S) → f.Refuses p s r
      → f.Gives p s q t → ⊥
  -- the limits
  pub fits_above : (a b : S) → o.Below a b → f.Fits a → f.Fits b
  pub fits_height : (s : S) → o.InRange s → f.Fits s → o.left s ≤ height
  -- values above others
  pub refuses_above : (p : P) (a b : S) (r : Reason) → f.IsPoint p → o.InRange a → o.InRange b
      → o.Below a b → f.Refuses p a r
      → (r' : Reason) × f.Refuses p b r'
  pub gives_above : (p : P) (a b : S) (q : P) (t : S) → f.IsPoint p → o.InRange a → o.InRange b
      → o.Below a b
      → ((r : Reason) → f.Refuses p b r → ⊥) → f.Gives p a q t
      → (u : S) × f.Gives p b q u × o.Below t u
