-- What an order of abstract values is, and its laws. (Cousot and Cousot, "Abstract interpretation":
-- a join semilattice of finite height.)
use Rattle.std.specs.Prelude.{◌≡◌, ℕ, ◌≤◌}

-- The parts of an order: whether a value's numbers are in range and its lists ascend; whether a
-- second value covers whatever a first one does; whether the two can be joined; how often a value
-- can still rise.
pub record Order (S : Type 0) : Type 1 where
  pub InRange : S → Type 0
  pub Below : S → S → Type 0
  pub SameDepth : S → S → Type 0
  pub left : S → ℕ

-- c is the least value above a and b
pub record IsLeastAbove {S : Type 0} (o : Order S) (a b c : S) : Type 0 where
  pub in_range : o.InRange c
  pub left : o.Below a c
  pub right : o.Below b c
  pub least : (d : S) → o.InRange d → o.Below a d → o.Below b d → o.Below c d

-- The laws of an order. A value that is below another and differs from it can rise more often than
-- that one (left_falls and left_strict).
pub record OrderLaws {S : Type 0} (o : Order S) : Type 0 where
  pub reflexive : (a : S) → o.Below a a
  pub transitive : (a b c : S) → o.Below a b → o.Below b c → o.Below a c
  pub antisymmetric : (a b : S) → o.InRange a → o.InRange b → o.Below a b → o.Below b a → a ≡ b
  pub one_depth : (a b : S) → o.Below a b → o.SameDepth a b
  pub depth_symmetric : (a b : S) → o.SameDepth a b → o.SameDepth b a
  pub depth_transitive : (a b c : S) → o.SameDepth a b → o.SameDepth b c → o.SameDepth a c
  pub left_falls : (a b : S) → o.InRange a → o.InRange b → o.Below a b → o.left b ≤ o.left a
  pub left_strict : (a b : S) → o.InRange a → o.InRange b → o.Below a b → o.left b ≡ o.left a
      → a ≡ b
