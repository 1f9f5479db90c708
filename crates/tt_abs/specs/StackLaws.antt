-- The laws of the order on stacks.
use Rattle.std.specs.Prelude.{◌≡◌, ◌≤◌, List, [], ◌∷◌}
use Rattle.std.proofs.Common.{refl, sym, ◌∙◌, arith, suc}
use Rattle.tt_abs.specs.declared.cells.Cell.{Cell}
use Rattle.tt_abs.specs.Orders.{OrderLaws}
use Rattle.tt_abs.specs.CellOrders.{known_cells}
use Rattle.tt_abs.specs.CellLaws.{CellBelow-refl, CellBelow-trans, CellBelow-antisym, known_cells-falls, known_cells-strict}
use Rattle.tt_abs.specs.Stacks.{StackBelow, known_count, stack_order}

-- if one stack is below another, it is so without their tops too
pub StackBelow-tail : (x y : Cell) (xs ys : List Cell) → StackBelow (x ∷ xs) (y ∷ ys)
    → StackBelow xs ys
StackBelow-tail x y xs ys h = record {
  depth = let d = h.depth in omega arith;
  cells = λ k. h.cells (suc k);
}

-- two stacks that are below each other are the same
pub StackBelow-antisym : (a b : List Cell) → StackBelow a b → StackBelow b a → a ≡ b
StackBelow-antisym [] [] p q = refl
StackBelow-antisym [] (y ∷ ys) p q = absurd (omega (arith, p.depth))
StackBelow-antisym (x ∷ xs) [] p q = absurd (omega (arith, p.depth))
StackBelow-antisym (x ∷ xs) (y ∷ ys) p q =
    let head : x ≡ y = CellBelow-antisym x y (p.cells 0) (q.cells 0) in
    let tail : xs ≡ ys =
    StackBelow-antisym xs ys (StackBelow-tail x y xs ys p) (StackBelow-tail y x ys xs q) in
    cc

-- a stack above another has no more known cells
pub known_count-falls : (a b : List Cell) → StackBelow a b → known_count b ≤ known_count a
known_count-falls [] [] p = omega arith
known_count-falls [] (y ∷ ys) p = absurd (omega (arith, p.depth))
known_count-falls (x ∷ xs) [] p = absurd (omega (arith, p.depth))
known_count-falls (x ∷ xs) (y ∷ ys) p =
    omega (
      arith,
      known_cells-falls x y (p.cells 0),
      known_count-falls xs ys (StackBelow-tail x y xs ys p),
    )

-- a stack above another with as many known cells is the same
pub known_count-strict : (a b : List Cell) → StackBelow a b → known_count b ≡ known_count a → a ≡ b
known_count-strict [] [] p e = refl
known_count-strict [] (y ∷ ys) p e = absurd (omega (arith, p.depth))
known_count-strict (x ∷ xs) [] p e = absurd (omega (arith, p.depth))
known_count-strict (x ∷ xs) (y ∷ ys) p e =
    let below = StackBelow-tail x y xs ys p in
    let heads : known_cells y ≤ known_cells x = known_cells-falls x y (p.cells 0) in
    let tails : known_count ys ≤ known_count xs = known_count-falls xs ys below in
    let head : x ≡ y = known_cells-strict x y (p.cells 0) (omega arith) in
    let tail : xs ≡ ys = known_count-strict xs ys below (omega arith) in
    cc

-- the laws of the order of stacks
pub stack_laws : OrderLaws stack_order
stack_laws = record {
  reflexive = λ a. record { depth = refl; cells = λ k. CellBelow-refl _ };
  transitive = λ a b c p q. record {
    depth = p.depth ∙ q.depth;
    cells = λ k. CellBelow-trans _ _ _ (p.cells k) (q.cells k);
  };
  antisymmetric = λ a b _ _. StackBelow-antisym a b;
  one_depth = λ a b p. p.depth;
  depth_symmetric = λ a b. sym;
  depth_transitive = λ a b c p q. p ∙ q;
  left_falls = λ a b _ _. known_count-falls a b;
  left_strict = λ a b _ _. known_count-strict a b;
}
