-- The order of stacks, from cell to cell and in the other direction.
use Rattle.std.specs.Prelude.{reverse}
use Rattle.std.proofs.Common.{◌≡◌, ℕ, ◌-◌, ◌<◌, ◌≤◌, List, length, drop, sym, ◌∙◌, ap, subst, arith, inl, inr}
use Rattle.std.specs.List.{refill}
use Rattle.std.proofs.lemmas.Bool.{cases_lt}
use Rattle.std.proofs.lemmas.List.{get_or-reverse, get_or_past, length-reverse, reverse-reverse, take_at}
use Rattle.tt_abs.specs.declared.cells.Cell.{Cell}
use Rattle.tt_abs.specs.declared.cells.Cell.TheVariants.{Unknown}
use Rattle.tt_abs.specs.Orders.{IsLeastAbove}
use Rattle.tt_abs.specs.CellOrders.{CellInRange, CellBelow}
use Rattle.tt_abs.specs.Stacks.{cell_at, StackInRange, StackBelow, IsLeastCell, stack_order}

-- the least of each two cells make the least stack
pub least_of_cells : (a b c : List Cell) → length a ≡ length b → length c ≡ length a
    → ((k : ℕ) → IsLeastCell (cell_at a k) (cell_at b k) (cell_at c k)) → IsLeastAbove stack_order a b c
least_of_cells a b c same long each = record {
  in_range = λ k. (each k).in_range;
  left = record { depth = sym long; cells = λ k. (each k).left };
  right = record { depth = sym same ∙ sym long; cells = λ k. (each k).right };
  least = λ d r p q. record { depth = long ∙ p.depth; cells = λ k. (each k).least (cell_at d k) (r k) (p.cells k) (q.cells k) };
}

-- a place of a list lies in it, at a place of the reversed list, or past both
reversed_at : (a : List Cell) (k : ℕ) → k < length a → cell_at (reverse a) k ≡ cell_at a (length a - 1 - k)
reversed_at a k h = get_or-reverse a k Unknown h

reversed_past : (a : List Cell) (k : ℕ) → length a ≤ k → cell_at (reverse a) k ≡ Unknown
reversed_past a k h = let l : length (reverse a) ≡ length a = length-reverse a in get_or_past (reverse a) k Unknown (omega arith)

pub StackInRange-reverse : (a : List Cell) → StackInRange a → StackInRange (reverse a)
StackInRange-reverse a r k = let P : Cell → Type 0 = λ c. CellInRange c in
    elim (cases_lt k (length a)) [
      | inl h ↦ subst P (sym (reversed_at a k h)) (r (length a - 1 - k))
      | inr h ↦ subst P (sym (reversed_past a k h)) tt
    ]

cell_below : (c d e f : Cell) → c ≡ d → e ≡ f → CellBelow d f → CellBelow c e
cell_below c d e f p q h = let P : Cell → Type 0 = λ x. CellBelow x e in let Q : Cell → Type 0 = λ x. CellBelow d x in
    subst P (sym p) (subst Q (sym q) h)

pub StackBelow-reverse : (a b : List Cell) → StackBelow a b → StackBelow (reverse a) (reverse b)
StackBelow-reverse a b p = record { depth = length-reverse a ∙ p.depth ∙ sym (length-reverse b); cells = at }
  where
    at : (k : ℕ) → CellBelow (cell_at (reverse a) k) (cell_at (reverse b) k)
    at k = let same = p.depth in elim (cases_lt k (length a)) [
      | inl h ↦ cell_below _ _ _ _ (reversed_at a k h) (reversed_at b k (omega arith) ∙ ap (λ n. cell_at b (n - 1 - k)) (sym same)) (p.cells (length a - 1 - k))
      | inr h ↦ cell_below _ _ _ _ (reversed_past a k h) (reversed_past b k (omega arith)) tt
    ]

pub least-reverse : (a b c : List Cell) → IsLeastAbove stack_order a b c → IsLeastAbove stack_order (reverse a) (reverse b) (reverse c)
least-reverse a b c p = record {
  in_range = StackInRange-reverse c p.in_range;
  left = StackBelow-reverse a c p.left;
  right = StackBelow-reverse b c p.right;
  least = λ d r x y. let D : List Cell → Type 0 = λ e. StackBelow (reverse c) e in
      subst D (reverse-reverse d)
      (StackBelow-reverse c (reverse d)
      (p.least (reverse d) (StackInRange-reverse d r) (back a d x) (back b d y)));
}
  where
    back : (e d : List Cell) → StackBelow (reverse e) d → StackBelow e (reverse d)
    back e d h = let P : List Cell → Type 0 = λ x. StackBelow x (reverse d) in subst P (reverse-reverse e) (StackBelow-reverse (reverse e) d h)

-- stacks of one depth, place by place from the bottom

turned_below : (a b : List Cell) → StackBelow (reverse a) (reverse b) → StackBelow a b
turned_below a b h =
    let P : List Cell → Type 0 = λ x. StackBelow x b in let Q : List Cell → Type 0 = λ x. StackBelow (reverse (reverse a)) x in
    subst P (reverse-reverse a) (subst Q (reverse-reverse b) (StackBelow-reverse (reverse a) (reverse b) h))

pub below_from_places : (a b : List Cell) → length a ≡ length b
    → ((k : ℕ) → k < length a → CellBelow (cell_at (reverse a) k) (cell_at (reverse b) k)) → StackBelow a b
below_from_places a b long h = turned_below a b (record { depth = length-reverse a ∙ long ∙ sym (length-reverse b); cells = at })
  where
    at : (k : ℕ) → CellBelow (cell_at (reverse a) k) (cell_at (reverse b) k)
    at k = elim (cases_lt k (length a)) [
      | inl lt ↦ h k lt
      | inr ge ↦ cell_below _ _ _ _ (reversed_past a k ge) (reversed_past b k (omega arith)) tt
    ]

pub least_from_places : (a b c : List Cell) → length a ≡ length b → length c ≡ length a
    → ((k : ℕ) → k < length a → IsLeastCell (cell_at (reverse a) k) (cell_at (reverse b) k) (cell_at (reverse c) k)) → IsLeastAbove stack_order a b c
least_from_places a b c same long h =
    let P : List Cell → Type 0 = λ x. IsLeastAbove stack_order x b c in
    let Q : List Cell → Type 0 = λ x. IsLeastAbove stack_order (reverse (reverse a)) x c in
    let R : List Cell → Type 0 = λ x. IsLeastAbove stack_order (reverse (reverse a)) (reverse (reverse b)) x in
    let places = least_of_cells (reverse a) (reverse b) (reverse c) (length-reverse a ∙ same ∙ sym (length-reverse b)) (length-reverse c ∙ long ∙ sym (length-reverse a)) at in
    subst P (reverse-reverse a) (subst Q (reverse-reverse b) (subst R (reverse-reverse c) (least-reverse (reverse a) (reverse b) (reverse c) places)))
  where
    least : (c d e f g h : Cell) → c ≡ d → e ≡ f → g ≡ h → IsLeastCell d f h → IsLeastCell c e g
    least c d e f g h p q r l =
        let P : Cell → Type 0 = λ x. IsLeastCell x e g in let Q : Cell → Type 0 = λ x. IsLeastCell d x g in let R : Cell → Type 0 = λ x. IsLeastCell d f x in
        subst P (sym p) (subst Q (sym q) (subst R (sym r) l))

    least_unknown : IsLeastCell Unknown Unknown Unknown
    least_unknown = record { in_range = tt; left = tt; right = tt; least = λ d _ p _. p }

    at : (k : ℕ) → IsLeastCell (cell_at (reverse a) k) (cell_at (reverse b) k) (cell_at (reverse c) k)
    at k = elim (cases_lt k (length a)) [
      | inl lt ↦ h k lt
      | inr ge ↦ least _ _ _ _ _ _ (reversed_past a k ge) (reversed_past b k (omega arith)) (reversed_past c k (omega arith)) least_unknown
    ]

-- a whole list written over
pub refilled : {A : Type 0} (xs ws : List A) → length ws ≡ length xs → refill (length xs) xs ws ≡ ws
refilled xs ws e = take_at ws (drop (length ws) xs) (length xs) e

-- below, when both are kept in the other direction
pub below_kept : (mine theirs a b : List Cell) → reverse mine ≡ a → reverse theirs ≡ b → StackBelow mine theirs → StackBelow a b
below_kept mine theirs a b p q h = let P : List Cell → Type 0 = λ x. StackBelow x b in let Q : List Cell → Type 0 = λ x. StackBelow (reverse mine) x in
    subst P p (subst Q q (StackBelow-reverse mine theirs h))

pub kept_below : (mine theirs a b : List Cell) → reverse mine ≡ a → reverse theirs ≡ b → StackBelow a b → StackBelow mine theirs
kept_below mine theirs a b p q h = below_kept a b mine theirs (ap reverse (sym p) ∙ reverse-reverse mine) (ap reverse (sym q) ∙ reverse-reverse theirs) h

pub least_kept : (mine theirs new a b : List Cell) → reverse mine ≡ a → reverse theirs ≡ b → IsLeastAbove stack_order mine theirs new
    → IsLeastAbove stack_order a b (reverse new)
least_kept mine theirs new a b p q h =
    let P : List Cell → Type 0 = λ x. IsLeastAbove stack_order x b (reverse new) in
    let Q : List Cell → Type 0 = λ x. IsLeastAbove stack_order (reverse mine) x (reverse new) in
    subst P p (subst Q q (least-reverse mine theirs new h))
