-- One cell, zone cell or stack is below another exactly if that one covers all that it covers.
use Rattle.std.specs.Prelude.{◌↔◌, ℤ, pos, zero, suc}
use Rattle.std.proofs.Common.{◌≡◌, ℕ, List, [], ◌∷◌, refl, sym, ◌∙◌, subst, arith}
use Rattle.tt_code.specs.Settings.{ZoneNumber, Zero, One}
use Rattle.tt_code.specs.States.{IsNumber}
use Rattle.tt_abs.specs.declared.cells.Cell.{Cell}
use Rattle.tt_abs.specs.declared.cells.Cell.TheVariants.{Known, Unknown}
use Rattle.tt_setting.specs.declared.zone.ZoneCell.{ZoneCell}
use Rattle.tt_setting.specs.declared.zone.ZoneCell.TheVariants as zone
use Rattle.tt_abs.specs.Cells.{Covers, CoversZone, CoversStack}
use Rattle.tt_abs.specs.CellOrders.{CellInRange, CellBelow, ZoneBelow}
use Rattle.tt_abs.specs.Stacks.{cell_at, StackBelow, StackInRange}
use Rattle.tt_abs.proofs.Choosing.{zero_is_number, one_is_number, some_covered, some_stack}

pub CellBelow-coverage : (a b : Cell) → CellInRange a → CellBelow a b ↔ ((n : ℤ) → Covers a n → Covers b n)
CellBelow-coverage (Known k) (Known l) r = (λ e n h. h ∙ e, λ f. f k refl)
CellBelow-coverage (Known k) Unknown r = (λ _ n h. let N : ℤ → Type 0 = λ x. IsNumber x in subst N (sym h) r, λ f. tt)
CellBelow-coverage Unknown (Known l) r = (
  λ h n. absurd h,
  λ f. let a : pos 0 ≡ l = f (pos 0) zero_is_number in let b : pos 1 ≡ l = f (pos 1) one_is_number in cc,
)
CellBelow-coverage Unknown Unknown r = (λ _ n h. h, λ _. tt)

zones_covered : (a : ZoneCell) → ((z : ZoneNumber) → CoversZone a z → CoversZone zone.Either z)
zones_covered a z h = tt

pub ZoneBelow-coverage : (a b : ZoneCell) → ZoneBelow a b ↔ ((z : ZoneNumber) → CoversZone a z → CoversZone b z)
ZoneBelow-coverage zone.Zero zone.Zero = (λ _ z h. h, λ _. tt)
ZoneBelow-coverage zone.Zero zone.One = (λ h. absurd h, λ f. f Zero tt)
ZoneBelow-coverage zone.Zero zone.Either = (λ _. zones_covered zone.Zero, λ _. tt)
ZoneBelow-coverage zone.One zone.Zero = (λ h. absurd h, λ f. f One tt)
ZoneBelow-coverage zone.One zone.One = (λ _ z h. h, λ _. tt)
ZoneBelow-coverage zone.One zone.Either = (λ _. zones_covered zone.One, λ _. tt)
ZoneBelow-coverage zone.Either zone.Zero = (λ h. absurd h, λ f. f One tt)
ZoneBelow-coverage zone.Either zone.One = (λ h. absurd h, λ f. f Zero tt)
ZoneBelow-coverage zone.Either zone.Either = (λ _ z h. h, λ _. tt)

below_covers : (a b : List Cell) → StackInRange a → StackBelow a b → (ns : List ℤ) → CoversStack a ns → CoversStack b ns
below_covers [] [] r p [] h = tt
below_covers [] (y ∷ ys) r p ns h = absurd (omega (arith, p.depth))
below_covers (x ∷ xs) [] r p ns h = absurd (omega (arith, p.depth))
below_covers [] [] r p (n ∷ ns) h = absurd h
below_covers (x ∷ xs) (y ∷ ys) r p [] h = absurd h
below_covers (x ∷ xs) (y ∷ ys) r p (n ∷ ns) h =
    let tail : StackBelow xs ys = record { depth = let d = p.depth in omega arith; cells = λ k. p.cells (suc k) } in
    ((CellBelow-coverage x y (r 0)).0 (p.cells 0) n h.0, below_covers xs ys (λ k. r (suc k)) tail ns h.1)

cells_cons : (x y : Cell) (xs ys : List Cell) → CellBelow x y → StackBelow xs ys → StackBelow (x ∷ xs) (y ∷ ys)
cells_cons x y xs ys p q = record { depth = let d = q.depth in omega arith; cells = at }
  where
    at : (k : ℕ) → CellBelow (cell_at (x ∷ xs) k) (cell_at (y ∷ ys) k)
    at zero = p
    at (suc k) = q.cells k

below_from_coverage : (a b : List Cell) → StackInRange a → ((ns : List ℤ) → CoversStack a ns → CoversStack b ns) → StackBelow a b
below_from_coverage [] [] r f = record { depth = refl; cells = λ k. tt }
below_from_coverage [] (y ∷ ys) r f = absurd (f [] tt)
below_from_coverage (x ∷ xs) [] r f = let (ns, h) = some_stack (x ∷ xs) in absurd (no_cells ns (f ns h) h)
  where
    no_cells : (ns : List ℤ) → CoversStack [] ns → CoversStack (x ∷ xs) ns → ⊥
    no_cells [] e h = h
    no_cells (n ∷ ns) e h = e
below_from_coverage (x ∷ xs) (y ∷ ys) r f =
    let (ms, hs) = some_stack xs in
    let (m, h) = some_covered x in
    cells_cons x y xs ys
    ((CellBelow-coverage x y (r 0)).1 (λ n c. (f (n ∷ ms) (c, hs)).0))
    (below_from_coverage xs ys (λ k. r (suc k)) (λ ns c. (f (m ∷ ns) (h, c)).1))

pub StackBelow-coverage : (a b : List Cell) → StackInRange a → StackBelow a b ↔ ((ns : List ℤ) → CoversStack a ns → CoversStack b ns)
StackBelow-coverage a b r = (below_covers a b r, below_from_coverage a b r)
