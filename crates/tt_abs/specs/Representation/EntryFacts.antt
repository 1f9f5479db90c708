-- What a sorted map has after an entry was put or removed: the functions by their numbers, and the
-- storage area cell by cell.
use Rattle.std.specs.Prelude.{◌≡◌, ℕ, ℤ, Bool, true, false, cond, not, nat_eq, nat_lt, if◌then◌else◌, List, [], ◌∷◌, Option, None, Some}
use Rattle.std.specs.List.{AllByRecursion}
use Rattle.std.proofs.Common.{refl, sym, ◌∙◌, ap, subst, inl, inr}
use Rattle.std.proofs.lemmas.Bool.{cases_eq, eqb-true, eqb-false, eq-eqb, ne_eqb}
use Rattle.tt_code.specs.Control.{body_named}
use Rattle.tt_code.specs.Changes.{with_stored}
use Rattle.tt_abs.specs.declared.cells.Cell.{Cell}
use Rattle.tt_abs.specs.declared.cells.Cell.TheVariants.{Known, Unknown}
use Rattle.tt_setting.specs.Entries.{listed, with_entry, without_entry}
use Rattle.tt_abs.specs.StorageCells.{known_or_not, storage_of, with_cell}
use Rattle.tt_setting.specs.EntryLaws.{listed-here, listed-there}
use Rattle.tt_setting.specs.EntryLaws.{listed-with, listed-without}

-- what holds for all values holds for each value that is listed
pub listed-all : {V : Type 0} (P : V → Type 0) (es : List (ℕ × V)) (n : ℕ) (v : V)
    → AllByRecursion (λ e. P e.1) es → listed es n ≡ Some v → P v
listed-all P [] n v all l = cc
listed-all {V} P (e ∷ es) n v all l = elim (cases_eq e.0 n) [
  | inl same ↦ subst P (value (sym (listed-here e es n same) ∙ l)) all.0
  | inr other ↦ listed-all P es n v all.1 (sym (listed-there e es n other) ∙ l)
]
  where
    value : Some e.1 ≡ Some v → e.1 ≡ v
    value h = cc

-- An entry put.

-- An entry removed.

-- Functions and their bodies.

-- The storage area.

cell_branch : (b : Bool) (o : Option ℤ) (p : Option ℤ)
    → known_or_not (if b then o else p) ≡ (if b then known_or_not o else known_or_not p)
cell_branch true o p = refl
cell_branch false o p = refl

-- what is known of a storage cell after one became known or unknown
pub storage-with : (i : ℕ) (c : Cell) (es : List (ℕ × ℤ)) (k : ℕ)
    → storage_of (with_cell i c es) k ≡ with_stored i c (storage_of es) k
storage-with i (Known z) es k =
    ap known_or_not (listed-with i z es k) ∙ cell_branch (nat_eq i k) (Some z) (listed es k)
storage-with i Unknown es k =
    ap known_or_not (listed-without i es k) ∙ cell_branch (nat_eq i k) None (listed es k)

-- the same of the whole storage area
pub storage-with_cell : (i : ℕ) (c : Cell) (es : List (ℕ × ℤ))
    → storage_of (with_cell i c es) ≡ with_stored i c (storage_of es)
storage-with_cell i c es = λ j k. storage-with i c es k j
