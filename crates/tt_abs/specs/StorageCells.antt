-- The known storage cells as a list of entries.
use Rattle.std.specs.Prelude.{ℕ, ℤ, List, Option, None, Some}
use Rattle.tt_abs.specs.declared.cells.Cell.{Cell}
use Rattle.tt_abs.specs.declared.cells.Cell.TheVariants.{Known, Unknown}
use Rattle.tt_setting.specs.Entries.{listed, with_entry, without_entry}

-- the known cell of a number, if there is one; otherwise unknown
abbrev pub known_or_not : Option ℤ → Cell
known_or_not None = Unknown
known_or_not (Some z) = Known z

-- what is known of each storage cell, where the known ones are listed
abbrev pub storage_of : List (ℕ × ℤ) → ℕ → Cell
storage_of es i = known_or_not (listed es i)

-- the list after a cell became known or unknown
abbrev pub with_cell : ℕ → Cell → List (ℕ × ℤ) → List (ℕ × ℤ)
with_cell i (Known z) es = with_entry i z es
with_cell i Unknown es = without_entry i es
