-- At which offsets of the programs states are kept.
use Rattle.std.specs.Prelude.{◌≡◌, ℕ, cond, List, slice_index_or}
use Rattle.tt_abs.specs.StateFlow.{Place}
use Rattle.tt_setting.specs.Spots.{spot_of}
use Rattle.tt_setting.specs.declared.spot.Spot.{Spot}
use Rattle.tt_setting.specs.declared.spot.Spot.TheVariants.{Main, Font, Prep}
use Rattle.tt_find.specs.declared.marks.Mark.{Mark}
use Rattle.tt_find.specs.declared.marks.Mark.TheVariants.{Kept}
use Rattle.tt_find.specs.declared.marks.OffsetMarks.{OffsetMarks}

-- the list of a program
abbrev pub list_of : OffsetMarks → Spot → List Mark
list_of marks Main = marks.main.items
list_of marks Font = marks.font.items
list_of marks Prep = marks.prep.items

-- what is known of an offset of a program
abbrev pub mark_of : OffsetMarks → Spot → ℕ → Mark
mark_of marks spot offset =
    cond marks.everywhere Kept (slice_index_or (list_of marks spot) offset Kept)

-- what is known of a place
abbrev pub mark_at : OffsetMarks → Place → Mark
mark_at marks p = mark_of marks (spot_of p.0) p.1

-- the offset has this mark from then on, and every other offset has the same as before
pub record SetsMark (old new : OffsetMarks) (spot : Spot) (offset : ℕ) (mark : Mark) : Type 0 where
  pub here : mark_of new spot offset ≡ mark
  pub elsewhere : (other : Spot) (at : ℕ) → ((other ≡ spot) × (at ≡ offset) → ⊥)
      → mark_of new other at ≡ mark_of old other at
  pub everywhere : new.everywhere ≡ old.everywhere
