-- The glyphs that may be drawn with hints, as sets and as arrays. (Representation.)
use Rattle.std.specs.Prelude.{◌≡◌, ◌↔◌, ◌<◌, ℕ, List, Bool, true, length, slice_index, if◌then◌else◌}
use Rattle.hintcheck_report.specs.declared.refused.Refused.{Refused}
use Rattle.hintcheck_c.specs.Representation.Retained.{is_in}
use Rattle.hintcheck_c.specs.MayHint.{MayHint}

-- the set of the glyphs that may be drawn with hints, where these programs are refused
abbrev pub AreHinted : List ℕ → List Refused → List Bool → Type 0
AreHinted bytes refused set = (id : ℕ) → (is_in set id ≡ true) ↔ MayHint bytes refused id

-- each entry is 1 for a glyph in a set and 0 for another number
abbrev pub entry_of : List Bool → ℕ → ℕ
entry_of set id = if is_in set id then 1 else 0

-- the first n entries tell a set
abbrev pub TellBelow : List Bool → List ℕ → ℕ → Type 0
TellBelow set entries n = (id : ℕ) → id < n → slice_index entries id ≡ entry_of set id

-- all entries do
abbrev pub Tell : List Bool → List ℕ → Type 0
Tell set entries = TellBelow set entries (length entries)
