-- The offsets of the strings of a table `post`, as the code keeps them. (Representation.)
use Rattle.std.specs.Prelude.{◌≡◌, ℕ, ◌<◌, ◌≤◌, List, length, None, slice_index}
use Rattle.tt_names.specs.Post.{string_at, string_end, string_place}

-- the list has the offset of each string up to its length, and these are whole
pub record ListsPlaces (post places : List ℕ) : Type 0 where
  pub placed : (k : ℕ) → k < length places → slice_index places k ≡ string_place post k
  pub whole : (k : ℕ) → k < length places
      → string_end post (string_place post k) ≤ length post

-- the strings that aren't in the list, and that an index of 16 bits can name, aren't whole
abbrev pub ListsAll : List ℕ → List ℕ → Type 0
ListsAll post places = (k : ℕ) → length places ≤ k → k < 65278
    → string_at post (string_place post k) ≡ None
