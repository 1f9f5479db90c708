-- What the process's exit status tells of the words that the runtime gives it.
use Rattle.std.specs.Prelude.{◌≡◌, ◌⊎◌, ℕ, List, map, string_bytes}
use Rattle.std.specs.declared.string.String.{String}
use Rattle.hintcheck.specs.MeansSafe.{IsStatusOf}

-- the bytes of each word's text
abbrev pub texts_of : {A : Type 0} → List (String A) → List (List ℕ)
texts_of words = map (λ word. string_bytes word) words

-- the status is the one that the command returns for these words; or it is 141 in the place of 2, as
-- where nobody reads what is printed
abbrev pub IsStatusOrClosed : List (List ℕ) → ℕ → Type 0
IsStatusOrClosed words status = IsStatusOf words status ⊎ (status ≡ 141 × IsStatusOf words 2)

-- the same, or it is 3, as where there is no memory for the words
abbrev pub IsStatusAt : List (List ℕ) → ℕ → Type 0
IsStatusAt words status = (status ≡ 3) ⊎ IsStatusOrClosed words status

-- the status is 2 or 3, as where the words can't be read
abbrev pub IsStatusUnread : ℕ → Type 0
IsStatusUnread status = (status ≡ 2) ⊎ (status ≡ 3)
