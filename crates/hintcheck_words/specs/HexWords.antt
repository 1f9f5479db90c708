-- Hexadecimal words.
use Rattle.std.specs.Prelude.{◌≡◌, ◌≤◌, ◌%◌, ℕ, List, length, Ok}
use Rattle.std.specs.List.{AllPass}
use Rattle.hex.specs.Hex.{decode_of, is_hex_digit}

-- an even number of hexadecimal digits, at most as many as spell 65,535 bytes
pub record IsHexWord (word : List ℕ) : Type 0 where
  pub even : length word % 2 ≡ 0
  pub digits : AllPass is_hex_digit word
  pub short : length word ≤ 131070

-- the word spells these bytes: two digits spell a byte, the high half first
abbrev pub Spells : List ℕ → List ℕ → Type 0
Spells word bytes = decode_of word ≡ Ok bytes
