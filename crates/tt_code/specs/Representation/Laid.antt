-- How the code keeps a cut: a length for each byte, at the first byte of an instruction the
-- instruction's, at others 0. (Representation: no public clause cites it.)
use Rattle.std.specs.Prelude.{◌≡◌, ℕ, zero, suc, ◌-◌, ◌<◌, ◌^◌, List, [], ◌∷◌, ◌++◌, length, take, drop, replicate}
use Rattle.tt_code.specs.Cut.{Instruction, IsInstruction, IsCut}

-- the lengths of instructions, byte by byte
abbrev pub laid : List Instruction → List ℕ
laid [] = []
laid (i ∷ is) = length i ∷ replicate (length i - 1) 0 ++ laid is

-- the instructions that start where a length isn't 0
abbrev pub pieces : List ℕ → List ℕ → List Instruction
pieces [] bytes = []
pieces (zero ∷ ns) bytes = pieces ns (drop 1 bytes)
pieces (suc n ∷ ns) bytes = take (suc n) bytes ∷ pieces ns (drop 1 bytes)

-- the lengths are those of a cut of the bytes
pub record IsLaid (lengths bytes : List ℕ) : Type 0 where
  pub is_cut : IsCut bytes (pieces lengths bytes)
  pub each_length : laid (pieces lengths bytes) ≡ lengths
  pub small : length bytes < 2 ^ 31

-- the bytes are one instruction, of fewer than 2^16 bytes (a count byte allows 512 at most)
pub record IsHeld (bytes : List ℕ) : Type 0 where
  pub is_instruction : IsInstruction bytes
  pub short : length bytes < 2 ^ 16
