-- What holds of every font that was read, whatever its file holds.
use Rattle.std.specs.Prelude.{◌≡◌, ℕ, ◌<◌, ◌^◌, List, Some, length, slice_get}
use Rattle.std.specs.List.{AllByRecursion}
use Rattle.tt_font.specs.Reading.{FontData, GlyphData}

-- fewer than 2^31 bytes
pub record AreFewBytes (xs : List ℕ) : Type 0 where
  pub bytes : AllByRecursion (λ b. b < 256) xs
  pub few : length xs < 2 ^ 31

-- each program of the font has fewer than 2^31 bytes, and maxStackElements is a number of 16 bits
pub record IsFontInRange (d : FontData) : Type 0 where
  pub depth : d.limits.stack < 2 ^ 16
  pub fpgm : AreFewBytes d.fpgm
  pub prep : AreFewBytes d.prep
  pub glyphs : (id : ℕ) (g : GlyphData) → slice_get d.glyphs id ≡ Some g → AreFewBytes g.program
