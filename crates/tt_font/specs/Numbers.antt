-- Numbers in the bytes of a font. All are big-endian (OpenType specification, "Data types").
use Rattle.std.specs.Prelude.{ℕ, zero, suc, List, drop, Bool, Option, Some, None, if◌then◌else◌}
use Rattle.std.specs.Option.{option_or}
use Rattle.byteorder.specs.Endian.{big_number}

-- the u16 at an offset
unfoldable pub u16_at : ℕ → List ℕ → ℕ
u16_at place bytes = big_number 2 (drop place bytes)

-- the u32 at an offset
unfoldable pub u32_at : ℕ → List ℕ → ℕ
u32_at place bytes = big_number 4 (drop place bytes)

-- the least number below n that passes a test
unfoldable pub first_below : (ℕ → Bool) → ℕ → Option ℕ
first_below test zero = None
first_below test (suc n) = option_or (first_below test n) (if test n then Some n else None)
