-- Where the glyphs are (OpenType specification, `head`, `loca`, `glyf`).
use Rattle.std.specs.Prelude.{ℕ, ◌+◌, ◌-◌, ◌*◌, ◌&&◌, ◌||◌, List, length, slice_range, Bool, nat_le, ◌==◌, if◌then◌else◌}
use Rattle.tt_font.specs.Numbers.{u16_at, u32_at}

-- indexToLocFormat: 0 where `loca` has short entries, 1 where it has long ones
abbrev pub loca_format : List ℕ → ℕ
loca_format head = u16_at 50 head

-- how many bytes an entry of `loca` has
abbrev pub entry_size : ℕ → ℕ
entry_size format = if format == 0 then 2 else 4

-- the offset in `glyf` that an entry of `loca` names: a short entry holds half of it
abbrev pub entry : ℕ → List ℕ → ℕ → ℕ
entry format loca i = if format == 0 then 2 * u16_at (2 * i) loca else u32_at (4 * i) loca

-- whether entry i is there, and its offset is at most the length of `glyf` and at least the offset
-- of the entry before it
abbrev pub entry_fits : ℕ → List ℕ → List ℕ → ℕ → Bool
entry_fits format loca glyf i = nat_le (entry_size format * (i + 1)) (length loca)
    && (nat_le (entry format loca i) (length glyf)
    && (i == 0 || nat_le (entry format loca (i - 1)) (entry format loca i)))

-- the bytes of a glyph: those of `glyf` from its entry to the next one
unfoldable pub glyph_bytes : ℕ → List ℕ → List ℕ → ℕ → List ℕ
glyph_bytes format loca glyf id =
    slice_range glyf (entry format loca id) (entry format loca (id + 1))
