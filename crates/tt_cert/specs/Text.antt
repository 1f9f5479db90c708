-- The bytes of a certificate file. All numbers are big-endian.
use Rattle.std.specs.Prelude.{ℕ, ℤ, List, [], ◌∷◌, ◌++◌, length, reverse}
use Rattle.std.specs.List.{flat_map}
use Rattle.std.specs.Int.{w16, w32, to_be_bytes, cast_unsigned}
use Rattle.tt_abs.specs.Cells.{Cells}
use Rattle.tt_abs.specs.declared.cells.Cell.{Cell}
use Rattle.tt_abs.specs.declared.cells.Cell.TheVariants.{Known, Unknown}
use Rattle.tt_setting.specs.declared.zone.ZoneCell.{ZoneCell}
use Rattle.tt_setting.specs.declared.zone.ZoneCell.TheVariants as zone
use Rattle.tt_cert.specs.declared.form.Form.{Form}
use Rattle.tt_cert.specs.declared.form.Form.TheVariants.{One, Two, Three, Four}
use Rattle.tt_setting.specs.declared.name.Name.{Name}
use Rattle.tt_setting.specs.declared.name.Name.TheVariants as name
use Rattle.tt_cert.specs.Forms.{form_number}
use Rattle.tt_cert.specs.Sections.{Context, Entry, Section}

-- a number of 16 bits, and one of 32
abbrev pub word : ℕ → List ℕ
word n = to_be_bytes w16 n

abbrev pub long : ℕ → List ℕ
long n = to_be_bytes w32 n

-- a list: how many values it has, and each of them
abbrev pub counted : {A : Type 0} → (A → List ℕ) → List A → List ℕ
counted one xs = word (length xs) ++ flat_map one xs

-- the header: HCRT, the form's number, and how many sections follow
abbrev pub header_of : ℕ → ℕ → List ℕ
header_of number sections = (0x48 ∷ 0x43 ∷ 0x52 ∷ 0x54 ∷ []) ++ (word number ++ long sections)

abbrev pub header_text : Form → ℕ → List ℕ
header_text form sections = header_of (form_number form) sections

-- the program's kind, and the glyph
abbrev pub name_text : Name → List ℕ
name_text name.Font = 0 ∷ word 0
name_text name.Cvt = 1 ∷ word 0
name_text (name.Glyph id) = 2 ∷ word id

-- a context: its parent, and its last call
abbrev pub context_text : Context → List ℕ
context_text c = word c.0 ++ (long c.1.call ++ (long c.1.body ++ (long c.1.turn ++ long c.1.count)))

abbrev pub cell_text : Cell → List ℕ
cell_text Unknown = 0 ∷ []
cell_text (Known number) = 1 ∷ long (cast_unsigned w32 number)

abbrev pub zone_text : ZoneCell → List ℕ
zone_text zone.Zero = 0 ∷ []
zone_text zone.One = 1 ∷ []
zone_text zone.Either = 2 ∷ []

-- the reference points, the zone pointers and the loop number
abbrev pub graphics_text : Cells → List ℕ
graphics_text g = cell_text g.rp0 ++ (cell_text g.rp1 ++ (cell_text g.rp2
    ++ (zone_text g.zp0 ++ (zone_text g.zp1 ++ (zone_text g.zp2 ++ cell_text g.loop_number)))))

-- a number of 16 bits and one of 32: a context with an offset, a function with its body
abbrev pub pair_text : ℕ × ℕ → List ℕ
pair_text p = word p.0 ++ long p.1

-- a storage cell's index with its number
abbrev pub stored_text : ℕ × ℤ → List ℕ
stored_text e = word e.0 ++ long (cast_unsigned w32 e.1)

-- the storage cells, which the first two forms don't list
abbrev pub storage_text : Form → List (ℕ × ℤ) → List ℕ
storage_text One cells = []
storage_text Two cells = []
storage_text Three cells = counted stored_text cells
storage_text Four cells = counted stored_text cells

-- a state: its context and offset, the stack from the bottom up, the graphics state, the functions,
-- the storage cells
abbrev pub state_text : Form → Entry → List ℕ
state_text form e = pair_text e.0 ++ (counted cell_text (reverse e.1.stack)
    ++ (graphics_text e.1.graphics
    ++ (counted pair_text e.1.functions ++ storage_text form e.1.storage)))

-- a section: the name, the contexts, how many states there are, and the states
abbrev pub section_text : Form → Section → List ℕ
section_text form s = name_text s.name ++ (counted context_text s.contexts
    ++ (long (length s.states) ++ flat_map (state_text form) s.states))
