-- Reading a section or a header, unit by unit. The units of a section are a name, a number of
-- contexts, a context, a number of states, a state's context with its offset, a depth, a cell's
-- tag, a cell's number, a zone, a number of functions, a function, a number of storage cells, and a
-- storage cell; those of a header are the magic, the form, and the number of sections.
use Rattle.std.specs.Prelude.{◌==◌, ℕ, ℤ, ◌+◌, ◌&&◌, nat_le, Bool, List, [], length, reverse, take, drop, slice_index, Option, Some, None, Ok, Err, if◌then◌else◌}
use Rattle.std.specs.Int.{w16, w32, from_be_bytes, cast_signed}
use Rattle.tt_abs.specs.Cells.{Cells}
use Rattle.tt_abs.specs.declared.cells.Cell.{Cell}
use Rattle.tt_abs.specs.declared.cells.Cell.TheVariants.{Known, Unknown}
use Rattle.tt_setting.specs.declared.zone.ZoneCell.{ZoneCell}
use Rattle.tt_setting.specs.declared.zone.ZoneCell.TheVariants as zone
use Rattle.tt_abs.specs.declared.state.State.{State}
use Rattle.tt_cert.specs.declared.form.Form.{Form}
use Rattle.tt_cert.specs.declared.form.Form.TheVariants.{One, Two, Three, Four}
use Rattle.tt_setting.specs.declared.name.Name.{Name}
use Rattle.tt_setting.specs.declared.name.Name.TheVariants as name
use Rattle.tt_cert.specs.Forms.{form_number, form_of, most_contexts}
use Rattle.tt_cert.specs.Readers.{Answer, Input, and_then, given, list_at, made_of, ruled, unit, ◌>>=◌}
use Rattle.tt_cert.specs.Rules.{is_above, is_next_point, last_of, last_point, may_follow}
use Rattle.tt_cert.specs.Sections.{Context, Entry, Section}

-- a number of 16 bits, one of 32, and both together
unfoldable pub word_at : Input → Answer ℕ
word_at i = do
  u ← unit 2 i
  Ok (from_be_bytes w16 u.0, u.1)

unfoldable pub long_at : Input → Answer ℕ
long_at i = do
  u ← unit 4 i
  Ok (from_be_bytes w32 u.0, u.1)

abbrev pub pair_from : List ℕ → ℕ × ℕ
pair_from bytes = (from_be_bytes w16 (take 2 bytes), from_be_bytes w32 (drop 2 bytes))

unfoldable pub pair_at : Input → Answer (ℕ × ℕ)
pair_at i = do
  u ← unit 6 i
  Ok (pair_from u.0, u.1)

-- the program of a kind and a glyph
abbrev pub name_of : ℕ → ℕ → Option Name
name_of kind glyph = if kind == 2 then Some (name.Glyph glyph)
    else if kind == 0 && glyph == 0 then Some name.Font
    else if kind == 1 && glyph == 0 then Some name.Cvt
    else None

unfoldable pub name_at : Input → Answer Name
name_at i = do
  u ← unit 3 i
  given i.place (name_of (slice_index u.0 0) (from_be_bytes w16 (drop 1 u.0))) u.1

unfoldable pub cell_at : Input → Answer Cell
cell_at i = do
  tag ← unit 1 i
  if slice_index tag.0 0 == 0 then Ok (Unknown, tag.1)
      else if slice_index tag.0 0 == 1 then (do
        number ← unit 4 tag.1
        Ok (Known (cast_signed w32 (from_be_bytes w32 number.0)), number.1))
      else Err i.place

-- the zone pointer of a byte
abbrev pub zone_of : ℕ → Option ZoneCell
zone_of byte = if byte == 0 then Some zone.Zero
    else if byte == 1 then Some zone.One
    else if byte == 2 then Some zone.Either
    else None

unfoldable pub zone_at : Input → Answer ZoneCell
zone_at i = do
  u ← unit 1 i
  given i.place (zone_of (slice_index u.0 0)) u.1

-- a list after the number of its values
abbrev pub counted_at : {A : Type 0} → (List A → Input → Answer A) → Input → Answer (List A)
counted_at one i = do
  n ← word_at i
  list_at one [] n.0 n.1

-- a context after those before it: its parent, and its last call
abbrev pub Numbers : Type 0
Numbers = ℕ × (ℕ × (ℕ × (ℕ × ℕ)))

abbrev pub context_from : Numbers → Context
context_from x = (x.0, record { body = x.1.1.0; call = x.1.0; turn = x.1.1.1.0; count = x.1.1.1.1 })

abbrev pub numbers_at : Input → Answer Numbers
numbers_at = and_then word_at (λ _. and_then long_at (λ _. and_then long_at
    (λ _. and_then long_at (λ _. long_at))))

unfoldable pub context_at : List Context → Input → Answer Context
context_at before = ruled (may_follow before) (made_of context_from numbers_at)

-- how many contexts a section has, and then each of them
abbrev pub context_count_at : Form → Input → Answer ℕ
context_count_at form = ruled (λ n. nat_le n (most_contexts form)) word_at

unfoldable pub contexts_at : Form → Input → Answer (List Context)
contexts_at form i = do
  n ← context_count_at form i
  list_at context_at [] n.0 n.1

-- a state's point: its context, which is one of this many, and its offset; the point comes after
-- the last state's
unfoldable pub point_at : ℕ → Option (ℕ × ℕ) → Input → Answer (ℕ × ℕ)
point_at contexts last = ruled (is_next_point contexts last) pair_at

-- the stack, from the bottom up
unfoldable pub stack_at : Input → Answer (List Cell)
stack_at = counted_at (λ _. cell_at)

-- the graphics state
abbrev pub Registers : Type 0
Registers = Cell × (Cell × (Cell × (ZoneCell × (ZoneCell × (ZoneCell × Cell)))))

abbrev pub graphics_from : Registers → Cells
graphics_from x = record {
  rp0 = x.0;
  rp1 = x.1.0;
  rp2 = x.1.1.0;
  zp0 = x.1.1.1.0;
  zp1 = x.1.1.1.1.0;
  zp2 = x.1.1.1.1.1.0;
  loop_number = x.1.1.1.1.1.1;
}

abbrev pub registers_at : Input → Answer Registers
registers_at = and_then cell_at (λ _. and_then cell_at (λ _. and_then cell_at
    (λ _. and_then zone_at (λ _. and_then zone_at (λ _. and_then zone_at (λ _. cell_at))))))

unfoldable pub graphics_at : Input → Answer Cells
graphics_at = made_of graphics_from registers_at

-- a function, and a storage cell, each after those before it
unfoldable pub function_at : List (ℕ × ℕ) → Input → Answer (ℕ × ℕ)
function_at before = ruled (is_above (last_of before)) pair_at

unfoldable pub functions_at : Input → Answer (List (ℕ × ℕ))
functions_at = counted_at function_at

abbrev pub with_sign : ℕ × ℕ → ℕ × ℤ
with_sign p = (p.0, cast_signed w32 p.1)

unfoldable pub stored_at : List (ℕ × ℤ) → Input → Answer (ℕ × ℤ)
stored_at before = ruled (is_above (last_of before)) (made_of with_sign pair_at)

-- the storage cells, which the first two forms don't list
unfoldable pub storage_at : Form → Input → Answer (List (ℕ × ℤ))
storage_at One i = Ok ([], i)
storage_at Two i = Ok ([], i)
storage_at Three i = counted_at stored_at i
storage_at Four i = counted_at stored_at i

-- a state, without its point
abbrev pub Parts : Type 0
Parts = List Cell × (Cells × (List (ℕ × ℕ) × List (ℕ × ℤ)))

abbrev pub state_from : Parts → State
state_from x = record {
  stack = reverse x.0;
  graphics = x.1.0;
  functions = x.1.1.0;
  storage = x.1.1.1;
}

abbrev pub parts_at : Form → Input → Answer Parts
parts_at form = and_then stack_at (λ _. and_then graphics_at
    (λ _. and_then functions_at (λ _. storage_at form)))

unfoldable pub state_at : Form → Input → Answer State
state_at form = made_of state_from (parts_at form)

-- a state with its point, which is in one of this many contexts, and comes after the last state's
-- point; and the same where the states before it are given in place of that point
abbrev pub entry_after : Form → ℕ → Option (ℕ × ℕ) → Input → Answer Entry
entry_after form contexts last = and_then (point_at contexts last) (λ _. state_at form)

unfoldable pub entry_at : Form → ℕ → List Entry → Input → Answer Entry
entry_at form contexts before = entry_after form contexts (last_point before)

unfoldable pub states_at : Form → ℕ → Input → Answer (List Entry)
states_at form contexts i = do
  n ← long_at i
  list_at (entry_at form contexts) [] n.0 n.1

-- a section
abbrev pub Fields : Type 0
Fields = Name × (List Context × List Entry)

abbrev pub section_from : Fields → Section
section_from x = record { name = x.0; contexts = x.1.0; states = x.1.1 }

abbrev pub fields_at : Form → Input → Answer Fields
fields_at form = and_then name_at (λ _. and_then (contexts_at form)
    (λ contexts. states_at form (length contexts + 1)))

unfoldable pub section_at : Form → Input → Answer Section
section_at form = made_of section_from (fields_at form)

-- a header: its form, and how many sections follow
abbrev pub is_magic : ℕ → Bool
is_magic n = n == 0x48435254

unfoldable pub magic_at : Input → Answer ℕ
magic_at = ruled is_magic long_at

unfoldable pub form_at : Input → Answer Form
form_at i = do
  n ← word_at i
  given i.place (form_of n.0) n.1

abbrev pub header_from : ℕ × (Form × ℕ) → Form × ℕ
header_from x = x.1

unfoldable pub header_at : Input → Answer (Form × ℕ)
header_at = made_of header_from (and_then magic_at (λ _. and_then form_at (λ _. long_at)))

-- the same, the form being told by its number
abbrev pub in_numbers : Form × ℕ → ℕ × ℕ
in_numbers x = (form_number x.0, x.1)

unfoldable pub header_numbers_at : Input → Answer (ℕ × ℕ)
header_numbers_at = made_of in_numbers header_at
