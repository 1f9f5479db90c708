-- What an instruction of a plain line changes and pushes, once its operands are taken and its tests
-- passed. (Apple TrueType Reference Manual, "The TrueType instruction set".)
use Rattle.std.specs.Prelude.{ℕ, zero, suc, ℤ, pos, negsuc, List, [], ◌∷◌, Ok, nat_eq, if◌then◌else◌}
use Rattle.tt_code.specs.Refusals.{Tested, ◌>>=◌}
use Rattle.tt_code.specs.Table.{Lists}
use Rattle.tt_code.specs.Settings.{Setting, ZoneNumber, Zero, One}
use Rattle.tt_code.specs.States.{Machine, Registers, Value, Exactly, Anything, Outcome, leaves, reference, with_reference, with_pointer}
use Rattle.tt_code.specs.Operands.{take_operands, test_uses}
use Rattle.tt_code.specs.declared.kinds.NewNumber.TheVariants as new_number
use Rattle.tt_code.specs.declared.kinds.Update.{Update}
use Rattle.tt_code.specs.declared.kinds.Update.TheVariants as update
use Rattle.tt_code.specs.declared.kinds.Pushed.{Pushed}
use Rattle.tt_code.specs.declared.kinds.Pushed.TheVariants as pushed

-- the element taken at a position; a default where there is none, which no line of the table reads
abbrev pub taken_at : {N : Type 0} → N → List N → ℕ → N
taken_at default [] i = default
taken_at default (n ∷ ns) zero = n
taken_at default (n ∷ ns) (suc i) = taken_at default ns i

-- How changes read the elements that were taken. With this, the changes have one definition for
-- numbers and for cells.
pub record Reading (N Z : Type 0) : Type 0 where
  pub one : N
  pub index : N → ℕ
  pub zone : N → Z

-- the natural number that a number is; 0 for a negative one, which no test lets through
abbrev pub natural : ℤ → ℕ
natural (pos n) = n
natural (negsuc n) = 0

-- the zone that a number names, once it is tested to be 0 or 1
abbrev pub zone_of : ℤ → ZoneNumber
zone_of (pos zero) = Zero
zone_of (pos (suc n)) = One
zone_of (negsuc n) = One

-- the machine's own reading: elements are whole numbers
abbrev pub numbers : Reading ℤ ZoneNumber
numbers = record { one = pos 1; index = natural; zone = zone_of }

-- an area with one cell changed
abbrev pub with_stored : {N : Type 0} → ℕ → N → (ℕ → N) → ℕ → N
with_stored i n area k = if nat_eq i k then n else area k

-- one change of a line, by the elements that were taken
abbrev pub updated : {N Z : Type 0} → Reading N Z → List N → Update → Registers N Z → Registers N Z
updated read taken (update.SetReference r (new_number.Taken i)) x =
    record x { graphics = with_reference r (taken_at read.one taken i) x.graphics }
updated read taken (update.SetReference r (new_number.Same q)) x =
    record x { graphics = with_reference r (reference q x.graphics) x.graphics }
updated read taken (update.SetPointer p i) x =
    record x { graphics = with_pointer p (read.zone (taken_at read.one taken i)) x.graphics }
updated read taken (update.SetLoop i) x =
    record x { graphics = record x.graphics { loop_number = taken_at read.one taken i } }
updated read taken update.LoopIsOne x =
    record x { graphics = record x.graphics { loop_number = read.one } }
updated read taken (update.Store i n) x = record x {
  storage = with_stored (read.index (taken_at read.one taken i)) (taken_at read.one taken n)
      x.storage;
}

-- the changes, one after the other
abbrev pub all_updated : {N Z : Type 0} → Reading N Z → List N → List Update → Registers N Z →
    Registers N Z
all_updated read taken [] x = x
all_updated read taken (u ∷ us) x = all_updated read taken us (updated read taken u x)

-- what one push of a line gives, by the elements that were taken and the storage area
abbrev pub value_pushed : List ℤ → (ℕ → ℤ) → Pushed → Value
value_pushed taken area pushed.Any = Anything
value_pushed taken area (pushed.Stored i) = Exactly (area (natural (taken_at (pos 1) taken i)))

-- what all pushes of a line give, the deepest first
abbrev pub values_pushed : List ℤ → (ℕ → ℤ) → List Pushed → List Value
values_pushed taken area [] = []
values_pushed taken area (p ∷ ps) = value_pushed taken area p ∷ values_pushed taken area ps

-- A plain line: its operands are taken, its reference points tested, and then it changes and
-- pushes.
abbrev pub plain : Setting → Machine → Lists → Tested Outcome
plain s m line = do
  t ← take_operands s m.registers.graphics line.operands m.stack
  ok ← test_uses s m.registers.graphics line.uses
  Ok (leaves (record m { registers = all_updated numbers t.0 line.updates m.registers }) t.1
      (values_pushed t.0 m.registers.storage line.pushes))
