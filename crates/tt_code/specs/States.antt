-- The state of the hint machine. (Apple TrueType Reference Manual, "The TrueType interpreter" and
-- "Graphics state".) What this product doesn't decide, such as coordinates, vectors, rounding and
-- the control values, isn't kept: where a program reads it, any number may be read.
use Rattle.std.specs.Prelude.{ℕ, ℤ, pos, negsuc, FitsSigned, List, Bool, true, false, nat_lt, ◌^◌, zero, suc}
use Rattle.std.specs.Int.{w32}
use Rattle.tt_code.specs.Settings.{ZoneNumber, One}
use Rattle.tt_code.specs.declared.machine.Frame.{Frame}
use Rattle.tt_code.specs.declared.machine.Graphics.{Graphics}
use Rattle.tt_code.specs.declared.kinds.Reference.{Reference}
use Rattle.tt_code.specs.declared.kinds.Reference.TheVariants.{Rp0, Rp1, Rp2}
use Rattle.tt_code.specs.declared.kinds.Pointer.{Pointer}
use Rattle.tt_code.specs.declared.kinds.Pointer.TheVariants.{Zp0, Zp1, Zp2}

-- numbers of the machine, from -2^31 to 2^31 - 1
abbrev pub IsNumber : ℤ → Type 0
IsNumber z = FitsSigned w32 z

-- whether a whole number is a number of the machine
abbrev pub is_number : ℤ → Bool
is_number (pos n) = nat_lt n (2 ^ 31)
is_number (negsuc n) = nat_lt n (2 ^ 31)

-- whether a number is 0 or more and below a bound, as an index or a point number has to be
abbrev pub is_below : ℤ → ℕ → Bool
is_below (pos n) bound = nat_lt n bound
is_below (negsuc n) bound = false

-- whether a number is true: every number but 0 is
abbrev pub is_true : ℤ → Bool
is_true (pos zero) = false
is_true (pos (suc n)) = true
is_true (negsuc n) = true

-- what plain lines change besides the stack: the graphics state, and the storage area by index
pub record Registers (N Z : Type 0) : Type 0 where
  pub graphics : Graphics N Z
  -- The area has no end here; a program reaches only the cells below maxStorage.
  pub storage : ℕ → N

-- the state of the machine
pub record Machine : Type 0 where
  -- the calls that haven't returned, the innermost first
  pub frames : List Frame
  -- where it is: in the program of its innermost frame, without frames in the main program
  pub offset : ℕ
  -- the top first
  pub stack : List ℤ
  pub registers : Registers ℤ ZoneNumber
  -- functions as number and body, the newest definition of a number first
  pub functions : List (ℕ × ℕ)

-- Reading and setting a reference point or a zone pointer, whatever the numbers and zones are: the
-- machine's, or what is known of them.

-- a reference point's number
abbrev pub reference : {N Z : Type 0} → Reference → Graphics N Z → N
reference Rp0 g = g.rp0
reference Rp1 g = g.rp1
reference Rp2 g = g.rp2

-- one reference point is set
abbrev pub with_reference : {N Z : Type 0} → Reference → N → Graphics N Z → Graphics N Z
with_reference Rp0 n g = record g { rp0 = n }
with_reference Rp1 n g = record g { rp1 = n }
with_reference Rp2 n g = record g { rp2 = n }

-- a zone pointer's zone
abbrev pub pointer : {N Z : Type 0} → Pointer → Graphics N Z → Z
pointer Zp0 g = g.zp0
pointer Zp1 g = g.zp1
pointer Zp2 g = g.zp2

-- one zone pointer is set
abbrev pub with_pointer : {N Z : Type 0} → Pointer → Z → Graphics N Z → Graphics N Z
with_pointer Zp0 z g = record g { zp0 = z }
with_pointer Zp1 z g = record g { zp1 = z }
with_pointer Zp2 z g = record g { zp2 = z }

-- the graphics state with which every program starts
abbrev pub default_graphics : Graphics ℤ ZoneNumber
default_graphics = record {
  rp0 = pos 0;
  rp1 = pos 0;
  rp2 = pos 0;
  zp0 = One;
  zp1 = One;
  zp2 = One;
  loop_number = pos 1;
}

-- the machine is at another offset
abbrev pub at_offset : Machine → ℕ → Machine
at_offset m offset = record m { offset = offset }

-- What an instruction pushes: a number, or a number of which nothing is known.

-- what is pushed: this number, or any
pub data Value : Type 0 where
  Exactly : ℤ → Value
  Anything : Value

-- What an instruction leaves: a machine, and what goes on its stack, the first one deepest.
pub record Outcome : Type 0 where
  pub after : Machine
  pub pushes : List Value

-- the outcome that leaves this stack, and these values to be pushed on it
abbrev pub leaves : Machine → List ℤ → List Value → Outcome
leaves m stack pushes = record { after = record m { stack = stack }; pushes = pushes }
