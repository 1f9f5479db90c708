-- What stays the same through a run of the hint machine: the font's limits, its programs, and what
-- kind of program runs. (OpenType specification, `maxp` and `cvt `; Apple TrueType Reference
-- Manual, "Instructing fonts", the font program, the CVT program and glyph programs.)
use Rattle.std.specs.Prelude.{ℕ, zero, suc, ◌+◌, ◌-◌, List, [], ◌∷◌, Option, Some, None, Bool, true, false, nat_lt, nat_eq, nat_le, ◌||◌, ℤ, pos, negsuc, if◌then◌else◌}
use Rattle.tt_code.specs.Cut.{Instruction, size}
use Rattle.tt_code.specs.Structure.{body_at}
use Rattle.tt_code.specs.declared.limits.Limits.{Limits}
use Rattle.tt_code.specs.declared.machine.Frame.{Frame}
use Rattle.tt_code.specs.declared.machine.Body.{Body}
use Rattle.tt_code.specs.declared.machine.Body.TheVariants as body

-- which program runs; in a glyph program, how many points and contours the glyph has, except for
-- phantom points
pub data Kind : Type 0 where
  FontProgram : Kind
  CvtProgram : Kind
  GlyphProgram : (points contours : ℕ) → Kind

-- The programs are given as their cuts. For the font program all three are one, for the CVT program
-- `prep` is `main`.
pub record Setting : Type 0 where
  pub limits : Limits
  -- how many control values the font has
  pub cvt : ℕ
  pub kind : Kind
  -- the program that runs
  pub main : List Instruction
  -- the font program and the CVT program, in which functions are defined
  pub font : List Instruction
  pub prep : List Instruction

-- Zones. (Apple TrueType Reference Manual, "Graphics state", zone pointers.) Zone 0 is the twilight
-- zone, zone 1 the glyph zone, which has the glyph's points and its four phantom points. (Own: in
-- the font program and the CVT program it has none.)

-- the twilight zone and the glyph zone
pub data ZoneNumber : Type 0 where
  Zero : ZoneNumber
  One : ZoneNumber

-- how many phantom points a glyph has
abbrev pub PHANTOM_POINTS : ℕ
PHANTOM_POINTS = 4

-- how many points the glyph zone has
abbrev pub glyph_points : Kind → ℕ
glyph_points FontProgram = 0
glyph_points CvtProgram = 0
glyph_points (GlyphProgram points contours) = points + PHANTOM_POINTS

-- how many contours the glyph zone has
abbrev pub glyph_contours : Kind → ℕ
glyph_contours FontProgram = 0
glyph_contours CvtProgram = 0
glyph_contours (GlyphProgram points contours) = contours

-- how many points a zone has
abbrev pub zone_size : Setting → ZoneNumber → ℕ
zone_size s Zero = s.limits.twilight
zone_size s One = glyph_points s.kind

-- how many contours a zone has (Own: the twilight zone counts as one contour)
abbrev pub contours_in : Setting → ZoneNumber → ℕ
contours_in s Zero = 1
contours_in s One = glyph_contours s.kind

-- the zone that a number names; there is a twilight zone where maxZones is at least 2 (own)
abbrev pub zone_named : Setting → ℤ → Option ZoneNumber
zone_named s (pos zero) = if nat_le 2 s.limits.zones then Some Zero else None
zone_named s (pos (suc zero)) = Some One
zone_named s (pos (suc (suc n))) = None
zone_named s (negsuc n) = None

-- Bodies of functions are named by their offset in the font program, or by 2^31 more than their
-- offset in the CVT program.

-- what is added to the offset of a body in the CVT program, 2^31
abbrev pub CVT_BODIES : ℕ
CVT_BODIES = 2147483648

-- the offset of a body in its program
abbrev pub body_offset : ℕ → ℕ
body_offset name = if nat_lt name CVT_BODIES then name else name - CVT_BODIES

-- the name of a body that a program defines; glyph programs define none
abbrev pub body_name : Kind → ℕ → ℕ
body_name FontProgram offset = offset
body_name CvtProgram offset = CVT_BODIES + offset
body_name (GlyphProgram points contours) offset = offset

-- the program in which a machine with these frames is, the innermost frame first
abbrev pub program_of : Setting → List Frame → List Instruction
program_of s [] = s.main
program_of s (f ∷ fs) = if nat_lt f.body CVT_BODIES then s.font else s.prep

-- the body in which a machine with these frames is
abbrev pub body_of : List Frame → Body
body_of [] = body.Main
body_of (f ∷ fs) = body.Function (body_offset f.body)

-- whether the body that was found is this one: the main program, or the same function's body
abbrev pub is_body : Body → Option Body → Bool
is_body body.Main (Some body.Main) = true
is_body (body.Function a) (Some (body.Function b)) = nat_eq a b
is_body _ _ = false

-- whether an instruction of the frames' body starts at the offset
abbrev pub starts_in_body : Setting → List Frame → ℕ → Bool
starts_in_body s fs offset = is_body (body_of fs) (body_at (program_of s fs) offset)

-- whether this is the end of the main program
abbrev pub is_main_end : Setting → List Frame → ℕ → Bool
is_main_end s [] offset = nat_eq offset (size s.main)
is_main_end s (f ∷ fs) offset = false

-- Whether control may go there by a jump: to an instruction of the same body, in the main program
-- to its end too (own).
abbrev pub is_target : Setting → List Frame → ℤ → Bool
is_target s fs (negsuc n) = false
is_target s fs (pos n) = starts_in_body s fs n || is_main_end s fs n
