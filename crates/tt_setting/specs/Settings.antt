-- The code's settings and points, read as the machine's.
use Rattle.std.specs.Prelude.{◌≡◌, ℕ, ℤ, List, Option, None, Bool, true, ◌&&◌, reverse, if◌then◌else◌}
use Rattle.tt_code.specs.Cut.{Instruction, instruction_at}
use Rattle.tt_code.specs.Fonts.{Font}
use Rattle.tt_code.specs.Settings.{Setting as MachineSetting, Kind as MachineKind, FontProgram, CvtProgram, GlyphProgram, ZoneNumber, Zero, One, program_of, starts_in_body}
use Rattle.tt_code.specs.States.{is_below}
use Rattle.tt_code.specs.declared.machine.Frame.{Frame}
use Rattle.tt_setting.specs.declared.setting.Setting.{Setting}
use Rattle.tt_setting.specs.declared.setting.Point.{Point}
use Rattle.tt_setting.specs.declared.setting.Kind.{Kind}
use Rattle.tt_setting.specs.declared.setting.Kind.TheVariants as kind
use Rattle.tt_setting.specs.declared.zone.ZoneCell.{ZoneCell}
use Rattle.tt_setting.specs.declared.zone.ZoneCell.TheVariants as zone

-- which program runs
abbrev pub kind_of : Kind → MachineKind
kind_of kind.Font = FontProgram
kind_of kind.Cvt = CvtProgram
kind_of (kind.Glyph points contours) = GlyphProgram points contours

-- what the program may rely on
abbrev pub setting_of : Setting → MachineSetting
setting_of s = record {
  limits = s.limits;
  cvt = s.cvt;
  kind = kind_of s.kind;
  main = s.main.now;
  font = s.font.now;
  prep = s.prep.now;
}

-- the font whose programs these are; where the font program runs, it stands for the CVT program too
abbrev pub programs_of : Setting → Font
programs_of s =
    record { limits = s.limits; cvt = s.cvt; font_program = s.font.now; cvt_program = s.prep.now }

-- the calls of a point, the innermost first
abbrev pub frames_of : Point → List Frame
frames_of p = reverse p.frames.now

-- the instruction of the frames' body that starts at the offset
abbrev pub instruction_of : MachineSetting → List Frame → ℕ → Option Instruction
instruction_of s fs at =
    if starts_in_body s fs at then instruction_at (program_of s fs) at else None

-- an instruction of the point's body starts there
abbrev pub StartsAt : Setting → Point → Type 0
StartsAt setting point =
    starts_in_body (setting_of setting) (frames_of point) point.offset ≡ true

-- the instruction of the point's body that starts there
abbrev pub point_instruction : Setting → Point → Option Instruction
point_instruction setting point =
    instruction_of (setting_of setting) (frames_of point) point.offset

-- whether the number is below the bound in each zone that the pointer may name
abbrev pub is_below_in : (ZoneNumber → ℕ) → ZoneCell → ℤ → Bool
is_below_in bound zone.Zero z = is_below z (bound Zero)
is_below_in bound zone.One z = is_below z (bound One)
is_below_in bound zone.Either z = is_below z (bound Zero) && is_below z (bound One)
