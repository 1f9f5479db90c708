-- What the machine does with worked glyph programs.
use Rattle.std.proofs.Common.{[], ◌∷◌, refl}
use Rattle.tt_code.specs.declared.reason.Reason.TheVariants as reason
use Rattle.tt_code.proofs.Running.{Accepted, Refused, InGlyph, answer, usual_limits}
use Rattle.tt_code.proofs.ExamplesAsCases.{all_hold, answers_by, accepted, refused_at, endless, answers_to_any, accepted_whatever_is_measured}

-- Operands are within the font's limits.
cases_of_operands : all_hold (
    -- An empty program ends at once.
    accepted []
    -- MIAP takes the last control value.
    ∷ accepted (0xb1 ∷ 0x00 ∷ 0x09 ∷ 0x3e ∷ [])
    -- MIAP refuses an index after the control values.
    ∷ refused_at 3 reason.Cvt (0xb1 ∷ 0x00 ∷ 0x0a ∷ 0x3e ∷ [])
    -- MIAP takes the control value before the point.
    ∷ refused_at 2 reason.Underflow (0xb0 ∷ 0x00 ∷ 0x3e ∷ [])
    -- MIAP tests the control value before the point.
    ∷ refused_at 2 reason.Cvt (0xb0 ∷ 0x0a ∷ 0x3e ∷ [])
    -- The last phantom point is in the glyph zone.
    ∷ accepted (0xb0 ∷ 0x07 ∷ 0x2e ∷ [])
    -- No point is after the phantom points.
    ∷ refused_at 2 reason.Point (0xb0 ∷ 0x08 ∷ 0x2e ∷ [])
    -- A negative number is no point.
    ∷ refused_at 3 reason.Point (0xb8 ∷ 0xff ∷ 0xff ∷ 0x2e ∷ [])
    -- DUP leaves a point to be popped.
    ∷ accepted (0xb0 ∷ 0x05 ∷ 0x20 ∷ 0x2e ∷ 0x21 ∷ [])
    -- The last storage cell is written.
    ∷ accepted (0xb1 ∷ 0x03 ∷ 0x05 ∷ 0x42 ∷ [])
    -- No storage cell is after the last.
    ∷ refused_at 3 reason.Storage (0xb1 ∷ 0x04 ∷ 0x05 ∷ 0x42 ∷ [])
    -- SHC takes the first contour.
    ∷ accepted (0xb0 ∷ 0x00 ∷ 0x34 ∷ [])
    -- SHC refuses the number of contours.
    ∷ refused_at 2 reason.Contour (0xb0 ∷ 0x01 ∷ 0x34 ∷ [])
    -- MDRP uses a reference point in its zone.
    ∷ accepted (0xb0 ∷ 0x03 ∷ 0x10 ∷ 0xb0 ∷ 0x00 ∷ 0xc0 ∷ [])
    -- A reference point is tested where it is used.
    ∷ refused_at 5 reason.Point (0xb0 ∷ 0x09 ∷ 0x10 ∷ 0xb0 ∷ 0x00 ∷ 0xc0 ∷ [])
    -- CINDEX copies the first element.
    ∷ accepted (0xb1 ∷ 0x05 ∷ 0x01 ∷ 0x25 ∷ [])
    -- CINDEX refuses index zero.
    ∷ refused_at 3 reason.Count (0xb1 ∷ 0x05 ∷ 0x00 ∷ 0x25 ∷ [])
    -- CINDEX refuses an index above the depth.
    ∷ refused_at 3 reason.Underflow (0xb1 ∷ 0x05 ∷ 0x02 ∷ 0x25 ∷ [])
    -- A delta has a count and pairs.
    ∷ accepted (0xb2 ∷ 0x10 ∷ 0x00 ∷ 0x01 ∷ 0x5d ∷ [])
    -- A delta refuses a negative count.
    ∷ refused_at 3 reason.Count (0xb8 ∷ 0xff ∷ 0xff ∷ 0x5d ∷ [])
    ∷ [])
unfolding answer
cases_of_operands = refl

-- The stack's two ends.
cases_of_the_stacks_ends : all_hold (
    -- POP needs an element.
    refused_at 0 reason.Underflow (0x21 ∷ [])
    -- The third pop needs a third element.
    ∷ refused_at 5 reason.Underflow (0xb1 ∷ 0x00 ∷ 0x00 ∷ 0x21 ∷ 0x21 ∷ 0x21 ∷ [])
    -- A push may not pass the stack limit.
    ∷ answers_by (record usual_limits { stack = 2 }) (0xb2 ∷ 0x01 ∷ 0x02 ∷ 0x03 ∷ []) (Refused InGlyph InGlyph 0 reason.Overflow)
    -- A push may reach the stack limit.
    ∷ answers_by (record usual_limits { stack = 3 }) (0xb2 ∷ 0x01 ∷ 0x02 ∷ 0x03 ∷ []) Accepted
    -- DUP may not pass the stack limit.
    ∷ answers_by (record usual_limits { stack = 2 }) (0xb1 ∷ 0x00 ∷ 0x00 ∷ 0x20 ∷ []) (Refused InGlyph InGlyph 3 reason.Overflow)
    -- SWAP may stand at the stack limit.
    ∷ answers_by (record usual_limits { stack = 2 }) (0xb1 ∷ 0x00 ∷ 0x00 ∷ 0x23 ∷ []) Accepted
    -- An instruction that pops first may stand at the stack limit.
    ∷ answers_by (record usual_limits { stack = 2 }) (0xb1 ∷ 0x00 ∷ 0x00 ∷ 0x60 ∷ 0x20 ∷ []) Accepted
    ∷ [])
unfolding answer
cases_of_the_stacks_ends = refl

-- Zones and the loop number.
cases_of_zones_and_the_loop_number : all_hold (
    -- The twilight zone needs two zones.
    answers_by (record usual_limits { zones = 1 }) (0xb0 ∷ 0x00 ∷ 0x13 ∷ []) (Refused InGlyph InGlyph 2 reason.Zone)
    -- The glyph zone needs one zone.
    ∷ answers_by (record usual_limits { zones = 1 }) (0xb0 ∷ 0x01 ∷ 0x13 ∷ []) Accepted
    -- Two zones have a twilight zone.
    ∷ answers_by (record usual_limits { zones = 2 }) (0xb0 ∷ 0x00 ∷ 0x13 ∷ []) Accepted
    -- There is no third zone.
    ∷ answers_by (record usual_limits { zones = 3 }) (0xb0 ∷ 0x02 ∷ 0x13 ∷ []) (Refused InGlyph InGlyph 2 reason.Zone)
    -- A negative number is no zone.
    ∷ refused_at 3 reason.Zone (0xb8 ∷ 0xff ∷ 0xff ∷ 0x13 ∷ [])
    -- The last twilight point is in the twilight zone.
    ∷ accepted (0xb0 ∷ 0x00 ∷ 0x16 ∷ 0xb0 ∷ 0x03 ∷ 0x2e ∷ [])
    -- No twilight point is after the last.
    ∷ refused_at 5 reason.Point (0xb0 ∷ 0x00 ∷ 0x16 ∷ 0xb0 ∷ 0x04 ∷ 0x2e ∷ [])
    -- SHZ needs two zones for the twilight zone.
    ∷ answers_by (record usual_limits { zones = 1 }) (0xb0 ∷ 0x00 ∷ 0x37 ∷ []) (Refused InGlyph InGlyph 2 reason.Zone)
    -- SZP0, SZP1 and SZP2 leave the other zone pointers.
    ∷ accepted (0xb0 ∷ 0x00 ∷ 0x13 ∷ 0xb0 ∷ 0x07 ∷ 0x46 ∷ 0x21 ∷ [])
    ∷ accepted (0xb0 ∷ 0x00 ∷ 0x14 ∷ 0xb0 ∷ 0x07 ∷ 0x2e ∷ [])
    ∷ accepted (0xb0 ∷ 0x00 ∷ 0x15 ∷ 0xb0 ∷ 0x07 ∷ 0x2e ∷ [])
    -- The loop number says how many points are shifted.
    ∷ accepted (0xb3 ∷ 0x00 ∷ 0x01 ∷ 0x02 ∷ 0x03 ∷ 0x17 ∷ 0x33 ∷ [])
    -- There are too few points for the loop number.
    ∷ refused_at 4 reason.Underflow (0xb1 ∷ 0x00 ∷ 0x02 ∷ 0x17 ∷ 0x33 ∷ [])
    -- The loop number is 1 after a shift.
    ∷ accepted (0xb3 ∷ 0x00 ∷ 0x01 ∷ 0x02 ∷ 0x02 ∷ 0x17 ∷ 0x33 ∷ 0x33 ∷ [])
    -- The loop number is 2 at the first shift alone.
    ∷ refused_at 6 reason.Underflow (0xb2 ∷ 0x00 ∷ 0x01 ∷ 0x02 ∷ 0x17 ∷ 0x33 ∷ 0x33 ∷ [])
    -- SLOOP takes a negative number.
    ∷ accepted (0xb8 ∷ 0xff ∷ 0xff ∷ 0x17 ∷ [])
    -- A negative loop number is refused where it is used.
    ∷ refused_at 4 reason.Count (0xb8 ∷ 0xff ∷ 0xff ∷ 0x17 ∷ 0x33 ∷ [])
    -- The loop number is measured.
    ∷ answers_to_any (0x4b ∷ 0x17 ∷ 0xb0 ∷ 0x00 ∷ 0x33 ∷ []) Accepted (Refused InGlyph InGlyph 4 reason.Underflow)
    (Refused InGlyph InGlyph 4 reason.Count) (Refused InGlyph InGlyph 4 reason.Underflow)
    -- A point of both zones is in range on both ways.
    ∷ accepted_whatever_is_measured (0x4b ∷ 0x58 ∷ 0xb0 ∷ 0x00 ∷ 0x13 ∷ 0x59 ∷ 0xb0 ∷ 0x03 ∷ 0x2e ∷ [])
    -- A point of the glyph zone alone is in range on one way.
    ∷ answers_to_any (0x4b ∷ 0x58 ∷ 0xb0 ∷ 0x00 ∷ 0x13 ∷ 0x59 ∷ 0xb0 ∷ 0x04 ∷ 0x2e ∷ []) Accepted (Refused InGlyph InGlyph 8 reason.Point)
    (Refused InGlyph InGlyph 8 reason.Point) (Refused InGlyph InGlyph 8 reason.Point)
    -- A zone is measured.
    ∷ answers_to_any (0x4b ∷ 0x13 ∷ []) Accepted (Refused InGlyph InGlyph 1 reason.Zone) (Refused InGlyph InGlyph 1 reason.Zone)
    (Refused InGlyph InGlyph 1 reason.Zone)
    -- The loop number zero takes no point.
    ∷ accepted (0xb0 ∷ 0x00 ∷ 0x17 ∷ 0x33 ∷ [])
    ∷ [])
unfolding answer
cases_of_zones_and_the_loop_number = refl

-- A program reads again what it stores.
cases_of_storage : all_hold (
    -- A stored point is read again.
    accepted (0xb1 ∷ 0x01 ∷ 0x00 ∷ 0x42 ∷ 0xb0 ∷ 0x01 ∷ 0x43 ∷ 0x2e ∷ [])
    -- A stored number may be no point.
    ∷ refused_at 7 reason.Point (0xb1 ∷ 0x01 ∷ 0x08 ∷ 0x42 ∷ 0xb0 ∷ 0x01 ∷ 0x43 ∷ 0x2e ∷ [])
    -- A cell stored on both ways is read again.
    ∷ accepted_whatever_is_measured
    (0x4b ∷ 0x58 ∷ 0xb1 ∷ 0x01 ∷ 0x02 ∷ 0x42 ∷ 0x1b ∷ 0xb1 ∷ 0x01 ∷ 0x02 ∷ 0x42 ∷ 0x59 ∷ 0xb0 ∷ 0x01 ∷ 0x43 ∷ 0x2e ∷ [])
    -- A cell stored otherwise on the other way is read again.
    ∷ accepted_whatever_is_measured
    (0x4b ∷ 0x58 ∷ 0xb1 ∷ 0x01 ∷ 0x02 ∷ 0x42 ∷ 0x1b ∷ 0xb1 ∷ 0x01 ∷ 0x03 ∷ 0x42 ∷ 0x59 ∷ 0xb0 ∷ 0x01 ∷ 0x43 ∷ 0x2e ∷ [])
    -- A cell that was not stored may hold no point.
    ∷ refused_at 3 reason.Point (0xb0 ∷ 0x01 ∷ 0x43 ∷ 0x2e ∷ [])
    -- A measured number is stored.
    ∷ answers_to_any (0xb0 ∷ 0x01 ∷ 0x4b ∷ 0x42 ∷ 0xb0 ∷ 0x01 ∷ 0x43 ∷ 0x2e ∷ []) Accepted Accepted (Refused InGlyph InGlyph 7 reason.Point)
    (Refused InGlyph InGlyph 7 reason.Point)
    ∷ [])
unfolding answer
cases_of_storage = refl

-- Codes that are refused where they are reached.
cases_of_refused_codes : all_hold (
    -- A code without an entry.
    refused_at 0 reason.Opcode (0x28 ∷ [])
    -- A code without an entry that is not reached.
    ∷ accepted (0xb0 ∷ 0x00 ∷ 0x58 ∷ 0x28 ∷ 0x59 ∷ [])
    -- An instruction definition.
    ∷ refused_at 0 reason.InstructionDefinition (0x89 ∷ 0x2d ∷ [])
    -- A definition in a glyph program.
    ∷ refused_at 2 reason.Definition (0xb0 ∷ 0x00 ∷ 0x2c ∷ 0x2d ∷ [])
    -- A definition in a glyph program is refused before its number.
    ∷ refused_at 0 reason.Definition (0x2c ∷ 0x2d ∷ [])
    -- An undefined function.
    ∷ refused_at 2 reason.Function (0xb0 ∷ 0x01 ∷ 0x2b ∷ [])
    -- A function number after the last.
    ∷ refused_at 2 reason.Function (0xb0 ∷ 0x02 ∷ 0x2b ∷ [])
    -- A negative function number.
    ∷ refused_at 3 reason.Function (0xb8 ∷ 0xff ∷ 0xff ∷ 0x2b ∷ [])
    -- A call needs a number.
    ∷ refused_at 0 reason.Underflow (0x2b ∷ [])
    -- A LOOPCALL needs a number.
    ∷ refused_at 0 reason.Underflow (0x2a ∷ [])
    -- A LOOPCALL tests its function before it takes the count.
    ∷ refused_at 2 reason.Function (0xb0 ∷ 0x02 ∷ 0x2a ∷ [])
    -- A LOOPCALL of an undefined function is refused whatever the count.
    ∷ refused_at 3 reason.Function (0xb1 ∷ 0x00 ∷ 0x01 ∷ 0x2a ∷ [])
    ∷ [])
unfolding answer
cases_of_refused_codes = refl

-- IF, ELSE and EIF.
cases_of_if : all_hold (
    -- IF goes on where the number is true.
    accepted (0xb1 ∷ 0x05 ∷ 0x01 ∷ 0x58 ∷ 0x21 ∷ 0x1b ∷ 0x28 ∷ 0x59 ∷ [])
    -- IF goes past ELSE where the number is zero.
    ∷ accepted (0xb1 ∷ 0x05 ∷ 0x00 ∷ 0x58 ∷ 0x28 ∷ 0x1b ∷ 0x21 ∷ 0x59 ∷ [])
    -- IF goes past EIF without an ELSE.
    ∷ accepted (0xb1 ∷ 0x05 ∷ 0x00 ∷ 0x58 ∷ 0x28 ∷ 0x59 ∷ 0x21 ∷ [])
    -- IF takes a negative number as true.
    ∷ accepted (0xb8 ∷ 0xff ∷ 0xff ∷ 0x58 ∷ 0x1b ∷ 0x28 ∷ 0x59 ∷ [])
    -- IF needs a number.
    ∷ refused_at 0 reason.Underflow (0x58 ∷ 0x59 ∷ [])
    -- IF takes its number where it goes on.
    ∷ refused_at 4 reason.Underflow (0xb0 ∷ 0x01 ∷ 0x58 ∷ 0x59 ∷ 0x21 ∷ [])
    -- IF takes its number where it leads elsewhere.
    ∷ refused_at 4 reason.Underflow (0xb0 ∷ 0x00 ∷ 0x58 ∷ 0x59 ∷ 0x21 ∷ [])
    -- ELSE takes nothing.
    ∷ accepted (0xb1 ∷ 0x05 ∷ 0x01 ∷ 0x58 ∷ 0x1b ∷ 0x59 ∷ 0x21 ∷ [])
    -- ELSE leads past its EIF.
    ∷ accepted (0xb0 ∷ 0x01 ∷ 0x58 ∷ 0x18 ∷ 0x1b ∷ 0x28 ∷ 0x59 ∷ 0x18 ∷ [])
    -- An inner ELSE isn't the outer IF's.
    ∷ accepted (0xb1 ∷ 0x05 ∷ 0x00 ∷ 0x58 ∷ 0xb0 ∷ 0x00 ∷ 0x58 ∷ 0x28 ∷ 0x1b ∷ 0x28 ∷ 0x59 ∷ 0x28 ∷ 0x1b ∷ 0x21 ∷ 0x59 ∷ [])
    -- The inner IF ends at its own EIF.
    ∷ refused_at 9 reason.Opcode (0xb0 ∷ 0x01 ∷ 0x58 ∷ 0xb0 ∷ 0x00 ∷ 0x58 ∷ 0x28 ∷ 0x59 ∷ 0x18 ∷ 0x28 ∷ 0x59 ∷ [])
    -- Pushed data are no ELSE.
    ∷ accepted (0xb0 ∷ 0x00 ∷ 0x58 ∷ 0x40 ∷ 0x01 ∷ 0x1b ∷ 0x1b ∷ 0x59 ∷ [])
    -- Two ways with one depth.
    ∷ accepted_whatever_is_measured (0x4b ∷ 0x58 ∷ 0xb0 ∷ 0x01 ∷ 0x1b ∷ 0xb0 ∷ 0x02 ∷ 0x59 ∷ 0x21 ∷ [])
    -- Both ways push a point.
    ∷ accepted_whatever_is_measured (0x4b ∷ 0x58 ∷ 0xb0 ∷ 0x01 ∷ 0x1b ∷ 0xb0 ∷ 0x02 ∷ 0x59 ∷ 0x2e ∷ [])
    -- Two ways with two depths.
    ∷ answers_to_any (0x4b ∷ 0x58 ∷ 0xb0 ∷ 0x01 ∷ 0x59 ∷ 0x21 ∷ []) (Refused InGlyph InGlyph 5 reason.Underflow) Accepted Accepted Accepted
    -- The way that pushes.
    ∷ accepted (0xb0 ∷ 0x01 ∷ 0x58 ∷ 0xb0 ∷ 0x01 ∷ 0x59 ∷ 0x21 ∷ [])
    -- The way that pushes nothing.
    ∷ refused_at 6 reason.Underflow (0xb0 ∷ 0x00 ∷ 0x58 ∷ 0xb0 ∷ 0x01 ∷ 0x59 ∷ 0x21 ∷ [])
    ∷ [])
unfolding answer
cases_of_if = refl

-- Jumps.
cases_of_jumps : all_hold (
    -- A jump back to the first instruction.
    endless (0xb8 ∷ 0xff ∷ 0xfd ∷ 0x1c ∷ [])
    -- A jump back to an addition.
    ∷ endless (0xb0 ∷ 0x01 ∷ 0xb0 ∷ 0x01 ∷ 0x60 ∷ 0xb8 ∷ 0xff ∷ 0xfa ∷ 0x1c ∷ [])
    -- A jump by zero needs an offset each time.
    ∷ refused_at 2 reason.Underflow (0xb0 ∷ 0x00 ∷ 0x1c ∷ [])
    -- A jump counts from its own position.
    ∷ accepted (0xb0 ∷ 0x02 ∷ 0x1c ∷ 0x28 ∷ 0x18 ∷ [])
    -- A jump to the end.
    ∷ accepted (0xb0 ∷ 0x02 ∷ 0x1c ∷ 0x21 ∷ [])
    -- A jump past the end.
    ∷ refused_at 2 reason.Target (0xb0 ∷ 0x03 ∷ 0x1c ∷ 0x21 ∷ [])
    -- A jump before the first instruction.
    ∷ refused_at 3 reason.Target (0xb8 ∷ 0xff ∷ 0xfc ∷ 0x1c ∷ [])
    -- A jump into pushed data.
    ∷ refused_at 3 reason.Target (0xb8 ∷ 0xff ∷ 0xfe ∷ 0x1c ∷ [])
    -- A jump into pushed data ahead.
    ∷ refused_at 2 reason.Target (0xb0 ∷ 0x02 ∷ 0x1c ∷ 0xb0 ∷ 0x18 ∷ [])
    -- A jump into an IF.
    ∷ accepted (0xb0 ∷ 0x05 ∷ 0x1c ∷ 0xb0 ∷ 0x00 ∷ 0x58 ∷ 0x18 ∷ 0x59 ∷ [])
    -- A jump over an ELSE.
    ∷ accepted (0xb0 ∷ 0x01 ∷ 0x58 ∷ 0xb0 ∷ 0x03 ∷ 0x1c ∷ 0x1b ∷ 0x28 ∷ 0x59 ∷ [])
    -- A jump past an ELSE.
    ∷ accepted (0xb0 ∷ 0x02 ∷ 0x1c ∷ 0x58 ∷ 0x1b ∷ 0x18 ∷ 0x59 ∷ [])
    -- A jump past an ELSE runs it.
    ∷ refused_at 5 reason.Opcode (0xb0 ∷ 0x03 ∷ 0x1c ∷ 0x58 ∷ 0x1b ∷ 0x28 ∷ 0x59 ∷ [])
    -- A jump needs an offset.
    ∷ refused_at 0 reason.Underflow (0x1c ∷ [])
    -- A jump takes its offset.
    ∷ refused_at 3 reason.Underflow (0xb0 ∷ 0x01 ∷ 0x1c ∷ 0x21 ∷ [])
    -- A jump leaves the stack below its offset.
    ∷ accepted (0xb1 ∷ 0x05 ∷ 0x01 ∷ 0x1c ∷ 0x21 ∷ [])
    ∷ [])
unfolding answer
cases_of_jumps = refl

-- Jumps where a number is true, and where it is zero; then by numbers that are measured.
cases_of_conditional_jumps : all_hold (
    -- JROT takes two numbers where it jumps and where it goes on.
    refused_at 4 reason.Underflow (0xb1 ∷ 0x01 ∷ 0x01 ∷ 0x78 ∷ 0x21 ∷ [])
    ∷ refused_at 4 reason.Underflow (0xb1 ∷ 0x01 ∷ 0x00 ∷ 0x78 ∷ 0x21 ∷ [])
    -- So does JROF.
    ∷ refused_at 4 reason.Underflow (0xb1 ∷ 0x01 ∷ 0x00 ∷ 0x79 ∷ 0x21 ∷ [])
    ∷ refused_at 4 reason.Underflow (0xb1 ∷ 0x01 ∷ 0x01 ∷ 0x79 ∷ 0x21 ∷ [])
    -- Jumps leave the stack below their two numbers.
    ∷ accepted (0xb5 ∷ 0x05 ∷ 0x06 ∷ 0x01 ∷ 0x01 ∷ 0x01 ∷ 0x00 ∷ 0x78 ∷ 0x79 ∷ 0x21 ∷ 0x21 ∷ [])
    -- JROT jumps where the number is true.
    ∷ accepted (0xb1 ∷ 0x02 ∷ 0x01 ∷ 0x78 ∷ 0x28 ∷ [])
    -- JROT goes on where the number is zero.
    ∷ refused_at 4 reason.Opcode (0xb1 ∷ 0x02 ∷ 0x00 ∷ 0x78 ∷ 0x28 ∷ [])
    -- JROF jumps where the number is zero.
    ∷ accepted (0xb1 ∷ 0x02 ∷ 0x00 ∷ 0x79 ∷ 0x28 ∷ [])
    -- JROF goes on where the number is true.
    ∷ refused_at 4 reason.Opcode (0xb1 ∷ 0x02 ∷ 0x01 ∷ 0x79 ∷ 0x28 ∷ [])
    -- JROT and JROF take a negative number as true.
    ∷ accepted (0xb9 ∷ 0x00 ∷ 0x02 ∷ 0xff ∷ 0xff ∷ 0x78 ∷ 0x28 ∷ [])
    ∷ refused_at 6 reason.Opcode (0xb9 ∷ 0x00 ∷ 0x02 ∷ 0xff ∷ 0xff ∷ 0x79 ∷ 0x28 ∷ [])
    -- JROT and JROF don't look at the offset where they go on.
    ∷ accepted (0xb1 ∷ 0x63 ∷ 0x00 ∷ 0x78 ∷ [])
    ∷ accepted (0xb1 ∷ 0x63 ∷ 0x01 ∷ 0x79 ∷ [])
    -- JROT and JROF refuse a wrong target.
    ∷ refused_at 3 reason.Target (0xb1 ∷ 0x63 ∷ 0x01 ∷ 0x78 ∷ [])
    ∷ refused_at 3 reason.Target (0xb1 ∷ 0x63 ∷ 0x00 ∷ 0x79 ∷ [])
    -- JROT needs a condition.
    ∷ refused_at 0 reason.Underflow (0x78 ∷ [])
    -- JROT and JROF need an offset also where they go on.
    ∷ refused_at 2 reason.Underflow (0xb0 ∷ 0x00 ∷ 0x78 ∷ [])
    ∷ refused_at 2 reason.Underflow (0xb0 ∷ 0x01 ∷ 0x79 ∷ [])
    -- JROT jumps to the end.
    ∷ accepted (0xb1 ∷ 0x01 ∷ 0x01 ∷ 0x78 ∷ [])
    -- A measured number decides a jump.
    ∷ answers_to_any (0xb0 ∷ 0x02 ∷ 0x4b ∷ 0x78 ∷ 0x28 ∷ []) (Refused InGlyph InGlyph 4 reason.Opcode) Accepted Accepted Accepted
    -- A measured number decides the other jump.
    ∷ answers_to_any (0xb0 ∷ 0x02 ∷ 0x4b ∷ 0x79 ∷ 0x28 ∷ []) Accepted (Refused InGlyph InGlyph 4 reason.Opcode)
    (Refused InGlyph InGlyph 4 reason.Opcode) (Refused InGlyph InGlyph 4 reason.Opcode)
    -- An offset is measured.
    ∷ answers_to_any (0x4b ∷ 0x1c ∷ 0x28 ∷ 0x28 ∷ 0x28 ∷ 0x28 ∷ 0x28 ∷ 0x28 ∷ []) (Refused InGlyph InGlyph 1 reason.Underflow) Accepted
    (Refused InGlyph InGlyph 1 reason.Target) (Refused InGlyph InGlyph 1 reason.Target)
    ∷ [])
unfolding answer
cases_of_conditional_jumps = refl

-- Comparisons with the ends of the numbers' range.
cases_of_ends_of_the_range : all_hold (
    -- No number is below the lowest.
    accepted_whatever_is_measured (0x4b ∷ 0xb8 ∷ 0x80 ∷ 0x00 ∷ 0x20 ∷ 0x60 ∷ 0x20 ∷ 0x60 ∷ 0x20 ∷ 0x60 ∷ 0x20 ∷ 0x60 ∷ 0x20 ∷ 0x60 ∷ 0x20
    ∷ 0x60 ∷ 0x20 ∷ 0x60 ∷ 0x20 ∷ 0x60 ∷ 0x20 ∷ 0x60 ∷ 0x20 ∷ 0x60 ∷ 0x20 ∷ 0x60 ∷ 0x20 ∷ 0x60 ∷ 0x20 ∷ 0x60 ∷ 0x20 ∷ 0x60 ∷ 0x20 ∷ 0x60
    ∷ 0x20 ∷ 0x60 ∷ 0x50 ∷ 0x58 ∷ 0x21 ∷ 0x59 ∷ [])
    -- Only the lowest is at most the lowest.
    ∷ answers_to_any (0x4b ∷ 0xb8 ∷ 0x80 ∷ 0x00 ∷ 0x20 ∷ 0x60 ∷ 0x20 ∷ 0x60 ∷ 0x20 ∷ 0x60 ∷ 0x20 ∷ 0x60 ∷ 0x20 ∷ 0x60 ∷ 0x20 ∷ 0x60 ∷ 0x20
    ∷ 0x60 ∷ 0x20 ∷ 0x60 ∷ 0x20 ∷ 0x60 ∷ 0x20 ∷ 0x60 ∷ 0x20 ∷ 0x60 ∷ 0x20 ∷ 0x60 ∷ 0x20 ∷ 0x60 ∷ 0x20 ∷ 0x60 ∷ 0x20 ∷ 0x60 ∷ 0x20 ∷ 0x60
    ∷ 0x51 ∷ 0x58 ∷ 0x21 ∷ 0x59 ∷ []) Accepted Accepted (Refused InGlyph InGlyph 38 reason.Underflow) Accepted
    -- The highest is below no number.
    ∷ accepted_whatever_is_measured (0xb8 ∷ 0x80 ∷ 0x00 ∷ 0x20 ∷ 0x60 ∷ 0x20 ∷ 0x60 ∷ 0x20 ∷ 0x60 ∷ 0x20 ∷ 0x60 ∷ 0x20 ∷ 0x60 ∷ 0x20 ∷ 0x60
    ∷ 0x20 ∷ 0x60 ∷ 0x20 ∷ 0x60 ∷ 0x20 ∷ 0x60 ∷ 0x20 ∷ 0x60 ∷ 0x20 ∷ 0x60 ∷ 0x20 ∷ 0x60 ∷ 0x20 ∷ 0x60 ∷ 0x20 ∷ 0x60 ∷ 0x20 ∷ 0x60 ∷ 0x20
    ∷ 0x60 ∷ 0xb0 ∷ 0x01 ∷ 0x60 ∷ 0x65 ∷ 0x4b ∷ 0x50 ∷ 0x58 ∷ 0x21 ∷ 0x59 ∷ [])
    -- The highest is at least any number.
    ∷ answers_to_any (0xb8 ∷ 0x80 ∷ 0x00 ∷ 0x20 ∷ 0x60 ∷ 0x20 ∷ 0x60 ∷ 0x20 ∷ 0x60 ∷ 0x20 ∷ 0x60 ∷ 0x20 ∷ 0x60 ∷ 0x20 ∷ 0x60 ∷ 0x20 ∷ 0x60
    ∷ 0x20 ∷ 0x60 ∷ 0x20 ∷ 0x60 ∷ 0x20 ∷ 0x60 ∷ 0x20 ∷ 0x60 ∷ 0x20 ∷ 0x60 ∷ 0x20 ∷ 0x60 ∷ 0x20 ∷ 0x60 ∷ 0x20 ∷ 0x60 ∷ 0x20 ∷ 0x60 ∷ 0xb0
    ∷ 0x01 ∷ 0x60 ∷ 0x65 ∷ 0x4b ∷ 0x53 ∷ 0x58 ∷ 0x21 ∷ 0x59 ∷ []) (Refused InGlyph InGlyph 42 reason.Underflow)
    (Refused InGlyph InGlyph 42 reason.Underflow) (Refused InGlyph InGlyph 42 reason.Underflow)
    (Refused InGlyph InGlyph 42 reason.Underflow)
    -- AND with zero is zero.
    ∷ accepted_whatever_is_measured (0x4b ∷ 0xb0 ∷ 0x00 ∷ 0x5a ∷ 0x58 ∷ 0x21 ∷ 0x59 ∷ [])
    -- OR with a true number is one.
    ∷ accepted_whatever_is_measured (0x4b ∷ 0xb0 ∷ 0x05 ∷ 0x5b ∷ 0x58 ∷ 0x1b ∷ 0x28 ∷ 0x59 ∷ [])
    -- OR with zero is the other.
    ∷ answers_to_any (0x4b ∷ 0xb0 ∷ 0x00 ∷ 0x5b ∷ 0x58 ∷ 0x21 ∷ 0x59 ∷ []) Accepted (Refused InGlyph InGlyph 5 reason.Underflow)
    (Refused InGlyph InGlyph 5 reason.Underflow) (Refused InGlyph InGlyph 5 reason.Underflow)
    ∷ [])
unfolding answer
cases_of_ends_of_the_range = refl
