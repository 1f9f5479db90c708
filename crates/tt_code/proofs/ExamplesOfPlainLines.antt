-- What each line of the instruction table says, seen on one instruction by itself. Stacks have their top first.
use Rattle.std.proofs.Common.{[], ◌∷◌, refl}
use Rattle.std.specs.Prelude.{pos, negsuc}
use Rattle.tt_code.specs.Entries.{codes_from}
use Rattle.tt_code.specs.Settings.{Zero, One}
use Rattle.tt_code.specs.declared.reason.Reason.TheVariants as reason
use Rattle.tt_code.proofs.Running.{performed, usual_limits, zones, goes_on_with}
use Rattle.tt_code.proofs.ExamplesAsCases.{all_hold, does, leaves, leaves_by, takes, faults, faults_by}

-- Instructions that take nothing, and those that take any numbers.
cases_of_settings : all_hold (
    -- Settings of vectors and rounding change nothing.
    takes (0x00 ∷ 0x01 ∷ 0x02 ∷ 0x03 ∷ 0x04 ∷ 0x05 ∷ 0x0e ∷ 0x18 ∷ 0x19 ∷ 0x30 ∷ 0x31 ∷ 0x3d ∷ 0x4d ∷ 0x4e ∷ 0x59 ∷ 0x7a ∷ 0x7c ∷ 0x7d ∷ [])
    (zones One One One) (pos 5 ∷ []) (pos 5 ∷ [])
    -- Settings of vectors and rounding need no element.
    ∷ takes
    (0x00 ∷ 0x01 ∷ 0x02 ∷ 0x03 ∷ 0x04 ∷ 0x05 ∷ 0x0e ∷ 0x18 ∷ 0x19 ∷ 0x30 ∷ 0x31 ∷ 0x3d ∷ 0x4d ∷ 0x4e ∷ 0x59 ∷ 0x7a ∷ 0x7c ∷ 0x7d ∷ [])
    (zones Zero Zero Zero) [] []
    -- Vectors are two numbers pushed.
    ∷ takes (0x0c ∷ 0x0d ∷ []) (zones One One One) (pos 5 ∷ []) (pos 7 ∷ pos 7 ∷ pos 5 ∷ [])
    -- Vectors are two numbers on the stack.
    ∷ faults (0x0c ∷ 0x0d ∷ []) (zones One One One) ((pos 1 ∷ pos 2 ∷ pos 3 ∷ pos 4 ∷ pos 5 ∷ pos 6 ∷ pos 8 ∷ []) ∷ []) reason.Overflow
    -- Sizes are measured.
    ∷ takes (0x4b ∷ 0x4c ∷ []) (zones One One One) (pos 5 ∷ []) (pos 7 ∷ pos 5 ∷ [])
    -- Settings take any number.
    ∷ takes (0x1a ∷ 0x1d ∷ 0x1e ∷ 0x1f ∷ 0x4f ∷ 0x5e ∷ 0x5f ∷ 0x76 ∷ 0x77 ∷ 0x7e ∷ 0x7f ∷ 0x85 ∷ 0x8d ∷ []) (zones One One One)
    (negsuc 0 ∷ pos 6 ∷ []) (pos 6 ∷ [])
    -- Settings need a number.
    ∷ faults (0x1a ∷ 0x1d ∷ 0x1e ∷ 0x1f ∷ 0x4f ∷ 0x5e ∷ 0x5f ∷ 0x76 ∷ 0x77 ∷ 0x7e ∷ 0x7f ∷ 0x85 ∷ 0x8d ∷ []) (zones One One One) ([] ∷ [])
    reason.Underflow
    -- Vectors from the stack take two numbers.
    ∷ takes (0x0a ∷ 0x0b ∷ 0x8e ∷ []) (zones One One One) (negsuc 0 ∷ negsuc 1 ∷ pos 6 ∷ []) (pos 6 ∷ [])
    -- Vectors from the stack need two numbers.
    ∷ faults (0x0a ∷ 0x0b ∷ 0x8e ∷ []) (zones One One One) ([] ∷ (pos 6 ∷ []) ∷ []) reason.Underflow
    -- Roundings take a number and push any.
    ∷ takes (0x56 ∷ 0x57 ∷ 0x66 ∷ 0x67 ∷ 0x68 ∷ 0x69 ∷ 0x6a ∷ 0x6b ∷ 0x6c ∷ 0x6d ∷ 0x6e ∷ 0x6f ∷ 0x88 ∷ []) (zones One One One)
    (negsuc 0 ∷ pos 6 ∷ []) (pos 7 ∷ pos 6 ∷ [])
    -- Roundings need a number.
    ∷ faults (0x56 ∷ 0x57 ∷ 0x66 ∷ 0x67 ∷ 0x68 ∷ 0x69 ∷ 0x6a ∷ 0x6b ∷ 0x6c ∷ 0x6d ∷ 0x6e ∷ 0x6f ∷ 0x88 ∷ []) (zones One One One) ([] ∷ [])
    reason.Underflow
    -- Products and extremes take two numbers and push any.
    ∷ takes (0x62 ∷ 0x63 ∷ 0x8b ∷ 0x8c ∷ []) (zones One One One) (negsuc 0 ∷ negsuc 1 ∷ pos 6 ∷ []) (pos 7 ∷ pos 6 ∷ [])
    -- Products and extremes need two numbers.
    ∷ faults (0x62 ∷ 0x63 ∷ 0x8b ∷ 0x8c ∷ []) (zones One One One) ([] ∷ (pos 6 ∷ []) ∷ []) reason.Underflow
    ∷ [])
unfolding performed
cases_of_settings = refl

-- Two points, each in two zones.
cases_of_lines_alignpts_and_md : all_hold (
    -- Lines take two points of zp1 and zp2.
    takes (0x06 ∷ 0x07 ∷ 0x08 ∷ 0x09 ∷ 0x86 ∷ 0x87 ∷ []) (zones One Zero Zero) (pos 11 ∷ pos 10 ∷ pos 6 ∷ []) (pos 6 ∷ [])
    -- Lines test both points in zp1.
    ∷ faults (0x06 ∷ 0x07 ∷ 0x08 ∷ 0x09 ∷ 0x86 ∷ 0x87 ∷ []) (zones Zero One Zero)
    ((pos 8 ∷ pos 0 ∷ []) ∷ (pos 0 ∷ pos 8 ∷ []) ∷ (negsuc 0 ∷ pos 0 ∷ []) ∷ []) reason.Point
    -- Lines test both points in zp2.
    ∷ faults (0x06 ∷ 0x07 ∷ 0x08 ∷ 0x09 ∷ 0x86 ∷ 0x87 ∷ []) (zones Zero Zero One)
    ((pos 8 ∷ pos 0 ∷ []) ∷ (pos 0 ∷ pos 8 ∷ []) ∷ (pos 8 ∷ []) ∷ []) reason.Point
    -- Lines need two points.
    ∷ faults (0x06 ∷ 0x07 ∷ 0x08 ∷ 0x09 ∷ 0x86 ∷ 0x87 ∷ []) (zones One Zero Zero) ([] ∷ (pos 11 ∷ []) ∷ []) reason.Underflow
    -- ALIGNPTS takes two points of zp0 and zp1.
    ∷ takes (0x27 ∷ []) (zones Zero Zero One) (pos 11 ∷ pos 10 ∷ pos 6 ∷ []) (pos 6 ∷ [])
    -- ALIGNPTS tests both points in zp0.
    ∷ faults (0x27 ∷ []) (zones One Zero Zero) ((pos 8 ∷ pos 0 ∷ []) ∷ (pos 0 ∷ pos 8 ∷ []) ∷ []) reason.Point
    -- ALIGNPTS tests both points in zp1.
    ∷ faults (0x27 ∷ []) (zones Zero One Zero) ((pos 8 ∷ pos 0 ∷ []) ∷ (pos 0 ∷ pos 8 ∷ []) ∷ []) reason.Point
    -- ALIGNPTS needs two points.
    ∷ faults (0x27 ∷ []) (zones Zero Zero One) ([] ∷ (pos 11 ∷ []) ∷ []) reason.Underflow
    -- MD takes two points of zp0 and zp1.
    ∷ takes (0x49 ∷ 0x4a ∷ []) (zones Zero Zero One) (pos 11 ∷ pos 10 ∷ pos 6 ∷ []) (pos 7 ∷ pos 6 ∷ [])
    -- MD tests both points in zp0.
    ∷ faults (0x49 ∷ 0x4a ∷ []) (zones One Zero Zero) ((pos 8 ∷ pos 0 ∷ []) ∷ (pos 0 ∷ pos 8 ∷ []) ∷ []) reason.Point
    -- MD tests both points in zp1.
    ∷ faults (0x49 ∷ 0x4a ∷ []) (zones Zero One Zero) ((pos 8 ∷ pos 0 ∷ []) ∷ (pos 0 ∷ pos 8 ∷ []) ∷ []) reason.Point
    -- MD needs two points.
    ∷ faults (0x49 ∷ 0x4a ∷ []) (zones Zero Zero One) ([] ∷ (pos 11 ∷ []) ∷ []) reason.Underflow
    ∷ [])
unfolding performed
cases_of_lines_alignpts_and_md = refl

-- The five points of an intersection.
cases_of_isect : all_hold (
    -- ISECT takes two points of zp0 first.
    takes (0x0f ∷ []) (zones Zero One One) (pos 11 ∷ pos 10 ∷ pos 7 ∷ pos 6 ∷ pos 5 ∷ pos 4 ∷ []) (pos 4 ∷ [])
    -- ISECT takes two points of zp1 next.
    ∷ takes (0x0f ∷ []) (zones One Zero One) (pos 7 ∷ pos 6 ∷ pos 11 ∷ pos 10 ∷ pos 5 ∷ pos 4 ∷ []) (pos 4 ∷ [])
    -- ISECT takes a point of zp2 last.
    ∷ takes (0x0f ∷ []) (zones One One Zero) (pos 7 ∷ pos 6 ∷ pos 5 ∷ pos 4 ∷ pos 11 ∷ pos 3 ∷ []) (pos 3 ∷ [])
    -- ISECT tests two points in zp0.
    ∷ faults (0x0f ∷ []) (zones One Zero Zero)
    ((pos 8 ∷ pos 0 ∷ pos 0 ∷ pos 0 ∷ pos 0 ∷ []) ∷ (pos 0 ∷ pos 8 ∷ pos 0 ∷ pos 0 ∷ pos 0 ∷ []) ∷ []) reason.Point
    -- ISECT tests two points in zp1.
    ∷ faults (0x0f ∷ []) (zones Zero One Zero)
    ((pos 0 ∷ pos 0 ∷ pos 8 ∷ pos 0 ∷ pos 0 ∷ []) ∷ (pos 0 ∷ pos 0 ∷ pos 0 ∷ pos 8 ∷ pos 0 ∷ []) ∷ []) reason.Point
    -- ISECT tests a point in zp2.
    ∷ faults (0x0f ∷ []) (zones Zero Zero One) ((pos 0 ∷ pos 0 ∷ pos 0 ∷ pos 0 ∷ pos 8 ∷ []) ∷ []) reason.Point
    -- ISECT needs five points.
    ∷ faults (0x0f ∷ []) (zones Zero Zero Zero)
    ([] ∷ (pos 0 ∷ []) ∷ (pos 0 ∷ pos 0 ∷ []) ∷ (pos 0 ∷ pos 0 ∷ pos 0 ∷ []) ∷ (pos 0 ∷ pos 0 ∷ pos 0 ∷ pos 0 ∷ []) ∷ []) reason.Underflow
    ∷ [])
unfolding performed
cases_of_isect = refl

-- Reference points, zone pointers and the loop number.
cases_of_reference_points_and_zone_pointers : all_hold (
    -- SRP0, SRP1 and SRP2 set their reference points unchecked.
    leaves (0x10 ∷ []) (zones One One One) (negsuc 0 ∷ pos 6 ∷ []) (pos 6 ∷ []) (record (zones One One One) { rp0 = negsuc 0 })
    ∷ leaves (0x11 ∷ []) (zones One One One) (negsuc 0 ∷ pos 6 ∷ []) (pos 6 ∷ []) (record (zones One One One) { rp1 = negsuc 0 })
    ∷ leaves (0x12 ∷ []) (zones One One One) (negsuc 0 ∷ pos 6 ∷ []) (pos 6 ∷ []) (record (zones One One One) { rp2 = negsuc 0 })
    -- Reference points need a number.
    ∷ faults (0x10 ∷ 0x11 ∷ 0x12 ∷ []) (zones One One One) ([] ∷ []) reason.Underflow
    -- SZP0, SZP1, SZP2 and SZPS set their pointers: to the twilight zone by 0, to the glyph zone by 1.
    ∷ leaves (0x13 ∷ []) (zones One One One) (pos 0 ∷ pos 6 ∷ []) (pos 6 ∷ []) (record (zones One One One) { zp0 = Zero })
    ∷ leaves (0x13 ∷ []) (zones Zero Zero Zero) (pos 1 ∷ pos 6 ∷ []) (pos 6 ∷ []) (record (zones Zero Zero Zero) { zp0 = One })
    ∷ leaves (0x14 ∷ []) (zones One One One) (pos 0 ∷ pos 6 ∷ []) (pos 6 ∷ []) (record (zones One One One) { zp1 = Zero })
    ∷ leaves (0x14 ∷ []) (zones Zero Zero Zero) (pos 1 ∷ pos 6 ∷ []) (pos 6 ∷ []) (record (zones Zero Zero Zero) { zp1 = One })
    ∷ leaves (0x15 ∷ []) (zones One One One) (pos 0 ∷ pos 6 ∷ []) (pos 6 ∷ []) (record (zones One One One) { zp2 = Zero })
    ∷ leaves (0x15 ∷ []) (zones Zero Zero Zero) (pos 1 ∷ pos 6 ∷ []) (pos 6 ∷ []) (record (zones Zero Zero Zero) { zp2 = One })
    ∷ leaves (0x16 ∷ []) (zones One One One) (pos 0 ∷ pos 6 ∷ []) (pos 6 ∷ []) (zones Zero Zero Zero)
    ∷ leaves (0x16 ∷ []) (zones Zero Zero Zero) (pos 1 ∷ pos 6 ∷ []) (pos 6 ∷ []) (zones One One One)
    -- Zone pointers refuse other zones.
    ∷ faults (0x13 ∷ 0x14 ∷ 0x15 ∷ 0x16 ∷ []) (zones One One One) ((pos 2 ∷ []) ∷ (negsuc 0 ∷ []) ∷ []) reason.Zone
    -- Zone pointers need a zone.
    ∷ faults (0x13 ∷ 0x14 ∷ 0x15 ∷ 0x16 ∷ []) (zones One One One) ([] ∷ []) reason.Underflow
    -- SLOOP sets the loop number unchecked.
    ∷ leaves (0x17 ∷ []) (zones One One One) (negsuc 0 ∷ pos 6 ∷ []) (pos 6 ∷ []) (record (zones One One One) { loop_number = negsuc 0 })
    -- SLOOP needs a number.
    ∷ faults (0x17 ∷ []) (zones One One One) ([] ∷ []) reason.Underflow
    ∷ [])
unfolding performed
cases_of_reference_points_and_zone_pointers = refl

-- One point that is touched.
cases_of_utp_mdap_and_miap : all_hold (
    -- UTP takes a point of zp0.
    takes (0x29 ∷ []) (zones Zero One One) (pos 11 ∷ pos 6 ∷ []) (pos 6 ∷ [])
    -- UTP tests its point in zp0.
    ∷ faults (0x29 ∷ []) (zones One Zero Zero) ((pos 8 ∷ []) ∷ (negsuc 0 ∷ []) ∷ []) reason.Point
    -- UTP needs a point.
    ∷ faults (0x29 ∷ []) (zones One One One) ([] ∷ []) reason.Underflow
    -- MDAP sets two reference points.
    ∷ leaves (0x2e ∷ 0x2f ∷ []) (zones Zero One One) (pos 11 ∷ pos 6 ∷ []) (pos 6 ∷ [])
    (record (zones Zero One One) { rp0 = pos 11; rp1 = pos 11 })
    -- MDAP tests its point in zp0.
    ∷ faults (0x2e ∷ 0x2f ∷ []) (zones One Zero Zero) ((pos 8 ∷ []) ∷ (negsuc 0 ∷ []) ∷ []) reason.Point
    -- MDAP needs a point.
    ∷ faults (0x2e ∷ 0x2f ∷ []) (zones One One One) ([] ∷ []) reason.Underflow
    -- MIAP sets two reference points.
    ∷ leaves (0x3e ∷ 0x3f ∷ []) (zones Zero One One) (pos 9 ∷ pos 11 ∷ pos 6 ∷ []) (pos 6 ∷ [])
    (record (zones Zero One One) { rp0 = pos 11; rp1 = pos 11 })
    -- MIAP tests its control value first.
    ∷ faults (0x3e ∷ 0x3f ∷ []) (zones One Zero Zero) ((pos 10 ∷ pos 8 ∷ []) ∷ (pos 10 ∷ []) ∷ (negsuc 0 ∷ pos 8 ∷ []) ∷ []) reason.Cvt
    -- MIAP tests its point in zp0.
    ∷ faults (0x3e ∷ 0x3f ∷ []) (zones One Zero Zero) ((pos 9 ∷ pos 8 ∷ []) ∷ (pos 0 ∷ negsuc 0 ∷ []) ∷ []) reason.Point
    -- MIAP needs a control value and a point.
    ∷ faults (0x3e ∷ 0x3f ∷ []) (zones One One One) ([] ∷ (pos 9 ∷ []) ∷ []) reason.Underflow
    ∷ [])
unfolding performed
cases_of_utp_mdap_and_miap = refl

-- Points that are shifted by a reference point.
cases_of_shp : all_hold (
    -- SHP uses rp2 in zp1.
    leaves (0x32 ∷ []) (record (zones One One Zero) { rp2 = pos 7 }) (pos 11 ∷ pos 10 ∷ pos 6 ∷ []) (pos 6 ∷ [])
    (record (record (zones One One Zero) { rp2 = pos 7 }) { loop_number = pos 1 })
    -- SHP tests rp2 in zp1 after its points.
    ∷ faults (0x32 ∷ []) (record (zones Zero One Zero) { rp0 = pos 0; rp1 = pos 0; rp2 = pos 8 }) ((pos 11 ∷ pos 10 ∷ []) ∷ []) reason.Point
    -- SHP takes its points before it tests rp2.
    ∷ faults (0x32 ∷ []) (record (zones Zero One Zero) { rp0 = pos 0; rp1 = pos 0; rp2 = pos 8 }) ([] ∷ (pos 11 ∷ []) ∷ []) reason.Underflow
    -- SHP by rp2 tests its points in zp2.
    ∷ faults (0x32 ∷ []) (record (zones Zero Zero One) { rp2 = pos 0 })
    ((pos 8 ∷ pos 0 ∷ []) ∷ (pos 0 ∷ pos 8 ∷ []) ∷ (negsuc 0 ∷ pos 0 ∷ []) ∷ []) reason.Point
    -- SHP by rp2 refuses a negative loop number first.
    ∷ faults (0x32 ∷ []) (record (zones One One One) { loop_number = negsuc 0 }) ([] ∷ (pos 8 ∷ []) ∷ []) reason.Count
    -- SHP by rp2 takes no point for loop number zero.
    ∷ leaves (0x32 ∷ []) (record (zones One One One) { rp2 = pos 7; loop_number = pos 0 }) (pos 6 ∷ []) (pos 6 ∷ [])
    (record (record (zones One One One) { rp2 = pos 7; loop_number = pos 0 }) { loop_number = pos 1 })
    -- SHP tests rp2 for loop number zero too.
    ∷ faults (0x32 ∷ []) (record (zones One One One) { loop_number = pos 0 }) ([] ∷ (pos 6 ∷ []) ∷ []) reason.Point
    -- SHP uses rp1 in zp0.
    ∷ leaves (0x33 ∷ []) (record (zones One One Zero) { rp1 = pos 7 }) (pos 11 ∷ pos 10 ∷ pos 6 ∷ []) (pos 6 ∷ [])
    (record (record (zones One One Zero) { rp1 = pos 7 }) { loop_number = pos 1 })
    -- SHP tests rp1 in zp0 after its points.
    ∷ faults (0x33 ∷ []) (record (zones One Zero Zero) { rp0 = pos 0; rp1 = pos 8; rp2 = pos 0 }) ((pos 11 ∷ pos 10 ∷ []) ∷ []) reason.Point
    -- SHP takes its points before it tests rp1.
    ∷ faults (0x33 ∷ []) (record (zones One Zero Zero) { rp0 = pos 0; rp1 = pos 8; rp2 = pos 0 }) ([] ∷ (pos 11 ∷ []) ∷ []) reason.Underflow
    -- SHP by rp1 tests its points in zp2.
    ∷ faults (0x33 ∷ []) (record (zones Zero Zero One) { rp1 = pos 0 })
    ((pos 8 ∷ pos 0 ∷ []) ∷ (pos 0 ∷ pos 8 ∷ []) ∷ (negsuc 0 ∷ pos 0 ∷ []) ∷ []) reason.Point
    -- SHP by rp1 refuses a negative loop number first.
    ∷ faults (0x33 ∷ []) (record (zones One One One) { loop_number = negsuc 0 }) ([] ∷ (pos 8 ∷ []) ∷ []) reason.Count
    -- SHP by rp1 takes no point for loop number zero.
    ∷ leaves (0x33 ∷ []) (record (zones One One One) { rp1 = pos 7; loop_number = pos 0 }) (pos 6 ∷ []) (pos 6 ∷ [])
    (record (record (zones One One One) { rp1 = pos 7; loop_number = pos 0 }) { loop_number = pos 1 })
    -- SHP tests rp1 for loop number zero too.
    ∷ faults (0x33 ∷ []) (record (zones One One One) { loop_number = pos 0 }) ([] ∷ (pos 6 ∷ []) ∷ []) reason.Point
    ∷ [])
unfolding performed
cases_of_shp = refl

-- Contours that are shifted by a reference point.
cases_of_shc : all_hold (
    -- SHC by rp2 takes the last contour.
    takes (0x34 ∷ []) (record (zones One Zero One) { rp2 = pos 11 }) (pos 1 ∷ pos 6 ∷ []) (pos 6 ∷ [])
    -- SHC by rp2 takes the contour of the twilight zone.
    ∷ takes (0x34 ∷ []) (record (zones Zero One Zero) { rp2 = pos 7 }) (pos 0 ∷ pos 6 ∷ []) (pos 6 ∷ [])
    -- SHC by rp2 refuses a contour after the last.
    ∷ faults (0x34 ∷ []) (record (zones Zero Zero One) { rp2 = pos 0 }) ((pos 2 ∷ []) ∷ (negsuc 0 ∷ []) ∷ []) reason.Contour
    -- SHC by rp2 refuses a second contour of the twilight zone.
    ∷ faults (0x34 ∷ []) (record (zones One One Zero) { rp2 = pos 0 }) ((pos 1 ∷ []) ∷ []) reason.Contour
    -- SHC tests rp2 in zp1 after its contour.
    ∷ faults (0x34 ∷ []) (record (zones Zero One Zero) { rp0 = pos 0; rp1 = pos 0; rp2 = pos 8 }) ((pos 0 ∷ []) ∷ []) reason.Point
    -- SHC needs a contour before it tests rp2.
    ∷ faults (0x34 ∷ []) (record (zones Zero One Zero) { rp0 = pos 0; rp1 = pos 0; rp2 = pos 8 }) ([] ∷ []) reason.Underflow
    -- SHC by rp1 takes the last contour.
    ∷ takes (0x35 ∷ []) (record (zones Zero One One) { rp1 = pos 11 }) (pos 1 ∷ pos 6 ∷ []) (pos 6 ∷ [])
    -- SHC by rp1 takes the contour of the twilight zone.
    ∷ takes (0x35 ∷ []) (record (zones One Zero Zero) { rp1 = pos 7 }) (pos 0 ∷ pos 6 ∷ []) (pos 6 ∷ [])
    -- SHC by rp1 refuses a contour after the last.
    ∷ faults (0x35 ∷ []) (record (zones Zero Zero One) { rp1 = pos 0 }) ((pos 2 ∷ []) ∷ (negsuc 0 ∷ []) ∷ []) reason.Contour
    -- SHC by rp1 refuses a second contour of the twilight zone.
    ∷ faults (0x35 ∷ []) (record (zones One One Zero) { rp1 = pos 0 }) ((pos 1 ∷ []) ∷ []) reason.Contour
    -- SHC tests rp1 in zp0 after its contour.
    ∷ faults (0x35 ∷ []) (record (zones One Zero Zero) { rp0 = pos 0; rp1 = pos 8; rp2 = pos 0 }) ((pos 0 ∷ []) ∷ []) reason.Point
    -- SHC needs a contour before it tests rp1.
    ∷ faults (0x35 ∷ []) (record (zones One Zero Zero) { rp0 = pos 0; rp1 = pos 8; rp2 = pos 0 }) ([] ∷ []) reason.Underflow
    ∷ [])
unfolding performed
cases_of_shc = refl

-- Zones that are shifted by a reference point, and points that are shifted by a distance.
cases_of_shz_and_shpix : all_hold (
    -- SHZ by rp2 takes the glyph zone.
    takes (0x36 ∷ []) (record (zones One Zero One) { rp2 = pos 11 }) (pos 1 ∷ pos 6 ∷ []) (pos 6 ∷ [])
    -- SHZ by rp2 takes the twilight zone.
    ∷ takes (0x36 ∷ []) (record (zones Zero One Zero) { rp2 = pos 7 }) (pos 0 ∷ pos 6 ∷ []) (pos 6 ∷ [])
    -- SHZ by rp2 refuses other zones first.
    ∷ faults (0x36 ∷ []) (record (zones Zero One Zero) { rp0 = pos 0; rp1 = pos 0; rp2 = pos 8 }) ((pos 2 ∷ []) ∷ (negsuc 0 ∷ []) ∷ [])
    reason.Zone
    -- SHZ tests rp2 in zp1 after its zone.
    ∷ faults (0x36 ∷ []) (record (zones Zero One Zero) { rp0 = pos 0; rp1 = pos 0; rp2 = pos 8 }) ((pos 0 ∷ []) ∷ (pos 1 ∷ []) ∷ [])
    reason.Point
    -- SHZ needs a zone before it tests rp2.
    ∷ faults (0x36 ∷ []) (record (zones Zero One Zero) { rp0 = pos 0; rp1 = pos 0; rp2 = pos 8 }) ([] ∷ []) reason.Underflow
    -- SHZ by rp1 takes the glyph zone.
    ∷ takes (0x37 ∷ []) (record (zones Zero One One) { rp1 = pos 11 }) (pos 1 ∷ pos 6 ∷ []) (pos 6 ∷ [])
    -- SHZ by rp1 takes the twilight zone.
    ∷ takes (0x37 ∷ []) (record (zones One Zero Zero) { rp1 = pos 7 }) (pos 0 ∷ pos 6 ∷ []) (pos 6 ∷ [])
    -- SHZ by rp1 refuses other zones first.
    ∷ faults (0x37 ∷ []) (record (zones One Zero Zero) { rp0 = pos 0; rp1 = pos 8; rp2 = pos 0 }) ((pos 2 ∷ []) ∷ (negsuc 0 ∷ []) ∷ [])
    reason.Zone
    -- SHZ tests rp1 in zp0 after its zone.
    ∷ faults (0x37 ∷ []) (record (zones One Zero Zero) { rp0 = pos 0; rp1 = pos 8; rp2 = pos 0 }) ((pos 0 ∷ []) ∷ (pos 1 ∷ []) ∷ [])
    reason.Point
    -- SHZ needs a zone before it tests rp1.
    ∷ faults (0x37 ∷ []) (record (zones One Zero Zero) { rp0 = pos 0; rp1 = pos 8; rp2 = pos 0 }) ([] ∷ []) reason.Underflow
    -- SHPIX takes a distance and points of zp2.
    ∷ leaves (0x38 ∷ []) (zones One One Zero) (negsuc 0 ∷ pos 11 ∷ pos 10 ∷ pos 6 ∷ []) (pos 6 ∷ [])
    (record (zones One One Zero) { loop_number = pos 1 })
    -- SHPIX tests its points in zp2.
    ∷ faults (0x38 ∷ []) (zones Zero Zero One) ((pos 0 ∷ pos 8 ∷ pos 0 ∷ []) ∷ (pos 0 ∷ pos 0 ∷ pos 8 ∷ []) ∷ []) reason.Point
    -- SHPIX takes its distance before it tests the loop number.
    ∷ faults (0x38 ∷ []) (record (zones One One One) { loop_number = negsuc 0 }) ([] ∷ []) reason.Underflow
    -- SHPIX refuses a negative loop number.
    ∷ faults (0x38 ∷ []) (record (zones One One One) { loop_number = negsuc 0 }) ((pos 0 ∷ []) ∷ (pos 0 ∷ pos 8 ∷ []) ∷ []) reason.Count
    -- SHPIX needs a distance and points.
    ∷ faults (0x38 ∷ []) (zones Zero Zero Zero) ([] ∷ (pos 0 ∷ []) ∷ (pos 0 ∷ pos 0 ∷ []) ∷ []) reason.Underflow
    ∷ [])
unfolding performed
cases_of_shz_and_shpix = refl

-- Points that are moved between reference points, or by a distance from one.
cases_of_ip_and_msirp : all_hold (
    -- IP uses rp1 in zp0 and rp2 in zp1.
    leaves (0x39 ∷ []) (record (zones Zero One Zero) { rp1 = pos 11; rp2 = pos 7 }) (pos 11 ∷ pos 10 ∷ pos 6 ∷ []) (pos 6 ∷ [])
    (record (record (zones Zero One Zero) { rp1 = pos 11; rp2 = pos 7 }) { loop_number = pos 1 })
    -- IP uses two zones.
    ∷ leaves (0x39 ∷ []) (record (zones One Zero Zero) { rp1 = pos 7; rp2 = pos 11 }) (pos 11 ∷ pos 10 ∷ pos 6 ∷ []) (pos 6 ∷ [])
    (record (record (zones One Zero Zero) { rp1 = pos 7; rp2 = pos 11 }) { loop_number = pos 1 })
    -- IP tests rp1 in zp0.
    ∷ faults (0x39 ∷ []) (record (zones One Zero Zero) { rp0 = pos 0; rp1 = pos 8; rp2 = pos 0 }) ((pos 11 ∷ pos 10 ∷ []) ∷ []) reason.Point
    -- IP tests rp2 in zp1.
    ∷ faults (0x39 ∷ []) (record (zones Zero One Zero) { rp0 = pos 0; rp1 = pos 0; rp2 = pos 8 }) ((pos 11 ∷ pos 10 ∷ []) ∷ []) reason.Point
    -- IP tests its points in zp2.
    ∷ faults (0x39 ∷ []) (record (zones Zero Zero One) { rp1 = pos 0; rp2 = pos 0 }) ((pos 8 ∷ pos 0 ∷ []) ∷ (pos 0 ∷ pos 8 ∷ []) ∷ [])
    reason.Point
    -- IP takes its points before it tests reference points.
    ∷ faults (0x39 ∷ []) (zones One One One) ([] ∷ (pos 0 ∷ []) ∷ []) reason.Underflow
    -- IP refuses a negative loop number first.
    ∷ faults (0x39 ∷ []) (record (zones One One One) { loop_number = negsuc 0 }) ([] ∷ (pos 8 ∷ []) ∷ []) reason.Count
    -- MSIRP leaves rp0.
    ∷ leaves (0x3a ∷ []) (record (zones Zero One Zero) { rp0 = pos 11 }) (negsuc 0 ∷ pos 7 ∷ pos 6 ∷ []) (pos 6 ∷ [])
    (record (record (zones Zero One Zero) { rp0 = pos 11 }) { rp1 = pos 11; rp2 = pos 7 })
    -- MSIRP takes a point of zp1.
    ∷ leaves (0x3a ∷ []) (record (zones One Zero One) { rp0 = pos 7 }) (negsuc 0 ∷ pos 11 ∷ pos 6 ∷ []) (pos 6 ∷ [])
    (record (record (zones One Zero One) { rp0 = pos 7 }) { rp1 = pos 7; rp2 = pos 11 })
    -- MSIRP tests its point in zp1.
    ∷ faults (0x3a ∷ []) (record (zones Zero One Zero) { rp0 = pos 0 }) ((pos 0 ∷ pos 8 ∷ []) ∷ (pos 0 ∷ negsuc 0 ∷ []) ∷ []) reason.Point
    -- MSIRP tests the old rp0 in zp0.
    ∷ faults (0x3a ∷ []) (record (zones One Zero Zero) { rp0 = pos 8; rp1 = pos 0; rp2 = pos 0 }) ((pos 0 ∷ pos 0 ∷ []) ∷ []) reason.Point
    -- MSIRP needs a distance and a point.
    ∷ faults (0x3a ∷ []) (zones One One One) ([] ∷ (pos 0 ∷ []) ∷ []) reason.Underflow
    -- MSIRP with rp0 sets it to its point.
    ∷ leaves (0x3b ∷ []) (record (zones Zero One Zero) { rp0 = pos 11 }) (negsuc 0 ∷ pos 7 ∷ pos 6 ∷ []) (pos 6 ∷ [])
    (record (record (zones Zero One Zero) { rp0 = pos 11 }) { rp1 = pos 11; rp2 = pos 7; rp0 = pos 7 })
    -- MSIRP with rp0 takes a point of zp1.
    ∷ leaves (0x3b ∷ []) (record (zones One Zero One) { rp0 = pos 7 }) (negsuc 0 ∷ pos 11 ∷ pos 6 ∷ []) (pos 6 ∷ [])
    (record (record (zones One Zero One) { rp0 = pos 7 }) { rp1 = pos 7; rp2 = pos 11; rp0 = pos 11 })
    -- MSIRP with rp0 tests its point in zp1.
    ∷ faults (0x3b ∷ []) (record (zones Zero One Zero) { rp0 = pos 0 }) ((pos 0 ∷ pos 8 ∷ []) ∷ (pos 0 ∷ negsuc 0 ∷ []) ∷ []) reason.Point
    -- MSIRP with rp0 tests the old rp0 in zp0.
    ∷ faults (0x3b ∷ []) (record (zones One Zero Zero) { rp0 = pos 8; rp1 = pos 0; rp2 = pos 0 }) ((pos 0 ∷ pos 0 ∷ []) ∷ []) reason.Point
    -- MSIRP with rp0 needs a distance and a point.
    ∷ faults (0x3b ∷ []) (zones One One One) ([] ∷ (pos 0 ∷ []) ∷ []) reason.Underflow
    ∷ [])
unfolding performed
cases_of_ip_and_msirp = refl

-- Points that are aligned with a reference point, or keep their distance from it.
cases_of_alignrp_and_mdrp : all_hold (
    -- ALIGNRP uses rp0 in zp0.
    leaves (0x3c ∷ []) (record (zones One Zero One) { rp0 = pos 7 }) (pos 11 ∷ pos 10 ∷ pos 6 ∷ []) (pos 6 ∷ [])
    (record (record (zones One Zero One) { rp0 = pos 7 }) { loop_number = pos 1 })
    -- ALIGNRP tests its points in zp1.
    ∷ faults (0x3c ∷ []) (record (zones Zero One Zero) { rp0 = pos 0 }) ((pos 8 ∷ pos 0 ∷ []) ∷ (pos 0 ∷ pos 8 ∷ []) ∷ []) reason.Point
    -- ALIGNRP tests rp0 in zp0.
    ∷ faults (0x3c ∷ []) (record (zones One Zero Zero) { rp0 = pos 8; rp1 = pos 0; rp2 = pos 0 }) ((pos 11 ∷ pos 10 ∷ []) ∷ []) reason.Point
    -- ALIGNRP takes its points before it tests rp0.
    ∷ faults (0x3c ∷ []) (zones One One One) ([] ∷ (pos 0 ∷ []) ∷ []) reason.Underflow
    -- ALIGNRP refuses a negative loop number first.
    ∷ faults (0x3c ∷ []) (record (zones One One One) { loop_number = negsuc 0 }) ([] ∷ (pos 8 ∷ []) ∷ []) reason.Count
    -- MDRP uses rp0 in zp0.
    ∷ leaves (codes_from 0xc0 16) (record (zones Zero One Zero) { rp0 = pos 11 }) (pos 7 ∷ pos 6 ∷ []) (pos 6 ∷ [])
    (record (record (zones Zero One Zero) { rp0 = pos 11 }) { rp1 = pos 11; rp2 = pos 7 })
    -- MDRP takes a point of zp1.
    ∷ leaves (codes_from 0xc0 16) (record (zones One Zero One) { rp0 = pos 7 }) (pos 11 ∷ pos 6 ∷ []) (pos 6 ∷ [])
    (record (record (zones One Zero One) { rp0 = pos 7 }) { rp1 = pos 7; rp2 = pos 11 })
    -- MDRP tests its point in zp1.
    ∷ faults (codes_from 0xc0 16) (record (zones Zero One Zero) { rp0 = pos 0 }) ((pos 8 ∷ []) ∷ (negsuc 0 ∷ []) ∷ []) reason.Point
    -- MDRP tests the old rp0 in zp0.
    ∷ faults (codes_from 0xc0 16) (record (zones One Zero Zero) { rp0 = pos 8; rp1 = pos 0; rp2 = pos 0 }) ((pos 0 ∷ []) ∷ []) reason.Point
    -- MDRP needs a point before it tests rp0.
    ∷ faults (codes_from 0xc0 16) (zones One One One) ([] ∷ []) reason.Underflow
    -- MDRP with rp0 uses rp0 in zp0.
    ∷ leaves (codes_from 0xd0 16) (record (zones Zero One Zero) { rp0 = pos 11 }) (pos 7 ∷ pos 6 ∷ []) (pos 6 ∷ [])
    (record (record (zones Zero One Zero) { rp0 = pos 11 }) { rp1 = pos 11; rp2 = pos 7; rp0 = pos 7 })
    -- MDRP with rp0 takes a point of zp1.
    ∷ leaves (codes_from 0xd0 16) (record (zones One Zero One) { rp0 = pos 7 }) (pos 11 ∷ pos 6 ∷ []) (pos 6 ∷ [])
    (record (record (zones One Zero One) { rp0 = pos 7 }) { rp1 = pos 7; rp2 = pos 11; rp0 = pos 11 })
    -- MDRP with rp0 tests its point in zp1.
    ∷ faults (codes_from 0xd0 16) (record (zones Zero One Zero) { rp0 = pos 0 }) ((pos 8 ∷ []) ∷ (negsuc 0 ∷ []) ∷ []) reason.Point
    -- MDRP with rp0 tests the old rp0 in zp0.
    ∷ faults (codes_from 0xd0 16) (record (zones One Zero Zero) { rp0 = pos 8; rp1 = pos 0; rp2 = pos 0 }) ((pos 0 ∷ []) ∷ []) reason.Point
    -- MDRP with rp0 needs a point before it tests rp0.
    ∷ faults (codes_from 0xd0 16) (zones One One One) ([] ∷ []) reason.Underflow
    ∷ [])
unfolding performed
cases_of_alignrp_and_mdrp = refl

-- Points that are moved by a control value from a reference point.
cases_of_mirp : all_hold (
    -- MIRP uses rp0 in zp0.
    leaves (codes_from 0xe0 16) (record (zones Zero One Zero) { rp0 = pos 11 }) (pos 9 ∷ pos 7 ∷ pos 6 ∷ []) (pos 6 ∷ [])
    (record (record (zones Zero One Zero) { rp0 = pos 11 }) { rp1 = pos 11; rp2 = pos 7 })
    -- MIRP takes a point of zp1.
    ∷ leaves (codes_from 0xe0 16) (record (zones One Zero One) { rp0 = pos 7 }) (pos 9 ∷ pos 11 ∷ pos 6 ∷ []) (pos 6 ∷ [])
    (record (record (zones One Zero One) { rp0 = pos 7 }) { rp1 = pos 7; rp2 = pos 11 })
    -- MIRP tests its control value first.
    ∷ faults (codes_from 0xe0 16) (zones One One One) ((pos 10 ∷ pos 8 ∷ []) ∷ (pos 10 ∷ []) ∷ (negsuc 0 ∷ pos 8 ∷ []) ∷ []) reason.Cvt
    -- MIRP tests its point in zp1.
    ∷ faults (codes_from 0xe0 16) (record (zones Zero One Zero) { rp0 = pos 0 }) ((pos 9 ∷ pos 8 ∷ []) ∷ (pos 0 ∷ negsuc 0 ∷ []) ∷ [])
    reason.Point
    -- MIRP tests the old rp0 in zp0.
    ∷ faults (codes_from 0xe0 16) (record (zones One Zero Zero) { rp0 = pos 8; rp1 = pos 0; rp2 = pos 0 }) ((pos 9 ∷ pos 0 ∷ []) ∷ [])
    reason.Point
    -- MIRP needs a control value and a point.
    ∷ faults (codes_from 0xe0 16) (zones One One One) ([] ∷ (pos 9 ∷ []) ∷ []) reason.Underflow
    -- MIRP with rp0 uses rp0 in zp0.
    ∷ leaves (codes_from 0xf0 16) (record (zones Zero One Zero) { rp0 = pos 11 }) (pos 9 ∷ pos 7 ∷ pos 6 ∷ []) (pos 6 ∷ [])
    (record (record (zones Zero One Zero) { rp0 = pos 11 }) { rp1 = pos 11; rp2 = pos 7; rp0 = pos 7 })
    -- MIRP with rp0 takes a point of zp1.
    ∷ leaves (codes_from 0xf0 16) (record (zones One Zero One) { rp0 = pos 7 }) (pos 9 ∷ pos 11 ∷ pos 6 ∷ []) (pos 6 ∷ [])
    (record (record (zones One Zero One) { rp0 = pos 7 }) { rp1 = pos 7; rp2 = pos 11; rp0 = pos 11 })
    -- MIRP with rp0 tests its control value first.
    ∷ faults (codes_from 0xf0 16) (zones One One One) ((pos 10 ∷ pos 8 ∷ []) ∷ (pos 10 ∷ []) ∷ (negsuc 0 ∷ pos 8 ∷ []) ∷ []) reason.Cvt
    -- MIRP with rp0 tests its point in zp1.
    ∷ faults (codes_from 0xf0 16) (record (zones Zero One Zero) { rp0 = pos 0 }) ((pos 9 ∷ pos 8 ∷ []) ∷ (pos 0 ∷ negsuc 0 ∷ []) ∷ [])
    reason.Point
    -- MIRP with rp0 tests the old rp0 in zp0.
    ∷ faults (codes_from 0xf0 16) (record (zones One Zero Zero) { rp0 = pos 8; rp1 = pos 0; rp2 = pos 0 }) ((pos 9 ∷ pos 0 ∷ []) ∷ [])
    reason.Point
    -- MIRP with rp0 needs a control value and a point.
    ∷ faults (codes_from 0xf0 16) (zones One One One) ([] ∷ (pos 9 ∷ []) ∷ []) reason.Underflow
    ∷ [])
unfolding performed
cases_of_mirp = refl

-- Storage, control values and coordinates.
cases_of_storage_control_values_and_coordinates : all_hold (
    -- WS stores the number on top in the cell below.
    does (0x42 ∷ []) (zones One One One) (negsuc 0 ∷ pos 3 ∷ pos 6 ∷ [])
    (goes_on_with (pos 6 ∷ []) (zones One One One) (pos 100 ∷ pos 101 ∷ pos 102 ∷ negsuc 0 ∷ []))
    -- WS stores in the cell that is named.
    ∷ does (0x42 ∷ []) (zones One One One) (pos 3 ∷ pos 1 ∷ pos 6 ∷ [])
    (goes_on_with (pos 6 ∷ []) (zones One One One) (pos 100 ∷ pos 3 ∷ pos 102 ∷ pos 103 ∷ []))
    -- WS tests its cell.
    ∷ faults (0x42 ∷ []) (zones One One One) ((pos 0 ∷ pos 4 ∷ []) ∷ (pos 3 ∷ negsuc 0 ∷ []) ∷ []) reason.Storage
    -- WS needs a number and a cell.
    ∷ faults (0x42 ∷ []) (zones One One One) ([] ∷ (pos 3 ∷ []) ∷ []) reason.Underflow
    -- RS pushes what its cell holds.
    ∷ takes (0x43 ∷ []) (zones One One One) (pos 2 ∷ pos 6 ∷ []) (pos 102 ∷ pos 6 ∷ [])
    -- RS tests its cell.
    ∷ faults (0x43 ∷ []) (zones One One One) ((pos 4 ∷ []) ∷ (negsuc 0 ∷ []) ∷ []) reason.Storage
    -- RS needs a cell.
    ∷ faults (0x43 ∷ []) (zones One One One) ([] ∷ []) reason.Underflow
    -- WCVT takes a number and a control value.
    ∷ takes (0x44 ∷ 0x70 ∷ []) (zones One One One) (negsuc 0 ∷ pos 9 ∷ pos 6 ∷ []) (pos 6 ∷ [])
    -- WCVT tests its control value.
    ∷ faults (0x44 ∷ 0x70 ∷ []) (zones One One One) ((pos 0 ∷ pos 10 ∷ []) ∷ (pos 9 ∷ negsuc 0 ∷ []) ∷ []) reason.Cvt
    -- WCVT needs a number and a control value.
    ∷ faults (0x44 ∷ 0x70 ∷ []) (zones One One One) ([] ∷ (pos 9 ∷ []) ∷ []) reason.Underflow
    -- RCVT reads a control value.
    ∷ takes (0x45 ∷ []) (zones One One One) (pos 9 ∷ pos 6 ∷ []) (pos 7 ∷ pos 6 ∷ [])
    -- RCVT tests its control value.
    ∷ faults (0x45 ∷ []) (zones One One One) ((pos 10 ∷ []) ∷ (negsuc 0 ∷ []) ∷ []) reason.Cvt
    -- RCVT needs a control value.
    ∷ faults (0x45 ∷ []) (zones One One One) ([] ∷ []) reason.Underflow
    -- GC takes a point of zp2.
    ∷ takes (0x46 ∷ 0x47 ∷ []) (zones One One Zero) (pos 11 ∷ pos 6 ∷ []) (pos 7 ∷ pos 6 ∷ [])
    -- GC tests its point in zp2.
    ∷ faults (0x46 ∷ 0x47 ∷ []) (zones Zero Zero One) ((pos 8 ∷ []) ∷ (negsuc 0 ∷ []) ∷ []) reason.Point
    -- GC needs a point.
    ∷ faults (0x46 ∷ 0x47 ∷ []) (zones One One One) ([] ∷ []) reason.Underflow
    -- SCFS takes a number and a point of zp2.
    ∷ takes (0x48 ∷ []) (zones One One Zero) (negsuc 0 ∷ pos 11 ∷ pos 6 ∷ []) (pos 6 ∷ [])
    -- SCFS tests its point in zp2.
    ∷ faults (0x48 ∷ []) (zones Zero Zero One) ((pos 0 ∷ pos 8 ∷ []) ∷ (pos 0 ∷ negsuc 0 ∷ []) ∷ []) reason.Point
    -- SCFS needs a number and a point.
    ∷ faults (0x48 ∷ []) (zones One One One) ([] ∷ (pos 0 ∷ []) ∷ []) reason.Underflow
    ∷ [])
unfolding performed
cases_of_storage_control_values_and_coordinates = refl

-- Deltas: a count, and as many pairs.
cases_of_deltas : all_hold (
    -- DELTAP takes pairs of a point of zp0 and a number.
    takes (0x5d ∷ 0x71 ∷ 0x72 ∷ []) (zones Zero One One) (pos 2 ∷ pos 11 ∷ negsuc 0 ∷ pos 10 ∷ pos 99 ∷ pos 6 ∷ []) (pos 6 ∷ [])
    -- DELTAP by zero takes its count alone.
    ∷ takes (0x5d ∷ 0x71 ∷ 0x72 ∷ []) (zones One One One) (pos 0 ∷ pos 6 ∷ []) (pos 6 ∷ [])
    -- DELTAP tests its points in zp0.
    ∷ faults (0x5d ∷ 0x71 ∷ 0x72 ∷ []) (zones One Zero Zero)
    ((pos 1 ∷ pos 8 ∷ pos 0 ∷ []) ∷ (pos 2 ∷ pos 0 ∷ pos 99 ∷ pos 8 ∷ pos 0 ∷ []) ∷ (pos 1 ∷ pos 8 ∷ []) ∷ []) reason.Point
    -- DELTAP refuses a negative count.
    ∷ faults (0x5d ∷ 0x71 ∷ 0x72 ∷ []) (zones One One One) ((negsuc 0 ∷ []) ∷ (negsuc 0 ∷ pos 0 ∷ pos 0 ∷ []) ∷ []) reason.Count
    -- DELTAP needs a count and pairs.
    ∷ faults (0x5d ∷ 0x71 ∷ 0x72 ∷ []) (zones One One One)
    ([] ∷ (pos 1 ∷ []) ∷ (pos 1 ∷ pos 0 ∷ []) ∷ (pos 2 ∷ pos 0 ∷ pos 0 ∷ []) ∷ (pos 2 ∷ pos 0 ∷ pos 0 ∷ pos 0 ∷ []) ∷ []) reason.Underflow
    -- DELTAC takes pairs of a control value and a number.
    ∷ takes (0x73 ∷ 0x74 ∷ 0x75 ∷ []) (zones Zero Zero Zero) (pos 2 ∷ pos 9 ∷ negsuc 0 ∷ pos 8 ∷ pos 99 ∷ pos 6 ∷ []) (pos 6 ∷ [])
    -- DELTAC by zero takes its count alone.
    ∷ takes (0x73 ∷ 0x74 ∷ 0x75 ∷ []) (zones One One One) (pos 0 ∷ pos 6 ∷ []) (pos 6 ∷ [])
    -- DELTAC tests its control values.
    ∷ faults (0x73 ∷ 0x74 ∷ 0x75 ∷ []) (zones One One One)
    ((pos 1 ∷ pos 10 ∷ pos 0 ∷ []) ∷ (pos 2 ∷ pos 0 ∷ pos 99 ∷ pos 10 ∷ pos 0 ∷ []) ∷ (pos 1 ∷ negsuc 0 ∷ []) ∷ []) reason.Cvt
    -- DELTAC refuses a negative count.
    ∷ faults (0x73 ∷ 0x74 ∷ 0x75 ∷ []) (zones One One One) ((negsuc 0 ∷ []) ∷ (negsuc 0 ∷ pos 0 ∷ pos 0 ∷ []) ∷ []) reason.Count
    -- DELTAC needs a count and pairs.
    ∷ faults (0x73 ∷ 0x74 ∷ 0x75 ∷ []) (zones One One One)
    ([] ∷ (pos 1 ∷ []) ∷ (pos 1 ∷ pos 0 ∷ []) ∷ (pos 2 ∷ pos 0 ∷ pos 0 ∷ []) ∷ (pos 2 ∷ pos 0 ∷ pos 0 ∷ pos 0 ∷ []) ∷ []) reason.Underflow
    ∷ [])
unfolding performed
cases_of_deltas = refl

-- Points whose flags are changed: of the glyph zone and of the zone of zp0. Then the other codes.
cases_of_flips_and_other_codes : all_hold (
    -- FLIPPT takes points of the glyph zone.
    leaves (0x80 ∷ []) (zones One Zero Zero) (pos 7 ∷ pos 6 ∷ pos 5 ∷ []) (pos 5 ∷ [])
    (record (zones One Zero Zero) { loop_number = pos 1 })
    -- FLIPPT tests its points in the glyph zone.
    ∷ faults (0x80 ∷ []) (zones Zero One One) ((pos 8 ∷ pos 0 ∷ []) ∷ (pos 0 ∷ pos 8 ∷ []) ∷ []) reason.Point
    -- FLIPPT tests its points in zp0 too.
    ∷ faults_by usual_limits (0x80 ∷ []) (zones Zero One One) ((pos 4 ∷ pos 0 ∷ []) ∷ (pos 0 ∷ pos 4 ∷ []) ∷ []) reason.Point
    -- FLIPPT tests no other zone.
    ∷ leaves_by usual_limits (0x80 ∷ []) (zones One Zero Zero) (pos 7 ∷ pos 6 ∷ pos 5 ∷ []) (pos 5 ∷ [])
    (record (zones One Zero Zero) { loop_number = pos 1 })
    -- FLIPPT refuses a negative loop number first.
    ∷ faults (0x80 ∷ []) (record (zones One One One) { loop_number = negsuc 0 }) ([] ∷ (pos 8 ∷ []) ∷ []) reason.Count
    -- FLIPPT needs its points.
    ∷ faults (0x80 ∷ []) (zones One One One) ([] ∷ (pos 0 ∷ []) ∷ []) reason.Underflow
    -- FLIPRG takes two points of the glyph zone.
    ∷ takes (0x81 ∷ 0x82 ∷ []) (zones One Zero Zero) (pos 7 ∷ pos 6 ∷ pos 5 ∷ []) (pos 5 ∷ [])
    -- FLIPRG tests both points in the glyph zone.
    ∷ faults (0x81 ∷ 0x82 ∷ []) (zones Zero One One) ((pos 8 ∷ pos 0 ∷ []) ∷ (pos 0 ∷ pos 8 ∷ []) ∷ []) reason.Point
    -- FLIPRG tests both points in zp0 too.
    ∷ faults_by usual_limits (0x81 ∷ 0x82 ∷ []) (zones Zero One One) ((pos 4 ∷ pos 0 ∷ []) ∷ (pos 0 ∷ pos 4 ∷ []) ∷ []) reason.Point
    -- FLIPRG tests no other zone.
    ∷ leaves_by usual_limits (0x81 ∷ 0x82 ∷ []) (zones One Zero Zero) (pos 7 ∷ pos 6 ∷ pos 5 ∷ []) (pos 5 ∷ []) (zones One Zero Zero)
    -- FLIPRG needs two points.
    ∷ faults (0x81 ∷ 0x82 ∷ []) (zones One One One) ([] ∷ (pos 0 ∷ []) ∷ []) reason.Underflow
    -- Other codes have no entry.
    ∷ faults (0x28 ∷ 0x7b ∷ 0x83 ∷ 0x84 ∷ 0x8f ∷ codes_from 0x90 32) (zones One One One) ([] ∷ (pos 1 ∷ pos 2 ∷ pos 3 ∷ []) ∷ [])
    reason.Opcode
    -- Instruction definitions are refused.
    ∷ faults (0x89 ∷ []) (zones One One One) ([] ∷ (pos 1 ∷ []) ∷ []) reason.InstructionDefinition
    ∷ [])
unfolding performed
cases_of_flips_and_other_codes = refl
