-- Which numbers a font needs, as far as verdicts tell. (own)
use Rattle.std.specs.Prelude.{◌≡◌, ◌≢◌, ◌≤◌, ℕ, suc, List, [], ◌∷◌, map, Bool, ◌==◌}
use Rattle.std.specs.List.{All, filter, list_any}
use Rattle.tt_code.specs.declared.limits.Limits.{Limits}
use Rattle.tt_code.specs.declared.reason.Reason.{Reason}
use Rattle.tt_code.specs.declared.reason.Reason.TheVariants as reason
use Rattle.tt_code.specs.Refusals.{number_of}
use Rattle.tt_font.specs.Reading.{FontData}
use Rattle.hintcheck_report.specs.Bounds.{cvt_count_with, declared_number, limits_with}
use Rattle.hintcheck_report.specs.declared.bound.Bound.{Bound}
use Rattle.hintcheck_report.specs.declared.bound.Bound.TheVariants.{StackElements, Storage, FunctionDefs, ControlValues, TwilightPoints, Zones, SizeOfInstructions}
use Rattle.hintcheck_report.specs.declared.refused.Refused.{Refused}
use Rattle.hintcheck_programs.specs.FontPrograms.{judgement_on}
use Rattle.hintcheck_fonts.specs.Requests.{GivesVerdict}
use Rattle.hintcheck_fonts.specs.declared.request.Request.{Request}
use Rattle.hintcheck_fonts.specs.declared.request.Request.TheVariants.{Strict}
use Rattle.hintcheck_needs.specs.declared.asked.Asked.{Asked}
use Rattle.hintcheck_needs.specs.declared.asked.Asked.TheVariants as asked
use Rattle.hintcheck_needs.specs.declared.font_needs.Need.{Need}

-- the font with another number in its place
abbrev pub with_number : FontData → Bound → ℕ → FontData
with_number d bound n = record d {
  limits = limits_with d.limits bound n;
  cvt_count = cvt_count_with d.cvt_count bound n;
}

-- the greatest number that is tried
abbrev pub greatest_number : ℕ
greatest_number = 65535

-- the limits of which each is the greatest
abbrev pub greatest_limits : Limits
greatest_limits = record {
  storage = greatest_number;
  functions = greatest_number;
  stack = greatest_number;
  program_size = greatest_number;
  zones = greatest_number;
  twilight = greatest_number;
}

-- the font with the greatest number in the place of each
abbrev pub with_greatest : FontData → FontData
with_greatest d = record d { limits = greatest_limits; cvt_count = greatest_number }

-- a verdict as is asked on the font refuses these programs, each at its place for its reason
abbrev pub Refuses : Request → FontData → List Refused → Type 0
Refuses request d refused = GivesVerdict request d (judgement_on d refused)

-- a verdict as is asked on the font refuses others, or at other places, or for other reasons
abbrev pub RefusesOthers : Request → FontData → List Refused → Type 0
RefusesOthers request d refused =
    (others : List Refused) × Refuses request d others × (others ≢ refused)

-- The least number that is enough is one of those from `least` to `enough`, as far as verdicts
-- tell: with `enough` in the place of the font's own a verdict refuses these programs, and with the
-- number before `least`, if there is one, it refuses others.
pub record IsEnoughFrom (request : Request) (d : FontData) (bound : Bound) (refused : List Refused)
    (least enough : ℕ) : Type 0 where
  pub in_order : least ≤ enough
  pub same : Refuses request (with_number d bound enough) refused
  pub others : (fewer : ℕ) → least ≡ suc fewer
      → RefusesOthers request (with_number d bound fewer) refused

-- What a font needs of one number, where all others are the greatest, and what it has: with a
-- number that is enough a verdict refuses the same programs, at the same places for the same
-- reasons, as with the greatest one. By the strict profile the least such number is told; by the
-- symbolic one the search for it may end before.
pub record IsNeed (request : Request) (d : FontData) (need : Need) : Type 0 where
  pub refused : List Refused
  pub greatest : Refuses request (with_greatest d) refused
  pub found : IsEnoughFrom request (with_greatest d) need.bound refused need.least need.enough
  pub exact : request ≡ Strict → need.least ≡ need.enough
  pub declared : need.declared ≡ declared_number d.limits d.cvt_count need.bound

-- the numbers, in the order in which they are told
abbrev pub all_bounds : List Bound
all_bounds =
    StackElements ∷ Storage ∷ FunctionDefs ∷ ControlValues ∷ TwilightPoints ∷ Zones
    ∷ SizeOfInstructions ∷ []

-- the reason for which a program is refused that passes the number
abbrev pub reason_for : Bound → Reason
reason_for StackElements = reason.Overflow
reason_for Storage = reason.Storage
reason_for FunctionDefs = reason.Function
reason_for ControlValues = reason.Cvt
reason_for TwilightPoints = reason.Point
reason_for Zones = reason.Zone
reason_for SizeOfInstructions = reason.ProgramTooLong

-- whether one of the programs is refused for the reason that names the number
abbrev pub is_passed : List Refused → Bound → Bool
is_passed refused bound =
    list_any (λ r. number_of r.reason == number_of (reason_for bound)) refused

-- These are the numbers that are asked for: all, or those that are passed by a program which a
-- verdict on the font, with its own numbers, refuses.
abbrev pub AreAsked : Request → FontData → Asked → List Bound → Type 0
AreAsked request d asked.All bounds = bounds ≡ all_bounds
AreAsked request d asked.Refused bounds =
    (refused : List Refused) × Refuses request d refused
    × (bounds ≡ filter (λ bound. is_passed refused bound) all_bounds)

-- what a font needs of each number that is asked for
pub record AreNeeds (request : Request) (d : FontData) (asked : Asked) (needs : List Need)
    : Type 0 where
  pub asked_for : AreAsked request d asked (map (λ need. need.bound) needs)
  pub each : All (λ need. IsNeed request d need) needs
