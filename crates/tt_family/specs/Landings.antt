-- Where ways lead from contexts, which have numbers.
use Rattle.std.specs.Prelude.{◌≡◌, ℕ, ◌+◌, ◌≤◌, ◌<◌, ◌^◌, None, List, ◌∷◌, length}
use Rattle.tt_code.specs.Settings.{body_offset}
use Rattle.tt_code.specs.declared.machine.Frame.{Frame}
use Rattle.tt_code.specs.declared.reason.Reason.TheVariants.{MissingPoint}
use Rattle.tt_setting.specs.declared.failed.Failed.TheVariants.{Only}
use Rattle.tt_abs.specs.Moves.{frames_after, offset_after}
use Rattle.tt_abs.specs.StateFlow.{Place}
use Rattle.tt_abs.specs.declared.moves.Move.{Move}
use Rattle.tt_family.specs.Checks.{saturated_offset}
use Rattle.tt_family.specs.Contents.{Contents, family_of, frames_at}
use Rattle.tt_setting.specs.Spots.{spot_of}
use Rattle.tt_setting.specs.declared.refusal.Refusal.{Refusal}
use Rattle.tt_setting.specs.declared.refusal.Refusal.TheVariants.{Refused}
use Rattle.tt_family.specs.declared.landing.Landing.{Landing}
use Rattle.tt_family.specs.declared.landing.Landing.TheVariants.{In, Body, Beyond}

-- the place to which a way leads from a context
abbrev pub place_from : List (List Frame) → ℕ → Move → Place
place_from contexts context way =
    (frames_after (frames_at contexts context) way, offset_after (frames_at contexts context) way)

-- if the innermost call's count is a number of 32 bits, so is the number of its next turn
abbrev pub IsTurnCountable : List Frame → Type 0
IsTurnCountable frames =
    (f : Frame) (fs : List Frame) → frames ≡ f ∷ fs → f.count < 2 ^ 32 → f.turn + 1 < 2 ^ 32

-- there is a call, and the innermost one is at the greatest offset of 32 bits or above it
abbrev pub IsCalledLast : List Frame → Type 0
IsCalledLast frames = (f : Frame) × (fs : List Frame) × (frames ≡ f ∷ fs) × (2 ^ 32 ≤ f.call + 1)

-- the number of a context that has the place's calls, and the place's offset
abbrev pub IsPointOf : List (List Frame) → Place → ℕ × ℕ → Type 0
IsPointOf contexts place point =
    (point.0 < length contexts) × (frames_at contexts point.0 ≡ place.0) × (point.1 ≡ place.1)

-- the landing stands for the place, which is reached from this context
abbrev pub IsLanding : List (List Frame) → ℕ → Place → Landing → Type 0
IsLanding contexts from place (In context offset) = IsPointOf contexts place (context, offset)
IsLanding contexts from place (Body parent frame) =
    (parent < length contexts) × (frame ∷ frames_at contexts parent ≡ place.0)
    × (body_offset frame.body ≡ place.1)
IsLanding contexts from place (Beyond context) =
    (context < from) × (frames_at contexts context ≡ place.0) × (2 ^ 32 ≤ place.1)
    × IsCalledLast (frames_at contexts from)

-- the family has no state at the place, and the fault says so
abbrev pub IsMissing : Contents → Place → Refusal → Type 0
IsMissing contents place fault =
    (family_of contents place ≡ None)
    × (fault ≡ Refused (spot_of place.0) (saturated_offset place.1) (Only MissingPoint))
