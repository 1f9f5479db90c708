-- Contexts as lists of frames, and states by context and offset.
use Rattle.std.specs.Prelude.{◌≡◌, ◌==◌, ◌&&◌, ℕ, ◌+◌, ◌≤◌, ◌<◌, ◌⊎◌, Bool, true, false, cond, Option, Some, List, [], ◌∷◌, ◌++◌, length, slice_index_or}
use Rattle.std.specs.Map.{values_of}
use Rattle.std.specs.List.{sum_by}
use Rattle.tt_code.specs.declared.machine.Frame.{Frame}
use Rattle.tt_code.specs.declared.reason.Reason.TheVariants.{TooManyContexts}
use Rattle.tt_setting.specs.declared.failed.Failed.TheVariants.{Only}
use Rattle.tt_setting.specs.declared.refusal.Refusal.{Refusal}
use Rattle.tt_abs.specs.declared.state.State.{State}
use Rattle.tt_setting.specs.declared.step_fault.StepFault.{StepFault}
use Rattle.tt_setting.specs.Refusals.{ForFailed}
use Rattle.tt_setting.specs.Refusals.{refusal_at}
use Rattle.tt_setting.specs.Spots.{spot_of}
use Rattle.tt_abs.specs.States.{state_order}
use Rattle.tt_family.specs.Places.{states_of}

-- the contexts by number, each as its list of frames, the innermost first, and the states by
-- context and offset
pub record Contents : Type 0 where
  pub contexts : List (List Frame)
  pub states : List ((ℕ × ℕ) × State)

-- whether two frames are the same
abbrev pub same_frame : Frame → Frame → Bool
same_frame a b =
    (a.body == b.body) && (a.call == b.call) && (a.turn == b.turn) && (a.count == b.count)

-- whether two lists of frames are the same
abbrev pub same_frames : List Frame → List Frame → Bool
same_frames [] [] = true
same_frames [] (b ∷ bs) = false
same_frames (a ∷ as') [] = false
same_frames (a ∷ as') (b ∷ bs) = same_frame a b && same_frames as' bs

-- the number of the first context with these frames, or how many contexts there are if none has
-- them
abbrev pub number_of : List (List Frame) → List Frame → ℕ
number_of [] frames = 0
number_of (x ∷ xs) frames = cond (same_frames x frames) 0 (1 + number_of xs frames)

-- a context has these frames
abbrev pub HasContext : List (List Frame) → List Frame → Type 0
HasContext contexts frames = number_of contexts frames < length contexts

-- the frames of a context
abbrev pub frames_at : List (List Frame) → ℕ → List Frame
frames_at contexts number = slice_index_or contexts number []

-- the refusal of the instruction at an offset of a context
abbrev pub refusal_in : Contents → ℕ → ℕ → StepFault → Refusal
refusal_in contents context offset =
    refusal_at (spot_of (frames_at contents.contexts context)) offset

-- a context has the frames of this parent and one more
abbrev pub HasChild : List (List Frame) → ℕ → Frame → Type 0
HasChild contexts parent frame = HasContext contexts (frame ∷ frames_at contexts parent)

-- no context has these frames, and there are 65,535; or memory ran out
abbrev pub IsFullWithout : List (List Frame) → List Frame → StepFault → Type 0
IsFullWithout contexts frames fault = ForFailed fault (λ failed. (failed ≡ Only TooManyContexts)
    × (HasContext contexts frames → ⊥) × (length contexts ≡ 65535))

-- the context of this number has the frames of this parent and one more
abbrev pub IsChild : List (List Frame) → ℕ → Frame → ℕ → Type 0
IsChild contexts parent frame number =
    (number < length contexts) × (frames_at contexts number ≡ frame ∷ frames_at contexts parent)

-- the state that is kept under a context's number and an offset
abbrev pub state_at : Contents → ℕ → ℕ → Option State
state_at contents context offset = states_of contents.states (context, offset)

-- the state at a point, which is a context's frames and an offset
abbrev pub family_of : Contents → List Frame × ℕ → Option State
family_of contents point = states_of contents.states (number_of contents.contexts point.0, point.1)

-- how many points have a state
abbrev pub points_of : Contents → ℕ
points_of contents = length contents.states

-- the sum of the weights of all states
abbrev pub total : (State → ℕ) → Contents → ℕ
total weight contents = sum_by weight (values_of contents.states)

-- the empty context is the first; no two have the same frames; each state's context is there, and
-- each state is in range; there are at most 65,535 contexts and 4,294,967,295 states
pub record IsFamily (contents : Contents) : Type 0 where
  pub main : slice_index_or contents.contexts 0 [] ≡ []
  pub some : 0 < length contents.contexts
  pub distinct : (i j : ℕ) → i < length contents.contexts → j < length contents.contexts
      → slice_index_or contents.contexts i [] ≡ slice_index_or contents.contexts j [] → i ≡ j
  pub few : length contents.contexts ≤ 65535
  pub held : (c o : ℕ) (s : State) → states_of contents.states (c, o) ≡ Some s
      → c < length contents.contexts
  pub in_range : (c o : ℕ) (s : State) → states_of contents.states (c, o) ≡ Some s
      → state_order.InRange s
  pub fits : length contents.states ≤ 4294967295

-- the context is there under the number, and either was there before or is the new last one
pub record AddsContext (old new : List (List Frame)) (frames : List Frame) (number : ℕ)
    : Type 0 where
  pub there : number < length new
  pub at : slice_index_or new number [] ≡ frames
  pub how : ((number < length old) × (new ≡ old))
      ⊎ ((HasContext old frames → ⊥) × (number ≡ length old) × (new ≡ old ++ frames ∷ []))

-- the same for the context that has the frames of this parent and one more
abbrev pub AddsChild : List (List Frame) → List (List Frame) → ℕ → Frame → ℕ → Type 0
AddsChild old new parent frame number = AddsContext old new (frame ∷ frames_at old parent) number
