-- What it means that a control instruction was carried out on a symbolic state.
use Rattle.std.specs.Prelude.{◌≡◌, ◌<◌, ℕ, ℤ, List, [], ◌∷◌, ◌++◌, Some, pos, ◌+ℤ◌, Bool, true, false, not, reverse}
use Rattle.tt_code.specs.Control.{controlled, body_named, enters, jumps_if}
use Rattle.tt_code.specs.Settings.{body_offset, is_target}
use Rattle.tt_code.specs.States.{Machine, is_true, leaves}
use Rattle.tt_code.specs.declared.kinds.Control.{Control}
use Rattle.tt_code.specs.declared.machine.Frame.{Frame}
use Rattle.tt_setting.specs.declared.setting.Setting.{Setting}
use Rattle.tt_setting.specs.declared.setting.Point.{Point}
use Rattle.tt_setting.specs.Settings.{frames_of, setting_of}
use Rattle.tt_symbolic_state.specs.declared.state.OpenCall.{OpenCall}
use Rattle.tt_symbolic_state.specs.declared.state.State.{State}
use Rattle.tt_symbolic_state.specs.Shows.{Shows, values}
use Rattle.tt_symbolic_state.specs.declared.cell.Cell.{Cell}
use Rattle.tt_symbolic_state.specs.Values.{Fits, Valuation, value}
use Rattle.tt_symbolic.specs.Sound.{IsShownBy, Sound, keeps_controls}

-- the same body runs in both
abbrev pub SameBody : List Frame → List OpenCall → Type 0
SameBody [] [] = Unit {0}
SameBody [] (c ∷ cs) = ⊥
SameBody (f ∷ fs) [] = ⊥
SameBody (f ∷ fs) (c ∷ cs) = f.body ≡ c.body

-- the point is at the state's offset, in the body that runs there
pub record IsAt (point : Point) (a : State) : Type 0 where
  pub offset_is : point.offset ≡ a.offset
  pub same_body : SameBody (frames_of point) (reverse a.calls.items)

-- the control instruction is carried out
abbrev pub Leads : Setting → Control → State → State → Type 0
Leads setting op old new = Sound (λ m. controlled (setting_of setting) m op) keeps_controls old new

-- a jump by this distance leads there
pub record JumpsTo (setting : Setting) (point : Point) (by : ℤ) (to : ℕ) : Type 0 where
  pub allowed : is_target (setting_of setting) (frames_of point) (pos point.offset +ℤ by) ≡ true
  pub target : pos point.offset +ℤ by ≡ pos to

-- whether the condition is as asked
abbrev pub is_asked : Bool → ℤ → Bool
is_asked true z = is_true z
is_asked false z = not (is_true z)

-- the function of this number is below maxFunctionDefs and known, with this body
pub record IsKnownFunction (setting : Setting) (functions : List (ℕ × ℕ)) (n body : ℕ) : Type 0
  where
    pub low : n < setting.limits.functions
    pub found : body_named functions n ≡ Some body

-- a jump if the condition is as asked
abbrev pub JumpsIf : Setting → Bool → State → State → Type 0
JumpsIf setting asked old new =
    Sound (λ m. jumps_if (setting_of setting) m (is_asked asked)) keeps_controls old new

-- control goes to the offset, in the same body
pub record GoesTo (offset : ℕ) (old new : State) : Type 0 where
  pub offset_is : new.offset ≡ offset
  pub same : new ≡ record old { offset = new.offset }

-- the call is opened, and control goes to its body's start
pub record Opens (call : OpenCall) (old new : State) : Type 0 where
  pub calls : new.calls.items ≡ old.calls.items ++ call ∷ []
  pub offset_is : new.offset ≡ body_offset call.body
  pub same : new ≡ record old { calls = new.calls; offset = new.offset }

-- the innermost call, which is this one, is closed
pub record Closes (old new : State) (call : OpenCall) : Type 0 where
  pub calls : old.calls.items ≡ new.calls.items ++ call ∷ []
  pub same : new ≡ record old { calls = new.calls }

-- the body is called as many times as the count says
pub record Repeats (body : ℕ) (count : Cell) (old new : State) : Type 0 where
  pub stack : new.stack ≡ old.stack
  pub repeats : (v : Valuation) (m : Machine) (controls : ℕ → ℤ) → Fits old.ranges.items v
      → Shows v old m controls → m.offset ≡ old.offset → (n : Machine)
      × (enters m body m.stack (value v count) ≡ leaves n (values v new.stack) [])
      × IsShownBy v new (record n { stack = values v new.stack }) controls
