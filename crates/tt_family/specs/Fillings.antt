-- Families that leave states out, and how those are found again.
use Rattle.std.specs.Prelude.{◌≡◌, ◌↔◌, ℕ, List, Option, Some, None}
use Rattle.tt_code.specs.Settings.{Setting}
use Rattle.tt_code.specs.declared.machine.Frame.{Frame}
use Rattle.tt_setting.specs.Settings.{frames_of}
use Rattle.tt_setting.specs.declared.setting.Point.{Point}
use Rattle.tt_abs.specs.declared.state.State.{State}
use Rattle.tt_abs.specs.Lines.{Precedes}
use Rattle.tt_abs.specs.Soundness.{IsSafe}
use Rattle.tt_abs.specs.StateFlow.{Place, GivesState}
use Rattle.tt_family.specs.GoodFamilies.{IsGoodFamily}

-- the state at the place is what the state at the place just before gives there, and no other place
-- of the filling leads there
pub record IsAdded (s : Setting) (filling : Place → Option State) (q : Place) (t : State)
    : Type 0 where
  pub before : Place
  pub state : State
  pub there : filling before ≡ Some state
  pub just_before : Precedes s before q
  pub gives : GivesState s before state q t
  pub alone : (p : Place) (a b : State) → filling p ≡ Some a → GivesState s p a q b → p ≡ before

-- the family's states, and added ones; the main program's end is just after no place, so that no
-- state is added there
pub record IsFilling (s : Setting) (family filling : Place → Option State) : Type 0 where
  pub keeps : (p : Place) (a : State) → family p ≡ Some a → filling p ≡ Some a
  pub added : (q : Place) (t : State) → filling q ≡ Some t → family q ≡ None → IsAdded s filling q t

-- a filling of the family is good
abbrev pub HasGoodFilling : Setting → List (ℕ × ℕ) → (Place → Option State) → Type 0
HasGoodFilling s functions family =
    (filling : Place → Option State) × IsFilling s family filling × IsGoodFamily s functions filling

-- a filling of the family covers every machine of a run, and none of these faults
abbrev pub HasSafeFilling : Setting → List (ℕ × ℕ) → (Place → Option State) → Type 0
HasSafeFilling s functions family =
    (filling : Place → Option State) × IsFilling s family filling × IsSafe s functions filling

-- two good fillings of a family have the same states
abbrev pub HasOneGoodFilling : Type 0
HasOneGoodFilling =
    (s : Setting) (functions : List (ℕ × ℕ)) (family one other : Place → Option State)
    → IsFilling s family one → IsGoodFamily s functions one
    → IsFilling s family other → IsGoodFamily s functions other → (p : Place) → one p ≡ other p

-- an offset is given, and the place is at it, with these calls
abbrev pub IsAfter : List Frame → Option ℕ → Place → Type 0
IsAfter fs after q = (q.0 ≡ fs) × (after ≡ Some q.1)

-- the offset of the place just after this one, or none if there is no such place
abbrev pub IsJustAfter : Setting → Place → Option ℕ → Type 0
IsJustAfter s p after = (q : Place) → IsAfter p.0 after q ↔ Precedes s p q

-- the place of a point, as the machine's calls and an offset
abbrev pub place_of_point : Point → Place
place_of_point p = (frames_of p, p.offset)
