-- Walks from symbolic states: to the main program's end, or to heads of loops that are walked too.
use Rattle.std.specs.Prelude.{◌≡◌, ◌⊎◌, ◌≤◌, ℕ, suc, ℤ, List, [], ◌∷◌, ◌++◌, Some, slice_get, Bool, true, false, Box}
use Rattle.std.specs.declared.alloc.Global.{Global}
use Rattle.tt_code.specs.Runs.{is_at_end}
use Rattle.tt_code.specs.States.{Machine}
use Rattle.tt_setting.specs.declared.setting.Setting.{Setting}
use Rattle.tt_setting.specs.Settings.{setting_of}
use Rattle.tt_symbolic_state.specs.Shows.{IsShown}
use Rattle.tt_symbolic_state.specs.declared.state.State.{State}
use Rattle.tt_symbolic.specs.Kept.{StepsKeep}
use Rattle.tt_symbolic.specs.Steps.{StepsTo}
use Rattle.tt_symbolic.specs.declared.kept.Kept.{Kept}
use Rattle.tt_symbolic_check.specs.Copying.{IsSplit}
use Rattle.tt_symbolic_check.specs.Covering.{Covers}
use Rattle.tt_symbolic_check.specs.Starts.{IsStartState}
use Rattle.tt_symbolic_check.specs.declared.start.Start.{Start}
use Rattle.tt_symbolic_check.specs.declared.walk.Pending.{Pending}
use Rattle.tt_symbolic_check.specs.declared.walk.Walk.{Walk}

-- the machines that the state shows are, or aren't, at the main program's end
abbrev pub EndsAs : Setting → State → Bool → Type 0
EndsAs setting a end =
    (m : Machine) (controls : ℕ → ℤ) → IsShown a m controls
    → is_at_end (setting_of setting) m ≡ end

-- it is one of the list
pub record IsIn {A : Type 0} (list : List A) (a : A) : Type 0 where
  pub index : ℕ
  pub found : slice_get list index ≡ Some a

-- a head covers the state
pub record IsMet (walk : Walk) (a : State) : Type 0 where
  pub head : State
  pub is_head : IsIn walk.heads.items head
  pub covers : Covers a head

-- A walk from a state. One that may not stop meets no head before its first step.
pub data Walks (setting : Setting) (kept : Kept) (final : Walk) : Bool → State → Type 0 where
  ends : (b : Bool) (a : State) → EndsAs setting a true → IsIn final.ends.items a
      → Walks setting kept final b a
  meets : (a : State) → IsMet final a → Walks setting kept final true a
  goes : (b : Bool) (a c : State) → EndsAs setting a false → StepsTo setting a c
      → StepsKeep (setting_of setting) kept a
      → Walks setting kept final true c → Walks setting kept final b a
  splits : (b : Bool) (a low high : State) → IsSplit a low high
      → Walks setting kept final b low → Walks setting kept final b high
      → Walks setting kept final b a
  widens : (b : Bool) (a c : State) → Covers a c → Walks setting kept final b c
      → Walks setting kept final b a

-- which heads and which ends there are is still so
pub record Extends (old new : Walk) : Type 0 where
  pub heads : (a : State) → IsIn old.heads.items a → IsIn new.heads.items a
  pub ends : (a : State) → IsIn old.ends.items a → IsIn new.ends.items a

-- all that waits walks
abbrev pub AllWalk : Setting → Kept → Walk → List Pending → Type 0
AllWalk setting kept final pending =
    (p : Pending) → IsIn pending p → Walks setting kept final p.may_stop p.state.value

-- the heads that weren't there before walk
abbrev pub HeadsWalk : Setting → Kept → Walk → Walk → Walk → Type 0
HeadsWalk setting kept old new final =
    (a : State) → IsIn new.heads.items a
    → IsIn old.heads.items a ⊎ Walks setting kept final false a

-- if all that waits afterwards walks, then so does all that waited, and this is so
pub record Reaches (setting : Setting) (kept : Kept) (old new : Walk)
    (Claim : Walk → Type 0) : Type 0 where
  pub extends : Extends old new
  pub reaches : (final : Walk) → Extends new final
      → AllWalk setting kept final new.pending.items
      → AllWalk setting kept final old.pending.items × Claim final
      × HeadsWalk setting kept old new final

-- if all that waits afterwards walks, then so does all that waited, and this state
abbrev pub ReachesFrom : Setting → Kept → Walk → Walk → Bool → State → Type 0
ReachesFrom setting kept old new b a =
    Reaches setting kept old new (λ final. Walks setting kept final b a)

-- the same of any setting, and whatever is kept
abbrev pub LeadsFrom : Walk → Walk → Bool → State → Type 0
LeadsFrom old new b a = (setting : Setting) (kept : Kept) → ReachesFrom setting kept old new b a

-- the state waits too
pub record PutsPending (state : Box State Global) (may_stop : Bool) (old new : Walk)
    : Type 0 where
  pub waits : IsIn new.pending.items (record { state = state; may_stop = may_stop })
  pub pending : (p : Pending) → IsIn old.pending.items p → IsIn new.pending.items p
  pub heads : new.heads.items ≡ old.heads.items
  pub ends : new.ends.items ≡ old.ends.items

-- one of what waited is taken
pub record TakesPending (old new : Walk) (p : Pending) : Type 0 where
  pub pending : (q : Pending) → IsIn old.pending.items q → IsIn new.pending.items q ⊎ (q ≡ p)
  pub heads : new.heads.items ≡ old.heads.items
  pub ends : new.ends.items ≡ old.ends.items

-- nothing waited, and nothing was done
pub record NothingPending (old new : Walk) : Type 0 where
  pub none : old.pending.items ≡ []
  pub pending : new.pending.items ≡ []
  pub heads : new.heads.items ≡ old.heads.items
  pub ends : new.ends.items ≡ old.ends.items

-- the state is one of the heads
pub record PutsHead (state : State) (old new : Walk) : Type 0 where
  pub heads : new.heads.items ≡ old.heads.items ++ state ∷ []
  pub pending : new.pending.items ≡ old.pending.items
  pub ends : new.ends.items ≡ old.ends.items

-- the state is one of the ends
pub record PutsEnd (state : State) (old new : Walk) : Type 0 where
  pub ends : new.ends.items ≡ old.ends.items ++ state ∷ []
  pub heads : new.heads.items ≡ old.heads.items
  pub pending : new.pending.items ≡ old.pending.items

-- a start walks
pub record StartWalks (setting : Setting) (kept : Kept) (final : Walk) (start : Start)
    : Type 0 where
  pub state : State
  pub is_start : IsStartState start state
  pub walks : Walks setting kept final true state

-- there is no head yet, and if all that waits walks, the first starts walk
pub record Begins (setting : Setting) (kept : Kept) (count : ℕ) (starts : List Start)
    (walk : Walk) : Type 0 where
  pub no_heads : walk.heads.items ≡ []
  pub begins : (final : Walk) → AllWalk setting kept final walk.pending.items → (i : ℕ)
      (start : Start) → suc i ≤ count → slice_get starts i ≡ Some start
      → StartWalks setting kept final start

-- nothing waits any more, and what waited was walked
pub record Finishes (setting : Setting) (kept : Kept) (old new : Walk) : Type 0 where
  pub none_pending : new.pending.items ≡ []
  pub reaches : Reaches setting kept old new (λ final. Unit {0})
