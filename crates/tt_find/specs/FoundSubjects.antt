-- What the finder says of a subject: a setting, with the functions that are known where its program
-- starts.
use Rattle.std.specs.Prelude.{◌⊎◌, ◌+◌, ◌*◌, ◌≤◌, ℕ, Option, Result, IfErr, IfOk}
use Rattle.tt_setting.specs.declared.setting.Setting.{Setting as Subject}
use Rattle.tt_abs.specs.declared.state.State.{State}
use Rattle.tt_setting.specs.Settings.{setting_of}
use Rattle.tt_abs.specs.StateFlow.{Place}
use Rattle.tt_setting.specs.Budgets.{counted_from}
use Rattle.tt_family.specs.Checks.{IsExhausted}
use Rattle.tt_setting.specs.declared.budget.Budget.{Budget}
use Rattle.tt_family.specs.Contents.{family_of}
use Rattle.tt_setting.specs.declared.refusal.Refusal.{Refusal}
use Rattle.tt_find.specs.Found.{AreLeastContexts, HasLeastFilling, IsJustified, IsNeverEnding, LacksEnd, NamesPlace, NeedsAll, NoneIsGood}
use Rattle.tt_find.specs.declared.finder.Found.{Found}

-- the found family has the least good one as a filling; its count of updates is within the bounds
abbrev pub IsLeastFor : Subject → Found → Type 0
IsLeastFor x found =
    HasLeastFilling (setting_of x) x.start.now found.updates (family_of found.certificate)

-- for this many updates enough points were counted: a point makes two at most, and the start one
abbrev pub AreCounted : Budget → Budget → ℕ → Type 0
AreCounted old new updates = updates ≤ 1 + 2 * counted_from old new

-- each context that was found has a derived state, and a state in every good family
abbrev pub HasLeastContexts : Subject → Found → Type 0
HasLeastContexts x found = AreLeastContexts (setting_of x) x.start.now found.certificate.contexts

-- none of the found states can be left out
abbrev pub HasOnlyNeeded : Subject → Found → Type 0
HasOnlyNeeded x found = NeedsAll (setting_of x) x.start.now (family_of found.certificate)

-- the fault names a place and a reason that are right, unless memory ran out
abbrev pub IsJustifiedFor : Subject → Refusal → Type 0
IsJustifiedFor x = NamesPlace (IsJustified (setting_of x) x.start.now)

-- no family is good (`NoneIsGood`), unless memory ran out, or the end alone isn't reached
abbrev pub TellsNoneIsGood : Subject → Refusal → Type 0
TellsNoneIsGood x fault =
    IsExhausted fault ⊎ IsNeverEnding fault ⊎ NoneIsGood (setting_of x) x.start.now

-- where the least family is good except for the end, the answer says so, unless memory ran out
abbrev pub TellsNoEnd : {A : Type 0} → Subject → Result A Refusal → Type 0
TellsNoEnd x answer =
    (family : Place → Option State) → LacksEnd (setting_of x) x.start.now family
    → IfOk answer (λ _. ⊥) × IfErr answer (λ fault. IsExhausted fault ⊎ IsNeverEnding fault)
