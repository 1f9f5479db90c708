-- How many points may be made: one each time that a finder or a check carries a state on. (own)
use Rattle.std.specs.Prelude.{◌≡◌, ◌+◌, ◌-◌, ◌≤◌, ℕ, None, Some, Result, Ok, Err, false, is_some, unwrap_or}
use Rattle.tt_setting.specs.declared.exhausted.Exhausted.{Exhausted}
use Rattle.tt_setting.specs.declared.exhausted.Exhausted.TheVariants as exhausted
use Rattle.tt_setting.specs.declared.refusal.Refusal.{Refusal}
use Rattle.tt_setting.specs.declared.refusal.Refusal.TheVariants as refusal
use Rattle.tt_setting.specs.declared.budget.Budget.{Budget}

-- a budget of which nothing was spent
abbrev pub new_budget : ℕ → Budget
new_budget points = record { most = points; left = Some points }

-- the greatest budget
abbrev pub unlimited_budget : Budget
unlimited_budget = new_budget 18446744073709551615

-- how many points are left: none where one more was to be made than may be
abbrev pub left_of : Budget → ℕ
left_of budget = unwrap_or budget.left 0

-- how many points were made so far
abbrev pub made_by : Budget → ℕ
made_by budget = budget.most - left_of budget

-- one more point was to be made than may be
abbrev pub IsExceeded : Budget → Type 0
IsExceeded budget = is_some budget.left ≡ false

-- the one budget is exceeded exactly where the other is
abbrev pub AreAlike : Budget → Budget → Type 0
AreAlike old new = is_some new.left ≡ is_some old.left

-- one more point is counted
abbrev pub Counts : Budget → Budget → Type 0
Counts old new =
    (left_of old ≡ left_of new + 1) × (new.most ≡ old.most) × AreAlike old new

-- how many points were counted from the one to the other
abbrev pub counted_from : Budget → Budget → ℕ
counted_from old new = left_of old - left_of new

-- at least this many points were counted from the one to the other
abbrev pub IsPaidFor : Budget → Budget → ℕ → Type 0
IsPaidFor old new count = count ≤ counted_from old new

-- as many points were made as may be, and one more was to be made
abbrev pub Exceeds : Budget → Budget → Type 0
Exceeds old new = (left_of old ≡ 0) × (new ≡ record old { left = None })

-- the bound is as before, and no point is taken back
abbrev pub Spends : Budget → Budget → Type 0
Spends old new = (new.most ≡ old.most) × (left_of new ≤ left_of old)

-- What ended the work that went from the one budget to the other: the budget exactly where it was
-- exceeded in it.
abbrev pub EndTells : Budget → Budget → Exhausted → Type 0
EndTells old new exhausted.Memory = AreAlike old new
EndTells old new exhausted.Budget = IsExceeded new

-- the same of a refusal, which is an answer
abbrev pub RefusalTells : Budget → Budget → Refusal → Type 0
RefusalTells old new (refusal.Refused spot offset failed) = AreAlike old new
RefusalTells old new (refusal.Exhausted by) = EndTells old new by

-- The answer of work that went from the one budget to the other tells whether the budget was
-- exceeded in it.
abbrev pub TellsBudget : {T : Type 0} → Budget → Budget → Result T Refusal → Type 0
TellsBudget old new (Ok done) = AreAlike old new
TellsBudget old new (Err fault) = RefusalTells old new fault

-- the same where no program is refused by it
abbrev pub EndTellsBudget : {T : Type 0} → Budget → Budget → Result T Exhausted → Type 0
EndTellsBudget old new (Ok done) = AreAlike old new
EndTellsBudget old new (Err by) = EndTells old new by
