-- What is spent of a budget, one call after another.
use Rattle.std.proofs.Common.{◌∙◌, arith}
use Rattle.tt_setting.specs.declared.exhausted.Exhausted.{Exhausted as By}
use Rattle.tt_setting.specs.declared.exhausted.Exhausted.TheVariants.{Memory, Budget as Points}
use Rattle.tt_setting.specs.declared.refusal.Refusal.{Refusal}
use Rattle.tt_setting.specs.declared.refusal.Refusal.TheVariants.{Refused, Exhausted}
use Rattle.tt_setting.specs.Budgets.{AreAlike, EndTells, RefusalTells, Spends}
use Rattle.tt_setting.specs.declared.budget.Budget.{Budget}

-- what two calls spend, one after the other
pub spends_on : (a b c : Budget) → Spends a b → Spends b c → Spends a c
spends_on a b c (most, left) (most', left') = (most' ∙ most, omega arith)

-- what ends the second of two calls, where the first one ended with an answer
pub end_tells_on : (a b c : Budget) → AreAlike a b → (by : By) → EndTells b c by → EndTells a c by
end_tells_on a b c alike Memory alike' = alike' ∙ alike
end_tells_on a b c alike Points exceeded = exceeded

pub tells_on : (a b c : Budget) → AreAlike a b → (fault : Refusal) → RefusalTells b c fault → RefusalTells a c fault
tells_on a b c alike (Refused spot offset failed) alike' = alike' ∙ alike
tells_on a b c alike (Exhausted by) tells = end_tells_on a b c alike by tells
