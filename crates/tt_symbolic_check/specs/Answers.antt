-- What the search and its walks answer in place of what they are asked for. (Own.)
use Rattle.tt_setting.specs.declared.refusal.Refusal.{Refusal}
use Rattle.tt_setting.specs.declared.setting.Setting.{Setting}
use Rattle.tt_setting.specs.Refusals.{IsOfNoBudget}

-- The search for the program of this setting gave this answer, or its walk did. The
-- definition is closed: no other file can look into it. So the contracts of `Search::check` and of
-- `check` are what shows it of a refusal, and a caller that has to show it can only hand on what one
-- of them has answered. Of these two it says no more than that no budget ended the work.
pub IsAnswerBySymbols : Setting → Refusal → Type 0
IsAnswerBySymbols s refusal = IsOfNoBudget refusal

-- For the proofs of `Search::check` and `check` alone.
pub answered_by_symbols : (s : Setting) (refusal : Refusal) → IsOfNoBudget refusal
    → IsAnswerBySymbols s refusal
unfolding IsAnswerBySymbols
answered_by_symbols s refusal told = told
