use Rattle.std.specs.Prelude.{Result, IfOk}
use Rattle.std.proofs.Common.{List, Ok, Err}
use Rattle.tt_code.specs.Settings.{Setting}
use Rattle.tt_setting.specs.Settings.{setting_of}
use Rattle.tt_symbolic.specs.declared.kept.Kept.{Kept}
use Rattle.tt_symbolic_state.specs.declared.state.State.{State}
use Rattle.tt_symbolic_check.specs.declared.start.Start.{Start}
use Rattle.tt_symbolic_check.specs.Checked.{AreEnds, IsChecked, IsSafe, KeepsEntries}
use Rattle.tt_symbolic_search.proofs.search.Search.walk.Goals as goal

all_three : {T E : Type 0} (items : T → List State) (s : Setting) (kept : Kept) (starts : List Start) (r : Result T E)
    → IfOk r (λ ends. IsSafe s starts) → IfOk r (λ ends. KeepsEntries s kept starts)
    → IfOk r (λ ends. AreEnds s starts (items ends)) → IfOk r (λ ends. IsChecked s kept starts (items ends))
all_three items s kept starts (Ok ends) safe keeps are = record { safe = safe; keeps = keeps; ends_are = are }
all_three items s kept starts (Err e) safe keeps are = tt

pub returns-clause-checked : goal.returns-clause-checked
returns-clause-checked c = all_three (λ ends. ends.items) (setting_of c.args.setting.now) c.args.kept.now c.args.starts.now c.check-answer.result c.check-answer.ensures.safe c.check-answer.ensures.kept c.check-answer.ensures.ends
