use Rattle.std.proofs.Common.{◌≡◌, ℕ, Option, String, Global, Vec, refl}
use Rattle.std.proofs.lemmas.Result.{IfErr-weaker, IfOk-weaker}
use Rattle.hintcheck_words.specs.Requests.{asked}
use Rattle.hintcheck_words.specs.declared.words.ExplainOptions.{ExplainOptions}
use Rattle.hintcheck_words.specs.declared.words.ListOptions.{ListOptions}
use Rattle.hintcheck_words.specs.declared.words.ScanOptions.{ScanOptions}
use Rattle.hintcheck_words.specs.declared.words.ScanTexts.{ScanTexts}
use Rattle.hintcheck_words.specs.declared.words.Task.{Task}
use Rattle.hintcheck_words.specs.declared.words.Task.TheVariants as task
use Rattle.hintcheck.specs.Commands.{IsForVerdict}
use Rattle.hintcheck.proofs.AnswerLemmas.{any_fault}
use Rattle.hintcheck.proofs.commands.do_task.Goals as goal

for_verdict : (t : Task) → ((fonts : Vec (String Global) Global) (options : ScanOptions) (texts : ScanTexts) → t ≡ task.Scan fonts options texts → ⊥) → ((font : String Global) (program place : Option (String Global)) (options : ExplainOptions) → t ≡ task.Explain font program place options → ⊥)
    → ((font program : String Global) (options : ListOptions) → t ≡ task.List font program options → ⊥) → ((old new : String Global) (max_bytes : ℕ) → t ≡ task.Upgrade old new max_bytes → ⊥) → IsForVerdict (asked t)
unfolding asked
for_verdict (task.Bare maxp cvt points contours program profile) scan explain other another = tt
for_verdict (task.Verdict font options) scan explain other another = tt
for_verdict (task.Scan fonts options texts) scan explain other another = absurd (scan fonts options texts refl)
for_verdict (task.Explain font program place options) scan explain other another = absurd (explain font program place options refl)
for_verdict (task.Find font certificate options) scan explain other another = tt
for_verdict (task.Check font certificate options) scan explain other another = tt
for_verdict (task.List font program options) scan explain other another = absurd (other font program options refl)
for_verdict (task.Upgrade old new max_bytes) scan explain other another = absurd (another old new max_bytes refl)

pub answer_verdict-requires : goal.answer_verdict-requires
answer_verdict-requires g c = for_verdict c.args.task.now c.in_default.not-Scan c.in_default.not-Explain c.in_default.not-List c.in_default.not-Upgrade

pub returns-in-Scan-clause-answer : goal.returns-in-Scan-clause-answer
unfolding asked
returns-in-Scan-clause-answer g c = IfOk-weaker c.scan_words.result _ _ (λ status is. rw c.in-Scan.is (rw (← c.deref.ensures.value) is)) c.scan_words.ensures.answer

pub returns-in-Scan-clause-faults : goal.returns-in-Scan-clause-faults
unfolding asked
returns-in-Scan-clause-faults g c = rw c.in-Scan.is (any_fault (asked (task.Scan c.in-Scan.fonts c.in-Scan.options c.in-Scan.texts)) c.scan_words.result (λ f. tt))

pub returns-in-Explain-clause-answer : goal.returns-in-Explain-clause-answer
unfolding asked
returns-in-Explain-clause-answer g c = IfOk-weaker c.tell_explanation.result _ _ (λ status is. rw c.in-Explain.is (rw (← c.deref-in-Explain.ensures) is)) c.tell_explanation.ensures.answer

pub returns-in-Explain-clause-faults : goal.returns-in-Explain-clause-faults
unfolding asked
returns-in-Explain-clause-faults g c = rw c.in-Explain.is (any_fault (asked (task.Explain c.in-Explain.font c.in-Explain.program c.in-Explain.place c.in-Explain.options)) c.tell_explanation.result (λ f. tt))

pub returns-in-List-clause-answer : goal.returns-in-List-clause-answer
unfolding asked
returns-in-List-clause-answer g c = IfOk-weaker c.list_of_file.result _ _ (λ status is. rw c.in-List.is (rw (← c.deref-in-List.ensures, ← c.deref-in-List-2.ensures) is)) c.list_of_file.ensures.answer

pub returns-in-List-clause-faults : goal.returns-in-List-clause-faults
unfolding asked
returns-in-List-clause-faults g c = rw c.in-List.is (any_fault (asked (task.List c.in-List.font c.in-List.program c.in-List.options)) c.list_of_file.result (λ f. tt))

pub returns-in-Upgrade-clause-answer : goal.returns-in-Upgrade-clause-answer
unfolding asked
returns-in-Upgrade-clause-answer g c = IfOk-weaker c.tell_upgrade.result _ _ (λ status is. rw c.in-Upgrade.is (rw (← c.deref-in-Upgrade.ensures, ← c.deref-in-Upgrade-2.ensures) is)) c.tell_upgrade.ensures.answer

pub returns-in-Upgrade-clause-faults : goal.returns-in-Upgrade-clause-faults
unfolding asked
returns-in-Upgrade-clause-faults g c = IfErr-weaker c.tell_upgrade.result _ _ (λ told is. rw c.in-Upgrade.is (rw (← c.deref-in-Upgrade.ensures, ← c.deref-in-Upgrade-2.ensures) is)) c.tell_upgrade.ensures.faults
