use Rattle.std.proofs.Common.{ap, sym, Some}
use Rattle.std.proofs.lemmas.Result.{IfOk-weaker}
use Rattle.hintcheck_words.specs.Requests.{Request, request_of, requests}
use Rattle.hintcheck_words.proofs.Meanings.{differs}
use Rattle.hintcheck_words.proofs.words.reading.task_of.Goals as goal

pub returns-in-scan : goal.returns-in-scan
unfolding request_of requests
returns-in-scan c = IfOk-weaker c.scan_task.result _ _ (λ t h. rw c.in-scan.is (ap (λ (r : Request). Some r) (sym h))) c.scan_task.ensures

pub returns-in-explain : goal.returns-in-explain
unfolding request_of requests
returns-in-explain c = IfOk-weaker c.explain_task.result _ _ (λ t h. rw c.in-explain.is (ap (λ (r : Request). Some r) (sym h))) c.explain_task.ensures

pub returns-in-verdict : goal.returns-in-verdict
unfolding request_of requests
returns-in-verdict c = IfOk-weaker c.verdict_task.result _ _ (λ t h. rw c.in-verdict.is (ap (λ (r : Request). Some r) (sym h))) c.verdict_task.ensures

pub returns-in-list : goal.returns-in-list
unfolding request_of requests
returns-in-list c = IfOk-weaker c.list_task.result _ _ (λ t h. rw c.in-list.is (ap (λ (r : Request). Some r) (sym h))) c.list_task.ensures

pub returns-in-find : goal.returns-in-find
unfolding request_of requests
returns-in-find c = IfOk-weaker c.find_task.result _ _ (λ t h. rw c.in-find.is (ap (λ (r : Request). Some r) (sym h))) c.find_task.ensures

pub returns-in-check : goal.returns-in-check
unfolding request_of requests
returns-in-check c = IfOk-weaker c.check_task.result _ _ (λ t h. rw c.in-check.is (ap (λ (r : Request). Some r) (sym h))) c.check_task.ensures

pub returns-in-upgrade : goal.returns-in-upgrade
unfolding request_of requests
returns-in-upgrade c = IfOk-weaker c.upgrade_task.result _ _ (λ t h. rw c.in-upgrade.is (ap (λ (r : Request). Some r) (sym h))) c.upgrade_task.ensures

pub returns-in-bare : goal.returns-in-bare
unfolding request_of requests
returns-in-bare c = IfOk-weaker c.bare_task.result _ _ (λ t h. rw c.in-bare.is (ap (λ (r : Request). Some r) (sym h))) c.bare_task.ensures

pub unreachable-requires : goal.unreachable-requires
unfolding request_of requests
unreachable-requires c =
    let d = c.in_default in
    let none = rw (differs _ _ d.not-scan, differs _ _ d.not-explain, differs _ _ d.not-verdict, differs _ _ d.not-list, differs _ _ d.not-find, differs _ _ d.not-check, differs _ _ d.not-upgrade, differs _ _ d.not-bare) at c.requires in
    cc
