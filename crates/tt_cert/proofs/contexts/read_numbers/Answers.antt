use Rattle.std.proofs.Common.{◌≡◌, ◌∙◌, refl, sym, true}
use Rattle.std.proofs.lemmas.Result.{err_from_is_err_and}
use Rattle.tt_stream.proofs.Beginnings.{consumes_then}
use Rattle.tt_cert.specs.Readers.{made_of}
use Rattle.tt_cert.specs.Reading.{context_at, context_from, long_at, numbers_at, word_at}
use Rattle.tt_cert.specs.Rules.{may_follow}
use Rattle.tt_cert.proofs.Stops.{stops_first, stops_made, stops_ruled, stops_second}
use Rattle.tt_cert.proofs.SteadyUnits.{after_parent, long_steady, three_longs, two_longs, word_steady}
use Rattle.tt_cert.proofs.contexts.read_numbers.Goals as goal

pub returns-in_err-call-clause-beginning : goal.returns-in_err-call-clause-beginning
returns-in_err-call-clause-beginning g c = consumes_then _ _ _ c.read_word.ensures.beginning c.read_long.ensures.beginning

pub returns-in_err-body-clause-beginning : goal.returns-in_err-body-clause-beginning
returns-in_err-body-clause-beginning g c = consumes_then _ _ _ (consumes_then _ _ _ c.read_word.ensures.beginning c.read_long.ensures.beginning) c.read_long-2.ensures.beginning

pub returns-in_err-turn-clause-beginning : goal.returns-in_err-turn-clause-beginning
returns-in_err-turn-clause-beginning g c = consumes_then _ _ _ (consumes_then _ _ _ (consumes_then _ _ _ c.read_word.ensures.beginning c.read_long.ensures.beginning) c.read_long-2.ensures.beginning) c.read_long-3.ensures.beginning

pub returns-in_err-count-clause-beginning : goal.returns-in_err-count-clause-beginning
returns-in_err-count-clause-beginning g c = consumes_then _ _ _ (consumes_then _ _ _ (consumes_then _ _ _ (consumes_then _ _ _ c.read_word.ensures.beginning c.read_long.ensures.beginning) c.read_long-2.ensures.beginning) c.read_long-3.ensures.beginning) c.read_long-4.ensures.beginning

pub returns-then-not-may_follow-clause-beginning : goal.returns-then-not-may_follow-clause-beginning
returns-then-not-may_follow-clause-beginning g c = consumes_then _ _ _ (consumes_then _ _ _ (consumes_then _ _ _ (consumes_then _ _ _ c.read_word.ensures.beginning c.read_long.ensures.beginning) c.read_long-2.ensures.beginning) c.read_long-3.ensures.beginning) c.read_long-4.ensures.beginning

pub returns-clause-beginning : goal.returns-clause-beginning
returns-clause-beginning g c = consumes_then _ _ _ (consumes_then _ _ _ (consumes_then _ _ _ (consumes_then _ _ _ c.read_word.ensures.beginning c.read_long.ensures.beginning) c.read_long-2.ensures.beginning) c.read_long-3.ensures.beginning) c.read_long-4.ensures.beginning

pub returns-in_err-call-clause-stopped : goal.returns-in_err-call-clause-stopped
unfolding context_at
returns-in_err-call-clause-stopped g c =
    let p = err_from_is_err_and c.from_residual-in_err-call.result c.from_residual-in_err-call.ensures.1 in
    let e = c.in_err-call.field-0.0 in
    rw (p.1, p.2) (stops_ruled (may_follow c.args.before.now) (made_of context_from numbers_at) _ _ _ e (stops_made context_from numbers_at _ _ _ e
    (stops_second word_at (λ _. after_parent) _ _ _ _ _ _ e word_steady c.in_ok-parent.ensures.reads
    (stops_first long_at (λ _. three_longs) _ _ _ e c.in_err-call.ensures.stopped))))

pub returns-in_err-body-clause-stopped : goal.returns-in_err-body-clause-stopped
unfolding context_at
returns-in_err-body-clause-stopped g c =
    let p = err_from_is_err_and c.from_residual-in_err-body.result c.from_residual-in_err-body.ensures.1 in
    let e = c.in_err-body.field-0.0 in
    rw (p.1, p.2) (stops_ruled (may_follow c.args.before.now) (made_of context_from numbers_at) _ _ _ e (stops_made context_from numbers_at _ _ _ e
    (stops_second word_at (λ _. after_parent) _ _ _ _ _ _ e word_steady c.in_ok-parent.ensures.reads
    (stops_second long_at (λ _. three_longs) _ _ _ _ _ _ e long_steady c.in_ok-call.ensures.reads
    (stops_first long_at (λ _. two_longs) _ _ _ e c.in_err-body.ensures.stopped)))))

pub returns-in_err-turn-clause-stopped : goal.returns-in_err-turn-clause-stopped
unfolding context_at
returns-in_err-turn-clause-stopped g c =
    let p = err_from_is_err_and c.from_residual-in_err-turn.result c.from_residual-in_err-turn.ensures.1 in
    let e = c.in_err-turn.field-0.0 in
    rw (p.1, p.2) (stops_ruled (may_follow c.args.before.now) (made_of context_from numbers_at) _ _ _ e (stops_made context_from numbers_at _ _ _ e
    (stops_second word_at (λ _. after_parent) _ _ _ _ _ _ e word_steady c.in_ok-parent.ensures.reads
    (stops_second long_at (λ _. three_longs) _ _ _ _ _ _ e long_steady c.in_ok-call.ensures.reads
    (stops_second long_at (λ _. two_longs) _ _ _ _ _ _ e long_steady c.in_ok-body.ensures.reads
    (stops_first long_at (λ _. long_at) _ _ _ e c.in_err-turn.ensures.stopped))))))

pub returns-in_err-count-clause-stopped : goal.returns-in_err-count-clause-stopped
unfolding context_at
returns-in_err-count-clause-stopped g c =
    let p = err_from_is_err_and c.from_residual-in_err-count.result c.from_residual-in_err-count.ensures.1 in
    let e = c.in_err-count.field-0.0 in
    rw (p.1, p.2) (stops_ruled (may_follow c.args.before.now) (made_of context_from numbers_at) _ _ _ e (stops_made context_from numbers_at _ _ _ e
    (stops_second word_at (λ _. after_parent) _ _ _ _ _ _ e word_steady c.in_ok-parent.ensures.reads
    (stops_second long_at (λ _. three_longs) _ _ _ _ _ _ e long_steady c.in_ok-call.ensures.reads
    (stops_second long_at (λ _. two_longs) _ _ _ _ _ _ e long_steady c.in_ok-body.ensures.reads
    (stops_second long_at (λ _. long_at) _ _ _ _ _ _ e long_steady c.in_ok-turn.ensures.reads c.in_err-count.ensures.stopped))))))

pub returns-in_err-parent-clause-stopped : goal.returns-in_err-parent-clause-stopped
unfolding context_at
returns-in_err-parent-clause-stopped g c =
    let p = err_from_is_err_and c.from_residual.result c.from_residual.ensures.1 in
    let e = c.in_err-parent.field-0.0 in
    rw (p.1, p.2) (stops_ruled (may_follow c.args.before.now) (made_of context_from numbers_at) _ _ _ e (stops_made context_from numbers_at _ _ _ e
    (stops_first word_at (λ _. after_parent) _ _ _ e c.in_err-parent.ensures.stopped)))

pub returns-clause-reads : goal.returns-clause-reads
unfolding context_at
returns-clause-reads g c = λ known.
    let parent = c.in_ok-parent.ensures.reads known in
    let call = c.in_ok-call.ensures.reads parent.0 in
    let body = c.in_ok-body.ensures.reads call.0 in
    let turn = c.in_ok-turn.ensures.reads body.0 in
    let count = c.in_ok-count.ensures.reads turn.0 in
    let follows : may_follow c.args.before.now (c.in_ok-parent.parent, record { body = c.in_ok-body.body; call = c.in_ok-call.call; turn = c.in_ok-turn.turn; count = c.in_ok-count.count }) ≡ true =
    rw c.from.ensures at (sym c.may_follow.ensures ∙ c.if-not-may_follow.false) in
    (count.0, rw (c.from.ensures, parent.1, call.1, body.1, turn.1, count.1, follows) refl)
