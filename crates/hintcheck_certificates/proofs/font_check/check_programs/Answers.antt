use Rattle.std.proofs.Common.{refl, arith, ◌∙◌, ap}
use Rattle.std.proofs.KnownBytes.{Consumes-nil}
use Rattle.std.proofs.lemmas.Result.{err_from_is_err_and}
use Rattle.tt_stream.proofs.Beginnings.{consumes_beginning, consumes_then}
use Rattle.tt_family.proofs.Spending.{spends_on}
use Rattle.hintcheck_certificates.proofs.CheckedSections.{counts_from, finds_fault}
use Rattle.hintcheck_certificates.proofs.SessionRuns.{all_checked_good, checked_all, checked_fault, checked_next, fewer_after, nothing_checked, read_failed}
use Rattle.hintcheck_certificates.proofs.UnreadBytes.{all_unread, unread_last, unread_next}
use Rattle.hintcheck_certificates.proofs.font_check.check_programs.Goals as goal

pub loop-refused-init : goal.loop-refused-init
loop-refused-init g c =
    let bytes = g.S.Source.remaining c.args.source.now in (
      nothing_checked c.args.font.now bytes c.new-session.result c.new-refused.result.items c.new-session.ensures c.new-refused.ensures.items,
      refl,
      consumes_beginning _ _ _ (Consumes-nil bytes),
      (refl, omega arith),
      all_unread c.args.font.now bytes c.new-session.result c.new-refused.result.items c.new-session.ensures c.new-refused.ensures.items,
      refl,
    )

pub check_next_within-requires : goal.check_next_within-requires
check_next_within-requires g c = λ none. c.loop-refused.invariant.0.starts

pub returns-in_err-outcome-clause-exact : goal.returns-in_err-outcome-clause-exact
returns-in_err-outcome-clause-exact g c = λ told.
    let p = err_from_is_err_and c.from_residual.result c.from_residual.ensures.1 in
    let so_far = c.loop-refused.invariant.0 in
    rw (p.1, p.2) (finds_fault _ _ _ _ c.in_err-outcome.field-0.0 (c.in_err-outcome.ensures.exact so_far.none (so_far.told told))
    (λ place fault. checked_fault c.args.font.now _ c.loop-refused.session _ c.loop-refused.refused.items place so_far told fault))

pub returns-in_err-outcome-clause-beginning : goal.returns-in_err-outcome-clause-beginning
returns-in_err-outcome-clause-beginning g c = consumes_then _ _ _ c.loop-refused.invariant.2 c.check_next_within.ensures.beginning

pub returns-in_err-outcome-clause-failures : goal.returns-in_err-outcome-clause-failures
returns-in_err-outcome-clause-failures g c =
    let p = err_from_is_err_and c.from_residual.result c.from_residual.ensures.1 in
    rw (p.1, p.2) (counts_from c.in_err-outcome.field-0.0 _ _ _ c.loop-refused.invariant.1 (c.in_err-outcome.ensures.failures c.loop-refused.invariant.0.none))

pub loop-refused-smaller : goal.loop-refused-smaller
loop-refused-smaller g c =
    let e = c.in_ok-outcome.ensures in
    fewer_after c.loop-refused.session c.check_next_within.new.self c.in_ok-outcome.field-0 c.in-Some.outcome c.in-Some.is e.font e.sound

pub loop-refused-preserved : goal.loop-refused-preserved
loop-refused-preserved g c =
    let e = c.in_ok-outcome.ensures in
    let so_far = c.loop-refused.invariant.0 in (
      checked_next c.args.font.now (g.S.Source.remaining c.args.source.now) c.loop-refused.session c.check_next_within.new.self (g.S.Source.remaining c.loop-refused.source)
          (g.S.Source.remaining c.check_next_within.new.source) c.loop-refused.refused.items c.list_outcome.new.refused.items c.in_ok-outcome.field-0 c.in-Some.outcome c.in-Some.is so_far
          e.font e.no_fault e.checking e.sound c.in_ok-list_outcome.ensures (e.exact so_far.none),
      e.failures so_far.none ∙ c.loop-refused.invariant.1,
      consumes_then _ _ _ c.loop-refused.invariant.2 c.check_next_within.ensures.beginning,
      spends_on c.args.budget.now c.loop-refused.budget c.check_next_within.new.budget c.loop-refused.invariant.3 c.check_next_within.ensures.spends,
      unread_next (g.S.Source.remaining c.args.source.now) (g.S.Source.remaining c.loop-refused.source) (g.S.Source.remaining c.check_next_within.new.source) c.loop-refused.session
          c.check_next_within.new.self c.loop-refused.refused.items c.list_outcome.new.refused.items c.in_ok-outcome.field-0 c.in-Some.outcome c.in-Some.is c.loop-refused.invariant.4
          (λ told. e.exact so_far.none (so_far.told told)) c.in_ok-list_outcome.ensures,
      e.ends so_far.none ∙ c.loop-refused.invariant.5,
    )

pub returns-in_err-list_outcome-clause-beginning : goal.returns-in_err-list_outcome-clause-beginning
returns-in_err-list_outcome-clause-beginning g c = consumes_then _ _ _ c.loop-refused.invariant.2 c.check_next_within.ensures.beginning

pub returns-in_err-list_outcome-clause-failures : goal.returns-in_err-list_outcome-clause-failures
returns-in_err-list_outcome-clause-failures g c =
    let p = err_from_is_err_and c.from_residual-in_err-list_outcome.result c.from_residual-in_err-list_outcome.ensures.1 in
    let e = c.in_ok-outcome.ensures in
    rw (p.1, p.2) (e.failures c.loop-refused.invariant.0.none ∙ c.loop-refused.invariant.1)

pub returns-clause-good : goal.returns-clause-good
returns-clause-good g c =
    let e = c.in_ok-outcome.ensures in
    all_checked_good c.args.font.now _ c.loop-refused.session c.check_next_within.new.self _ c.loop-refused.refused.items c.in_ok-outcome.field-0 c.in_default.is c.loop-refused.invariant.0 e.sound

pub returns-clause-exact : goal.returns-clause-exact
returns-clause-exact g c =
    let so_far = c.loop-refused.invariant.0 in
    let e = c.in_ok-outcome.ensures in
    checked_all c.args.font.now _ c.loop-refused.session c.check_next_within.new.self _ _ c.loop-refused.refused.items c.in_ok-outcome.field-0 c.in_default.is so_far (e.exact so_far.none)

pub returns-clause-beginning : goal.returns-clause-beginning
returns-clause-beginning g c = consumes_then _ _ _ c.loop-refused.invariant.2 c.check_next_within.ensures.beginning

pub returns-clause-failures : goal.returns-clause-failures
returns-clause-failures g c = let e = c.in_ok-outcome.ensures in e.failures c.loop-refused.invariant.0.none ∙ c.loop-refused.invariant.1

pub returns-in_err-outcome-clause-whole_units : goal.returns-in_err-outcome-clause-whole_units
returns-in_err-outcome-clause-whole_units g c =
    let p = err_from_is_err_and c.from_residual.result c.from_residual.ensures.1 in
    let so_far = c.loop-refused.invariant.0 in
    rw (p.1, p.2) (read_failed c.args.font.now (g.S.Source.remaining c.args.source.now) c.loop-refused.session (g.S.Source.remaining c.loop-refused.source)
    (g.S.Source.remaining c.check_next_within.new.source) c.loop-refused.refused.items c.in_err-outcome.field-0.0 so_far (c.in_err-outcome.ensures.whole_units so_far.none))

pub returns-clause-unread : goal.returns-clause-unread
returns-clause-unread g c =
    let so_far = c.loop-refused.invariant.0 in
    let e = c.in_ok-outcome.ensures in
    unread_last (g.S.Source.remaining c.args.source.now) (g.S.Source.remaining c.loop-refused.source) (g.S.Source.remaining c.check_next_within.new.source) c.loop-refused.session
    c.check_next_within.new.self c.loop-refused.refused.items c.in_ok-outcome.field-0 c.in_default.is c.loop-refused.invariant.4 (λ told. e.exact so_far.none (so_far.told told))
    (λ last. ap g.S.Source.remaining (c.check_next_within.ensures.after_none so_far.none last).2) c.check_next_within.ensures.beginning
