use Rattle.std.proofs.Common.{ℕ, Some, arith, length, refl, subst, ◌∙◌, ◌≡◌}
use Rattle.std.proofs.KnownBytes.{Consumes-nil}
use Rattle.std.proofs.lemmas.Result.{err_from_is_err_and}
use Rattle.tt_cert.specs.Answers.{input_at}
use Rattle.tt_cert.specs.declared.form.Form.{Form}
use Rattle.tt_stream.proofs.Beginnings.{consumes_beginning, consumes_then}
use Rattle.hintcheck_certificates.specs.Certificates.{HasNoSection}
use Rattle.hintcheck_certificates.specs.Upgrades.{AreBegun, AreUpgraded, name_at}
use Rattle.hintcheck_certificates.proofs.UpgradeSteps.{begun_on, comes_on, lack_next, none_upgraded, reads_on, upgraded_on, writes_on}
use Rattle.tt_cert.specs.Readers.{place_after}
use Rattle.hintcheck_certificates.specs.FailedReads.{HasReadOld}
use Rattle.hintcheck_certificates.proofs.UpgradeReads.{lack_after}
use Rattle.hintcheck_certificates.proofs.certificate_upgrade.upgrade_sections.Goals as goal

pub loop-number-init : goal.loop-number-init
loop-number-init g c = record {
  told = λ told. (told, none_upgraded c.args.progress.now.form (input_at c.args.progress.now.place (g.S.Source.remaining c.args.source.now)) (g.W.Sink.contents c.args.sink.now));
  form = refl;
  beginning = consumes_beginning _ _ _ (Consumes-nil (g.S.Source.remaining c.args.source.now));
  reads = refl;
  writes = refl;
}

pub loop-number-preserved : goal.loop-number-preserved
loop-number-preserved g c =
    let form = c.args.progress.now.form in
    let first = input_at c.args.progress.now.place (g.S.Source.remaining c.args.source.now) in
    let here = input_at c.loop-number.progress.place (g.S.Source.remaining c.loop-number.source) in
    let there = input_at c.upgrade_section.new.progress.place (g.S.Source.remaining c.upgrade_section.new.source) in
    let contents = g.W.Sink.contents in
    let before = c.loop-number.invariant in
    let U : Form → Type 0 = λ f. AreUpgraded f c.loop-number.number 1 here there (contents c.loop-number.sink) (contents c.upgrade_section.new.sink) in
    record {
      told = λ told.
          let known = before.told told in
          let next = c.in_ok-upgrade_section.ensures.section known.0 in (
            next.0,
            upgraded_on form c.loop-number.number first here there (contents c.args.sink.now) (contents c.loop-number.sink) (contents c.upgrade_section.new.sink) known.1
                (subst U before.form next.1),
          );
      form = c.in_ok-upgrade_section.ensures.form ∙ before.form;
      beginning = consumes_then _ _ _ before.beginning c.upgrade_section.ensures.beginning;
      reads = c.in_ok-upgrade_section.ensures.reads ∙ before.reads;
      writes = c.in_ok-upgrade_section.ensures.writes ∙ before.writes;
    }

pub returns-in_err-upgrade_section-clause-sections : goal.returns-in_err-upgrade_section-clause-sections
returns-in_err-upgrade_section-clause-sections g c = λ told.
    let p = err_from_is_err_and c.from_residual.result c.from_residual.ensures.1 in
    let form = c.args.progress.now.form in
    let first = input_at c.args.progress.now.place (g.S.Source.remaining c.args.source.now) in
    let here = input_at c.loop-number.progress.place (g.S.Source.remaining c.loop-number.source) in
    let contents = g.W.Sink.contents in
    let before = c.loop-number.invariant in
    let known = before.told told in
    let H : ℕ → Form → Type 0 = λ place f. HasNoSection f here (name_at c.loop-number.number) place in
    rw (p.1, p.2) (comes_on _ _ _ _ c.in_err-upgrade_section.field-0.0 (c.in_err-upgrade_section.ensures.section known.0)
    (λ place absent. lack_next form c.loop-number.number c.args.count first here (contents c.args.sink.now) (contents c.loop-number.sink) place known.1 c.loop-number-test.true
    (subst (H place) before.form absent)))

pub returns-in_err-upgrade_section-clause-begun : goal.returns-in_err-upgrade_section-clause-begun
returns-in_err-upgrade_section-clause-begun g c = λ told.
    let p = err_from_is_err_and c.from_residual.result c.from_residual.ensures.1 in
    let form = c.args.progress.now.form in
    let first = input_at c.args.progress.now.place (g.S.Source.remaining c.args.source.now) in
    let here = input_at c.loop-number.progress.place (g.S.Source.remaining c.loop-number.source) in
    let contents = g.W.Sink.contents in
    let before = c.loop-number.invariant in
    let known = before.told told in
    let B : Form → Type 0 = λ f. AreBegun f c.loop-number.number 1 here (contents c.loop-number.sink) (contents c.upgrade_section.new.sink) in
    rw p.1
    (begun_on form c.loop-number.number c.args.count first here (contents c.args.sink.now) (contents c.loop-number.sink) (contents c.upgrade_section.new.sink) known.1
    (subst B before.form (c.in_err-upgrade_section.ensures.begun known.0)) c.loop-number-test.true)

pub returns-in_err-upgrade_section-clause-beginning : goal.returns-in_err-upgrade_section-clause-beginning
returns-in_err-upgrade_section-clause-beginning g c = consumes_then _ _ _ c.loop-number.invariant.beginning c.upgrade_section.ensures.beginning

pub returns-in_err-upgrade_section-clause-reads : goal.returns-in_err-upgrade_section-clause-reads
returns-in_err-upgrade_section-clause-reads g c =
    let p = err_from_is_err_and c.from_residual.result c.from_residual.ensures.1 in
    rw (p.1, p.2) (reads_on c.in_err-upgrade_section.field-0.0 _ _ _ c.loop-number.invariant.reads c.in_err-upgrade_section.ensures.reads)

pub returns-in_err-upgrade_section-clause-writes : goal.returns-in_err-upgrade_section-clause-writes
returns-in_err-upgrade_section-clause-writes g c =
    let p = err_from_is_err_and c.from_residual.result c.from_residual.ensures.1 in
    rw (p.1, p.2) (writes_on c.in_err-upgrade_section.field-0.0 _ _ _ c.loop-number.invariant.writes c.in_err-upgrade_section.ensures.writes)

pub returns-clause-sections : goal.returns-clause-sections
returns-clause-sections g c = λ told.
    let first = input_at c.args.progress.now.place (g.S.Source.remaining c.args.source.now) in
    let here = input_at c.loop-number.progress.place (g.S.Source.remaining c.loop-number.source) in
    let known = c.loop-number.invariant.told told in
    let n : c.loop-number.number ≡ c.args.count = omega (arith, c.loop-number-test.false, c.loop-number.auto.number-end) in
    let U : ℕ → Type 0 = λ k. AreUpgraded c.args.progress.now.form 0 k first here (g.W.Sink.contents c.args.sink.now) (g.W.Sink.contents c.loop-number.sink) in
    (known.0, subst U n known.1)

pub returns-in_err-upgrade_section-clause-stopped : goal.returns-in_err-upgrade_section-clause-stopped
returns-in_err-upgrade_section-clause-stopped g c =
    let p = err_from_is_err_and c.from_residual.result c.from_residual.ensures.1 in
    let form = c.args.progress.now.form in
    let left = g.S.Source.remaining in
    let contents = g.W.Sink.contents in
    let before = c.loop-number.invariant in
    let at = c.loop-number.progress.place in
    let H : Form → Type 0 = λ f. HasReadOld (left c.loop-number.source) (left c.upgrade_section.new.source)
    (λ front. HasNoSection f (input_at at (Some front)) (name_at c.loop-number.number) (place_after at (length front))) c.in_err-upgrade_section.field-0.0 in
    rw (p.1, p.2) (lack_after form c.loop-number.number c.args.count c.args.progress.now.place at (left c.args.source.now) (left c.loop-number.source) (left c.upgrade_section.new.source)
    (contents c.args.sink.now) (contents c.loop-number.sink) c.in_err-upgrade_section.field-0.0 c.loop-number-test.true before.told
    (subst H before.form c.in_err-upgrade_section.ensures.stopped))
