use Rattle.std.proofs.Common.{arith}
use Rattle.std.proofs.lemmas.Result.{err_from_is_err_and}
use Rattle.tt_stream.proofs.Beginnings.{consumes_then}
use Rattle.tt_cert.specs.Answers.{input_at}
use Rattle.hintcheck_certificates.specs.CheckedFonts.{bytes_in}
use Rattle.hintcheck_certificates.proofs.UpgradeChecks.{accepts_from, keeps_families, upgrade_passes}
use Rattle.hintcheck_certificates.proofs.UpgradeSteps.{all_begun, all_upgraded, all_written, comes_on, followed_by_more, header_begun, header_fails, more_follows, nothing_written, of_no_font, programs_are, section_lacks, sections_begun, too_few, too_many}
use Rattle.hintcheck_certificates.proofs.UpgradeReads.{encode_no_read, old_end_not_read, old_header_cut_short, old_sections_cut_short}
use Rattle.hintcheck_certificates.proofs.certificate_upgrade.upgrade.Goals as goal
use Rattle.hintcheck_certificates.proofs.certificate_upgrade.upgrade.Goals.{then-count-lt-FEWEST-via-then-count-lt-FEWEST, then-count-lt-FEWEST-via-else-count-lt-FEWEST+then-count-gt-MOST}

pub returns-in_err-form-clause-exact : goal.returns-in_err-form-clause-exact
returns-in_err-form-clause-exact g c = λ told.
    let p = err_from_is_err_and c.from_residual.result c.from_residual.ensures.1 in
    let left = g.S.Source.remaining in
    rw (p.1, p.2) (header_fails _ (left c.args.source.now) (left c.read_form.new.source) c.in_err-form.field-0.0 c.in_err-form.ensures.exact told)

pub returns-in_err-form-clause-begun : goal.returns-in_err-form-clause-begun
returns-in_err-form-clause-begun g c = λ told.
    let p = err_from_is_err_and c.from_residual.result c.from_residual.ensures.1 in
    rw p.1 (nothing_written (bytes_in (g.S.Source.remaining c.args.source.now)) (g.W.Sink.contents c.args.sink.now))

pub returns-then-count-lt-FEWEST-clause-exact : goal.returns-then-count-lt-FEWEST-clause-exact
returns-then-count-lt-FEWEST-clause-exact g c = λ told.
    let left = g.S.Source.remaining in
    let form = c.in_ok-form.form in
    let count = c.in_ok-form.count in
    let gives = c.in_ok-form.ensures.exact in
    elim c.then-count-lt-FEWEST.branch [
      | then-count-lt-FEWEST-via-then-count-lt-FEWEST w ↦ of_no_font (left c.args.source.now) (left c.read_form.new.source) form count gives (too_few count (omega (arith, w.if-count-lt-FEWEST.true))) told
      | then-count-lt-FEWEST-via-else-count-lt-FEWEST+then-count-gt-MOST w ↦
          of_no_font (left c.args.source.now) (left c.read_form.new.source) form count gives (too_many count (omega (arith, w.if-count-gt-MOST.true))) told
    ]

pub returns-then-count-lt-FEWEST-clause-begun : goal.returns-then-count-lt-FEWEST-clause-begun
returns-then-count-lt-FEWEST-clause-begun g c = λ told. nothing_written (bytes_in (g.S.Source.remaining c.args.source.now)) (g.W.Sink.contents c.args.sink.now)

pub returns-in_err-write_header-clause-begun : goal.returns-in_err-write_header-clause-begun
returns-in_err-write_header-clause-begun g c = λ told.
    let p = err_from_is_err_and c.from_residual-in_err-write_header.result c.from_residual-in_err-write_header.ensures.1 in
    let left = g.S.Source.remaining in
    let contents = g.W.Sink.contents in
    let count = c.in_ok-form.count in
    let programs = programs_are count (omega (arith, c.if-count-lt-FEWEST.false)) (omega (arith, c.if-count-gt-MOST.false)) in
    rw p.1
    (header_begun (left c.args.source.now) (left c.read_form.new.source) c.in_ok-form.form count c.in_ok-form.ensures.exact programs told (contents c.args.sink.now)
    (contents c.write_header.new.sink) c.in_err-write_header.ensures.beginning)

pub returns-in_err-upgrade_sections-clause-exact : goal.returns-in_err-upgrade_sections-clause-exact
returns-in_err-upgrade_sections-clause-exact g c = λ told.
    let p = err_from_is_err_and c.from_residual-in_err-upgrade_sections.result c.from_residual-in_err-upgrade_sections.ensures.1 in
    let left = g.S.Source.remaining in
    let count = c.in_ok-form.count in
    let programs = programs_are count (omega (arith, c.if-count-lt-FEWEST.false)) (omega (arith, c.if-count-gt-MOST.false)) in
    let told_now = (c.in_ok-form.ensures.exact told).0 in
    rw (p.1, p.2) (comes_on _ _ _ _ c.in_err-upgrade_sections.field-0.0 (c.in_err-upgrade_sections.ensures.sections told_now)
    (λ place lacks. section_lacks (left c.args.source.now) (left c.read_form.new.source) c.in_ok-form.form count place c.in_ok-form.ensures.exact programs told lacks))

pub returns-in_err-upgrade_sections-clause-accepts : goal.returns-in_err-upgrade_sections-clause-accepts
returns-in_err-upgrade_sections-clause-accepts g c = λ told are d lt checked.
    let p = err_from_is_err_and c.from_residual-in_err-upgrade_sections.result c.from_residual-in_err-upgrade_sections.ensures.1 in
    accepts_from d (bytes_in (g.S.Source.remaining c.args.source.now)) c.from_residual-in_err-upgrade_sections.result _ _ are lt checked
    (returns-in_err-upgrade_sections-clause-exact g c told) (rw p.1 tt)

pub returns-in_err-upgrade_sections-clause-beginning : goal.returns-in_err-upgrade_sections-clause-beginning
returns-in_err-upgrade_sections-clause-beginning g c = consumes_then _ _ _ c.read_form.ensures.beginning c.upgrade_sections.ensures.beginning

pub returns-in_err-upgrade_sections-clause-begun : goal.returns-in_err-upgrade_sections-clause-begun
returns-in_err-upgrade_sections-clause-begun g c = λ told.
    let p = err_from_is_err_and c.from_residual-in_err-upgrade_sections.result c.from_residual-in_err-upgrade_sections.ensures.1 in
    let left = g.S.Source.remaining in
    let contents = g.W.Sink.contents in
    let count = c.in_ok-form.count in
    let programs = programs_are count (omega (arith, c.if-count-lt-FEWEST.false)) (omega (arith, c.if-count-gt-MOST.false)) in
    let told_now = (c.in_ok-form.ensures.exact told).0 in
    rw p.1
    (sections_begun (left c.args.source.now) (left c.read_form.new.source) c.in_ok-form.form count c.in_ok-form.ensures.exact programs told (contents c.args.sink.now)
    (contents c.write_header.new.sink) (contents c.upgrade_sections.new.sink) c.in_ok-write_header.ensures.written (c.in_err-upgrade_sections.ensures.begun told_now))

pub returns-in_err-read_end-clause-exact : goal.returns-in_err-read_end-clause-exact
returns-in_err-read_end-clause-exact g c = λ told.
    let p = err_from_is_err_and c.from_residual-in_err-read_end.result c.from_residual-in_err-read_end.ensures.1 in
    let left = g.S.Source.remaining in
    let contents = g.W.Sink.contents in
    let count = c.in_ok-form.count in
    let programs = programs_are count (omega (arith, c.if-count-lt-FEWEST.false)) (omega (arith, c.if-count-gt-MOST.false)) in
    let read = c.in_ok-upgrade_sections.ensures.sections (c.in_ok-form.ensures.exact told).0 in
    let place = c.upgrade_sections.new.progress.place in
    let last = left c.upgrade_sections.new.source in
    rw (p.1, p.2) (followed_by_more _ c.in_err-read_end.field-0.0 _ place last c.in_err-read_end.ensures.followed
    (more_follows (left c.args.source.now) (left c.read_form.new.source) last c.in_ok-form.form count place (contents c.write_header.new.sink) (contents c.upgrade_sections.new.sink)
    c.in_ok-form.ensures.exact programs told read.1 read.0))

pub returns-in_err-read_end-clause-accepts : goal.returns-in_err-read_end-clause-accepts
returns-in_err-read_end-clause-accepts g c = λ told are d lt checked.
    let p = err_from_is_err_and c.from_residual-in_err-read_end.result c.from_residual-in_err-read_end.ensures.1 in
    accepts_from d (bytes_in (g.S.Source.remaining c.args.source.now)) c.from_residual-in_err-read_end.result _ _ are lt checked (returns-in_err-read_end-clause-exact g c told) (rw p.1 tt)

pub returns-in_err-read_end-clause-beginning : goal.returns-in_err-read_end-clause-beginning
returns-in_err-read_end-clause-beginning g c = consumes_then _ _ _ (consumes_then _ _ _ c.read_form.ensures.beginning c.upgrade_sections.ensures.beginning) c.read_end.ensures.beginning

pub returns-in_err-read_end-clause-begun : goal.returns-in_err-read_end-clause-begun
returns-in_err-read_end-clause-begun g c = λ told.
    let p = err_from_is_err_and c.from_residual-in_err-read_end.result c.from_residual-in_err-read_end.ensures.1 in
    let left = g.S.Source.remaining in
    let contents = g.W.Sink.contents in
    let form = c.in_ok-form.form in
    let count = c.in_ok-form.count in
    let programs = programs_are count (omega (arith, c.if-count-lt-FEWEST.false)) (omega (arith, c.if-count-gt-MOST.false)) in
    let read = c.in_ok-upgrade_sections.ensures.sections (c.in_ok-form.ensures.exact told).0 in
    let first = input_at 10 (left c.read_form.new.source) in
    let last = input_at c.upgrade_sections.new.progress.place (left c.upgrade_sections.new.source) in
    let header = contents c.write_header.new.sink in
    let whole = contents c.upgrade_sections.new.sink in
    rw p.1
    (sections_begun (left c.args.source.now) (left c.read_form.new.source) form count c.in_ok-form.ensures.exact programs told (contents c.args.sink.now) header whole
    c.in_ok-write_header.ensures.written (all_begun form count first last header whole read.1))

pub returns-clause-exact : goal.returns-clause-exact
returns-clause-exact g c = λ told.
    let left = g.S.Source.remaining in
    let contents = g.W.Sink.contents in
    let count = c.in_ok-form.count in
    let programs = programs_are count (omega (arith, c.if-count-lt-FEWEST.false)) (omega (arith, c.if-count-gt-MOST.false)) in
    let read = c.in_ok-upgrade_sections.ensures.sections (c.in_ok-form.ensures.exact told).0 in
    all_upgraded (left c.args.source.now) (left c.read_form.new.source) (left c.upgrade_sections.new.source) c.in_ok-form.form count c.upgrade_sections.new.progress.place
    (contents c.write_header.new.sink) (contents c.upgrade_sections.new.sink) c.in_ok-form.ensures.exact programs told read.1 read.0 c.in_ok-read_end.ensures.ended.0

pub returns-clause-written : goal.returns-clause-written
returns-clause-written g c = λ told.
    let left = g.S.Source.remaining in
    let contents = g.W.Sink.contents in
    let count = c.in_ok-form.count in
    let programs = programs_are count (omega (arith, c.if-count-lt-FEWEST.false)) (omega (arith, c.if-count-gt-MOST.false)) in
    let read = c.in_ok-upgrade_sections.ensures.sections (c.in_ok-form.ensures.exact told).0 in
    all_written (left c.args.source.now) (left c.read_form.new.source) (left c.upgrade_sections.new.source) c.in_ok-form.form count c.upgrade_sections.new.progress.place
    (contents c.write_header.new.sink) (contents c.upgrade_sections.new.sink) c.in_ok-form.ensures.exact programs told read.1 (contents c.args.sink.now)
    c.in_ok-write_header.ensures.written read.0 c.in_ok-read_end.ensures.ended.0

pub returns-clause-kept : goal.returns-clause-kept
returns-clause-kept g c = λ told are.
    let (text, is, appends) = returns-clause-written g c told in
    (text, keeps_families (bytes_in (g.S.Source.remaining c.args.source.now)) text are is, appends)

pub returns-clause-accepts : goal.returns-clause-accepts
returns-clause-accepts g c = λ told are d lt checked.
    let (text, is, appends) = returns-clause-written g c told in
    (text, upgrade_passes d (bytes_in (g.S.Source.remaining c.args.source.now)) text are is checked, appends)

pub returns-clause-beginning : goal.returns-clause-beginning
returns-clause-beginning g c = consumes_then _ _ _ (consumes_then _ _ _ c.read_form.ensures.beginning c.upgrade_sections.ensures.beginning) c.read_end.ensures.beginning

pub returns-in_err-form-clause-whole_units : goal.returns-in_err-form-clause-whole_units
returns-in_err-form-clause-whole_units g c =
    let p = err_from_is_err_and c.from_residual.result c.from_residual.ensures.1 in
    rw (p.1, p.2) (old_header_cut_short _ _ c.in_err-form.field-0.0 c.in_err-form.ensures.whole_fields)

pub returns-in_err-write_header-clause-whole_units : goal.returns-in_err-write_header-clause-whole_units
returns-in_err-write_header-clause-whole_units g c =
    let p = err_from_is_err_and c.from_residual-in_err-write_header.result c.from_residual-in_err-write_header.ensures.1 in
    rw (p.1, p.2) (encode_no_read _ _ _ c.in_err-write_header.field-0.0 _ _ c.in_err-write_header.ensures.failures)

pub returns-in_err-upgrade_sections-clause-whole_units : goal.returns-in_err-upgrade_sections-clause-whole_units
returns-in_err-upgrade_sections-clause-whole_units g c =
    let p = err_from_is_err_and c.from_residual-in_err-upgrade_sections.result c.from_residual-in_err-upgrade_sections.ensures.1 in
    let left = g.S.Source.remaining in
    let count = c.in_ok-form.count in
    let programs = programs_are count (omega (arith, c.if-count-lt-FEWEST.false)) (omega (arith, c.if-count-gt-MOST.false)) in
    rw (p.1, p.2) (old_sections_cut_short (left c.args.source.now) (left c.read_form.new.source) (left c.upgrade_sections.new.source) c.in_ok-form.form count
    c.in_err-upgrade_sections.field-0.0 c.in_ok-form.ensures.exact programs c.in_err-upgrade_sections.ensures.stopped)

pub returns-in_err-read_end-clause-whole_units : goal.returns-in_err-read_end-clause-whole_units
returns-in_err-read_end-clause-whole_units g c =
    let p = err_from_is_err_and c.from_residual-in_err-read_end.result c.from_residual-in_err-read_end.ensures.1 in
    let left = g.S.Source.remaining in
    let contents = g.W.Sink.contents in
    let count = c.in_ok-form.count in
    let programs = programs_are count (omega (arith, c.if-count-lt-FEWEST.false)) (omega (arith, c.if-count-gt-MOST.false)) in
    rw (p.1, p.2) (old_end_not_read (left c.args.source.now) (left c.read_form.new.source) (left c.upgrade_sections.new.source) (left c.read_end.new.source) c.in_ok-form.form count
    c.upgrade_sections.new.progress.place (contents c.write_header.new.sink) (contents c.upgrade_sections.new.sink) c.in_err-read_end.field-0.0 c.in_ok-form.ensures.exact programs
    c.in_ok-upgrade_sections.ensures.sections c.in_err-read_end.ensures.unread)
