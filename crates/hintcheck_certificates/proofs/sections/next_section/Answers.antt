use Rattle.std.proofs.lemmas.Result.{err_from_is_err_and}
use Rattle.hintcheck_certificates.proofs.CheckedSections.{no_section_read, section_of_another, section_read}
use Rattle.hintcheck_certificates.proofs.sections.next_section.Goals as goal

pub returns-in_err-named-clause-section : goal.returns-in_err-named-clause-section
returns-in_err-named-clause-section g c = λ told.
    let p = err_from_is_err_and c.from_residual.result c.from_residual.ensures.1 in
    let old = g.S.Source.remaining c.args.source.now in
    let new = g.S.Source.remaining c.decode.new.source in
    let progress = c.args.progress.now in
    rw (p.1, p.2) (no_section_read _ progress.form old new progress.place c.args.name c.in_err-named.field-0.0 c.in_err-named.ensures.exact told)

pub returns-then-not-is_same-clause-section : goal.returns-then-not-is_same-clause-section
returns-then-not-is_same-clause-section g c = λ told.
    let old = g.S.Source.remaining c.args.source.now in
    let new = g.S.Source.remaining c.decode.new.source in
    let progress = c.args.progress.now in
    section_of_another progress.form old new progress.place c.in_ok-named.after c.args.name c.in_ok-named.named c.in_ok-named.certificate.now c.in_ok-named.ensures.exact
    (λ e. absurd (let t = c.is_same.ensures.1 e in let f = c.if-not-is_same.true in cc)) told

pub returns-clause-section : goal.returns-clause-section
returns-clause-section g c = λ told.
    let old = g.S.Source.remaining c.args.source.now in
    let new = g.S.Source.remaining c.decode.new.source in
    let progress = c.args.progress.now in
    section_read progress.form old new progress.place c.in_ok-named.after c.args.name c.in_ok-named.named c.in_ok-named.certificate.now c.in_ok-named.ensures.exact
    (c.is_same.ensures.0 c.if-not-is_same.false) c.order_facts.ensures told
