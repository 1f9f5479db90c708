use Rattle.std.proofs.Common.{sym, ◌∙◌, ap, ◌+◌}
use Rattle.std.proofs.lemmas.Result.{err_from_is_err_and}
use Rattle.hintcheck_certificates.proofs.SessionSteps.{header_fault, other_number_read}
use Rattle.hintcheck_certificates.proofs.FailedReads.{header_cut_short}
use Rattle.hintcheck_certificates.proofs.font_check.read_start.Goals as goal

pub returns-in_err-form-clause-header : goal.returns-in_err-form-clause-header
returns-in_err-form-clause-header g c = λ told.
    let p = err_from_is_err_and c.from_residual.result c.from_residual.ensures.1 in
    let old = g.S.Source.remaining c.args.source.now in
    let new = g.S.Source.remaining c.read_form.new.source in
    rw (p.1, p.2) (header_fault _ c.args.font.now old new c.in_err-form.field-0.0 c.in_err-form.ensures.exact told)

pub returns-then-sections-from-clause-header : goal.returns-then-sections-from-clause-header
returns-then-sections-from-clause-header g c = λ told.
    let old = g.S.Source.remaining c.args.source.now in
    let new = g.S.Source.remaining c.read_form.new.source in
    other_number_read c.args.font.now old new c.in_ok-form.form c.in_ok-form.sections c.in_ok-form.ensures.exact
    (λ e. c.if-sections-from.true (e ∙ ap (λ n. n + 2) (sym (c.from.ensures ∙ c.glyph_count.ensures)))) told

pub returns-in_err-form-clause-stopped : goal.returns-in_err-form-clause-stopped
returns-in_err-form-clause-stopped g c =
    let p = err_from_is_err_and c.from_residual.result c.from_residual.ensures.1 in
    rw (p.1, p.2) (header_cut_short (g.S.Source.remaining c.args.source.now) (g.S.Source.remaining c.read_form.new.source) c.in_err-form.field-0.0 _ _ c.in_err-form.ensures.failures
    c.in_err-form.ensures.whole_fields)
