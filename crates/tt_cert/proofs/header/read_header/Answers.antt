use Rattle.std.proofs.lemmas.Result.{err_from_is_err_and}
use Rattle.tt_cert.specs.Answers.{input_at}
use Rattle.tt_cert.proofs.Headers.{no_header, numbers_fail, numbers_found, numbers_given, numbers_only}
use Rattle.tt_cert.proofs.header.read_header.Goals as goal

pub returns-in_err-form-clause-only : goal.returns-in_err-form-clause-only
returns-in_err-form-clause-only g c =
    let p = err_from_is_err_and c.from_residual.result c.from_residual.ensures.1 in
    let left = g.S.Source.remaining in
    rw (p.1, p.2) (no_header (left c.args.source.now) (left c.read_form.new.source) c.in_err-form.field-0.0 c.in_err-form.ensures.exact)

pub returns-in_err-form-clause-exact : goal.returns-in_err-form-clause-exact
returns-in_err-form-clause-exact g c =
    let p = err_from_is_err_and c.from_residual.result c.from_residual.ensures.1 in
    rw (p.1, p.2) (λ known. numbers_fail (input_at 0 (g.S.Source.remaining c.args.source.now)) c.in_err-form.field-0.0 (c.in_err-form.ensures.exact known))

pub returns-clause-found : goal.returns-clause-found
returns-clause-found g c =
    let left = g.S.Source.remaining in
    numbers_found (left c.args.source.now) (left c.read_form.new.source) c.number.result (c.in_ok-form.form, c.in_ok-form.sections) c.number.ensures.value c.in_ok-form.ensures.exact

pub returns-clause-only : goal.returns-clause-only
returns-clause-only g c =
    let left = g.S.Source.remaining in
    numbers_only (left c.args.source.now) (left c.read_form.new.source) c.number.result (c.in_ok-form.form, c.in_ok-form.sections) c.number.ensures.value c.in_ok-form.ensures.exact

pub returns-clause-exact : goal.returns-clause-exact
returns-clause-exact g c =
    let left = g.S.Source.remaining in
    numbers_given (left c.args.source.now) (left c.read_form.new.source) c.number.result (c.in_ok-form.form, c.in_ok-form.sections) c.number.ensures.value c.in_ok-form.ensures.exact
