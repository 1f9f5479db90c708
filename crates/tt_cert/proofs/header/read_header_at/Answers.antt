use Rattle.std.proofs.Common.{refl}
use Rattle.std.proofs.lemmas.Result.{err_from_is_err_and}
use Rattle.tt_cert.specs.Readers.{and_then}
use Rattle.tt_cert.specs.Reading.{form_at, header_at, header_from, long_at, magic_at}
use Rattle.tt_cert.proofs.Stops.{stops_first, stops_made, stops_second}
use Rattle.tt_cert.proofs.SteadyUnits.{form_steady, magic_steady}
use Rattle.tt_stream.proofs.Beginnings.{consumes_then}
use Rattle.tt_cert.proofs.header.read_header_at.Goals as goal

pub returns-in_err-form-clause-beginning : goal.returns-in_err-form-clause-beginning
returns-in_err-form-clause-beginning g c = consumes_then _ _ _ c.read_magic.ensures.beginning c.read_form_at.ensures.beginning

pub returns-in_err-sections-clause-beginning : goal.returns-in_err-sections-clause-beginning
returns-in_err-sections-clause-beginning g c = consumes_then _ _ _ (consumes_then _ _ _ c.read_magic.ensures.beginning c.read_form_at.ensures.beginning) c.read_long.ensures.beginning

pub returns-clause-beginning : goal.returns-clause-beginning
returns-clause-beginning g c = consumes_then _ _ _ (consumes_then _ _ _ c.read_magic.ensures.beginning c.read_form_at.ensures.beginning) c.read_long.ensures.beginning

pub returns-in_err-form-clause-stopped : goal.returns-in_err-form-clause-stopped
unfolding header_at
returns-in_err-form-clause-stopped g c =
    let p = err_from_is_err_and c.from_residual-in_err-form.result c.from_residual-in_err-form.ensures.1 in
    let e = c.in_err-form.field-0.0 in
    rw (p.1, p.2) (stops_made header_from (and_then magic_at (λ _. and_then form_at (λ _. long_at))) _ _ _ e
    (stops_second magic_at (λ _. and_then form_at (λ _. long_at)) _ _ _ _ _ _ e magic_steady c.in_ok-_magic.ensures.reads
    (stops_first form_at (λ _. long_at) _ _ _ e c.in_err-form.ensures.stopped)))

pub returns-in_err-sections-clause-stopped : goal.returns-in_err-sections-clause-stopped
unfolding header_at
returns-in_err-sections-clause-stopped g c =
    let p = err_from_is_err_and c.from_residual-in_err-sections.result c.from_residual-in_err-sections.ensures.1 in
    let e = c.in_err-sections.field-0.0 in
    rw (p.1, p.2) (stops_made header_from (and_then magic_at (λ _. and_then form_at (λ _. long_at))) _ _ _ e
    (stops_second magic_at (λ _. and_then form_at (λ _. long_at)) _ _ _ _ _ _ e magic_steady c.in_ok-_magic.ensures.reads
    (stops_second form_at (λ _. long_at) _ _ _ _ _ _ e form_steady c.in_ok-form.ensures.reads c.in_err-sections.ensures.stopped)))

pub returns-in_err-_magic-clause-stopped : goal.returns-in_err-_magic-clause-stopped
unfolding header_at
returns-in_err-_magic-clause-stopped g c =
    let p = err_from_is_err_and c.from_residual.result c.from_residual.ensures.1 in
    let e = c.in_err-_magic.field-0.0 in
    rw (p.1, p.2) (stops_made header_from (and_then magic_at (λ _. and_then form_at (λ _. long_at))) _ _ _ e
    (stops_first magic_at (λ _. and_then form_at (λ _. long_at)) _ _ _ e c.in_err-_magic.ensures.stopped))

pub returns-clause-reads : goal.returns-clause-reads
unfolding header_at
returns-clause-reads g c = λ known.
    let magic = c.in_ok-_magic.ensures.reads known in
    let form = c.in_ok-form.ensures.reads magic.0 in
    let sections = c.in_ok-sections.ensures.reads form.0 in
    (sections.0, rw (magic.1, form.1, sections.1) refl)
