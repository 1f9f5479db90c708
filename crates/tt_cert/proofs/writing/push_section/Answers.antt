use Rattle.tt_cert.proofs.Fitting.{section_fits}
use Rattle.tt_cert.proofs.writing.push_section.Goals as goal

pub returns-clause-fits : goal.returns-clause-fits
returns-clause-fits c =
    section_fits c.args.name c.args.certificate.now c.in_ok-push_name.ensures.fits c.in_ok-push_contexts.ensures.finished c.in_ok-push_contexts.ensures.numbers
    c.in_ok-push_states.ensures.room c.in_ok-push_states.ensures.ascends
