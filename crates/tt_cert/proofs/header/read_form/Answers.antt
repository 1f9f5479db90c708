use Rattle.tt_cert.proofs.header.read_form.Goals as goal

pub returns-clause-exact : goal.returns-clause-exact
returns-clause-exact g c = λ known. let r = c.in_ok-header.ensures.reads known in (r.0, (c.in_ok-header._after, r.1))
