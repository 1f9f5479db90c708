use Rattle.hintcheck_certificates.proofs.SessionSteps.{finds_weaker, no_header_next, reads_after_header, reads_on}
use Rattle.hintcheck_certificates.proofs.FailedReads.{header_cut_short_in}
use Rattle.hintcheck_certificates.proofs.session.progress_of.Goals as goal

pub returns-in-Some-clause-exact : goal.returns-in-Some-clause-exact
returns-in-Some-clause-exact g c = λ stage told.
    (told, reads_on c.args.font.now stage c.args.known (g.S.Source.remaining c.args.source.now) c.in-Some.progress c.in-Some.is)

pub returns-in-None-clause-exact : goal.returns-in-None-clause-exact
returns-in-None-clause-exact g c = λ stage told.
    let d = c.args.font.now in
    let old = g.S.Source.remaining c.args.source.now in
    let new = g.S.Source.remaining c.read_start.new.source in
    finds_weaker c.read_start.result _ _ _ _ (c.read_start.ensures.header told)
    (λ p header. (header.0, reads_after_header d stage c.args.known old new p c.in-None.is header.1 header.2))
    (λ place fault. no_header_next d stage c.args.known old place c.in-None.is fault)

pub returns-in-None-clause-stopped : goal.returns-in-None-clause-stopped
returns-in-None-clause-stopped g c = λ stage.
    header_cut_short_in c.args.font.now stage c.args.known c.in-None.is c.read_start.result _ _ c.read_start.ensures.stopped
