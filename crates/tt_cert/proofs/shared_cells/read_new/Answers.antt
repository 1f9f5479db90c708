use Rattle.std.proofs.Common.{arith, reverse}
use Rattle.std.proofs.lemmas.List.{length-reverse}
use Rattle.tt_stream.proofs.Beginnings.{consumes_then}
use Rattle.tt_cert.proofs.Ahead.{more_some, more_then}
use Rattle.tt_cert.proofs.Cells.{more_stops}
use Rattle.tt_cert.proofs.shared_cells.read_new.Goals as goal

pub returns-then-before-depth-clause-reads : goal.returns-then-before-depth-clause-reads
returns-then-before-depth-clause-reads g c =
    let was = c.args.state.now.stack in
    let now = c.take_new.new.state.stack in
    more_some _ _ (reverse was) (reverse now) c.args.place _ c.args.count c.in_ok-at.ensures.reads
    (omega (arith, c.if-before-depth.true, c.depth-before.ensures, c.depth.ensures, length-reverse was, length-reverse now))

pub fetch_new-requires-clause-some : goal.fetch_new-requires-clause-some
fetch_new-requires-clause-some g c =
    omega (arith, c.if-before-depth.false, c.depth-before.ensures, c.depth.ensures, c.requires.some)

pub returns-clause-reads : goal.returns-clause-reads
returns-clause-reads g c =
    more_then c.fetch_new.result _ (g.S.Source.remaining c.take_new.new.source) _ (reverse c.args.state.now.stack) (reverse c.take_new.new.state.stack) (reverse c.fetch_new.new.state.stack)
    c.args.place c.in_ok-at.at c.args.count c.in_ok-at.ensures.reads c.fetch_new.ensures.reads

pub returns-clause-stopped : goal.returns-clause-stopped
returns-clause-stopped g c =
    more_stops c.fetch_new.result _ (g.S.Source.remaining c.take_new.new.source) _ (reverse c.args.state.now.stack) (reverse c.take_new.new.state.stack) c.args.place c.in_ok-at.at c.args.count
    c.in_ok-at.ensures.reads c.fetch_new.ensures.stopped

pub returns-clause-beginning : goal.returns-clause-beginning
returns-clause-beginning g c = consumes_then _ _ _ c.take_new.ensures.beginning c.fetch_new.ensures.beginning
