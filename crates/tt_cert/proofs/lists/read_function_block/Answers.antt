use Rattle.std.proofs.Common.{◌*◌, arith, subst}
use Rattle.std.proofs.lemmas.Result.{err_from_is_err_and}
use Rattle.std.specs.Io.KnownBytes.{Consumes}
use Rattle.tt_stream.proofs.Ahead.{starts_part}
use Rattle.tt_cert.proofs.Ahead.{ahead_refused, ahead_taken}
use Rattle.tt_cert.proofs.lists.read_function_block.Goals as goal

pub returns-in_err-_over-clause-reads : goal.returns-in_err-_over-clause-reads
returns-in_err-_over-clause-reads g c =
    let p = err_from_is_err_and c.from_residual.result c.from_residual.ensures.1 in
    rw (p.1, p.2) (ahead_refused c.in_err-_over.field-0.0 (g.S.Source.remaining c.args.source.now) c.ahead-ahead.result.now _ _ c.args.place c.args.count c.ahead-ahead.ensures.front c.in_err-_over.ensures.takes)

pub returns-clause-reads : goal.returns-clause-reads
returns-clause-reads g c =
    let shown = c.ahead-ahead.result.now in
    let skipped = subst (Consumes _ _) (starts_part _ shown (6 * c.args.count) c.ahead-ahead.ensures.value (omega arith)) c.skip.ensures.bytes in
    ahead_taken _ _ shown _ _ c.args.place _ c.args.count c.in_ok-_over._over (omega arith) c.in_ok-_over.ensures.takes skipped c.saturating_add.ensures
