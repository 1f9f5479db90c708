use Rattle.std.proofs.Common.{◌*◌, ◌≤◌, arith, length, subst}
use Rattle.std.proofs.lemmas.Result.{err_from_is_err_and}
use Rattle.std.specs.Io.KnownBytes.{Consumes}
use Rattle.tt_stream.proofs.Ahead.{starts_part}
use Rattle.tt_cert.proofs.Ahead.{ahead_refused, ahead_taken, listed_all, listed_fails, listed_text}
use Rattle.tt_cert.proofs.lists.read_others.Goals as goal

pub returns-in_err-_over-clause-reads : goal.returns-in_err-_over-clause-reads
returns-in_err-_over-clause-reads g c =
    let p = err_from_is_err_and c.from_residual.result c.from_residual.ensures.1 in
    let known = g.S.Source.remaining c.args.source.now in
    let e = c.in_err-_over.field-0.0 in
    let now = c.take_functions.new.functions.items in
    let takes = rw (c.clear.ensures.items, c.from-width.ensures) at c.in_err-_over.ensures.takes in
    rw (p.1, p.2) (listed_fails e known known now c.args.place c.args.count (ahead_refused e known c.ahead-ahead.result.now _ now c.args.place c.args.count c.ahead-ahead.ensures.front takes))

pub returns-clause-reads : goal.returns-clause-reads
returns-clause-reads g c =
    let shown = c.ahead-ahead.result.now in
    let fits : 6 * c.args.count ≤ length shown = omega (arith, c.from-width.ensures) in
    let takes = rw (c.clear.ensures.items, c.from-width.ensures) at c.in_ok-_over.ensures.takes in
    let skipped = subst (Consumes _ _) (starts_part _ shown (6 * c.args.count) c.ahead-ahead.ensures.value fits) (rw c.from-width.ensures at c.skip.ensures.bytes) in
    listed_all _ _ _ c.args.place _ c.args.count
    (ahead_taken _ _ shown _ _ c.args.place _ c.args.count c.in_ok-_over._over fits takes skipped (omega (arith, c.saturating_add.ensures, c.from-width.ensures)))

pub returns-clause-kept : goal.returns-clause-kept
returns-clause-kept g c =
    let shown = c.ahead-ahead.result.now in
    let fits : 6 * c.args.count ≤ length shown = omega (arith, c.from-width.ensures) in
    let takes = rw (c.clear.ensures.items, c.from-width.ensures) at c.in_ok-_over.ensures.takes in
    let text_is = rw (c.clear-2.ensures.items, c.from-width.ensures) at c.in_ok-extend_from_slice.ensures.items in (
      c.in_ok-_over.ensures.ascends (rw c.clear.ensures.items tt),
      λ _. listed_text shown _ _ c.args.place c.args.count c.in_ok-_over._over fits takes text_is,
    )
