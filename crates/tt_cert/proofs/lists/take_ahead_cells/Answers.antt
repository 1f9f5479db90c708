use Rattle.std.proofs.Common.{◌∙◌, [], append-nil, subst, sym}
use Rattle.std.proofs.lemmas.Result.{err_from_is_err_and}
use Rattle.std.specs.Io.KnownBytes.{Consumes}
use Rattle.tt_stream.proofs.Ahead.{starts_part}
use Rattle.tt_cert.specs.Representation.KeptTexts.{IsStackText}
use Rattle.tt_cert.proofs.Ahead.{ahead_cell_refused, ahead_cells_taken}
use Rattle.tt_cert.proofs.lists.take_ahead_cells.Goals as goal

pub returns-in_err-taken-clause-broken : goal.returns-in_err-taken-clause-broken
returns-in_err-taken-clause-broken g c =
    let p = err_from_is_err_and c.from_residual.result c.from_residual.ensures.1 in
    rw (p.1, p.2) (ahead_cell_refused c.in_err-taken.field-0.0 (g.S.Source.remaining c.args.source.now) c.ahead-ahead.result.now [] [] c.args.place c.args.count c.ahead-ahead.ensures.front
    c.in_err-taken.ensures.broken)

pub returns-clause-reads : goal.returns-clause-reads
returns-clause-reads g c =
    let shown = c.ahead-ahead.result.now in
    let skipped = subst (Consumes _ _) (starts_part _ shown c.in_ok-taken.used c.ahead-ahead.ensures.value c.in_ok-taken.ensures.used) c.skip.ensures.bytes in
    ahead_cells_taken _ _ shown [] _ c.args.place _ c.args.count c.in_ok-taken.used c.ahead-ahead.ensures.front c.in_ok-taken.ensures.takes skipped c.saturating_add.ensures

pub returns-clause-kept : goal.returns-clause-kept
returns-clause-kept g c = λ below kept.
    let text = c.args.text.now in
    rw (c.in_ok-extend_from_slice.ensures.items, c.in_ok-extend_from_slice-2.ensures.items)
    (c.in_ok-taken.ensures.kept text.ends.items text.cells.items below (sym (c.len.ensures ∙ text.cells.ok.0)) (subst (IsStackText text) (sym (append-nil below)) kept))
