use Rattle.std.proofs.Common.{ap, arith, subst}
use Rattle.std.specs.Io.KnownBytes.{Consumes}
use Rattle.tt_stream.proofs.Ahead.{starts_part}
use Rattle.tt_abs.specs.declared.state.State.{State}
use Rattle.tt_cert.proofs.KeptTexts.{kept_within}
use Rattle.tt_cert.proofs.SharedCells.{shared_kept, shared_taken}
use Rattle.tt_cert.proofs.shared_cells.take_shared.Goals as goal

pub count_ahead-shared-requires : goal.count_ahead-shared-requires
count_ahead-shared-requires g c = kept_within _ _ _ c.requires.cells

pub returns-clause-reads : goal.returns-clause-reads
returns-clause-reads g c =
    let shown = c.ahead.result.now in
    let ahead = c.count_ahead-shared.ensures in
    let cut = rw c.depth.ensures.value at (ap (λ (s : State). s.stack) c.cut_stack.ensures.value) in
    let skipped = subst (Consumes _ _) (starts_part _ shown c.width-width.result c.ahead.ensures.value (omega (arith, ahead.there, c.width-width.ensures))) c.skip.ensures.bytes in
    shared_taken _ _ c.args.text.now _ c.args.state.now c.cut_stack.new.self c.args.place _ c.args.count c.count_ahead-shared.result c.requires ahead cut
    (c.cut_stack.ensures.in_range c.requires.in_range) (rw c.width-width.ensures at skipped) c.ranges.place.fits (rw c.width-width.ensures at c.saturating_add.ensures)

pub returns-clause-kept : goal.returns-clause-kept
returns-clause-kept g c =
    let ahead = c.count_ahead-shared.ensures in
    let cut = rw c.depth.ensures.value at (ap (λ (s : State). s.stack) c.cut_stack.ensures.value) in
    shared_kept c.args.text.now c.cut.new.self _ c.args.state.now c.cut_stack.new.self c.args.count c.count_ahead-shared.result c.requires ahead cut
    (c.cut_stack.ensures.in_range c.requires.in_range) c.cut.ensures
