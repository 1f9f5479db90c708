use Rattle.std.proofs.Common.{rules}
use Rattle.std.specs.Prelude.{FitsSigned, pos, slice_index_or}
use Rattle.std.specs.Int.{w32}
use Rattle.std.proofs.lemmas.Int.{to_z-of_z}
use Rattle.tt_cert.proofs.Building.{none_stored, stored}
use Rattle.tt_cert.proofs.states.store_cells.Goals as goal

pub loop-index-init : goal.loop-index-init
loop-index-init c = (none_stored c.args.state.now c.requires.empty, λ h. h)

pub loop-index-preserved : goal.loop-index-preserved
loop-index-preserved c =
    let fits : FitsSigned w32 (slice_index_or c.args.cells.now c.loop-index.index-index (0, pos 0)).1 = search rules in (
      stored c.args.state.now c.loop-index.state _ c.args.cells.now c.loop-index.index-index (0, pos 0) _ (to_z-of_z w32 _ fits) c.requires.ascends c.loop-index-test.true
          c.loop-index.invariant.0 c.in_ok-set_storage.ensures.ok,
      λ h. c.set_storage.ensures.in_range (c.loop-index.invariant.1 h),
    )
