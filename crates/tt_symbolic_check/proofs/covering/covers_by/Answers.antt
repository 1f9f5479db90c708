use Rattle.std.proofs.Common.{List, subst}
use Rattle.tt_symbolic_state.specs.declared.cell.Range.{Range}
use Rattle.tt_symbolic_check.specs.Covering.{AgreeStates, RangesWithin}
use Rattle.tt_symbolic_check.proofs.Coverings.{covers_is}
use Rattle.tt_symbolic_check.proofs.covering.covers_by.Goals as goal

pub returns : goal.returns
returns c = λ e. covers_is _ c.args.mine.now c.args.theirs.now
    (subst (λ (r : List Range). AgreeStates c.agree_states.new.assigned r c.args.mine.now c.args.theirs.now) c.as_slice-ranges.ensures.value (c.agree_states.ensures c.if-not-agree_states.false))
    (subst (λ (r : List Range). RangesWithin c.agree_states.new.assigned r c.args.theirs.now.ranges.items) c.as_slice-ranges.ensures.value
    (subst (λ (r : List Range). RangesWithin c.agree_states.new.assigned c.as_slice-ranges.result.now r) c.as_slice.ensures.value (c.ranges_within.ensures e)))
