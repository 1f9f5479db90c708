use Rattle.std.proofs.Common.{pos, ◌∙◌, ℕ, sym, subst}
use Rattle.std.specs.List.{All}
use Rattle.std.proofs.lemmas.List.{take_all}
use Rattle.tt_symbolic_state.specs.declared.cell.Cell.{Cell}
use Rattle.tt_symbolic_check.specs.Covering.{IsEntryOf}
use Rattle.tt_symbolic_check.proofs.Listings.{entries_agree, entries_more, extends_more}
use Rattle.tt_symbolic_check.proofs.covering.agree_entries.Goals as goal

pub loop-i-preserved : goal.loop-i-preserved
loop-i-preserved c = (extends_more _ _ _ c.loop-i.invariant.0 c.agree.ensures.extends, entries_more _ _ c.args.ranges.now c.args.mine.now c.args.theirs.now c.loop-i.i (0, record { symbol = 0; factor = pos 0; offset = pos 0 }) c.in-Some.cell c.agree.ensures.extends c.loop-i-test.true c.loop-i.invariant.1 (sym c.listed_near.ensures ∙ c.in-Some.is) (c.agree.ensures.agrees c.if-not-agree.false))

pub returns-clause-agrees : goal.returns-clause-agrees
returns-clause-agrees c = λ e. entries_agree c.loop-i.assigned c.args.ranges.now c.args.mine.now c.args.theirs.now (subst (All (λ (e : ℕ × Cell). IsEntryOf c.loop-i.assigned c.args.ranges.now c.args.mine.now e)) (take_all c.loop-i.i c.args.theirs.now c.loop-i-test.false) c.loop-i.invariant.1)
