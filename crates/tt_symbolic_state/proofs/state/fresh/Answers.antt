use Rattle.std.proofs.Common.{refl, ℕ, rules, subst}
use Rattle.std.specs.List.{All}
use Rattle.tt_symbolic_state.specs.declared.cell.Cell.{Cell}
use Rattle.tt_symbolic_state.specs.Shows.{IsFree, IsFreeCall}
use Rattle.tt_symbolic_state.proofs.Freeness.{fresh_is}
use Rattle.tt_symbolic_state.proofs.Reverses.{all_reversed, reversed_all}
use Rattle.tt_symbolic_state.proofs.state.fresh.Goals as goal

pub returns : goal.returns
returns c =
    let s = c.in-Ok.number in
    let entry : ℕ × Cell → Type 0 = λ e. IsFree s e.1 in
    let old = c.args.state.now in
    fresh_is old (record old { ranges = c.push_range.new.ranges }) c.args.range s c.symbol.result (search rules) refl c.in_ok-push_range.ensures c.symbol.ensures
    (c.mentions.ensures c.if-mentions.false) (c.mentions-else-mentions.ensures c.if-mentions-2.false) (c.mentions-else-mentions-2.ensures c.if-mentions-3.false)
    (c.mentions-else-mentions-3.ensures c.if-mentions-4.false)
    (reversed_all (IsFreeCall s) old.calls.items (subst (All (IsFreeCall s)) c.as_slice.ensures.value (c.any_call_mentions.ensures c.if-any_call_mentions.false)))
    (all_reversed (IsFree s) old.stack (subst (All (IsFree s)) c.as_slice-else-any_call_mentions.ensures (c.any_mentions.ensures c.if-any_mentions.false)))
    (subst (All entry) c.as_slice-else-any_mentions.ensures.value (c.any_entry_mentions.ensures c.if-any_entry_mentions.false))
    (subst (All entry) c.as_slice-else-any_entry_mentions.ensures.value (c.any_entry_mentions-else-any_entry_mentions.ensures c.if-any_entry_mentions-2.false))
