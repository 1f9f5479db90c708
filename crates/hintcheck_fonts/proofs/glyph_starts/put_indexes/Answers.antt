use Rattle.std.proofs.Common.{ℕ, subst}
use Rattle.std.specs.List.{All}
use Rattle.std.proofs.lemmas.List.{take_all}
use Rattle.std.proofs.lemmas.List.Elements.{All-more, All-weaker}
use Rattle.tt_symbolic.specs.Kept.{IsAmong}
use Rattle.tt_symbolic_state.specs.declared.cell.Cell.{Cell}
use Rattle.tt_symbolic_check.proofs.Listings.{found}
use Rattle.hintcheck_fonts.proofs.Following.{among_last, among_more}
use Rattle.hintcheck_fonts.proofs.glyph_starts.put_indexes.Goals as goal

pub loop-entry-preserved : goal.loop-entry-preserved
loop-entry-preserved c =
    let old = c.loop-entry.indexes.items in
    let new = c.push.new.self.items in
    let entries = c.as_slice-entry-items.result.now in (
      λ i h. among_more old new _ i c.in_ok-push.ensures.items (c.loop-entry.invariant.0 i h),
      All-more (λ (e : ℕ × Cell). IsAmong new e.0) entries c.loop-entry.entry-index _ c.loop-entry-test.true
          (All-weaker (λ (e : ℕ × Cell). IsAmong old e.0) (λ (e : ℕ × Cell). IsAmong new e.0) (λ e h. among_more old new _ e.0 c.in_ok-push.ensures.items h) _ c.loop-entry.invariant.1)
          (among_last old new _ c.in_ok-push.ensures.items),
    )

pub returns-clause-listed : goal.returns-clause-listed
returns-clause-listed c =
    let P : ℕ × Cell → Type 0 = λ e. IsAmong c.loop-entry.indexes.items e.0 in
    let all : All P c.as_slice-entry-items.result.now = subst (All P) (take_all c.loop-entry.entry-index c.as_slice-entry-items.result.now c.loop-entry-test.false) c.loop-entry.invariant.1 in
    record { among = λ i d at. found P c.args.cells.now (subst (All P) c.as_slice-entry-items.ensures.value all) i d at }
