use Rattle.std.proofs.Common.{ℕ, ℤ, List, [], ◌++◌, ◌∙◌, ap, subst}
use Rattle.std.specs.Prelude.{pos}
use Rattle.std.specs.List.{AllByRecursion, flat_map}
use Rattle.std.proofs.lemmas.List.{take_all}
use Rattle.tt_cert.specs.Text.{stored_text}
use Rattle.tt_cert.proofs.Pushed.{StoredPairFits, all_next, at_default, next_written}
use Rattle.tt_cert.proofs.writing.push_each_stored.Goals as goal

pub loop-cell-preserved : goal.loop-cell-preserved
loop-cell-preserved c =
    let cells = c.args.cells.now in
    let k = c.loop-cell.cell-index in
    let at = at_default cells k (0, pos 0) c.loop-cell-test.true in (
      next_written stored_text c.args.out.now.items [] c.loop-cell.out.items _ cells k _ at c.loop-cell.invariant.0 c.in_ok-push_stored.ensures.written,
      all_next StoredPairFits cells k _ at c.loop-cell.invariant.1 c.in_ok-push_stored.ensures.fits,
    )

pub returns : goal.returns
returns c =
    let all = take_all c.loop-cell.cell-index c.args.cells.now c.loop-cell-test.false in
    record {
      written = c.loop-cell.invariant.0 ∙ ap (λ (l : List (ℕ × ℤ)). c.args.out.now.items ++ flat_map stored_text l) all;
      numbers = subst (λ (l : List (ℕ × ℤ)). AllByRecursion StoredPairFits l) all c.loop-cell.invariant.1;
    }
