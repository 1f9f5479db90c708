use Rattle.std.proofs.Common.{◌++◌, ◌∷◌, ◌∙◌, List, [], ap, append_assoc, get_or, pos, subst, sym, take}
use Rattle.std.proofs.lemmas.List.{take_more}
use Rattle.tt_abs.specs.declared.cells.Cell.{Cell}
use Rattle.tt_abs.specs.declared.cells.Cell.TheVariants.{Known}
use Rattle.tt_cert.specs.Representation.KeptTexts.{IsStackText}
use Rattle.tt_cert.proofs.shared_cells.keep_cells.Goals as goal

pub loop-cell-preserved : goal.loop-cell-preserved
loop-cell-preserved c = λ before kept.
    let cells = c.args.cells.now in
    let i = c.loop-cell.cell-index in
    let x : Cell = get_or cells i (Known (pos 0)) in
    subst (IsStackText c.push.new.self)
    (append_assoc before (take i cells) (x ∷ []) ∙ ap (λ (l : List Cell). before ++ l) (sym (take_more cells i (Known (pos 0)) c.loop-cell-test.true)))
    (c.in_ok-push.ensures (before ++ take i cells) (c.loop-cell.invariant before kept))
