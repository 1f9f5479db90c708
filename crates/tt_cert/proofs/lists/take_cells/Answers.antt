use Rattle.std.proofs.Common.{rules, ℕ, ◌∷◌, ap, ◌∙◌, arith}
use Rattle.tt_cert.proofs.Cells.{cells_broken, cells_known, cells_unknown}
use Rattle.tt_cert.proofs.lists.take_cells.Goals as goal

pub cells-preserved-in-0 : goal.cells-preserved-in-0
cells-preserved-in-0 c = cells_unknown _ _ _ _ _ _ _ _ _ c.cells.invariant (c.in-Some.ensures.cases.0 ∙ ap (λ (t : ℕ). t ∷ c.in-Some.rest.now) c.in-0.is) c.in_ok-push-in-0.ensures.items c.saturating_add-at.ensures

pub cells-preserved : goal.cells-preserved
cells-preserved c =
    let cut = c.in-Some-split_first_chunk.ensures.cases in
    cells_known _ _ _ _ _ _ _ _ c.in-Some.rest.now c.in-Some-split_first_chunk.number.now _ _ c.cells.invariant (c.in-Some.ensures.cases.0 ∙ ap (λ (t : ℕ). t ∷ c.in-Some.rest.now) c.in-1.is) (omega (arith, cut.2)) cut.0 cut.1 (search rules) c.in_ok-push-in-1.ensures.items
    c.saturating_add-at-in-1.ensures

pub returns-in_default-tag : goal.returns-in_default-tag
returns-in_default-tag c = cells_broken _ _ _ _ c.in-Some.tag.now _ _ c.in-Some.rest.now c.cells.invariant.0 c.in-Some.ensures.cases.0 (search rules) (search rules)
