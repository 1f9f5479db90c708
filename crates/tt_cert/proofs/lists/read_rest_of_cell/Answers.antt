use Rattle.std.proofs.Common.{rules, ◌∷◌, [], refl, ◌∙◌}
use Rattle.tt_cert.proofs.Cells.{copied_front, copied_long, rest_cut, rest_whole}
use Rattle.tt_cert.proofs.lists.read_rest_of_cell.Goals as goal

pub returns-then-held-more-lt4-clause-reads : goal.returns-then-held-more-lt4-clause-reads
returns-then-held-more-lt4-clause-reads g c =
    rest_cut _ (g.S.Source.remaining c.read_rest.new.source) _ c.args.cells.now.items _ _ _ _ c.args.begun.now _ c.read_rest.new.buf c.in_ok-more.ensures.rest (c.in_ok-more.ensures.rest.long ∙ copied_long c.args.begun.now _ (0 ∷ 0 ∷ 0 ∷ 0 ∷ []) c.copy_from_slice.ensures.after c.requires) (copied_front c.args.begun.now _ _ c.copy_from_slice.ensures.after) refl c.if-held-more-lt4.true c.saturating_add-after.ensures

pub returns-clause-reads : goal.returns-clause-reads
returns-clause-reads g c =
    rest_whole _ _ _ _ _ _ _ _ c.args.begun.now _ c.read_rest.new.buf _ c.in_ok-more.ensures.rest (c.in_ok-more.ensures.rest.long ∙ copied_long c.args.begun.now _ (0 ∷ 0 ∷ 0 ∷ 0 ∷ []) c.copy_from_slice.ensures.after c.requires) (copied_front c.args.begun.now _ _ c.copy_from_slice.ensures.after) c.if-held-more-lt4.false (search rules) c.in_ok-push.ensures.items c.saturating_add-after.ensures
