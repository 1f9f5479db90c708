use Rattle.std.proofs.Common.{rules, ◌<◌, ℕ, ◌∷◌, length, take, refl, ap, ◌∙◌, arith}
use Rattle.std.proofs.lemmas.List.{length-take, take_more_set}
use Rattle.tt_cert.proofs.CutCells.{are_bytes, cut_broken, cut_known, cut_none, cut_unknown}
use Rattle.tt_cert.proofs.lists.cut_cells.Goals as goal
use Rattle.tt_cert.proofs.lists.cut_cells.Goals.{in-0, in-1+in-Some-split_first_chunk}

pub cells-init : goal.cells-init
cells-init c = (cut_none c.args.place c.args.start c.args.count c.args.bytes.now _ _ c.ranges.place.fits refl refl, omega arith)

pub cells-preserved : goal.cells-preserved
cells-preserved c =
    let cells = c.cells.cells in
    let ends = c.cells.ends in
    let taken = c.cells.taken in
    let rest = c.in-Some.rest.now in
    let lt : length (take taken cells) < c.args.count = omega (arith, length-take taken cells, c.min-most.ensures, c.cells-test.true) in
    let few : taken < 64 = omega (arith, c.min-most.ensures, c.cells-test.true) in
    let in_cells : taken < length cells = search rules in
    let in_ends : taken < length ends = search rules in (
      elim c.match-tag.branch [
        | in-0 w ↦
            let left_is = c.in-Some.ensures.cases.0 ∙ ap (λ (t : ℕ). t ∷ rest) w.in-0.is in
            rw (w.cells-is, w.ends-is, w.left-is) (cut_unknown c.args.place c.args.start c.args.count _ c.args.bytes.now c.cells.left.now rest _ _ _ _ c.cells.invariant.0
            (take_more_set ends taken _ in_ends) (take_more_set cells taken _ in_cells) lt left_is refl)
        | in-1+in-Some-split_first_chunk w ↦
            let number = w.in-Some-split_first_chunk.ensures.cases in
            let left_is = c.in-Some.ensures.cases.0 ∙ ap (λ (t : ℕ). t ∷ rest) w.in-1.is in
            rw (w.cells-is, w.ends-is, w.left-is) (cut_known c.args.place c.args.start c.args.count _ c.args.bytes.now c.cells.left.now rest w.in-Some-split_first_chunk.number.now
            w.in-Some-split_first_chunk.after.now _ _ _ _ _ (are_bytes c.args.bytes.now c.type_inv.bytes) c.cells.invariant.0 (take_more_set ends taken _ in_ends)
            (take_more_set cells taken _ in_cells) lt left_is (omega (arith, number.2)) number.0 number.1 (search rules) refl)
      ],
      omega (arith, c.cells-test.true),
    )

pub returns-in_default-tag-clause-broken : goal.returns-in_default-tag-clause-broken
returns-in_default-tag-clause-broken c =
    let lt : length (take c.cells.taken c.cells.cells) < c.args.count = omega (arith, length-take c.cells.taken c.cells.cells, c.min-most.ensures, c.cells-test.true) in
    cut_broken c.args.place c.args.start c.args.count _ c.in-Some.tag.now c.args.bytes.now c.cells.left.now c.in-Some.rest.now _ _ c.cells.invariant.0 c.in-Some.ensures.cases.0
    (search rules) (search rules) lt c.saturating_add.ensures
