use Rattle.std.proofs.Common.{◌∙◌, ap, ◌<◌, take, arith}
use Rattle.std.specs.Prelude.{pos}
use Rattle.tt_code.specs.Changes.{taken_at}
use Rattle.tt_abs.specs.declared.cells.Cell.TheVariants.{Known}
use Rattle.tt_abs.proofs.TakenLemmas.{some_taken_among, none_taken_among, past_taken}
use Rattle.tt_abs.proofs.changes.taken.Goals as goal

pub returns-then-place-count : goal.returns-then-place-count
returns-then-place-count c =
    past_taken c.args.stack.now c.args.count c.from-place.result c.if-place-count.true
    ∙ ap (λ n. taken_at (Known (pos 1)) (take c.args.count c.args.stack.now) n) c.from-place.ensures

pub returns-in-Some : goal.returns-in-Some
returns-in-Some c =
    let below : c.from-place.result < c.args.count = let h = c.if-place-count.false in omega arith in
    some_taken_among c.args.stack.now c.args.count c.from-place.result c.in-Some.cell c.in-Some.ensures.cell below
    ∙ ap (λ n. taken_at (Known (pos 1)) (take c.args.count c.args.stack.now) n) c.from-place.ensures

pub returns-in-None : goal.returns-in-None
returns-in-None c =
    let below : c.from-place.result < c.args.count = let h = c.if-place-count.false in omega arith in
    none_taken_among c.args.stack.now c.args.count c.from-place.result c.in-None.ensures.cell below
    ∙ ap (λ n. taken_at (Known (pos 1)) (take c.args.count c.args.stack.now) n) c.from-place.ensures
