use Rattle.std.proofs.Common.{rules, ◌≡◌, ◌+◌, ◌<◌, ◌≤◌, ℕ, ◌∙◌, arith, drop, length, refl, reverse, subst, sym, take}
use Rattle.std.specs.Option.{IsSome}
use Rattle.std.proofs.lemmas.List.{length-reverse, length-take, take_more_set}
use Rattle.std.proofs.lemmas.Option.{slice_get-get_or}
use Rattle.tt_abs.specs.declared.cells.Cell.{Cell}
use Rattle.tt_abs.specs.declared.cells.Cell.TheVariants.{Unknown}
use Rattle.tt_cert.specs.Representation.KeptTexts.{KeepsCut}
use Rattle.tt_cert.proofs.KeptTexts.{got_after, keeps_to}
use Rattle.tt_cert.proofs.Pushed.{taken_more}
use Rattle.tt_cert.proofs.writing.spell_cells.Goals as goal

pub unwrap-cell-requires : goal.unwrap-cell-requires
unwrap-cell-requires c =
    let cells = reverse c.args.state.now.stack in
    let place = c.args.from + c.loop-i.i in
    let lt : place < length cells = omega (arith, c.requires.there, c.loop-i-test.true, length-reverse c.args.state.now.stack) in
    subst IsSome (sym (c.cell.ensures ∙ slice_get-get_or cells place Unknown lt)) refl

pub loop-i-preserved : goal.loop-i-preserved
loop-i-preserved c =
    let cells = reverse c.args.state.now.stack in
    let rest = drop c.args.from cells in
    let i = c.loop-i.i in
    let used = c.loop-i.used in
    let x : Cell = c.unwrap-cell.result in
    let few = c.loop-i.invariant.few in
    let now = c.spell_cell-used.result in
    let bytes = c.spell_cell-used.new.bytes in
    let at = got_after cells c.args.from i x (sym c.cell.ensures ∙ c.unwrap-cell.ensures) in
    let wide : now ≤ 320 = omega (arith, c.spell_cell-used.ensures.few, few, c.loop-i-test.true, c.requires.few) in
    record {
      few = omega (arith, c.spell_cell-used.ensures.few, few);
      spelled = keeps_to c.args.start _ (take used c.loop-i.bytes) _ (take i c.loop-i.ends) _ (take i rest) _ x c.loop-i.invariant.spelled
          (omega (arith, length-take now bytes, c.spell_cell-used.array_long, wide)) c.spell_cell-used.ensures.spelled (take_more_set c.loop-i.ends i _ (search rules)) (taken_more rest i x at);
    }

pub returns-clause-spelled : goal.returns-clause-spelled
returns-clause-spelled c =
    let rest = drop c.args.from (reverse c.args.state.now.stack) in
    let all : c.loop-i.i ≡ c.args.count = omega (arith, c.loop-i-test.false, c.loop-i.auto.i-end) in
    subst (λ (n : ℕ). KeepsCut c.args.start (take c.loop-i.used c.loop-i.bytes) (take n c.loop-i.ends) (take n rest)) all c.loop-i.invariant.spelled
