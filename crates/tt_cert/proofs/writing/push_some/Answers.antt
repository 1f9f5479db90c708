use Rattle.std.proofs.Common.{◌∙◌, append-nil, reverse, subst, sym, take}
use Rattle.std.proofs.Math.Seq.{take-add}
use Rattle.tt_cert.specs.Representation.KeptTexts.{IsStackText}
use Rattle.tt_cert.proofs.writing.push_some.Goals as goal

pub returns-clause-text : goal.returns-clause-text
returns-clause-text c =
    let text = c.args.text.now in
    let cells = reverse c.args.state.now.stack in
    let below = take c.args.place cells in
    rw (c.in_ok-extend_from_slice.ensures.items, c.in_ok-extend_from_slice-2.ensures.items, take-add c.args.place c.min-count.result cells)
    (c.spell_cells-used.ensures.spelled text.ends.items text.cells.items below (sym (c.len.ensures ∙ text.cells.ok.0)) (subst (IsStackText text) (sym (append-nil below)) c.requires.text))
