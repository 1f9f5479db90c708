use Rattle.std.proofs.Common.{◌∙◌, ap, sym}
use Rattle.std.proofs.lemmas.List.{take-map}
use Rattle.tt_abs.specs.Representation.Codes.{cell_of_code, cells_of}
use Rattle.tt_abs.proofs.CodeLists.{same_codes}
use Rattle.tt_abs.proofs.stack.have_same_front.Goals as goal

pub returns : goal.returns
returns c =
    let mine = c.args.mine.now in
    let theirs = c.args.theirs.now in
    let n = c.args.count in (
      λ h. take-map cell_of_code n mine ∙ ap cells_of (c.are_equal.ensures.0 h) ∙ sym (take-map cell_of_code n theirs),
      λ e. c.are_equal.ensures.1 (same_codes mine theirs n c.requires.enough c.requires.enough_there (λ k. (c.type_inv.mine k).fits) (λ k. (c.type_inv.theirs k).fits) e),
    )
