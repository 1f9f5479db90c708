use Rattle.std.proofs.Common.{rules, ◌≡◌, ◌+◌, [], ◌∷◌, ◌++◌, ◌≤◌, ℕ, List, ◌∙◌, ap, get_or, length, take}
use Rattle.std.proofs.lemmas.List.{take_more_set}
use Rattle.tt_abs.specs.declared.cells.Cell.TheVariants.{Known}
use Rattle.tt_cert.specs.Text.{cell_text}
use Rattle.tt_cert.proofs.KeptTexts.{take_five}
use Rattle.tt_cert.proofs.writing.spell_cell.Goals as goal

pub returns-in-Unknown-clause-spelled : goal.returns-in-Unknown-clause-spelled
returns-in-Unknown-clause-spelled c = rw c.in-Unknown.is (take_more_set c.args.bytes.now c.args.start _ (search rules))

pub returns-in-Known-clause-spelled : goal.returns-in-Known-clause-spelled
returns-in-Known-clause-spelled c =
    let bytes = c.args.bytes.now in
    let r = c.to_be_bytes.result in
    let room : c.args.start + 5 ≤ length bytes = search rules in
    let text_is : (1 ∷ get_or r 0 0 ∷ get_or r 1 0 ∷ get_or r 2 0 ∷ get_or r 3 0 ∷ []) ≡ cell_text (Known c.in-Known.number) = search rules in
    rw c.in-Known.is (take_five bytes c.args.start _ _ _ _ _ room ∙ ap (λ (l : List ℕ). take c.args.start bytes ++ l) text_is)
