use Rattle.std.proofs.Common.{◌≡◌, ◌∙◌, ◌++◌, ◌∷◌, ◌||◌, [], Bool, List, refl, sym, true}
use Rattle.std.specs.Prelude.{not}
use Rattle.hintcheck.specs.Scans.{names_none}
use Rattle.hintcheck_report.specs.declared.refused.Refused.{Refused}
use Rattle.hintcheck.proofs.commands.scan_task.add_unknown.Goals as goal

-- refused programs, and one more that counts
counted : (rs : List Refused) (r : Refused) (counts unknown : Bool) → counts ≡ true → counts ≡ unknown → not (names_none (rs ++ r ∷ [])) ≡ (not (names_none rs) || unknown)
counted [] r counts unknown does is = sym does ∙ is
counted (x ∷ rs) r counts unknown does is = refl

pub returns-clause-some : goal.returns-clause-some
returns-clause-some c =
    rw c.in_ok-add_refused.ensures (counted c.args.others.now.items c.args.refused.now c.in_ok-note_program.field-0 _ c.if-not-branch.false c.in_ok-note_program.ensures.unknown)
