use Rattle.std.proofs.Common.{List, Option, ℕ, map, subst}
use Rattle.std.specs.Prelude.{string_bytes}
use Rattle.hintcheck.specs.FontLabels.{AreLabels}
use Rattle.hintcheck.specs.ScannedNames.{shown_names}
use Rattle.hintcheck.proofs.commands.scan_task.scan_planned.Goals as goal

pub returns-clause-printed : goal.returns-clause-printed
returns-clause-printed g c =
    let (labels, are, p) = c.in_ok-status.ensures.printed in
    (labels, subst (λ (name : Option (List ℕ)). AreLabels (shown_names name (map (λ s. string_bytes s) c.args.fonts.now)) labels) c.text_in.ensures are, p)
