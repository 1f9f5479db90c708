use Rattle.std.proofs.Common.{rules, sym, ◌∙◌}
use Rattle.std.specs.Prelude.{FitsSigned}
use Rattle.std.specs.Int.{w64}
use Rattle.std.proofs.lemmas.Int.{to_z-of_z}
use Rattle.tt_symbolic.proofs.AreaFacts.{forgets_by}
use Rattle.tt_symbolic.proofs.areas.forget.Goals as goal

pub returns-else-is_some : goal.returns-else-is_some
returns-else-is_some c =
    let l : FitsSigned w64 c.args.low = search rules in
    let h : FitsSigned w64 c.args.high = search rules in
    forgets_by c.args.low c.args.high c.args.entries.now c.remove_between.new.entries c.as_slice.result.now c.as_slice.ensures.value c.remove_between.ensures (simp to_z-of_z at (c.first_between.ensures (sym c.is_some.ensures ∙ c.if-is_some.false)))
