use Rattle.std.proofs.Common.{sym, ◌∙◌, ap}
use Rattle.tt_symbolic_state.specs.Values.{value}
use Rattle.tt_symbolic_state.specs.Shows.{values}
use Rattle.std.specs.Prelude.{FitsSigned}
use Rattle.std.specs.Int.{w32}
use Rattle.std.proofs.Common.{rules}
use Rattle.std.proofs.lemmas.Int.{to_z-of_z}
use Rattle.tt_code.specs.Operands.{is_zone}
use Rattle.tt_setting.specs.Settings.{setting_of}
use Rattle.tt_symbolic_cells.proofs.Takings.{tested_takes, under_is}
use Rattle.tt_symbolic_cells.proofs.operands.take_zone.Goals as goal

pub returns-then-is_zone : goal.returns-then-is_zone
returns-then-is_zone c = λ v fits r.
    let z : FitsSigned w32 c.in-Some-number.zone = search rules in
    tested_takes (is_zone (setting_of c.args.setting.now)) r (values v c.args.stack.now) c.args.taken (value v c.in-Some.cell) (under_is v c.args.stack.now c.args.taken c.in-Some.cell c.in-Some.ensures.cell)
    (ap (is_zone (setting_of c.args.setting.now)) (c.in-Some-number.ensures v fits) ∙ (simp to_z-of_z at (sym c.is_zone.ensures ∙ c.if-is_zone.true)))
