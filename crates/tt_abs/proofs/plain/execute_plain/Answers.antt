use Rattle.std.proofs.Common.{◌≡◌, ◌<◌, ◌∙◌, [], ap, refl, rules, sym, Ok, take}
use Rattle.std.specs.Prelude.{◌^◌, length, nat_eq}
use Rattle.std.proofs.lemmas.Bool.{eqb-true, true≢false}
use Rattle.std.proofs.lemmas.List.{nil_from_length}
use Rattle.tt_code.specs.Changes.{all_updated}
use Rattle.tt_abs.specs.Transfers.{cells, cells_on, cells_pushed}
use Rattle.tt_setting.specs.Settings.{setting_of}
use Rattle.tt_abs.specs.States.{abstract_of}
use Rattle.tt_abs.specs.Representation.Steps.{line_of}
use Rattle.tt_abs.proofs.PlainSteps.{updates_counted, pushes_counted, plain_done, plain_kept, changes_none}
use Rattle.tt_abs.specs.Representation.Steps.{TellsOfLine}
use Rattle.tt_abs.proofs.Told.{graphics_line, operands_line, refused_told}
use Rattle.tt_abs.proofs.plain.execute_plain.Goals as goal

pub pushed_cells-requires : goal.pushed_cells-requires
pushed_cells-requires c =
    let small : (setting_of c.args.setting.now).limits.storage < 2 ^ 16 = search rules in
    pushes_counted (setting_of c.args.setting.now) c.args.state.now.graphics (line_of c.args.line.now) c.args.state.now.stack c.in_ok-count.count small c.requires.tested c.in_ok-count.ensures.ok

pub update_all-requires : goal.update_all-requires
update_all-requires c =
    let small : (setting_of c.args.setting.now).limits.storage < 2 ^ 16 = search rules in
    updates_counted (setting_of c.args.setting.now) c.args.state.now.graphics (line_of c.args.line.now) c.args.state.now.stack c.in_ok-count.count small c.requires.tested c.in_ok-count.ensures.ok

pub returns-then-is_empty-clause-ok : goal.returns-then-is_empty-clause-ok
returns-then-is_empty-clause-ok c =
    let taken = take c.in_ok-count.count c.args.state.now.stack in
    let a = abstract_of c.args.state.now in
    let none : c.args.line.now.pushes.now ≡ [] = nil_from_length c.args.line.now.pushes.now (eqb-true _ _ (sym c.is_empty.ensures ∙ c.if-is_empty.true)) in
    plain_done (setting_of c.args.setting.now) a (line_of c.args.line.now) c.in_ok-count.count c.in_ok-count.ensures.ok c.in_ok-test_uses.ensures.ok
    ∙ ap Ok (plain_kept a (abstract_of c.update_all.new.state) c.cut.new.self c.cut.new.self taken (line_of c.args.line.now) c.in_ok-count.count []
    c.in_ok-update_all.ensures (sym (ap (cells_pushed taken a.registers.storage) none)) c.cut.ensures refl)

pub returns-clause-ok : goal.returns-clause-ok
returns-clause-ok c =
    let taken = take c.in_ok-count.count c.args.state.now.stack in
    let a = abstract_of c.args.state.now in
    let none = changes_none c.args.line.now.updates.now c.args.line.now.pushes.now c.requires.one_kind (λ e. true≢false (sym (ap (λ ps. nat_eq (length ps) 0) e) ∙ sym c.is_empty.ensures ∙ c.if-is_empty.false)) in
    plain_done (setting_of c.args.setting.now) a (line_of c.args.line.now) c.in_ok-count.count c.in_ok-count.ensures.ok c.in_ok-test_uses.ensures.ok
    ∙ ap Ok (plain_kept a a c.cut-2.new.self c.push_cells.new.stack taken (line_of c.args.line.now) c.in_ok-count.count c.in_ok-pushed.pushed.items
    (ap (λ us. record a { registers = all_updated cells taken us a.registers }) (sym none)) c.in_ok-pushed.ensures c.cut-2.ensures
    (c.in_ok-push_cells.ensures ∙ ap (λ l. cells_on l c.cut-2.new.self) c.as_slice.ensures))

pub returns-in_err-count-clause-told : goal.returns-in_err-count-clause-told
returns-in_err-count-clause-told c =
    refused_told c.from_residual.result c.in_err-count.field-0.0 (TellsOfLine c.args.setting.now c.args.state.now c.args.line.now)
    (operands_line c.args.setting.now c.args.state.now c.args.line.now c.in_err-count.field-0.0 c.in_err-count.ensures.told) c.from_residual.ensures.1

pub returns-in_err-test_uses-clause-told : goal.returns-in_err-test_uses-clause-told
returns-in_err-test_uses-clause-told c =
    refused_told c.from_residual-in_err-test_uses.result c.in_err-test_uses.field-0.0 (TellsOfLine c.args.setting.now c.args.state.now c.args.line.now)
    (graphics_line c.args.setting.now c.args.state.now c.args.line.now c.in_err-test_uses.field-0.0 c.in_err-test_uses.ensures.told) c.from_residual-in_err-test_uses.ensures.1
