use Rattle.std.proofs.Common.{true, false, ◌≤◌, ◌<◌, length, arith}
use Rattle.tt_setting.specs.Settings.{frames_of, setting_of}
use Rattle.tt_abs.specs.States.{abstract_of}
use Rattle.tt_abs.specs.Moves.{nexts_of}
use Rattle.tt_abs.proofs.StepLemmas.{left_in_range, performs_not, performs_then, moves_within, moves_beyond, passed_on}
use Rattle.tt_setting.proofs.RefusalLemmas.{for_reason}
use Rattle.tt_abs.proofs.RolesTold.{there_told}
use Rattle.tt_abs.proofs.instruction.execute.Goals as goal

pub returns-in_err-moves-clause-refused : goal.returns-in_err-moves-clause-refused
returns-in_err-moves-clause-refused c =
    let S = setting_of c.args.setting.now in
    let fs = frames_of c.args.point.now in
    let at = c.args.point.now.offset in
    passed_on c.from_residual.result c.in_err-moves.field-0.0 _
    (for_reason c.in_err-moves.field-0.0 _ _ (λ q h. performs_not S fs at (abstract_of c.args.state.now) c.args.instr.now q c.requires.found h c.code.result c.code.ensures) c.in_err-moves.ensures.refused)
    c.from_residual.ensures.1

pub returns-then-len-from-clause-refused : goal.returns-then-len-from-clause-refused
returns-then-len-from-clause-refused c =
    let S = setting_of c.args.setting.now in
    let fs = frames_of c.args.point.now in
    let at = c.args.point.now.offset in
    let deep : c.args.setting.now.limits.stack < length c.dispatch.new.state.stack = omega (arith, c.if-len-from.true, c.from-2.ensures, c.len.ensures.value) in
    performs_then S fs at (abstract_of c.args.state.now) c.args.instr.now (nexts_of fs c.in_ok-moves.moves (abstract_of c.dispatch.new.state)) false c.requires.found c.in_ok-moves.ensures.ok c.code.result c.code.ensures
    (moves_beyond S fs c.in_ok-moves.moves (abstract_of c.dispatch.new.state) deep)

pub returns-clause-ok : goal.returns-clause-ok
returns-clause-ok c =
    let S = setting_of c.args.setting.now in
    let fs = frames_of c.args.point.now in
    let at = c.args.point.now.offset in
    let fine : length c.dispatch.new.state.stack ≤ c.args.setting.now.limits.stack = omega (arith, c.if-len-from.false, c.from-2.ensures, c.len.ensures.value) in
    performs_then S fs at (abstract_of c.args.state.now) c.args.instr.now (nexts_of fs c.in_ok-moves.moves (abstract_of c.dispatch.new.state)) true c.requires.found c.in_ok-moves.ensures.ok c.code.result c.code.ensures
    (moves_within S fs c.in_ok-moves.moves (abstract_of c.dispatch.new.state) fine)

pub returns-clause-in_range : goal.returns-clause-in_range
returns-clause-in_range c = λ h.
    left_in_range (setting_of c.args.setting.now) (frames_of c.args.point.now) c.args.point.now.offset c.args.state.now c.dispatch.new.state c.in_ok-moves.moves c.range_facts.ensures.range h (returns-clause-ok c)
    c.order_facts.ensures.functions c.order_facts.ensures.storage

pub returns-in_err-moves-clause-told : goal.returns-in_err-moves-clause-told
returns-in_err-moves-clause-told c =
    passed_on c.from_residual.result c.in_err-moves.field-0.0 _
    (there_told c.args.setting.now c.args.point.now c.args.state.now _ c.args.instr.now c.code.result c.in_err-moves.field-0.0 c.code.ensures c.requires.found c.in_err-moves.ensures.told)
    c.from_residual.ensures.1
