use Rattle.std.proofs.Common.{arith, ◌∙◌, sym, refl, length, ◌-◌, pos, get_or}
use Rattle.tt_symbolic_state.specs.declared.state.OpenCall.{OpenCall}
use Rattle.tt_symbolic.proofs.Controls.{last_frame, last_is}
use Rattle.tt_symbolic.proofs.step.innermost.Goals as goal

pub returns-in-len1-up : goal.returns-in-len1-up
returns-in-len1-up c =
    let calls = c.as_slice.result.now in
    let none : OpenCall = record { body = 0; call = 0; left = record { symbol = 0; factor = pos 0; offset = pos 0 } } in
    let last : OpenCall = get_or calls (length calls - 1) none in
    let (outer, is) = last_is calls (length calls - 1) none (let h = c.in-len1-up.len_at_least in omega arith) in
    last_frame (record { body = last.body; call = last.call; turn = 1; count = 1 }) last outer _ refl (sym c.as_slice.ensures.value ∙ is)
