use Rattle.std.proofs.Common.{◌++◌, reverse}
use Rattle.tt_cert.specs.Text.{cell_text, counted, graphics_text, pair_text, stored_text}
use Rattle.tt_cert.proofs.Fitting.{state_written}
use Rattle.tt_cert.proofs.Pushed.{pushes_first}
use Rattle.tt_cert.proofs.writing.push_state.Goals as goal

pub returns-clause-fits : goal.returns-clause-fits
returns-clause-fits c =
    let rest = c.push_after_stack.ensures in
    state_written c.push_after_stack.result c.args.state.now _ c.in_ok-push_stack.ensures.few rest.kept rest.few rest.numbers

pub returns-clause-written : goal.returns-clause-written
returns-clause-written c =
    let s = c.args.state.now in
    let r = c.push_after_stack.result in
    let new = c.push_after_stack.new.out.items in
    let stack = counted cell_text (reverse s.stack) in
    let rest = graphics_text s.graphics ++ (counted pair_text s.functions ++ counted stored_text s.storage) in
    let more = pushes_first r stack rest c.push_pair.new.out.items c.push_stack.new.out.items new c.in_ok-push_stack.ensures.written c.push_after_stack.ensures.written in
    pushes_first r (pair_text c.args.point) (stack ++ rest) c.args.out.now.items c.push_pair.new.out.items new c.in_ok-push_pair.ensures.written more
