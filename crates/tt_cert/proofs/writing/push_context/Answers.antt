use Rattle.std.proofs.Common.{◌++◌}
use Rattle.tt_cert.specs.Text.{long, word}
use Rattle.tt_cert.proofs.Pushed.{pushes_first}
use Rattle.tt_cert.proofs.writing.push_context.Goals as goal

pub returns-clause-written : goal.returns-clause-written
returns-clause-written c =
    let f = c.args.frame.now in
    let r = c.push_long-4.result in
    let new = c.push_long-4.new.out.items in
    let turn = pushes_first r (long f.turn) (long f.count) c.push_long-2.new.out.items c.push_long-3.new.out.items new c.in_ok-push_long-3.ensures.written c.push_long-4.ensures.written in
    let body = pushes_first r (long f.body) (long f.turn ++ long f.count) c.push_long.new.out.items c.push_long-2.new.out.items new c.in_ok-push_long-2.ensures.written turn in
    let call = pushes_first r (long f.call) (long f.body ++ (long f.turn ++ long f.count)) c.push_word.new.out.items c.push_long.new.out.items new c.in_ok-push_long.ensures.written body in
    pushes_first r (word c.args.parent) (long f.call ++ (long f.body ++ (long f.turn ++ long f.count))) c.args.out.now.items c.push_word.new.out.items new c.in_ok-push_word.ensures.written call
