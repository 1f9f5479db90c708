use Rattle.std.proofs.Common.{rules, ◌≡◌, ◌+◌, ◌<◌, ◌∙◌, subst, length, ℕ, List}
use Rattle.std.specs.Io.KnownBytes.{Appends}
use Rattle.tt_stream.specs.Streams.{AppendsBeginning, AppendsBeginningOfText}
use Rattle.tt_stream.specs.declared.text.TheConstants.{ROOM}
use Rattle.tt_stream.proofs.Printed.{WrittenTo, kept_then, printed_all, printed_more, printed_part}
use Rattle.tt_stream.proofs.text.print.Goals as goal

pub returns-in_err-write_all-clause-beginning : goal.returns-in_err-write_all-clause-beginning
returns-in_err-write_all-clause-beginning g c =
    let part : AppendsBeginning (g.W.Sink.contents c.loop-next.sink) (g.W.Sink.contents c.write_all.new.sink) c.in_ok-window.window.kept =
    subst (AppendsBeginning (g.W.Sink.contents c.loop-next.sink) (g.W.Sink.contents c.write_all.new.sink)) c.as_bytes.ensures c.in_err-write_all.ensures.beginning in
    let printed : AppendsBeginningOfText (g.D.Display.output c.args.value.now) (g.W.Sink.contents c.args.sink.now) (g.W.Sink.contents c.write_all.new.sink) =
    printed_part _ _ _ _ ROOM c.loop-next.skip c.in_ok-window.window.kept c.loop-next.invariant.written c.in_ok-window.ensures.text part in
    search rules

pub returns-then-as_bytes-lt-ROOM-clause-written : goal.returns-then-as_bytes-lt-ROOM-clause-written
returns-then-as_bytes-lt-ROOM-clause-written g c =
    let appended : Appends (g.W.Sink.contents c.loop-next.sink) (g.W.Sink.contents c.write_all.new.sink) c.in_ok-window.window.kept =
    subst (Appends (g.W.Sink.contents c.loop-next.sink) (g.W.Sink.contents c.write_all.new.sink)) c.as_bytes.ensures c.in_ok-write_all.ensures.written in
    let short : length c.in_ok-window.window.kept < ROOM = subst (λ (l : List ℕ). length l < ROOM) c.as_bytes-in-Some.ensures c.if-as_bytes-lt-ROOM.true in
    printed_all _ _ _ _ ROOM c.loop-next.skip c.in_ok-window.window.kept c.loop-next.invariant.written c.in_ok-window.ensures.text appended short

pub returns-in_err-write_all-clause-kept : goal.returns-in_err-write_all-clause-kept
returns-in_err-write_all-clause-kept g c = kept_then _ _ _ _ c.loop-next.invariant.kept c.in_err-write_all.ensures.beginning.appended

pub returns-then-as_bytes-lt-ROOM-clause-kept : goal.returns-then-as_bytes-lt-ROOM-clause-kept
returns-then-as_bytes-lt-ROOM-clause-kept g c = kept_then _ _ _ _ c.loop-next.invariant.kept c.in_ok-write_all.ensures.written

pub loop-next-preserved : goal.loop-next-preserved
loop-next-preserved g c =
    let appended : Appends (g.W.Sink.contents c.loop-next.sink) (g.W.Sink.contents c.write_all.new.sink) c.in_ok-window.window.kept =
    subst (Appends (g.W.Sink.contents c.loop-next.sink) (g.W.Sink.contents c.write_all.new.sink)) c.as_bytes.ensures c.in_ok-write_all.ensures.written in
    let next_is : c.loop-next.skip + ROOM ≡ c.in-Some.next = search rules in
    let more = printed_more (g.D.Display.output c.args.value.now) (g.W.Sink.contents c.args.sink.now) _ _ ROOM c.loop-next.skip c.in_ok-window.window.kept c.loop-next.invariant.written c.in_ok-window.ensures.text appended in
    record {
      kept = kept_then _ _ _ _ c.loop-next.invariant.kept appended;
      written = subst (WrittenTo (g.D.Display.output c.args.value.now) (g.W.Sink.contents c.args.sink.now) (g.W.Sink.contents c.write_all.new.sink)) next_is more;
      failures = c.in_ok-write_all.ensures.failures ∙ c.loop-next.invariant.failures;
    }
