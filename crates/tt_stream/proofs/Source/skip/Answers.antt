use Rattle.std.proofs.Common.{◌-◌, ◌<◌, length, ap, arith}
use Rattle.std.proofs.lemmas.List.{length-drop}
use Rattle.tt_stream.proofs.Skipped.{never_fails, part_fits, skipped_more}
use Rattle.tt_stream.proofs.Source.skip.Goals as goal

pub unreachable-requires : goal.unreachable-requires
unreachable-requires g c =
    let before = c.loop-left.invariant in
    let some : 0 < length (g.Self.Source.read_ahead c.loop-left.self) = omega (arith, before.few, c.requires, ap length before.rest, length-drop (c.args.count - c.loop-left.left) (g.Self.Source.read_ahead c.args.self.now)) in
    never_fails c.in_default.field-0 _ _ _ some c.in_default.ensures.ahead

pub loop-left-preserved : goal.loop-left-preserved
loop-left-preserved g c =
    skipped_more _ _ _ _ _ _ _ _ _ _ c.args.count c.loop-left.left c.in-Ok.taken c.loop-left.invariant c.requires (omega arith) (part_fits _ _ _ _ c.read.auto.buf (omega arith))
    c.in-Ok.ensures.ahead c.in-Ok.ensures.bytes.0 c.in-Ok.ensures.failures
