use Rattle.std.proofs.Common.{◌≡◌, ◌<◌, ◌∙◌, arith, sym, take}
use Rattle.tt_font.specs.Directory.{record_count}
use Rattle.tt_collection.proofs.Records.{moved_none, one_more, rest_fits}
use Rattle.tt_collection.proofs.directory.FaceDirectory.unpacked.Goals as goal

pub loop-i-init : goal.loop-i-init
loop-i-init c =
    let front : c.extend_from_slice.new.self.items ≡ take 12 c.args.self.now.bytes.now = grind (arith, c.in_ok-extend_from_slice.ensures.items, c.in_ok-file.ensures.items) in
    front ∙ sym (moved_none c.len-len.result c.args.self.now.bytes.now)

pub push_moved-requires-clause-fits : goal.push_moved-requires-clause-fits
push_moved-requires-clause-fits c =
    let lt : c.loop-i.i < record_count c.args.self.now.bytes.now = omega arith in
    rest_fits c.args.self.now.bytes.now c.loop-i.i c.from.result c.len-len.result c.args.self.now.movable c.from.ensures c.len-len.ensures lt

pub loop-i-preserved : goal.loop-i-preserved
loop-i-preserved c =
    one_more c.len-len.result c.args.self.now.bytes.now c.loop-i.i c.from.result c.loop-i.file.items c.push_moved.new.file.items
    c.from.ensures c.loop-i.invariant c.in_ok-push_moved.ensures
