use Rattle.std.proofs.Common.{◌≡◌, ◌<◌, ◌*◌, length, ap, arith}
use Rattle.tt_cert.proofs.Ahead.{listed_again}
use Rattle.tt_cert.proofs.lists.read_listed.Goals as goal

pub returns-then-is_ahead-clause-reads : goal.returns-then-is_ahead-clause-reads
returns-then-is_ahead-clause-reads g c =
    let yes = c.if-is_ahead.true in
    let text_is = c.deref.ensures.value in
    let long : length c.args.functions.now.text.items ≡ 6 * c.args.count = omega (arith, c.is_ahead.ensures.long yes, ap length text_is, c.from-width.ensures) in
    let some : 0 < length c.args.functions.now.text.items = omega (arith, c.is_ahead.ensures.some yes, long, c.from-width.ensures) in
    let same = rw (text_is, c.from-width.ensures) at (c.is_ahead.ensures.same yes) in
    let skipped = rw c.from-width.ensures at c.skip.ensures.bytes in
    listed_again _ _ c.args.functions.now.text.items (g.S.Source.read_ahead c.args.source.now) c.args.functions.now.list.items c.args.place _ c.args.count (c.requires.1 some) long
    same skipped c.ranges.place.fits (omega (arith, c.saturating_add.ensures, c.from-width.ensures))
