use Rattle.std.proofs.Common.{◌≡◌, ◌+◌, true, false, arith, subst, sym}
use Rattle.std.specs.Prelude.{◌^◌, nat_lt, not}
use Rattle.tt_font.specs.Numbers.{u32_at}
use Rattle.tt_font.specs.Directory.{record_place}
use Rattle.tt_font.proofs.FirstBelow.{first_is, none_more, none_yet}
use Rattle.tt_collection.specs.CollectionFaults.{can_be_moved}
use Rattle.tt_collection.proofs.Records.{fits, misfits}
use Rattle.tt_collection.proofs.directory.misfit_below.Goals as goal

pub loop-i-init : goal.loop-i-init
loop-i-init c = none_yet _

pub returns-then-is_none : goal.returns-then-is_none
returns-then-is_none c =
    let at : c.u32_at-offset.result ≡ u32_at (record_place c.loop-i.i + 8) c.args.bytes.now = cc in
    let misfit = misfits c.u32_at-offset.result c.args.shift (c.u32_at-offset.result + c.args.shift) c.checked_add.result c.checked_add.ensures c.if-is_none.ensures in
    sym (first_is (λ i. not (can_be_moved c.args.shift c.args.bytes.now i)) c.loop-i.i c.args.count c.loop-i.invariant
    (subst (λ x. not (nat_lt (x + c.args.shift) (2 ^ 32)) ≡ true) at misfit) (omega arith))

pub loop-i-preserved : goal.loop-i-preserved
loop-i-preserved c =
    let at : c.u32_at-offset.result ≡ u32_at (record_place c.loop-i.i + 8) c.args.bytes.now = cc in
    let fit = fits c.u32_at-offset.result c.args.shift (c.u32_at-offset.result + c.args.shift) c.checked_add.result c.checked_add.ensures c.if-is_none.ensures in
    none_more (λ i. not (can_be_moved c.args.shift c.args.bytes.now i)) c.loop-i.i c.loop-i.invariant
    (subst (λ x. not (nat_lt (x + c.args.shift) (2 ^ 32)) ≡ false) at fit)
