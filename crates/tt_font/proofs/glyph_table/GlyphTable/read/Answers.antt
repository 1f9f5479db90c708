use Rattle.std.proofs.Common.{◌≡◌, ◌+◌, ◌<◌, ◌∙◌, not, rules, arith, ap, sym}
use Rattle.tt_font.specs.Locations.{entry_fits}
use Rattle.tt_font.specs.Conditions.{misplaced_entry}
use Rattle.tt_font.proofs.FirstBelow.{none_yet, none_more, first_is}
use Rattle.tt_font.proofs.Placed.{loca_format_is_unknown, loca_is_misplaced, loca_is_placed, all_placed}
use Rattle.tt_font.proofs.glyph_table.GlyphTable.read.Goals as goal

pub returns-then-format-gt1-clause-fault : goal.returns-then-format-gt1-clause-fault
returns-then-format-gt1-clause-fault c = loca_format_is_unknown _ _ _ _ c.if-format-gt1.true

pub loop-i-init : goal.loop-i-init
loop-i-init c = none_yet _

pub returns-then-not-entry_is_good-clause-fault : goal.returns-then-not-entry_is_good-clause-fault
returns-then-not-entry_is_good-clause-fault c =
    loca_is_misplaced c.args.format c.args.loca.now c.args.glyf.now c.args.count c.loop-i.i (omega arith)
    (first_is (λ i. not (entry_fits c.args.format c.args.loca.now c.args.glyf.now i)) c.loop-i.i (c.args.count + 1) c.loop-i.invariant (search rules)
    (let e : c.from-i-end.result ≡ c.args.count = search rules in omega (arith, e)))

pub loop-i-preserved : goal.loop-i-preserved
loop-i-preserved c = none_more (λ i. not (entry_fits c.args.format c.args.loca.now c.args.glyf.now i)) c.loop-i.i c.loop-i.invariant (search rules)

pub invariant_of-result : goal.invariant_of-result
invariant_of-result c =
    let e : c.from-i-end.result ≡ c.args.count = search rules in
    let end : c.loop-i.i ≡ c.args.count + 1 = omega (arith, e) in
    record {
      known = let lt : c.args.format < 2 = omega arith in lt;
      small = c.requires;
      placed = λ i le. all_placed c.args.format c.args.loca.now c.args.glyf.now c.loop-i.i c.loop-i.invariant i (omega arith);
    }

pub returns-clause-fault : goal.returns-clause-fault
returns-clause-fault c =
    let e : c.from-i-end.result ≡ c.args.count = search rules in
    let end : c.loop-i.i ≡ c.args.count + 1 = omega (arith, e) in
    loca_is_placed c.args.format c.args.loca.now c.args.glyf.now c.args.count (omega arith)
    (sym (ap (misplaced_entry c.args.format c.args.loca.now c.args.glyf.now) end) ∙ c.loop-i.invariant)
