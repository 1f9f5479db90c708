use Rattle.std.proofs.Common.{◌∙◌, rules}
use Rattle.tt_family.proofs.Spending.{spends_on}
use Rattle.hintcheck_needs.proofs.Listing.{one_more_need, one_more_told}
use Rattle.hintcheck_needs.proofs.font_needs.needs_of.Goals as goal

pub loop-told-preserved : goal.loop-told-preserved
loop-told-preserved c =
    let i = c.loop-told.invariant in
    let e = c.in_ok-range.ensures in
    record {
      raised = e.kept ∙ i.raised;
      told = one_more_told _ _ _ _ _ c.in_ok-list_need.ensures i.told c.loop-told-test.true (search rules);
      each = one_more_need _ _ _ _ _ c.in_ok-list_need.ensures i.each (record {
        refused = c.in_ok-first.first.refused.items;
        greatest = search rules;
        found = search rules;
        exact = search rules;
        declared = search rules;
      });
      spends = spends_on c.args.points.now c.loop-told.points c.range_of.new.points i.spends c.range_of.ensures.spends;
      alike = e.budget ∙ i.alike;
    }
