use Rattle.std.proofs.Common.{arith, sym, ◌∙◌, ◌+◌}
use Rattle.std.proofs.lemmas.Option.{slice_get_within}
use Rattle.tt_family.proofs.Ascending.{ascends_step}
use Rattle.tt_family.proofs.builder.ascends.Goals as goal

pub loop-i-preserved : goal.loop-i-preserved
loop-i-preserved c = record {
  ascends = ascends_step c.args.entries.now c.loop-i.i _ _ c.loop-i.invariant.ascends c.loop-i.auto.i c.loop-i-test.true _ _ c.key_of.ensures c.key_of-in-loop-i.ensures
      c.cmp.result c.cmp.ensures (sym c.is_lt.ensures ∙ c.if-not-is_lt.false);
}

pub returns : goal.returns
returns c = λ _ i d e at_d at_e.
    let lt = slice_get_within c.args.entries.now (i + 1) e at_e in
    let end = c.loop-i-test.false in
    c.loop-i.invariant.ascends i d e (omega arith) at_d at_e
