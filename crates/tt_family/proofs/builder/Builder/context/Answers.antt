use Rattle.std.proofs.Common.{arith, inr}
use Rattle.std.proofs.lemmas.Bool.Decides.{nat_tests}
use Rattle.tt_family.proofs.Adding.{length_is, context_some}
use Rattle.tt_family.proofs.builder.Builder.context.Goals as goal

pub returns-in-Some-clause-some : goal.returns-in-Some-clause-some
returns-in-Some-clause-some c =
    context_some _ _ _ _ c.self.view_is c.self.invariant c.deref.result.now c.deref.ensures.value c.args.number (omega arith) c.in-Some.entry.now
    c.in-Some.ensures.lookup.1 (let t = c.in-Some.ensures.lookup.0 in grind (arith, nat_tests))

pub returns-in-None-clause-none : goal.returns-in-None-clause-none
returns-in-None-clause-none c = λ _.
    let long = length_is _ _ _ _ c.self.view_is c.self.invariant in
    let t = c.in-None.ensures.lookup.0 in
    let e = c.deref.ensures.len in
    inr (grind (arith, nat_tests))
