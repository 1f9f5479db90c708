use Rattle.std.proofs.Common.{◌≡◌, ◌<◌, length, take, ◌++◌, rules, ◌∷◌, [], drop}
use Rattle.tt_code.proofs.CutLemmas.{cannot, begins_more}
use Rattle.tt_code.proofs.instruction_length.first_uncut.Goals as goal

pub returns-in-None-clause-uncut : goal.returns-in-None-clause-uncut
returns-in-None-clause-uncut c =
    let left : 0 < length c.loop-rest.rest.now = search rules in
    cannot _ _ c.loop-rest.invariant.0 _ c.loop-rest.invariant.1 c.in-None.ensures.none left (cc)

pub loop-rest-preserved : goal.loop-rest-preserved
loop-rest-preserved c =
    let found = c.in-Some.ensures.found in
    let before = c.loop-rest.invariant in
    let rest_is : c.split_at.result.1.now ≡ drop c.in-Some.n c.loop-rest.rest.now = search rules in
    (before.0 ++ take c.in-Some.n c.loop-rest.rest.now ∷ [], rw rest_is (begins_more _ _ before.0 c.in-Some.n before.1 found.2))
