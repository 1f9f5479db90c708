use Rattle.std.proofs.Common.{◌≡◌, inr, ◌<◌, ◌++◌, ◌∷◌, [], List, ℕ, Ok, true, false, length, take, drop, arith, rules, ◌∙◌, ap, subst}
use Rattle.std.proofs.lemmas.List.{length-take-le}
use Rattle.tt_code.specs.Grammar.{CanGoOn}
use Rattle.tt_code.proofs.CutLemmas.{begins_more}
use Rattle.tt_code.proofs.ProgramLemmas.{breaks, cannot_stop, sizes_left}
use Rattle.tt_code.proofs.program.read_all.Goals as goal

pub unreachable-requires : goal.unreachable-requires
unreachable-requires c =
    let inv = c.loop-rest.invariant in
    let left : 0 < length c.loop-rest.rest.now = search rules in
    cannot_stop _ _ inv.0 c.requires.cut.0 inv.1 c.requires.cut.1 left c.in_default.ensures.none

pub read-requires-clause-fits : goal.read-requires-clause-fits
read-requires-clause-fits c =
    let inv = c.loop-rest.invariant in
    let sizes = sizes_left _ _ inv.0 _ _ _ inv.1 inv.2 in
    let within = c.in-Some.ensures.found.1 in
    let front : c.split_at.result.0.now ≡ take c.in-Some.n c.loop-rest.rest.now = search rules in
    let long : length c.split_at.result.0.now ≡ c.in-Some.n = ap length front ∙ length-take-le _ _ within in
    omega (arith, sizes.0, c.requires.small)

pub returns-then-not-branch-clause-err : goal.returns-then-not-branch-clause-err
returns-then-not-branch-clause-err c =
    let inv = c.loop-rest.invariant in
    let sizes = sizes_left _ _ inv.0 _ _ _ inv.1 inv.2 in
    let front : c.split_at.result.0.now ≡ take c.in-Some.n c.loop-rest.rest.now = search rules in
    let was : c.read.result ≡ Ok false = search rules in
    let cannot : CanGoOn (inv.0 ++ take c.in-Some.n c.loop-rest.rest.now ∷ []) → ⊥ = subst (λ i. CanGoOn (inv.0 ++ i ∷ []) → ⊥) front (c.read.ensures.refused was inv.0 inv.2) in
    let more = begins_more _ _ inv.0 c.in-Some.n inv.1 c.in-Some.ensures.found.2 in
    inr (c.requires.cut.0, c.requires.cut.1, breaks _ _ _ inv.0 c.requires.cut.0 _ _ more c.requires.cut.1 inv.2.leaves cannot sizes.1)

pub loop-rest-preserved : goal.loop-rest-preserved
loop-rest-preserved c =
    let inv = c.loop-rest.invariant in
    let i : List ℕ = take c.in-Some.n c.loop-rest.rest.now in
    let front : c.split_at.result.0.now ≡ i = search rules in
    let back : c.split_at.result.1.now ≡ drop c.in-Some.n c.loop-rest.rest.now = search rules in
    let was : c.read.result ≡ Ok true = search rules in
    let read = c.read.ensures.stands was inv.0 inv.2 in
    (inv.0 ++ i ∷ [], rw back (begins_more _ _ inv.0 c.in-Some.n inv.1 c.in-Some.ensures.found.2), rw front at read)
