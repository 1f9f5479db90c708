use Rattle.std.proofs.Common.{◌≡◌, ◌∙◌, List, Some, subst}
use Rattle.tt_code.specs.declared.machine.Frame.{Frame}
use Rattle.tt_family.specs.Contents.{family_of}
use Rattle.tt_family.specs.Puts.{family_at}
use Rattle.tt_family.proofs.EndFunctions.{defined_at_end, defined_where_filled, fillings_keep_end}
use Rattle.tt_family.proofs.builder.Builder.end_functions.Goals as goal

pub returns-in-Some-clause-defined : goal.returns-in-Some-clause-defined
returns-in-Some-clause-defined c =
    let family = c.in-Some.ensures.family in
    let P : List Frame → Type 0 = λ frames. family_of c.args.self.now (frames, c.args.length) ≡ Some c.in-Some.state.now in
    defined_at_end (family_of c.args.self.now) c.args.length c.functions.result.now c.in-Some.state.now
    (subst P family.main (family_at c.args.self.now 0 c.args.length family family.some ∙ c.in-Some.ensures.some)) c.functions.ensures.value

pub returns-in-Some-clause-filled : goal.returns-in-Some-clause-filled
returns-in-Some-clause-filled c =
    let family = c.in-Some.ensures.family in
    let P : List Frame → Type 0 = λ frames. family_of c.args.self.now (frames, c.args.length) ≡ Some c.in-Some.state.now in
    defined_where_filled (family_of c.args.self.now) c.args.length c.functions.result.now c.in-Some.state.now
    (subst P family.main (family_at c.args.self.now 0 c.args.length family family.some ∙ c.in-Some.ensures.some)) c.functions.ensures.value

pub returns-in-Some-clause-fillings : goal.returns-in-Some-clause-fillings
returns-in-Some-clause-fillings c = fillings_keep_end (family_of c.args.self.now) c.args.length

pub returns-in-None-clause-fillings : goal.returns-in-None-clause-fillings
returns-in-None-clause-fillings c = fillings_keep_end (family_of c.args.self.now) c.args.length
