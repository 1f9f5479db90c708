use Rattle.std.proofs.Common.{◌≡◌, ◌∙◌, List, Some, ap, subst, sym}
use Rattle.std.proofs.lemmas.Result.{IfOk-weaker}
use Rattle.hintcheck_explain.specs.declared.asked.Explained.{Explained}
use Rattle.hintcheck_programs.specs.FontPrograms.{judgement_on}
use Rattle.hintcheck.specs.SymbolicExplanations.{first_against, refused_of}
use Rattle.hintcheck_report.specs.declared.refused.Refused.{Refused}
use Rattle.hintcheck.proofs.symbolic_explanation.explain_symbolically.Goals as goal

pub returns-then-ne-clause-tells : goal.returns-then-ne-clause-tells
returns-then-ne-clause-tells g c =
    let called = c.args.named.name in
    let rs = c.in-Ok.refused.items in
    let found : first_against called rs ≡ Some c.in-Some.one =
    subst (λ (xs : List Refused). first_against called xs ≡ Some c.in-Some.one) c.deref.ensures.value (sym c.refused_against.ensures ∙ c.in-Some.is) in
    IfOk-weaker c.tell_unchecked.result _ _
    (λ e is. record { judgement = judgement_on c.args.font.now rs; given = c.in-Ok.ensures; against = found ∙ sym (ap (λ (x : Explained). refused_of x) is) }) c.tell_unchecked.ensures.refused
