use Rattle.std.proofs.Common.{inl, inr, map, subst, ◌≡◌, ◌∙◌, ap, List, ℕ}
use Rattle.std.specs.Vec.Iter.{into_iter_items}
use Rattle.hintcheck.specs.MeansSafe.{IsStatusOf}
use Rattle.hintcheck_cli.specs.Statuses.{texts_of}
use Rattle.hintcheck_cli.proofs.run.Goals as goal

pub returns : goal.returns
returns c =
    let told = c.command-status.ensures in
    let status : IsStatusOf (map (λ w. w.now) c.deref-2.result.now) c.command-status.result = record { few = told.statuses; safe = told.safe; refused = told.refused; told = told.told; none = told.none } in
    let words = texts_of (into_iter_items c.args.words) in
    let same : map (λ w. w.now) c.deref-2.result.now ≡ words = ap (map (λ w. w.now)) c.deref-2.ensures.value ∙ c.in_ok-texts.ensures ∙ ap texts_of (c.deref.ensures.value ∙ c.in_ok-words.ensures) in
    let of_words = subst (λ (ws : List (List ℕ)). IsStatusOf ws c.command-status.result) same status in
    elim c.told_status.ensures [ inl same ↦ inl (rw same of_words) | inr (closed, two) ↦ inr (closed, subst (λ (n : ℕ). IsStatusOf words n) two of_words) ]
