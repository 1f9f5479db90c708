use Rattle.std.proofs.Common.{reverse, refl, sym, ◌∙◌}
use Rattle.std.proofs.lemmas.List.{reverse-append}
use Rattle.tt_code.proofs.NestingLemmas.{main_within, not_main_within}
use Rattle.tt_code.proofs.nest.apply_keyword.Goals as goal

pub returns-in_ok-push-in-Main : goal.returns-in_ok-push-in-Main
returns-in_ok-push-in-Main c =
    let w = main_within (reverse c.args.stack.now.items) (sym c.requires ∙ c.in-Main.is) in
    (rw (c.in-Fdef.is, w, c.in_ok-push-in-Main.ensures.items, reverse-append) refl, rw c.in-Fdef.is refl)

pub returns-in_default-body : goal.returns-in_default-body
returns-in_default-body c =
    let w = not_main_within (reverse c.args.stack.now.items) (λ e. c.in_default-body.not-Main (c.requires ∙ e)) in rw (c.in-Fdef.is, w) refl

pub returns-in_ok-push-in-Main-body : goal.returns-in_ok-push-in-Main-body
returns-in_ok-push-in-Main-body c =
    let w = main_within (reverse c.args.stack.now.items) (sym c.requires ∙ c.in-Main-body.is) in
    (rw (c.in-Idef.is, w, c.in_ok-push-in-Main-body.ensures.items, reverse-append) refl, rw c.in-Idef.is refl)

pub returns-in_default-body-2 : goal.returns-in_default-body-2
returns-in_default-body-2 c =
    let w = not_main_within (reverse c.args.stack.now.items) (λ e. c.in_default-body-2.not-Main (c.requires ∙ e)) in rw (c.in-Idef.is, w) refl
