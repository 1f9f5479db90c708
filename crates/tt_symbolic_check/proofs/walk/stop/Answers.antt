use Rattle.std.proofs.Common.{ap, subst, sym, ◌∙◌, ◌≡◌, List, Some}
use Rattle.std.specs.Prelude.{slice_get}
use Rattle.std.proofs.lemmas.Option.{slice_get-get_or}
use Rattle.tt_symbolic_state.specs.declared.state.State.{State}
use Rattle.tt_symbolic_check.proofs.Walkings.{stop_reaches}
use Rattle.tt_symbolic_check.proofs.walk.stop.Goals as goal

pub returns-in_ok-keep-in-Some : goal.returns-in_ok-keep-in-Some
returns-in_ok-keep-in-Some c =
    let head = c.in-Some.field-0.now in
    let found : slice_get c.args.walk.now.heads.items c.args.place ≡ Some head = subst (λ (l : List State). slice_get l c.args.place ≡ Some head) c.deref.ensures.value (slice_get-get_or c.deref.result.now c.args.place head c.in-Some.ensures.lookup.3.0 ∙ ap Some (sym c.in-Some.ensures.lookup.1)) in
    λ setting kept. stop_reaches setting kept c.args.entry.state.value c.args.entry.may_stop c.args.walk.now c.if-entry.true (record { head = head; is_head = record { index = c.args.place; found = found }; covers = c.requires head found })
