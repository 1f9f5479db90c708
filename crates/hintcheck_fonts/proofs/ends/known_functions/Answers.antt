use Rattle.std.proofs.Common.{◌+◌, ℕ, List, nat_eq, subst, sym, take}
use Rattle.std.specs.List.{All}
use Rattle.std.proofs.lemmas.List.{take_all}
use Rattle.std.proofs.lemmas.List.Elements.{All-more, All-weaker}
use Rattle.tt_setting.specs.EntryLists.{common_entries}
use Rattle.tt_setting.specs.Functions.{CoversFunctions}
use Rattle.tt_symbolic_state.specs.declared.state.State.{State}
use Rattle.hintcheck_fonts.proofs.Following.{all_found, common_left, common_right}
use Rattle.hintcheck_fonts.proofs.ends.known_functions.Goals as goal

pub loop-state-preserved : goal.loop-state-preserved
loop-state-preserved c =
    let old = c.loop-state.known in
    let x = c.state-item.result in
    let states = c.args.states.now in
    let common : List (ℕ × ℕ) = common_entries nat_eq old x.functions in
    let left = common_left old x.functions c.order_facts.ensures in
    let P : State → Type 0 = λ a. CoversFunctions common a.functions in
    let Q : State → Type 0 = λ a. CoversFunctions old a.functions in
    subst (λ (fs : List (ℕ × ℕ)). All (λ (a : State). CoversFunctions fs a.functions) (take (c.loop-state.state-index + 1) states)) (sym c.keep.ensures)
    (All-more P states c.loop-state.state-index x c.loop-state-test.true (All-weaker Q P (λ a h. λ n body e. h n body (left n body e)) _ c.loop-state.invariant)
    (subst P c.state-item.is (common_right old x.functions c.order_facts.ensures)))

pub returns : goal.returns
returns c =
    let P : State → Type 0 = λ a. CoversFunctions c.loop-state.known a.functions in
    record { known = λ i a at. all_found P c.args.states.now (subst (All P) (take_all c.loop-state.state-index c.args.states.now c.loop-state-test.false) c.loop-state.invariant) i a at }
