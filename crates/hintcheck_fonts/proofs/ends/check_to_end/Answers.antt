use Rattle.std.proofs.Common.{◌≡◌, List, [], length, arith, subst}
use Rattle.std.proofs.lemmas.Grind.{common_steps}
use Rattle.std.proofs.lemmas.List.{nil_from_length}
use Rattle.tt_symbolic_state.specs.declared.state.State.{State}
use Rattle.hintcheck_fonts.specs.SymbolicEnds.{AreKnown}
use Rattle.hintcheck_fonts.proofs.SymbolicAnswers.{end_answers}
use Rattle.hintcheck_fonts.proofs.Following.{from_one, shown_by_none}
use Rattle.hintcheck_fonts.proofs.ends.check_to_end.Goals as goal

pub returns-clause-ended : goal.returns-clause-ended
returns-clause-ended c = record {
  safe = λ m n r starts run faults. c.in_ok-states.ensures.safe m n r (from_one c.in_ok-start_with.field-0 m (c.in_ok-start_with.ensures m starts)) run faults;
  shown = record {
    shown = λ m n starts run ends. c.in_ok-states.ensures.ends m n (from_one c.in_ok-start_with.field-0 m (c.in_ok-start_with.ensures m starts)) run ends;
    known = subst (λ (l : List State). AreKnown c.in_ok-functions.functions l) c.as_slice.ensures.value c.in_ok-functions.ensures;
  };
}

empty_states : (states : List State) → length states ≡ 0 → states ≡ []
empty_states states e = nil_from_length states e

pub returns-then-is_empty-clause-answer : goal.returns-then-is_empty-clause-answer
returns-then-is_empty-clause-answer c =
    end_answers c.args.setting.now c.args.functions.now c.in_main.result
    (λ m n starts run ends. shown_by_none c.in_ok-states.states.items n (empty_states c.in_ok-states.states.items (grind (arith, common_steps)))
    (c.in_ok-states.ensures.ends m n (from_one c.in_ok-start_with.field-0 m (c.in_ok-start_with.ensures m starts)) run ends))
    c.in_main.ensures
