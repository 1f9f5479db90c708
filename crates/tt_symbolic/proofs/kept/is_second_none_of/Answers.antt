use Rattle.std.proofs.Common.{List, subst, ap, ◌∙◌, ◌∷◌}
use Rattle.tt_symbolic_state.specs.declared.cell.Cell.{Cell}
use Rattle.tt_symbolic_state.specs.declared.cell.Range.{Range}
use Rattle.tt_symbolic.specs.Representation.Keeping.{IsNoneOf}
use Rattle.tt_symbolic.proofs.kept.is_second_none_of.Goals as goal

pub returns-in-Ok-cell_under : goal.returns-in-Ok-cell_under
returns-in-Ok-cell_under c = λ e. record {
  top = c.in-Ok.field-0;
  second = c.in-Ok-cell_under.place;
  below = _;
  stack = c.in-Ok.ensures ∙ ap (λ (l : List Cell). c.in-Ok.field-0 ∷ l) c.in-Ok-cell_under.ensures;
  none = subst (λ (r : List Range). IsNoneOf c.args.numbers.now r c.in-Ok-cell_under.place) c.as_slice.ensures.value (c.is_none_of.ensures e);
}
