use Rattle.std.proofs.Common.{◌∙◌, ◌++◌, List, ap, subst, sym, take}
use Rattle.tt_abs.specs.declared.cells.Cell.{Cell}
use Rattle.tt_abs.specs.Representation.Codes.{cells_of}
use Rattle.tt_abs.specs.Stacks.{StackInRange}
use Rattle.tt_abs.proofs.CodedCells.{pushed_codes, taken_in_range}
use Rattle.tt_abs.proofs.stack.Stack.push_coded.Goals as goal

pub returns-clause-pushed : goal.returns-clause-pushed
returns-clause-pushed c =
    let cells = take c.append_codes.result c.args.cells.now in
    pushed_codes c.self.inside.wide.items c.self.inside.codes.items c.append_codes.new.codes.items c.args.self.now cells c.self.view_is
    (c.append_codes.ensures.cells ∙ ap (λ x. cells_of x ++ cells) c.make_room.ensures.items)

pub returns-clause-in_range : goal.returns-clause-in_range
returns-clause-in_range c below =
    subst (λ (l : List Cell). StackInRange l) (sym (returns-clause-pushed c))
    (taken_in_range c.append_codes.result c.args.cells.now c.args.self.now c.append_codes.ensures.in_range below)
