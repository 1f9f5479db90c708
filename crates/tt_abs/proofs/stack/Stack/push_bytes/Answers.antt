use Rattle.std.proofs.Common.{◌∙◌, ◌++◌, ap, map, pos}
use Rattle.tt_abs.specs.declared.cells.Cell.TheVariants.{Known}
use Rattle.tt_abs.specs.Representation.Codes.{cells_of}
use Rattle.tt_abs.proofs.CodedCells.{pushed_codes}
use Rattle.tt_abs.proofs.stack.Stack.push_bytes.Goals as goal

pub returns : goal.returns
returns c =
    let cells = map Known (map pos c.args.bytes.now) in
    pushed_codes c.self.inside.wide.items c.self.inside.codes.items c.append_bytes.new.codes.items c.args.self.now cells c.self.view_is
    (c.append_bytes.ensures.cells ∙ ap (λ x. cells_of x ++ cells) c.make_room.ensures.items)
