use Rattle.tt_abs.specs.GraphicsOrders.{graphics_laws}
use Rattle.tt_abs.specs.Representation.JoinLaws.{unchanged_by_below}
use Rattle.tt_abs.proofs.graphics.GraphicsCellZoneCellOrder.join.Goals as goal

pub returns-clause-unchanged : goal.returns-clause-unchanged
returns-clause-unchanged c =
    unchanged_by_below graphics_laws c.args.self.now c.args.other.now c.joined_graphics.result c.below-changed.result c.requires.mine
    c.joined_graphics.ensures c.below-changed.ensures
