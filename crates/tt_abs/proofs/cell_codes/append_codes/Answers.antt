use Rattle.std.proofs.Common.{ℕ, arith, ap, length, length-append}
use Rattle.std.proofs.lemmas.List.{length-take}
use Rattle.tt_abs.proofs.CodedCells.{all_after, more_codes, more_in_range}
use Rattle.tt_abs.proofs.cell_codes.append_codes.Goals as goal

pub returns-then-count-lt-BLOCK-clause-cells : goal.returns-then-count-lt-BLOCK-clause-cells
returns-then-count-lt-BLOCK-clause-cells c =
    more_codes c.args.codes.now.items c.blocks-2.codes.items c.append_block.new.codes.items _ c.args.cells.now _ c.blocks-2.done c.code_cells-count.result c.append_block.ensures.items
    c.blocks-2.invariant.cells c.code_cells-count.ensures.cells (all_after c.args.cells.now c.blocks-2.done)

pub returns-then-count-lt-BLOCK-clause-in_range : goal.returns-then-count-lt-BLOCK-clause-in_range
returns-then-count-lt-BLOCK-clause-in_range c =
    more_in_range c.args.cells.now _ c.blocks-2.done c.code_cells-count.result c.blocks-2.invariant.in_range c.code_cells-count.ensures.in_range (all_after c.args.cells.now c.blocks-2.done)

pub blocks-2-preserved : goal.blocks-2-preserved
blocks-2-preserved c = record {
  few = omega (arith, c.code_cells-count.ensures.count);
  cells = more_codes c.args.codes.now.items c.blocks-2.codes.items c.append_block.new.codes.items _ c.args.cells.now _ c.blocks-2.done c.code_cells-count.result
      c.append_block.ensures.items c.blocks-2.invariant.cells c.code_cells-count.ensures.cells (all_after c.args.cells.now c.blocks-2.done);
  len = omega (arith, ap length c.append_block.ensures.items, length-append {A = ℕ}, length-take {A = ℕ}, c.code_cells-count.array_long, c.code_cells-count.ensures.few, c.blocks-2.invariant.len);
  room = omega (arith, c.append_block.ensures.capacity, c.blocks-2.invariant.room);
  in_range = more_in_range c.args.cells.now _ c.blocks-2.done c.code_cells-count.result c.blocks-2.invariant.in_range c.code_cells-count.ensures.in_range (all_after c.args.cells.now c.blocks-2.done);
}
