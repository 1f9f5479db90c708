use Rattle.std.proofs.Common.{rules, sym, ◌∙◌, ◌≡◌}
use Rattle.std.specs.Prelude.{FitsSigned}
use Rattle.std.specs.Int.{w32}
use Rattle.std.proofs.lemmas.Int.{to_z-of_z}
use Rattle.tt_symbolic_state.proofs.Values.{same_parts}
use Rattle.tt_symbolic_state.proofs.cell.divided.Goals as goal

pub returns-then-product-cell-2 : goal.returns-then-product-cell-2
returns-then-product-cell-2 c = λ v.
    let k : FitsSigned w32 c.args.by = search rules in
    let f : c.args.cell.factor ≡ c.in_ok-product.product.factor = search rules in
    let o : c.args.cell.offset ≡ c.in_ok-product.product.offset = search rules in
    same_parts v c.args.cell c.in_ok-product.product (sym c.in_ok-product.ensures.symbol) f o ∙ (simp to_z-of_z at (c.in_ok-product.ensures.value v))
