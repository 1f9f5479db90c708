use Rattle.std.proofs.Common.{◌≡◌, ◌-◌, ◌+◌, length, ap, ◌∙◌, arith, sym}
use Rattle.std.specs.Prelude.{reverse, remove}
use Rattle.std.proofs.lemmas.List.{length-reverse}
use Rattle.tt_abs.specs.Representation.Codes.{kept_cells}
use Rattle.tt_abs.proofs.CodedCells.{kept_length, removed_code, removed_wide}
use Rattle.tt_abs.proofs.stack.Stack.remove.Goals as goal

pub returns-then-place-codes : goal.returns-then-place-codes
returns-then-place-codes c =
    let wide = c.self.inside.wide.items in
    let codes = c.self.inside.codes.items in
    ap (λ x. reverse (kept_cells wide x)) c.remove.ensures.items
    ∙ ap (λ n. reverse (kept_cells wide (remove codes (n - 1 - c.args.place)))) c.len-codes.ensures.value
    ∙ removed_code wide codes c.args.self.now c.args.place c.self.view_is (omega arith)

pub returns-else-place-codes : goal.returns-else-place-codes
returns-else-place-codes c =
    let wide = c.self.inside.wide.items in
    let codes = c.self.inside.codes.items in
    let long : length c.args.self.now ≡ length wide + length codes =
    ap length (sym c.self.view_is) ∙ length-reverse (kept_cells wide codes) ∙ kept_length wide codes in
    let from : c.len-wide.result + c.len-codes.result - 1 - c.args.place ≡ length wide + length codes - 1 - c.args.place = omega (arith, c.self.inside.wide.ok.0) in
    ap (λ x. reverse (kept_cells x codes)) c.remove-else-place-codes.ensures.items
    ∙ ap (λ n. reverse (kept_cells (remove wide n) codes)) from
    ∙ removed_wide wide codes c.args.self.now c.args.place c.self.view_is (omega arith) (omega (arith, long))
