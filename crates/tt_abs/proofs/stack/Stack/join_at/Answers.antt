use Rattle.std.proofs.Common.{◌≡◌, ◌-◌, ap, ◌∙◌, sym, subst, arith, ℕ, List, length, get_or}
use Rattle.std.specs.Prelude.{reverse}
use Rattle.std.proofs.lemmas.List.{length-reverse}
use Rattle.tt_abs.specs.Representation.Codes.{cell_of_code, kept_cells}
use Rattle.tt_abs.specs.Stacks.{cell_at, IsLeastCell}
use Rattle.tt_abs.proofs.CodedCells.{kept_length, written_back, written_joined, written_other}
use Rattle.tt_abs.proofs.stack.Stack.join_at.Goals as goal

pub returns-else-place-wide-clause-cell : goal.returns-else-place-wide-clause-cell
returns-else-place-wide-clause-cell c =
    let wide = c.self.inside.wide.items in
    let codes = c.self.inside.codes.items in
    let slice = c.as_mut_slice-codes.result.now in
    let code = c.joined-else-place-wide.result in
    let count : c.len-wide.result ≡ length wide = omega (arith, c.self.inside.wide.ok.0) in
    let long = ap length (sym c.self.view_is) ∙ length-reverse (kept_cells wide codes) ∙ kept_length wide codes in
    let P : ℕ → Type 0 = λ x. IsLeastCell (cell_of_code x) c.args.other (cell_of_code code) in
    let new : List ℕ → Type 0 = λ x. IsLeastCell (cell_at (reverse c.args.self.now) c.args.place) c.args.other (cell_at (reverse (reverse (kept_cells wide x))) c.args.place) in
    subst new (sym (written_back codes slice c.len-wide.result (length wide) c.args.place code c.as_mut_slice-codes.ensures.value count))
    (written_joined wide codes c.args.self.now c.args.place code c.args.other c.self.view_is (omega arith) (omega (arith, long))
    (subst P
    (ap (λ x. get_or x (c.args.place - c.len-wide.result) 0) c.as_mut_slice-codes.ensures.value ∙ ap (λ n. get_or codes (c.args.place - n) 0) count)
    c.joined-else-place-wide.ensures))

pub returns-else-place-wide-clause-others : goal.returns-else-place-wide-clause-others
returns-else-place-wide-clause-others c k ne =
    let wide = c.self.inside.wide.items in
    let codes = c.self.inside.codes.items in
    let code = c.joined-else-place-wide.result in
    let count : c.len-wide.result ≡ length wide = omega (arith, c.self.inside.wide.ok.0) in
    ap (λ x. cell_at (reverse (reverse (kept_cells wide x))) k)
    (written_back codes c.as_mut_slice-codes.result.now c.len-wide.result (length wide) c.args.place code c.as_mut_slice-codes.ensures.value count)
    ∙ written_other wide codes c.args.self.now c.args.place code k c.self.view_is (omega arith) ne
