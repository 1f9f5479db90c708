use Rattle.std.proofs.Common.{arith, subst, ℕ, get_or, ◌+◌, ◌<◌, ◌∷◌, ◌∙◌, ◌≡◌, ◌-◌, length, ap, drop, sym, reverse}
use Rattle.std.proofs.lemmas.List.{drop_more, get_or-reverse, length-reverse}
use Rattle.tt_symbolic_state.proofs.stack.Stack.under.Goals as goal

pub returns-then-taken-depth-clause-cell : goal.returns-then-taken-depth-clause-cell
returns-then-taken-depth-clause-cell c =
    let cells = c.self.inside.cells.items in
    let same : reverse cells ≡ c.args.self.now = c.self.view_is in
    let n : length (reverse cells) ≡ length cells = length-reverse cells in
    let depth : c.len-depth.result ≡ length cells = omega arith in
    let within : c.args.taken < length (reverse cells) = omega arith in
    let at = get_or-reverse cells c.args.taken c.index.result.now (omega arith) in
    rw (← same) (drop_more (reverse cells) c.args.taken c.index.result.now within ∙ ap (λ x. x ∷ drop (c.args.taken + 1) (reverse cells)) (at ∙ sym (subst (λ (k : ℕ). c.index.result.now ≡ get_or cells (k - 1 - c.args.taken) c.index.result.now) depth c.index.ensures)))
