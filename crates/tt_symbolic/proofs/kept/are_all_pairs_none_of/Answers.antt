use Rattle.tt_symbolic.proofs.kept.are_all_pairs_none_of.Goals as goal

pub returns-in-Ok : goal.returns-in-Ok
returns-in-Ok c = λ e.
    let (top, is, known) = c.in-Ok.ensures in
    record { count = c.in-Ok.count; top = top; below = _; stack = is; known = known; none = c.are_pairs_none_of.ensures e }
