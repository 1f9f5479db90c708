use Rattle.std.proofs.Common.{◌≡◌, ◌-◌, ap, arith, length, reverse}
use Rattle.std.proofs.lemmas.Result.{err_from_is_err_and}
use Rattle.tt_abs.specs.declared.state.State.{State}
use Rattle.tt_cert.proofs.SharedCells.{missing_fails, more_pushed, pushed_kept}
use Rattle.tt_cert.proofs.shared_cells.take_new.Goals as goal

pub returns-in_err-taken-clause-reads : goal.returns-in_err-taken-clause-reads
returns-in_err-taken-clause-reads g c =
    let p = err_from_is_err_and c.from_residual.result c.from_residual.ensures.1 in
    let missing : c.args.count - c.depth.result ≡ c.args.count - length c.args.state.now.stack = omega (arith, c.depth.ensures) in
    rw (p.1, p.2) (missing_fails c.in_err-taken.field-0.0 _ c.args.state.now.stack c.args.place c.args.count _ missing c.in_err-taken.ensures.broken)

pub push_cells-requires : goal.push_cells-requires
push_cells-requires g c = omega (arith, c.in_ok-taken.ensures.reads.1, c.depth.ensures, c.requires.few, c.requires.room)

pub returns-clause-reads : goal.returns-clause-reads
returns-clause-reads g c =
    let below = c.args.state.now.stack in
    let missing : c.args.count - c.depth.result ≡ c.args.count - length below = omega (arith, c.depth.ensures) in
    more_pushed _ _ below c.push_cells.new.self.stack _ c.args.place c.in_ok-taken.after c.args.count _ c.in_ok-taken.ensures.reads missing c.requires.few
    (ap (λ (s : State). s.stack) c.in_ok-push_cells.ensures.pushed)

pub returns-clause-kept : goal.returns-clause-kept
returns-clause-kept g c =
    let below = c.args.state.now in
    pushed_kept _ below c.push_cells.new.self _ (c.in_ok-taken.ensures.kept (reverse below.stack) c.requires.kept.cells) (ap (λ (s : State). s.stack) c.in_ok-push_cells.ensures.pushed)
    (c.in_ok-push_cells.ensures.in_range c.requires.kept.in_range)
