use Rattle.std.proofs.Common.{◌≡◌, ◌-◌, ap, arith, length, reverse}
use Rattle.std.proofs.lemmas.Result.{err_from_is_err_and}
use Rattle.tt_abs.specs.declared.state.State.{State}
use Rattle.tt_cert.proofs.SharedCells.{cells_pushed, missing_fails, missing_stops, pushed_kept}
use Rattle.tt_cert.proofs.shared_cells.fetch_new.Goals as goal

pub returns-in_err-after-clause-reads : goal.returns-in_err-after-clause-reads
returns-in_err-after-clause-reads g c =
    let p = err_from_is_err_and c.from_residual.result c.from_residual.ensures.1 in
    let reads = rw c.clear.ensures.items at c.in_err-after.ensures.reads in
    let missing : c.args.count - c.depth.result ≡ c.args.count - length c.args.state.now.stack = omega (arith, c.depth.ensures) in
    rw (p.1, p.2) (missing_fails c.in_err-after.field-0.0 _ c.args.state.now.stack c.args.place c.args.count _ missing reads)

pub returns-in_err-after-clause-stopped : goal.returns-in_err-after-clause-stopped
returns-in_err-after-clause-stopped g c =
    let p = err_from_is_err_and c.from_residual.result c.from_residual.ensures.1 in
    let stopped = rw c.clear.ensures.items at c.in_err-after.ensures.stopped in
    let missing : c.args.count - c.depth.result ≡ c.args.count - length c.args.state.now.stack = omega (arith, c.depth.ensures) in
    rw (p.1, p.2) (missing_stops c.in_err-after.field-0.0 _ _ c.args.state.now.stack c.args.place c.args.count _ missing stopped)

pub push_cells-requires : goal.push_cells-requires
push_cells-requires g c =
    let reads = rw c.clear.ensures.items at c.in_ok-after.ensures.reads in
    omega (arith, reads.1, c.depth.ensures, c.requires.some, c.requires.room, ap length c.deref-2.ensures.value)

pub returns-clause-reads : goal.returns-clause-reads
returns-clause-reads g c =
    let below = c.args.state.now.stack in
    let reads = rw c.clear.ensures.items at c.in_ok-after.ensures.reads in
    let missing : c.args.count - c.depth.result ≡ c.args.count - length below = omega (arith, c.depth.ensures) in
    let pushed = rw c.deref-2.ensures.value at (ap (λ (s : State). s.stack) c.in_ok-push_cells.ensures.pushed) in
    cells_pushed _ _ below c.push_cells.new.self.stack _ c.args.place c.in_ok-after.after c.args.count _ reads missing (omega (arith, c.requires.some)) pushed

pub returns-clause-kept : goal.returns-clause-kept
returns-clause-kept g c =
    let below = c.args.state.now in
    let kept = c.in_ok-keep_cells.ensures (reverse below.stack) c.requires.kept.cells in
    let pushed = rw c.deref-2.ensures.value at (ap (λ (s : State). s.stack) c.in_ok-push_cells.ensures.pushed) in
    pushed_kept _ below c.push_cells.new.self _ (rw c.deref.ensures.value at kept) pushed (c.in_ok-push_cells.ensures.in_range c.requires.kept.in_range)
