-- Runs of the machine with control values are runs of the hint machine.
use Rattle.std.proofs.Common.{◌≡◌, ℕ, zero, suc, [], ◌∷◌, Some, subst, sym}
use Rattle.std.specs.Prelude.{slice_get}
use Rattle.tt_code.specs.Runs as machine_runs
use Rattle.tt_symbolic_state.specs.CvtMachine.{here, step}
use Rattle.tt_symbolic_check.specs.Laws.{RunsAreRuns, StartsAreStarts, StrictSafetySuffices}
use Rattle.tt_symbolic_check.specs.Starts.{StartsAs}
use Rattle.tt_symbolic_check.specs.declared.start.Start.{Start}

pub runs : RunsAreRuns
runs s m n (here m') = machine_runs.here m'.machine
runs s m n (step a b c w rest) = machine_runs.step a.machine b.machine c.machine w.steps (runs s b c rest)

pub starts : StartsAreStarts
starts start m h = record { fresh = h.fresh; defined = h.functions }

only : (start other : Start) (i : ℕ) → slice_get (start ∷ []) i ≡ Some other → start ≡ other
only start other zero e = cc
only start other (suc i) e = absurd (cc)

pub suffices : StrictSafetySuffices
suffices s start safe m n r h run f =
    let same : start ≡ h.start = only start h.start h.index h.found in
    let one : StartsAs start m = subst (λ (x : Start). StartsAs x m) (sym same) h.is_one in
    safe m.machine n.machine r (starts start m one) (runs s m n run) f
