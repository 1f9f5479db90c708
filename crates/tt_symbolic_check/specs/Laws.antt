-- The machine with control values is a hint machine with fewer choices.
use Rattle.std.specs.Prelude.{[], ◌∷◌}
use Rattle.tt_code.specs.Runs.{NeverFaults, Runs}
use Rattle.tt_code.specs.Settings.{Setting}
use Rattle.tt_setting.specs.Functions.{StartsWith}
use Rattle.tt_symbolic_state.specs.CvtMachine.{CvtMachine, CvtRuns}
use Rattle.tt_symbolic_check.specs.Checked.{IsSafe}
use Rattle.tt_symbolic_check.specs.Starts.{StartsAs}
use Rattle.tt_symbolic_check.specs.declared.start.Start.{Start}

-- each run is a run of the hint machine
abbrev pub RunsAreRuns : Type 0
RunsAreRuns = (s : Setting) (m n : CvtMachine) → CvtRuns s m n → Runs s m.machine n.machine

-- each start is a start of the hint machine, with the functions that are known
abbrev pub StartsAreStarts : Type 0
StartsAreStarts =
    (start : Start) (m : CvtMachine) → StartsAs start m → StartsWith start.functions m.machine

-- what never faults there never faults here
abbrev pub StrictSafetySuffices : Type 0
StrictSafetySuffices =
    (s : Setting) (start : Start) → NeverFaults s (StartsWith start.functions)
    → IsSafe s (start ∷ [])
