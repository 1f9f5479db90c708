-- Runs of a font's programs one after the other: each starts with the functions that are known where the one before it ends.
use Rattle.std.proofs.Common.{◌≡◌, ℕ, List, [], Option, Some}
use Rattle.tt_code.specs.Cut.{size}
use Rattle.tt_code.specs.Fonts.{Font, StartsFontProgram, StartsCvtProgram, StartsGlyphProgram, font_setting, cvt_setting}
use Rattle.tt_code.specs.Runs.{NeverFaults}
use Rattle.tt_code.specs.Settings.{Setting}
use Rattle.tt_code.specs.States.{Machine}
use Rattle.tt_abs.specs.declared.state.State.{State}
use Rattle.tt_abs.specs.Soundness.{IsSafe}
use Rattle.tt_abs.specs.StateFlow.{Place}
use Rattle.tt_family.proofs.EndFunctions.{AllStartWith, end_functions_hold}

-- where a safe family covers all starts, no run faults
pub never_faults_from : (s : Setting) (functions : List (ℕ × ℕ)) (family : Place → Option State) (Starts : Machine → Type 0)
    → IsSafe s functions family → AllStartWith Starts functions → NeverFaults s Starts
never_faults_from s functions family Starts safe starts m n r start runs faults = (safe m n (starts m start) runs).1 r faults

-- where each program starts

pub font_starts : (f : Font) → AllStartWith (StartsFontProgram f) []
font_starts f m start = record { fresh = start.0; defined = λ n body e. absurd (cc) }

pub cvt_starts : (f : Font) (family : Place → Option State) (end : State) → IsSafe (font_setting f) [] family → family ([], size f.font_program) ≡ Some end
    → AllStartWith (StartsCvtProgram f) end.functions
cvt_starts f family end safe at m start = record {
  fresh = start.0;
  defined = end_functions_hold (font_setting f) [] family (StartsFontProgram f) safe (font_starts f) end at m.functions start.1;
}

pub glyph_starts : (f : Font) (functions : List (ℕ × ℕ)) (family : Place → Option State) (end : State) → AllStartWith (StartsCvtProgram f) functions
    → IsSafe (cvt_setting f) functions family → family ([], size f.cvt_program) ≡ Some end → AllStartWith (StartsGlyphProgram f) end.functions
glyph_starts f functions family end starts safe at m start = record {
  fresh = start.0;
  defined = end_functions_hold (cvt_setting f) functions family (StartsCvtProgram f) safe starts end at m.functions start.1;
}
