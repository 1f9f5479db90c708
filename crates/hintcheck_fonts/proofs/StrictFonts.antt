-- A font whose programs never fault on the hint machine is safe on the machine with control values.
use Rattle.std.proofs.Common.{ℕ, List}
use Rattle.tt_code.specs.Fonts as strict
use Rattle.tt_code.specs.Fonts.{Font, cvt_setting, font_setting}
use Rattle.tt_code.specs.Runs as machine_runs
use Rattle.tt_code.specs.Settings.{Setting}
use Rattle.tt_code.specs.States.{Machine}
use Rattle.tt_symbolic_state.specs.CvtMachine.{CvtMachine, CvtRuns, here, step}
use Rattle.hintcheck_fonts.specs.SymbolicLaws.{StrictFontsAreSafe}
use Rattle.hintcheck_fonts.specs.CvtStarts.{LeavesFunctions, StartsCvtProgram, StartsFontProgram, StartsWithFunctions}

-- each run is one of the hint machine
strict_run : (s : Setting) (m n : CvtMachine) → CvtRuns s m n → machine_runs.Runs s m.machine n.machine
strict_run s m n (here m') = machine_runs.here m'.machine
strict_run s m n (step a b c w rest) = machine_runs.step a.machine b.machine c.machine w.steps (strict_run s b c rest)

-- the functions that a run leaves are left by one of the hint machine
strict_leaves : (s : Setting) (Starts : CvtMachine → Type 0) (There : Machine → Type 0) → ((m : CvtMachine) → Starts m → There m.machine) → (fs : List (ℕ × ℕ)) → LeavesFunctions s Starts fs → strict.Leaves s There fs
strict_leaves s Starts There is fs l = record {
  first = l.leaves.first.machine;
  last = l.last.machine;
  starts = is l.leaves.first l.leaves.starts;
  runs = strict_run s l.leaves.first l.last l.leaves.runs;
  ends = l.leaves.ends;
  left = l.left;
}

-- where programs start, they start on the hint machine too
font_start : (f : Font) (m : CvtMachine) → StartsFontProgram m → strict.StartsFontProgram f m.machine
font_start f m h = (h.fresh, h.none)

cvt_start : (f : Font) (m : CvtMachine) → StartsCvtProgram f m → strict.StartsCvtProgram f m.machine
cvt_start f m h = (h.fresh, strict_leaves (font_setting f) StartsFontProgram (strict.StartsFontProgram f) (font_start f) m.machine.functions h.left)

glyph_start : (f : Font) (m : CvtMachine) → StartsWithFunctions f m → strict.StartsGlyphProgram f m.machine
glyph_start f m h = (h.fresh, strict_leaves (cvt_setting f) (StartsCvtProgram f) (strict.StartsCvtProgram f) (cvt_start f) m.machine.functions h.left)

pub safe : StrictFontsAreSafe
safe f programs font cvt glyphs = record {
  font_program = λ m n r starts run. font m.machine n.machine r (font_start f m starts) (strict_run (font_setting f) m n run);
  cvt_program = λ m n r starts run. cvt m.machine n.machine r (cvt_start f m starts) (strict_run (cvt_setting f) m n run);
  glyph_programs = λ glyph s may m n r starts run. glyphs glyph s may m.machine n.machine r (glyph_start f m starts.functions) (strict_run s m n run);
}
