-- What an answer on a font's bytes means: they hold a font, of which this is the verdict.
use Rattle.std.specs.Prelude.{◌≡◌, ◌≢◌, ℕ, List, []}
use Rattle.tt_font.specs.Reading.{FontData, Reads}
use Rattle.hintcheck_programs.specs.FontPrograms.{IsSafeFont, IsVerdict}
use Rattle.hintcheck_fonts.specs.SymbolicVerdicts.{IsSymbolicVerdict}
use Rattle.hintcheck_programs.specs.Verdicts.{Judgement}

-- The verdict is the one on the font that is in the bytes; where it names no refused program, the
-- font is safe.
pub record IsVerdictOn (bytes : List ℕ) (judgement : Judgement) : Type 0 where
  pub font : FontData
  pub reads : Reads bytes font
  pub given : IsVerdict font judgement
  pub safe : judgement.refused ≡ [] → IsSafeFont font

-- The bytes hold a font, whose programs are safe.
pub record HoldSafeFont (bytes : List ℕ) : Type 0 where
  pub font : FontData
  pub reads : Reads bytes font
  pub safe : IsSafeFont font

-- The bytes hold a font, and its verdict names refused programs.
pub record HoldRefusedFont (bytes : List ℕ) : Type 0 where
  pub font : FontData
  pub reads : Reads bytes font
  pub judgement : Judgement
  pub given : IsVerdict font judgement
  pub some : judgement.refused ≢ []

-- The verdict is one by symbolic states on the font that is in the bytes.
pub record IsSymbolicVerdictOn (bytes : List ℕ) (judgement : Judgement) : Type 0 where
  pub font : FontData
  pub reads : Reads bytes font
  pub given : IsSymbolicVerdict font judgement

-- The bytes hold a font, and a verdict by symbolic states names none of its programs as refused: no
-- run of them faults.
pub record HoldSymbolicSafeFont (bytes : List ℕ) : Type 0 where
  pub font : FontData
  pub reads : Reads bytes font
  pub judgement : Judgement
  pub given : IsSymbolicVerdict font judgement
  pub none : judgement.refused ≡ []

-- The bytes hold a font, and a verdict by symbolic states names refused programs of it. Where these
-- are glyph programs, no run of the others faults, as long as none of these is run; after a refused
-- font program or CVT program nothing is said of those that follow.
pub record HoldSymbolicRefusedFont (bytes : List ℕ) : Type 0 where
  pub font : FontData
  pub reads : Reads bytes font
  pub judgement : Judgement
  pub given : IsSymbolicVerdict font judgement
  pub some : judgement.refused ≢ []
