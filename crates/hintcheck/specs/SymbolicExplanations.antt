-- One program of a font as the symbolic profile's verdict on the font tells of it.
use Rattle.std.specs.Prelude.{◌≡◌, ◌==◌, ℕ, Bool, true, false, List, Option, None, Some, find}
use Rattle.tt_setting.specs.declared.name.Name.{Name}
use Rattle.tt_setting.specs.declared.name.Name.TheVariants as name
use Rattle.tt_font.specs.Reading.{FontData, Reads}
use Rattle.hintcheck_explain.specs.declared.asked.Explained.{Explained}
use Rattle.hintcheck_explain.specs.declared.asked.Explained.TheVariants as explained
use Rattle.hintcheck.specs.Listing.{Names}
use Rattle.hintcheck_fonts.specs.SymbolicVerdicts.{IsSymbolicVerdict}
use Rattle.hintcheck_programs.specs.Verdicts.{Judgement}
use Rattle.hintcheck_report.specs.declared.refused.Refused.{Refused}

-- whether the second program isn't accepted where the first one is refused: it is the same, or it isn't
-- checked, since the first one is the font program or the CVT program before it
abbrev pub keeps_from : Name → Name → Bool
keeps_from name.Font called = true
keeps_from name.Cvt name.Font = false
keeps_from name.Cvt name.Cvt = true
keeps_from name.Cvt (name.Glyph other) = true
keeps_from (name.Glyph id) name.Font = false
keeps_from (name.Glyph id) name.Cvt = false
keeps_from (name.Glyph id) (name.Glyph other) = id == other

-- the first of the refused programs because of which the program of this name isn't accepted, if there
-- is one
abbrev pub first_against : Name → List Refused → Option Refused
first_against called refused = find (λ r. keeps_from r.program called) refused

-- the refused program that is answered
abbrev pub refused_of : Explained → Option Refused
refused_of explained.Accepted = None
refused_of (explained.Refused r) = Some r

-- what is answered of the font's program of this name: a verdict by symbolic states on the font
-- refuses neither this program nor one before it, or this is the first such one
pub record TellsSymbolicProgram (d : FontData) (called : Name) (e : Explained) : Type 0 where
  pub judgement : Judgement
  pub given : IsSymbolicVerdict d judgement
  pub against : first_against called judgement.refused ≡ refused_of e

-- The bytes hold a font, and the word is the name of a program of it, of which this is answered: a
-- verdict by symbolic states on the font refuses neither this program nor one before it, or this is
-- the first such one.
pub record HoldSymbolicExplained (bytes word : List ℕ) (e : Explained) : Type 0 where
  pub font : FontData
  pub reads : Reads bytes font
  pub program : List ℕ
  pub named : Names bytes word font program
  pub judgement : Judgement
  pub given : IsSymbolicVerdict font judgement
  pub against : first_against named.name judgement.refused ≡ refused_of e

-- the bytes hold a font, and the word is the name of a program of it; a verdict by symbolic states
-- on the font refuses neither this program nor one before it
abbrev pub HoldSymbolicAcceptedProgram : List ℕ → List ℕ → Type 0
HoldSymbolicAcceptedProgram bytes word = HoldSymbolicExplained bytes word explained.Accepted

-- the same where it refuses this program, or one before it
abbrev pub HoldSymbolicRefusedProgram : List ℕ → List ℕ → Type 0
HoldSymbolicRefusedProgram bytes word =
    (r : Refused) × HoldSymbolicExplained bytes word (explained.Refused r)
