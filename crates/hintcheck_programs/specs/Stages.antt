-- Which program of a font is next, and what comes of one.
use Rattle.std.specs.Prelude.{ℕ, List, Some, None}
use Rattle.tt_code.specs.Cut.{Instruction}
use Rattle.tt_setting.specs.declared.name.Name.{Name}
use Rattle.hintcheck_report.specs.declared.refused.Refused.{Refused}
use Rattle.hintcheck_programs.specs.declared.report.Outcome.{Outcome}

-- Which program of the font is next: the font program; the CVT program, after a font program with
-- these instructions, where this is known at its end; the glyph program of this number, if the font
-- has one, after a font program and a CVT program with these instructions, where this is known at
-- the end of the CVT program; or none. What is known is a list of parts of a type.
pub data StageOf (K : Type 0) : Type 0 where
  at_start : StageOf K
  after_font : List Instruction → List K → StageOf K
  at_glyph : List Instruction → List Instruction → List K → ℕ → StageOf K
  over : StageOf K

-- the same where functions are known, each by its number with its body
abbrev pub Stage : Type 0
Stage = StageOf (ℕ × ℕ)

-- the program of this name is accepted
abbrev pub accepted_as : Name → Outcome
accepted_as called = record { program = called; refused = None }

-- it is refused
abbrev pub refused_as : Name → Refused → Outcome
refused_as called r = record { program = called; refused = Some r }
