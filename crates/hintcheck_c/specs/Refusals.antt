-- Refused programs in numbers, as C and C++ see them.
use Rattle.std.specs.Prelude.{ℕ, ◌++◌, List, drop, length, map, take}
use Rattle.tt_code.specs.Refusals.{class_of, number_of}
use Rattle.tt_code.specs.declared.reason.ReasonClass.{ReasonClass}
use Rattle.tt_code.specs.declared.reason.ReasonClass.TheVariants as class
use Rattle.tt_setting.specs.declared.name.Name.{Name}
use Rattle.tt_setting.specs.declared.name.Name.TheVariants as name
use Rattle.hintcheck_report.specs.declared.refused.Refused.{Refused}
use Rattle.hintcheck_c.specs.declared.refusal.HintcheckRefusal.{HintcheckRefusal}

-- the number of a program: a glyph's own, or one after those of all glyphs
abbrev pub program_number : Name → ℕ
program_number name.Font = 65536
program_number name.Cvt = 65537
program_number (name.Glyph id) = id

-- the number of a class of reasons
abbrev pub class_number : ReasonClass → ℕ
class_number class.PossibleFault = 0
class_number class.Undecided = 1
class_number class.LeftOut = 2
class_number class.Certificate = 3

-- a refused program in numbers
abbrev pub numbers_of : Refused → HintcheckRefusal
numbers_of r = record {
  program = program_number r.program;
  place = program_number r.place.program;
  offset = r.place.offset;
  reason = number_of r.reason;
  reason_class = class_number (class_of r.reason);
}

-- the first refused programs, as many as there is room for, and after them what was there before
abbrev pub listed_in : List Refused → List HintcheckRefusal → List HintcheckRefusal
listed_in refused room = map numbers_of (take (length room) refused) ++ drop (length refused) room
