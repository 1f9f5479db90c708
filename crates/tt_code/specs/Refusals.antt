-- Why a program is refused, with the number, the class and the text of each reason; and tests,
-- which give a value or a reason. (Own: the numbers, classes and texts.)
use Rattle.std.specs.Prelude.{ℕ, Bool, true, false, codes, List, Option, None, Some, Result, Ok, Err}
use Rattle.tt_code.specs.declared.reason.Reason.{Reason}
use Rattle.tt_code.specs.declared.reason.Reason.TheVariants as reason
use Rattle.tt_code.specs.declared.reason.ReasonClass.{ReasonClass}
use Rattle.tt_code.specs.declared.reason.ReasonClass.TheVariants.{PossibleFault, Undecided, LeftOut, Certificate}

-- a reason's number
abbrev pub number_of : Reason → ℕ
number_of reason.CannotCut = 20
number_of reason.Structure = 21
number_of reason.ProgramTooLong = 22
number_of reason.Opcode = 23
number_of reason.InstructionDefinition = 24
number_of reason.Recursion = 25
number_of reason.Underflow = 26
number_of reason.Overflow = 27
number_of reason.UnknownOperand = 28
number_of reason.Cvt = 29
number_of reason.Storage = 30
number_of reason.Function = 31
number_of reason.Point = 32
number_of reason.Zone = 33
number_of reason.Contour = 34
number_of reason.Target = 35
number_of reason.Count = 36
number_of reason.Definition = 37
number_of reason.DepthMismatch = 38
number_of reason.TooManyContexts = 39
number_of reason.NeverEnds = 40
number_of reason.MissingPoint = 41
number_of reason.NotCovered = 42
number_of reason.TooManySteps = 46
number_of reason.KeptEntry = 47

-- What a reason tells: that the bytes are no program or too many, or that what is known doesn't
-- rule the fault out; that the analysis can't tell; that the program does what is left out by
-- choice; or that the certificate doesn't fit the program.
abbrev pub class_of : Reason → ReasonClass
class_of reason.CannotCut = PossibleFault
class_of reason.Structure = PossibleFault
class_of reason.ProgramTooLong = PossibleFault
class_of reason.Opcode = PossibleFault
class_of reason.InstructionDefinition = LeftOut
class_of reason.Recursion = LeftOut
class_of reason.Underflow = PossibleFault
class_of reason.Overflow = PossibleFault
class_of reason.UnknownOperand = Undecided
class_of reason.Cvt = PossibleFault
class_of reason.Storage = PossibleFault
class_of reason.Function = Undecided
class_of reason.Point = PossibleFault
class_of reason.Zone = PossibleFault
class_of reason.Contour = PossibleFault
class_of reason.Target = PossibleFault
class_of reason.Count = PossibleFault
class_of reason.Definition = PossibleFault
class_of reason.DepthMismatch = Undecided
class_of reason.TooManyContexts = Undecided
class_of reason.NeverEnds = Undecided
class_of reason.MissingPoint = Certificate
class_of reason.NotCovered = Certificate
class_of reason.TooManySteps = Undecided
class_of reason.KeptEntry = Undecided

-- the reason in words, as it is printed
abbrev pub reason_text : Reason → List ℕ
reason_text reason.CannotCut = codes "cannot cut"
reason_text reason.Structure = codes "structure"
reason_text reason.ProgramTooLong = codes "program too long"
reason_text reason.Opcode = codes "opcode"
reason_text reason.InstructionDefinition = codes "instruction definition"
reason_text reason.Recursion = codes "recursion"
reason_text reason.Underflow = codes "underflow"
reason_text reason.Overflow = codes "overflow"
reason_text reason.UnknownOperand = codes "unknown operand"
reason_text reason.Cvt = codes "cvt"
reason_text reason.Storage = codes "storage"
reason_text reason.Function = codes "function"
reason_text reason.Point = codes "point"
reason_text reason.Zone = codes "zone"
reason_text reason.Contour = codes "contour"
reason_text reason.Target = codes "target"
reason_text reason.Count = codes "count"
reason_text reason.Definition = codes "definition"
reason_text reason.DepthMismatch = codes "depth mismatch"
reason_text reason.TooManyContexts = codes "too many contexts"
reason_text reason.NeverEnds = codes "never ends"
reason_text reason.MissingPoint = codes "missing point"
reason_text reason.NotCovered = codes "not covered"
reason_text reason.TooManySteps = codes "too many steps"
reason_text reason.KeptEntry = codes "kept entry"

-- a value, or the reason of the first test that fails
abbrev pub Tested : Type 0 → Type 0
Tested A = Result A Reason

-- one test after the other: the first that fails decides
infixl 10 ◌>>=◌
abbrev pub ◌>>=◌ : {A B : Type 0} → Tested A → (A → Tested B) → Tested B
(Ok x) >>= f = f x
(Err r) >>= f = Err r

-- a test, with the reason where it fails
abbrev pub holds_or : Bool → Reason → Tested (Unit {0})
holds_or true r = Ok tt
holds_or false r = Err r

-- a value, or the reason where there is none
abbrev pub some_or : {A : Type 0} → Option A → Reason → Tested A
some_or None r = Err r
some_or (Some x) r = Ok x
