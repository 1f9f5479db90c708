-- The numbers of a font that bound what its programs may use (OpenType specification, `maxp` and
-- `cvt `).
use Rattle.std.specs.Prelude.{ℕ, List, codes}
use Rattle.tt_code.specs.declared.limits.Limits.{Limits}
use Rattle.hintcheck_report.specs.declared.bound.Bound.{Bound}
use Rattle.hintcheck_report.specs.declared.bound.Bound.TheVariants.{StackElements, Storage, FunctionDefs, ControlValues, TwilightPoints, Zones, SizeOfInstructions}

-- what the specification calls the number
abbrev pub name_of : Bound → List ℕ
name_of StackElements = codes "maxStackElements"
name_of Storage = codes "maxStorage"
name_of FunctionDefs = codes "maxFunctionDefs"
name_of ControlValues = codes "control values"
name_of TwilightPoints = codes "maxTwilightPoints"
name_of Zones = codes "maxZones"
name_of SizeOfInstructions = codes "maxSizeOfInstructions"

-- the number of a font with these limits and so many control values
abbrev pub declared_number : Limits → ℕ → Bound → ℕ
declared_number limits cvt_count StackElements = limits.stack
declared_number limits cvt_count Storage = limits.storage
declared_number limits cvt_count FunctionDefs = limits.functions
declared_number limits cvt_count ControlValues = cvt_count
declared_number limits cvt_count TwilightPoints = limits.twilight
declared_number limits cvt_count Zones = limits.zones
declared_number limits cvt_count SizeOfInstructions = limits.program_size

-- the limits with another number in its place
abbrev pub limits_with : Limits → Bound → ℕ → Limits
limits_with limits StackElements n = record limits { stack = n }
limits_with limits Storage n = record limits { storage = n }
limits_with limits FunctionDefs n = record limits { functions = n }
limits_with limits ControlValues n = limits
limits_with limits TwilightPoints n = record limits { twilight = n }
limits_with limits Zones n = record limits { zones = n }
limits_with limits SizeOfInstructions n = record limits { program_size = n }

-- how many control values there are with another number in its place
abbrev pub cvt_count_with : ℕ → Bound → ℕ → ℕ
cvt_count_with cvt_count ControlValues n = n
cvt_count_with cvt_count other n = cvt_count
