-- Plain lines whose updates and pushes read only operands that were tested.
use Rattle.std.specs.Prelude.{ℕ, zero, suc, List, [], ◌∷◌, Bool, true, false, ◌&&◌}
use Rattle.tt_code.specs.Table.{Lists}
use Rattle.tt_code.specs.declared.kinds.Operand.{Operand}
use Rattle.tt_code.specs.declared.kinds.Operand.TheVariants as operand
use Rattle.tt_code.specs.declared.kinds.Update.{Update}
use Rattle.tt_code.specs.declared.kinds.Update.TheVariants as update
use Rattle.tt_code.specs.declared.kinds.Pushed.{Pushed}
use Rattle.tt_code.specs.declared.kinds.Pushed.TheVariants as pushed

-- one element that must be known
abbrev pub is_tested : Operand → Bool
is_tested (operand.Point within) = true
is_tested operand.Cvt = true
is_tested operand.Storage = true
is_tested operand.Zone = true
is_tested operand.Contour = true
is_tested operand.Number = false
is_tested (operand.LoopPoints within) = false
is_tested (operand.PointPairs within) = false
is_tested operand.CvtPairs = false

-- one element
abbrev pub is_single : Operand → Bool
is_single operand.Number = true
is_single o = is_tested o

-- the element taken at the place is one that must be known
abbrev pub is_known_at : List Operand → ℕ → Bool
is_known_at [] i = false
is_known_at (o ∷ os) zero = is_tested o
is_known_at (o ∷ os) (suc i) = is_single o && is_known_at os i

-- what the update reads, besides what it copies, is an operand that must be known
abbrev pub is_readable : List Operand → Update → Bool
is_readable os (update.SetPointer p i) = is_known_at os i
is_readable os (update.Store i v) = is_known_at os i
is_readable os (update.SetReference r q) = true
is_readable os (update.SetLoop i) = true
is_readable os update.LoopIsOne = true

abbrev pub are_readable : List Operand → List Update → Bool
are_readable os [] = true
are_readable os (u ∷ us) = is_readable os u && are_readable os us

-- the index that is read in the storage area is an operand that must be known
abbrev pub is_readable_push : List Operand → Pushed → Bool
is_readable_push os (pushed.Stored i) = is_known_at os i
is_readable_push os pushed.Any = true

abbrev pub are_readable_pushes : List Operand → List Pushed → Bool
are_readable_pushes os [] = true
are_readable_pushes os (p ∷ ps) = is_readable_push os p && are_readable_pushes os ps

-- what the line reads are operands that must be known
abbrev pub is_readable_line : Lists → Bool
is_readable_line line = are_readable line.operands line.updates && are_readable_pushes line.operands line.pushes
