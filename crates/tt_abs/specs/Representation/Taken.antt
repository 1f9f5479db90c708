-- How the code takes operands: it counts the cells taken from the top, and leaves them on the stack
-- until the changes are made. (Representation: no public clause cites it.)
use Rattle.std.specs.Prelude.{◌≡◌, ℕ, ℤ, ◌+◌, List, ◌∷◌, Bool, Some, Ok, Err, drop}
use Rattle.tt_code.specs.Refusals.{Tested}
use Rattle.tt_code.specs.Operands.{Taking, counted, is_zone, pairs, then_take}
use Rattle.tt_code.specs.Settings.{Setting as SpecSetting, contours_in}
use Rattle.tt_code.specs.declared.machine.Frame.{Frame}
use Rattle.tt_code.specs.declared.reason.Reason.{Reason}
use Rattle.tt_code.specs.declared.reason.Reason.TheVariants as reason
use Rattle.tt_code.specs.declared.kinds.Operand.{Operand}
use Rattle.tt_code.specs.declared.kinds.Use.{Use}
use Rattle.tt_code.specs.declared.kinds.Within.{Within}
use Rattle.tt_code.specs.States.{is_below}
use Rattle.tt_abs.specs.declared.cells.Cell.{Cell}
use Rattle.tt_abs.specs.declared.cells.Cell.TheVariants.{Known}
use Rattle.tt_setting.specs.declared.zone.ZoneCell.{ZoneCell}
use Rattle.tt_setting.specs.declared.setting.Setting.{Setting}
use Rattle.tt_setting.specs.declared.failed.Failed.{Failed}
use Rattle.tt_setting.specs.declared.failed.Role.{Role}
use Rattle.tt_abs.specs.Cells.{Abstract, Cells}
use Rattle.tt_abs.specs.Failures.{Roles, TellsWith, role_in_operand}
use Rattle.tt_setting.specs.Refusals.{reason_of}
use Rattle.tt_setting.specs.Settings.{setting_of}
use Rattle.tt_setting.specs.Settings.{is_below_in}
use Rattle.tt_abs.specs.Transfers.{is_point_in, known_count, take_cell, test_cell_uses, tested_cell}

-- the operands are taken, and what lies under the first n cells is left
abbrev pub TakesTo : List Cell → ℕ → Tested (Taking Cell) → Type 0
TakesTo stack n result = (front : List Cell) × (result ≡ Ok (front, drop n stack))

-- the outcome is what was taken so far, and then what is still to be taken from the cells below
abbrev pub GoesOn : Tested (Taking Cell) → List Cell → (List Cell → Tested (Taking Cell)) → Type 0
GoesOn result below more = (front : List Cell) × (result ≡ then_take (Ok (front, below)) more)

-- the operands are taken from under the first `taken` cells, and with them n cells are taken in all
abbrev pub TakesFrom : List Cell → ℕ → (List Cell → Tested (Taking Cell)) → ℕ → Type 0
TakesFrom stack taken take n = TakesTo stack n (take (drop taken stack))

-- nothing is taken from under the first `taken` cells, for this reason
abbrev pub IsTakingRefused : List Cell → ℕ → (List Cell → Tested (Taking Cell)) → Failed → Type 0
IsTakingRefused stack taken take f = take (drop taken stack) ≡ Err (reason_of f)

-- the cell under the first `taken` ones is this number, and this many cells are taken with it
abbrev pub IsNumberUnder : List Cell → ℕ → ℤ × ℕ → Type 0
IsNumberUnder stack taken r =
    (below : List Cell) × (drop taken stack ≡ Known r.0 ∷ below) × (r.1 ≡ taken + 1)

-- no number is under the first `taken` cells, so that each test of it fails for this reason
abbrev pub NoNumberUnder : List Cell → ℕ → Failed → Type 0
NoNumberUnder stack taken f = (passes : ℤ → Bool) (other : Reason)
    → tested_cell passes other (drop taken stack) ≡ Err (reason_of f)

-- the cell under the first `taken` ones is this count, and this many cells are taken with it
abbrev pub IsCountUnder : List Cell → ℕ → ℕ × ℕ → Type 0
IsCountUnder stack taken r =
    (c : Cell) × (below : List Cell) × (drop taken stack ≡ c ∷ below) × (known_count c ≡ Ok r.0)
    × (r.1 ≡ taken + 1)

-- no count is under the first `taken` cells, so that no pairs are taken by it, for this reason
abbrev pub NoCountUnder : List Cell → ℕ → Failed → Type 0
NoCountUnder stack taken f = (one : List Cell → Tested (Taking Cell))
    → pairs known_count one (drop taken stack) ≡ Err (reason_of f)

-- no element is taken as anything
abbrev pub IsNoRole : Roles
IsNoRole r under = ⊥

-- the element under the first n cells is taken as this
abbrev pub IsRole : Role → ℕ → Roles
IsRole given n r under = (r ≡ given) × (under ≡ n)

-- the operand, taken from under the first `taken` cells, takes the element as this
abbrev pub IsRoleFrom : ℕ → Operand → Roles
IsRoleFrom taken operand r under =
    (n : ℕ) × (under ≡ taken + n) × (role_in_operand operand n ≡ Some r)

-- what is told of a test of this stack is so, whatever else is known
abbrev pub TellsOfStackAs : Roles → List Cell → Failed → Type 0
TellsOfStackAs takes stack f =
    (s : SpecSetting) (fs : List Frame) (at : ℕ) (a : Abstract) (left : ℕ)
    → TellsWith takes s fs at (record a { stack = stack }) left f

-- the same where no unknown number is told
abbrev pub TellsOfStack : List Cell → Failed → Type 0
TellsOfStack = TellsOfStackAs IsNoRole

-- what is told of a test of this stack in this setting is so, whatever else is known
abbrev pub TellsOfStackIn : Setting → List Cell → Roles → Failed → Type 0
TellsOfStackIn setting stack takes f = (fs : List Frame) (at : ℕ) (a : Abstract) (left : ℕ)
    → TellsWith takes (setting_of setting) fs at (record a { stack = stack }) left f

-- what is told of a test of this graphics state is so, whatever else is known
abbrev pub TellsOfGraphics : Cells → Failed → Type 0
TellsOfGraphics graphics f = (s : SpecSetting) (fs : List Frame) (at : ℕ) (a : Abstract) (left : ℕ)
    → TellsWith IsNoRole s fs at
    (record a { registers = record a.registers { graphics = graphics } }) left f

-- what is told of a test of this graphics state in this setting is so, whatever else is known
abbrev pub TellsOfGraphicsIn : Setting → Cells → Failed → Type 0
TellsOfGraphicsIn setting graphics f = (fs : List Frame) (at : ℕ) (a : Abstract) (left : ℕ)
    → TellsWith IsNoRole (setting_of setting) fs at
    (record a { registers = record a.registers { graphics = graphics } }) left f

-- what is told of a test of operands on this stack is so, whatever else is known
abbrev pub TellsOfOperands : Setting → Cells → List Cell → Roles → Failed → Type 0
TellsOfOperands setting graphics stack takes f =
    (fs : List Frame) (at : ℕ) (a : Abstract) (left : ℕ)
    → TellsWith takes (setting_of setting) fs at
    (record a { stack = stack; registers = record a.registers { graphics = graphics } }) left f

-- one CVT index
abbrev pub one_cvt : Setting → List Cell → Tested (Taking Cell)
one_cvt setting = tested_cell (λ z. is_below z setting.cvt) reason.Cvt

-- one index into the storage area
abbrev pub one_storage : Setting → List Cell → Tested (Taking Cell)
one_storage setting = tested_cell (λ z. is_below z setting.limits.storage) reason.Storage

-- one zone that the font has
abbrev pub one_zone : Setting → List Cell → Tested (Taking Cell)
one_zone setting = tested_cell (is_zone (setting_of setting)) reason.Zone

-- one contour of each zone that the zone cell covers
abbrev pub one_contour : Setting → ZoneCell → List Cell → Tested (Taking Cell)
one_contour setting zone =
    tested_cell (is_below_in (contours_in (setting_of setting)) zone) reason.Contour

-- one point of each zone in which it is tested
abbrev pub one_point : Setting → Cells → Within → List Cell → Tested (Taking Cell)
one_point setting graphics within =
    tested_cell (is_point_in (setting_of setting) graphics within) reason.Point

-- as many of these points as the loop number says
abbrev pub loop_points : Setting → Cells → Within → List Cell → Tested (Taking Cell)
loop_points setting graphics within =
    counted (known_count graphics.loop_number) (one_point setting graphics within)

-- a count, and as many pairs of such a point and any cell
abbrev pub point_pairs : Setting → Cells → Within → List Cell → Tested (Taking Cell)
point_pairs setting graphics within = pairs known_count (one_point setting graphics within)

-- a count, and as many pairs of a CVT index and any cell
abbrev pub cvt_pairs : Setting → List Cell → Tested (Taking Cell)
cvt_pairs setting = pairs known_count (one_cvt setting)

-- the reference point is known, and its number is that of a point in the pointer's zone
abbrev pub PassesUse : Setting → Cells → Use → Type 0
PassesUse setting graphics used = (more : List Use)
    → test_cell_uses (setting_of setting) graphics (used ∷ more)
    ≡ test_cell_uses (setting_of setting) graphics more

-- a line that uses it first is refused for this reason
abbrev pub FailsUse : Setting → Cells → Use → Failed → Type 0
FailsUse setting graphics used f = (more : List Use)
    → test_cell_uses (setting_of setting) graphics (used ∷ more) ≡ Err (reason_of f)

-- what an operand describes
abbrev pub one_operand : Setting → Cells → Operand → List Cell → Tested (Taking Cell)
one_operand setting graphics operand = take_cell (setting_of setting) graphics operand
