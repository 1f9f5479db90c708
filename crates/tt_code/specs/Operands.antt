-- Taking operands from the stack and testing them, one at a time and in the table's order: the
-- first test that fails decides the reason. (Apple TrueType Reference Manual, "The TrueType
-- instruction set", the operands of each instruction. Own: that order, and the reasons.)
use Rattle.std.specs.Prelude.{ℕ, zero, suc, ℤ, pos, negsuc, List, [], ◌∷◌, ◌++◌, is_some, Ok, Err, Bool, ◌&&◌}
use Rattle.tt_code.specs.Refusals.{Tested, ◌>>=◌, holds_or}
use Rattle.tt_code.specs.Settings.{Setting, ZoneNumber, One, zone_size, contours_in, zone_named}
use Rattle.tt_code.specs.States.{is_below, reference, pointer}
use Rattle.tt_code.specs.declared.reason.Reason.{Reason}
use Rattle.tt_code.specs.declared.reason.Reason.TheVariants as reason
use Rattle.tt_code.specs.declared.machine.Graphics.{Graphics}
use Rattle.tt_code.specs.declared.kinds.Within.{Within}
use Rattle.tt_code.specs.declared.kinds.Within.TheVariants.{In, Both, GlyphAnd}
use Rattle.tt_code.specs.declared.kinds.Operand.{Operand}
use Rattle.tt_code.specs.declared.kinds.Operand.TheVariants as operand
use Rattle.tt_code.specs.declared.kinds.Use.{Use}

-- The elements that are taken, the first taken first, and the stack below them. (The definitions up
-- to `pairs` look at no element themselves, so that they serve numbers and cells.)

-- what was taken, and the stack that is left
abbrev pub Taking : Type 0 → Type 0
Taking N = List N × List N

-- the top, and what is below it
abbrev pub top : {N : Type 0} → List N → Tested (N × List N)
top [] = Err reason.Underflow
top (n ∷ ns) = Ok (n, ns)

-- any one element
abbrev pub take_one : {N : Type 0} → List N → Tested (Taking N)
take_one [] = Err reason.Underflow
take_one (n ∷ ns) = Ok (n ∷ [], ns)

-- what one taking takes, and then what another takes from the stack that is left
abbrev pub then_take : {N : Type 0} → Tested (Taking N) → (List N → Tested (Taking N)) →
    Tested (Taking N)
then_take first second = do
  a ← first
  b ← second a.1
  Ok (a.0 ++ b.0, b.1)

-- this many takings, one after the other
abbrev pub times : {N : Type 0} → ℕ → (List N → Tested (Taking N)) → List N → Tested (Taking N)
times zero one stack = Ok ([], stack)
times (suc n) one stack = then_take (one stack) (times n one)

-- as many takings as a count says, once the count has passed its test
abbrev pub counted : {N : Type 0} → Tested ℕ → (List N → Tested (Taking N)) → List N →
    Tested (Taking N)
counted (Err r) one stack = Err r
counted (Ok n) one stack = times n one stack

-- a tested element, and any element
abbrev pub pair : {N : Type 0} → (List N → Tested (Taking N)) → List N → Tested (Taking N)
pair one stack = then_take (one stack) take_one

-- a count, and as many pairs
abbrev pub pairs : {N : Type 0} → (N → Tested ℕ) → (List N → Tested (Taking N)) → List N →
    Tested (Taking N)
pairs count one [] = Err reason.Underflow
pairs count one (n ∷ ns) = then_take (Ok (n ∷ [], ns)) (counted (count n) (pair one))

-- Tests on numbers.

-- one number that passes a test
abbrev pub tested : (ℤ → Bool) → Reason → List ℤ → Tested (Taking ℤ)
tested passes r stack = do
  t ← top stack
  ok ← holds_or (passes t.0) r
  Ok (t.0 ∷ [], t.1)

-- a count of 0 or more
abbrev pub count_of : ℤ → Tested ℕ
count_of (pos n) = Ok n
count_of (negsuc n) = Err reason.Count

-- whether the number names a zone
abbrev pub is_zone : Setting → ℤ → Bool
is_zone s z = is_some (zone_named s z)

-- whether the number is that of a point in each zone in which it is tested
abbrev pub is_point : Setting → Graphics ℤ ZoneNumber → Within → ℤ → Bool
is_point s g (In p) z = is_below z (zone_size s (pointer p g))
is_point s g (Both p q) z =
    is_below z (zone_size s (pointer p g)) && is_below z (zone_size s (pointer q g))
is_point s g (GlyphAnd p) z = is_below z (zone_size s One) && is_below z (zone_size s (pointer p g))

-- An operand. Where the loop number says how many points are taken, it is tested before the first
-- of them; at 0 none is taken (own).
abbrev pub take_operand : Setting → Graphics ℤ ZoneNumber → Operand → List ℤ → Tested (Taking ℤ)
take_operand s g operand.Number stack = take_one stack
take_operand s g (operand.Point within) stack = tested (is_point s g within) reason.Point stack
take_operand s g operand.Cvt stack = tested (λ z. is_below z s.cvt) reason.Cvt stack
take_operand s g operand.Storage stack =
    tested (λ z. is_below z s.limits.storage) reason.Storage stack
take_operand s g operand.Zone stack = tested (is_zone s) reason.Zone stack
take_operand s g operand.Contour stack =
    tested (λ z. is_below z (contours_in s g.zp2)) reason.Contour stack
take_operand s g (operand.LoopPoints within) stack =
    counted (count_of g.loop_number) (tested (is_point s g within) reason.Point) stack
take_operand s g (operand.PointPairs within) stack =
    pairs count_of (tested (is_point s g within) reason.Point) stack
take_operand s g operand.CvtPairs stack =
    pairs count_of (tested (λ z. is_below z s.cvt) reason.Cvt) stack

-- all operands of a line, in their order
abbrev pub take_operands : Setting → Graphics ℤ ZoneNumber → List Operand → List ℤ →
    Tested (Taking ℤ)
take_operands s g [] stack = Ok ([], stack)
take_operands s g (o ∷ os) stack = then_take (take_operand s g o stack) (take_operands s g os)

-- the reference points that are used, tested after the operands whatever the loop number is
abbrev pub test_uses : Setting → Graphics ℤ ZoneNumber → List Use → Tested (Unit {0})
test_uses s g [] = Ok tt
test_uses s g (u ∷ us) = do
  ok ← holds_or (is_below (reference u.reference g) (zone_size s (pointer u.pointer g)))
      reason.Point
  test_uses s g us
