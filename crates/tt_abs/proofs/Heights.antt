-- How often a state within the font's limits can rise.
use Rattle.std.specs.Prelude.{Some}
use Rattle.std.specs.List.{AllByRecursion}
use Rattle.std.proofs.Common.{◌≡◌, ℕ, ◌+◌, ◌<◌, ◌≤◌, List, [], ◌∷◌, length, refl, ◌∙◌, arith}
use Rattle.tt_code.specs.Settings.{Setting}
use Rattle.tt_abs.specs.declared.cells.Cell.{Cell}
use Rattle.tt_abs.specs.declared.cells.Cell.TheVariants.{Known, Unknown}
use Rattle.tt_setting.specs.declared.zone.ZoneCell.{ZoneCell}
use Rattle.tt_setting.specs.declared.zone.ZoneCell.TheVariants.{Zero, One, Either}
use Rattle.tt_abs.specs.declared.state.State.{State}
use Rattle.tt_abs.specs.CellOrders.{known_cells, known_zones}
use Rattle.tt_abs.specs.Cells.{Cells}
use Rattle.tt_setting.specs.Entries.{Ascends, listed}
use Rattle.tt_setting.specs.EntryLaws.{listed-here, listed-there, number-above}
use Rattle.tt_abs.specs.GraphicsOrders.{graphics_order}
use Rattle.tt_abs.specs.StateFlow.{FitsLimits, height_of}
use Rattle.tt_abs.specs.Stacks.{known_count}
use Rattle.tt_abs.specs.States.{state_order}

-- of cells

known_at_most : (c : Cell) → known_cells c ≤ 1
known_at_most (Known k) = omega arith
known_at_most Unknown = omega arith

zone_at_most : (c : ZoneCell) → known_zones c ≤ 1
zone_at_most Zero = omega arith
zone_at_most One = omega arith
zone_at_most Either = omega arith

pub known_count_at_most : (cells : List Cell) → known_count cells ≤ length cells
known_count_at_most [] = omega arith
known_count_at_most (c ∷ cells) = omega (arith, known_at_most c, known_count_at_most cells)

pub graphics_at_most : (g : Cells) → graphics_order.left g ≤ 7
graphics_at_most g =
    omega (arith, known_at_most g.rp0, known_at_most g.rp1, known_at_most g.rp2, known_at_most g.loop_number, zone_at_most g.zp0, zone_at_most g.zp1, zone_at_most g.zp2)

-- Of sorted maps.

abbrev AreBetween : {V : Type 0} → ℕ → ℕ → List (ℕ × V) → Type 0
AreBetween {V} low high es = (n : ℕ) (v : V) → listed es n ≡ Some v → (low ≤ n) × (n < high)

between_tail : {V : Type 0} (low high : ℕ) (e : ℕ × V) (es : List (ℕ × V)) → AllByRecursion (λ f. e.0 < f.0) es → AreBetween low high (e ∷ es) → AreBetween (e.0 + 1) high es
between_tail low high e es above h n v l =
    let lt : e.0 < n = number-above e.0 n v es above l in
    let both = h n v (listed-there e es n (λ q. omega arith) ∙ l) in (omega arith, both.1)

between_length : {V : Type 0} (low high : ℕ) (es : List (ℕ × V)) → low ≤ high → Ascends es → AreBetween low high es → low + length es ≤ high
between_length low high [] le ascends h = omega arith
between_length low high (e ∷ es) le ascends h =
    let first = h e.0 e.1 (listed-here e es e.0 refl) in
    let a : low ≤ e.0 = first.0 in
    let b : e.0 < high = first.1 in
    let rest : e.0 + 1 + length es ≤ high = between_length (e.0 + 1) high es (omega arith) ascends.1 (between_tail low high e es ascends.0 h) in omega arith

-- a list in ascending order of numbers that are all below a bound has at most so many entries
pub entries_at_most : {V : Type 0} (high : ℕ) (es : List (ℕ × V)) → Ascends es → ((n : ℕ) (v : V) → listed es n ≡ Some v → n < high) → length es ≤ high
entries_at_most high es ascends h = let k : 0 + length es ≤ high = between_length 0 high es (omega arith) ascends (λ n v l. (omega arith, h n v l)) in omega arith

pub state_at_most : (s : Setting) (a : State) → state_order.InRange a → FitsLimits s a → state_order.left a ≤ height_of s
state_at_most s a range fits =
    let stack : known_count a.stack ≤ length a.stack = known_count_at_most a.stack in
    let depth : length a.stack ≤ s.limits.stack = fits.depth in
    let graphics : graphics_order.left a.graphics ≤ 7 = graphics_at_most a.graphics in
    let functions : length a.functions ≤ s.limits.functions = entries_at_most s.limits.functions a.functions range.1.1.0.ascends (λ n v l. (fits.functions n v l).0) in
    let storage : length a.storage ≤ s.limits.storage = entries_at_most s.limits.storage a.storage range.1.1.1.ascends fits.storage in
    omega arith
