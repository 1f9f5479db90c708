-- The entries of `loca`.
use Rattle.std.proofs.Common.{◌≡◌, ℕ, ◌+◌, ◌-◌, ◌*◌, ◌<◌, ◌≤◌, Bool, true, false, not, List, length, Some, None, refl, ap, arith, nat_lt}
use Rattle.std.specs.Prelude.{nat_le, ◌&&◌, ◌||◌, ◌==◌}
use Rattle.std.proofs.lemmas.Bool.{lt-ltb, le-ltb, leb-true, ne_eqb}
use Rattle.tt_font.proofs.FirstBelow.{first_none}
use Rattle.tt_font.specs.declared.fault.FontFault.TheVariants as faults
use Rattle.tt_font.specs.Locations.{entry, entry_size, entry_fits}
use Rattle.tt_font.specs.Conditions.{misplaced_entry, loca_fault}

pub and_left : (a b : Bool) → (a && b) ≡ true → a ≡ true
and_left true b e = refl
and_left false b e = cc

pub and_right : (a b : Bool) → (a && b) ≡ true → b ≡ true
and_right true b e = e
and_right false b e = cc

or_right : (a b : Bool) → a ≡ false → (a || b) ≡ true → b ≡ true
or_right true b f e = cc
or_right false b f e = e

not_false : (a : Bool) → not a ≡ false → a ≡ true
not_false true e = refl
not_false false e = cc

not_zero : (i j : ℕ) → j ≡ i + 1 → (j == 0) ≡ false
not_zero i j e = ne_eqb j 0 (λ h. absurd (omega arith))

-- a glyph's entry is at most the next one
pub entries_rise : (format : ℕ) (loca glyf : List ℕ) (i j : ℕ) → j ≡ i + 1 → entry_fits format loca glyf j ≡ true → entry format loca i ≤ entry format loca j
entries_rise format loca glyf i j e fits =
    let ascends = or_right (j == 0) _ (not_zero i j e) (and_right (nat_le (entry format loca j) (length glyf)) _ (and_right (nat_le (entry_size format * (j + 1)) (length loca)) _ fits)) in
    let before : j - 1 ≡ i = omega arith in
    let le : entry format loca (j - 1) ≤ entry format loca j = leb-true _ _ ascends in
    let same : entry format loca (j - 1) ≡ entry format loca i = ap (entry format loca) before in
    omega arith

pub all_placed : (format : ℕ) (loca glyf : List ℕ) (n : ℕ) → misplaced_entry format loca glyf n ≡ None → (i : ℕ) → i < n → entry_fits format loca glyf i ≡ true
all_placed format loca glyf n none i lt = not_false _ (first_none (λ i. not (entry_fits format loca glyf i)) n none i lt)

pub loca_format_is_unknown : (format : ℕ) (loca glyf : List ℕ) (count : ℕ) → 1 < format → loca_fault format loca glyf count ≡ Some (faults.Loca 0)
unfolding loca_fault
loca_format_is_unknown format loca glyf count gt = let f : nat_lt format 2 ≡ false = le-ltb _ _ (let le : 2 ≤ format = omega arith in le) in rw f refl

pub loca_is_misplaced : (format : ℕ) (loca glyf : List ℕ) (count i : ℕ) → format < 2 → misplaced_entry format loca glyf (count + 1) ≡ Some i
    → loca_fault format loca glyf count ≡ Some (faults.Loca i)
unfolding loca_fault
loca_is_misplaced format loca glyf count i lt h = let f : nat_lt format 2 ≡ true = lt-ltb _ _ lt in rw (f, h) refl

pub loca_is_placed : (format : ℕ) (loca glyf : List ℕ) (count : ℕ) → format < 2 → misplaced_entry format loca glyf (count + 1) ≡ None
    → loca_fault format loca glyf count ≡ None
unfolding loca_fault
loca_is_placed format loca glyf count lt h = let f : nat_lt format 2 ≡ true = lt-ltb _ _ lt in rw (f, h) refl
