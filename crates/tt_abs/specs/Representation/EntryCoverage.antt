-- One sorted map is below another exactly where the second covers whatever the first covers: of
-- functions, and of storage cells.
use Rattle.std.specs.Prelude.{◌≡◌, ℕ, ℤ, pos, ◌↔◌, List, Option, None, Some}
use Rattle.std.specs.Option.{unwrap_or}
use Rattle.std.proofs.Common.{refl, sym, ◌∙◌, ap, subst, rules}
use Rattle.tt_code.specs.States.{IsNumber}
use Rattle.tt_abs.specs.Cells.{Covers, CoversStorage}
use Rattle.tt_setting.specs.Functions.{CoversFunctions}
use Rattle.tt_setting.specs.Entries.{listed}
use Rattle.tt_abs.specs.StorageCells.{known_or_not, storage_of}
use Rattle.tt_abs.specs.EntryOrders.{EntriesBelow, EntriesInRange}
use Rattle.tt_abs.specs.Representation.EntryFacts.{listed-all}
use Rattle.tt_setting.specs.EntryLaws.{listed-named}

-- Functions: the machine's are in any order.

-- a list of functions is below another exactly if the other covers all that the one covers
pub functions_below_is_coverage : (a b : List (ℕ × ℕ))
    → EntriesBelow a b
    ↔ ((functions : List (ℕ × ℕ)) → CoversFunctions a functions → CoversFunctions b functions)
functions_below_is_coverage a b = (
  λ p functions covers n body named.
      covers n body (sym (listed-named a n) ∙ p n body (listed-named b n ∙ named)),
  λ f n body l. listed-named a n ∙ f a (λ _ _ named. named) n body (sym (listed-named b n) ∙ l),
)

-- Storage.

zero_is_number : IsNumber (pos 0)
zero_is_number = search rules

one_is_number : IsNumber (pos 1)
one_is_number = search rules

covers_step : (o p : Option ℤ) (n : ℤ) → ((v : ℤ) → p ≡ Some v → o ≡ Some v)
    → ((v : ℤ) → o ≡ Some v → IsNumber v) → Covers (known_or_not o) n → Covers (known_or_not p) n
covers_step o (Some v) n below range h =
    let P : Option ℤ → Type 0 = λ q. Covers (known_or_not q) n in subst P (below v refl) h
covers_step None None n below range h = h
covers_step (Some w) None n below range h =
    let N : ℤ → Type 0 = λ z. IsNumber z in subst N (sym h) (range w refl)

-- the area that holds the listed numbers, and this one in every other cell
abbrev area_of : List (ℕ × ℤ) → ℤ → ℕ → ℤ
area_of es z i = unwrap_or (listed es i) z

area_step : (o : Option ℤ) (z : ℤ) → IsNumber z → Covers (known_or_not o) (unwrap_or o z)
area_step None z h = h
area_step (Some w) z h = refl

area_is_covered : (es : List (ℕ × ℤ)) (z : ℤ) → IsNumber z
    → CoversStorage (storage_of es) (area_of es z)
area_is_covered es z h i = area_step (listed es i) z h

below_step : (o : Option ℤ) (v : ℤ) → unwrap_or o (pos 0) ≡ v → unwrap_or o (pos 1) ≡ v → o ≡ Some v
below_step None v zero one = cc
below_step (Some w) v zero one = ap Some zero

-- a list of storage cells in range is below another exactly if the other covers all that the one
-- covers
pub storage_below_is_coverage : (a b : List (ℕ × ℤ)) → EntriesInRange IsNumber a
    → EntriesBelow a b
    ↔ ((area : ℕ → ℤ) → CoversStorage (storage_of a) area → CoversStorage (storage_of b) area)
storage_below_is_coverage a b range = (
  λ p area covers i.
      covers_step (listed a i) (listed b i) (area i) (p i)
      (λ v. listed-all IsNumber a i v range.values) (covers i),
  λ f n v l.
      let C : ℤ → Option ℤ → Type 0 = λ z o. Covers (known_or_not o) (area_of a z n) in
      below_step (listed a n) v
      (subst (C (pos 0)) l (f (area_of a (pos 0)) (area_is_covered a (pos 0) zero_is_number) n))
      (subst (C (pos 1)) l (f (area_of a (pos 1)) (area_is_covered a (pos 1) one_is_number) n)),
)
