-- The least number that passes a test.
use Rattle.std.proofs.Common.{◌≡◌, ℕ, zero, suc, ◌+◌, ◌-◌, ◌<◌, Bool, true, false, Option, Some, None, refl, ap, ◌∙◌, arith, inl, inr}
use Rattle.std.specs.Option.{option_or}
use Rattle.std.specs.Prelude.{if◌then◌else◌}
use Rattle.std.proofs.lemmas.Bool.{cases_eq}
use Rattle.tt_font.specs.Numbers.{first_below}

pub none_yet : (test : ℕ → Bool) → first_below test 0 ≡ None
unfolding first_below
none_yet test = refl

-- one more number that doesn't pass
pub none_more : (test : ℕ → Bool) (n : ℕ) → first_below test n ≡ None → test n ≡ false → first_below test (n + 1) ≡ None
unfolding first_below
none_more test n none fails = let e : n + 1 ≡ suc n = omega arith in rw (e, none, fails) refl

stays : (test : ℕ → Bool) (i k : ℕ) → first_below test (suc i) ≡ Some i → first_below test (k + suc i) ≡ Some i
unfolding first_below
stays test i zero h = let e : 0 + suc i ≡ suc i = omega arith in rw (e) h
stays test i (suc k) h = let e : suc k + suc i ≡ suc (k + suc i) = omega arith in rw (e, stays test i k h) refl

-- the first that passes
pub first_is : (test : ℕ → Bool) (i n : ℕ) → first_below test i ≡ None → test i ≡ true → i < n → first_below test n ≡ Some i
unfolding first_below
first_is test i n none passes lt =
    let here : first_below test (suc i) ≡ Some i = rw (none, passes) refl in
    let e : n ≡ (n - suc i) + suc i = omega arith in
    rw e (stays test i (n - suc i) here)

-- where none passes, each fails
pub first_none : (test : ℕ → Bool) (n : ℕ) → first_below test n ≡ None → (i : ℕ) → i < n → test i ≡ false
unfolding first_below
first_none test zero none i lt = absurd (omega arith)
first_none test (suc n) none i lt = elim (cases_eq i n) [
  | inl same ↦ ap test same ∙ here (test n) (first_below test n) none
  | inr other ↦ first_none test n (before (first_below test n) _ none) i (omega arith)
]
  where
    before : (a b : Option ℕ) → option_or a b ≡ None → a ≡ None
    before None b e = refl
    before (Some k) b e = e

    here : (b : Bool) (a : Option ℕ) → option_or a (if b then Some n else None) ≡ None → b ≡ false
    here false a e = refl
    here true None e = absurd (cc)
    here true (Some k) e = absurd (cc)
