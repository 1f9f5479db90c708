-- Lists of entries whose numbers are below a limit.
use Rattle.std.specs.Prelude.{◌≡◌, ◌↔◌, ℕ, ℤ, ◌<◌, nat_eq, Bool, true, false, IsTrue, cond, Some, List, [], ◌∷◌, zero, suc}
use Rattle.std.specs.List.{All}
use Rattle.std.proofs.Common.{refl, sym, ◌∙◌, ap, subst, arith, inl, inr}
use Rattle.std.proofs.lemmas.Bool.{cases_Bool, eqb-true, eq-eqb}
use Rattle.tt_code.specs.Settings.{Setting}
use Rattle.tt_abs.specs.declared.state.State.{State}
use Rattle.tt_setting.specs.Entries.{listed}
use Rattle.tt_family.specs.GoodFamilies.{IsStoredWithin}

not_both : (b : Bool) → b ≡ false → b ≡ true → ⊥
not_both b f t = let no_such : false ≡ true = sym f ∙ t in cc

module _ {V : Type 0} (limit : ℕ) where
  listed_below : (es : List (ℕ × V)) → All (λ (e : ℕ × V). e.0 < limit) es → (i : ℕ) (v : V) → listed es i ≡ Some v → i < limit
  listed_below [] all i v at = absurd (cc)
  listed_below (e ∷ es) all i v at = elim (cases_Bool (nat_eq e.0 i)) [
    | inl here ↦ let same = eqb-true e.0 i here in let below = all 0 e (omega arith) in omega arith
    | inr apart ↦ listed_below es (λ k d lt. all (suc k) d (omega arith)) i v (sym (ap (λ b. cond b (Some e.1) (listed es i)) apart) ∙ at)
  ]

  entries_below : (es : List (ℕ × V)) → ((i : ℕ) (v : V) → listed es i ≡ Some v → i < limit) → All (λ (e : ℕ × V). e.0 < limit) es
  entries_below [] h k d lt = absurd (omega arith)
  entries_below (e ∷ es) h zero d lt = h e.0 e.1 (ap (λ b. cond b (Some e.1) (listed es e.0)) (eq-eqb e.0 e.0 refl))
  entries_below (e ∷ es) h (suc k) d lt = entries_below es rest k d (omega arith)
    where
      rest : (i : ℕ) (v : V) → listed es i ≡ Some v → i < limit
      rest i v at = elim (cases_Bool (nat_eq e.0 i)) [
        | inl here ↦ h i e.1 (ap (λ b. cond b (Some e.1) (listed es i)) here)
        | inr apart ↦ h i v (ap (λ b. cond b (Some e.1) (listed es i)) apart ∙ at)
      ]

module _ (s : Setting) (a : State) (es : List (ℕ × ℤ)) (b : Bool) (same : es ≡ a.storage) (test : IsTrue b ↔ All (λ (e : ℕ × ℤ). e.0 < s.limits.storage) es) where
  -- the test of a state's storage cells
  pub stored_within : b ≡ true → IsStoredWithin s a
  stored_within is_true =
      let W : List (ℕ × ℤ) → Type 0 = λ x. (i : ℕ) (z : ℤ) → listed x i ≡ Some z → i < s.limits.storage in
      subst W same (listed_below s.limits.storage es (test.0 is_true))

  pub stored_above : b ≡ false → IsStoredWithin s a → ⊥
  stored_above is_false within =
      let W : List (ℕ × ℤ) → Type 0 = λ x. (i : ℕ) (z : ℤ) → listed x i ≡ Some z → i < s.limits.storage in
      not_both b is_false (test.1 (entries_below s.limits.storage es (subst W (sym same) within)))
