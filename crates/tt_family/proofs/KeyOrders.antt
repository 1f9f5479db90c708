-- Contexts with offsets in their order.
use Rattle.std.specs.Prelude.{◌≡◌, ℕ, ◌+◌, ◌⊎◌}
use Rattle.std.specs.declared.cmp.Ordering.TheVariants.{Less, Equal, Greater}
use Rattle.std.specs.Cmp.{nat_cmp_is}
use Rattle.std.specs.Ordering.{nat_cmp, ordering_then}
use Rattle.std.proofs.Common.{refl, sym, ◌∙◌, ap, arith, inl, inr}
use Rattle.std.proofs.lemmas.Bool.{cases_lt, cases_eq}
use Rattle.tt_family.specs.Places.{IsLess, place_cmp}

pub less_self : (a : ℕ × ℕ) → IsLess a a → ⊥
less_self a h = elim h [
  | inl lt ↦ omega arith
  | inr (same, lt) ↦ omega arith
]

pub less_trans : (a b c : ℕ × ℕ) → IsLess a b → IsLess b c → IsLess a c
less_trans a b c h k = elim h [
  | inl lt ↦ elim k [
    | inl lt' ↦ inl (omega arith)
    | inr (same', lt') ↦ inl (omega arith)
  ]
  | inr (same, lt) ↦ elim k [
    | inl lt' ↦ inl (omega arith)
    | inr (same', lt') ↦ inr (same ∙ same', omega arith)
  ]
]

-- what comes before a bound comes before all that doesn't
pub less_past : (a k r : ℕ × ℕ) → IsLess a r → (IsLess k r → ⊥) → IsLess a k
less_past a k r h not = elim (cases_lt a.0 k.0) [
  | inl lt ↦ inl lt
  | inr ge ↦ elim h [
    | inl lt ↦ absurd (not (inl (omega arith)))
    | inr (same, lt) ↦ elim (cases_lt k.0 r.0) [
      | inl lt' ↦ absurd (not (inl lt'))
      | inr ge' ↦ elim (cases_lt k.1 r.1) [
        | inl lt' ↦ absurd (not (inr (omega arith, lt')))
        | inr ge'' ↦ inr (omega arith, omega arith)
      ]
    ]
  ]
]

pub less_or_not : (a b : ℕ × ℕ) → IsLess a b ⊎ (IsLess a b → ⊥)
less_or_not a b = elim (cases_lt a.0 b.0) [
  | inl lt ↦ inl (inl lt)
  | inr ge ↦ elim (cases_eq a.0 b.0) [
    | inl same ↦ elim (cases_lt a.1 b.1) [
      | inl lt ↦ inl (inr (same, lt))
      | inr ge' ↦ inr (λ h. elim h [ inl lt ↦ omega arith | inr (same', lt) ↦ omega arith ])
    ]
    | inr other ↦ inr (λ h. elim h [ inl lt ↦ omega arith | inr (same', lt) ↦ other same' ])
  ]
]

-- of the next offset

pub less_next : (a : ℕ × ℕ) (c o : ℕ) → IsLess a (c, o + 1) → IsLess a (c, o) ⊎ (◌≡◌ {A = ℕ × ℕ} a (c, o))
less_next a c o h = elim h [
  | inl lt ↦ inl (inl lt)
  | inr (same, lt) ↦ elim (cases_lt a.1 o) [
    | inl lt' ↦ inl (inr (same, lt'))
    | inr ge ↦ let offset : a.1 ≡ o = omega arith in inr (λ i. (same i, offset i))
  ]
]

pub less_on : (a : ℕ × ℕ) (c o : ℕ) → IsLess a (c, o) → IsLess a (c, o + 1)
less_on a c o h = elim h [ inl lt ↦ inl lt | inr (same, lt) ↦ inr (same, omega arith) ]

pub here_on : (c o : ℕ) → IsLess (c, o) (c, o + 1)
here_on c o = inr (refl, omega arith)

pub not_next : (x e : ℕ × ℕ) → IsLess x e → IsLess e (x.0, x.1 + 1) → ⊥
not_next x e h k = elim h [
  | inl lt ↦ elim k [ inl lt' ↦ omega arith | inr (same', lt') ↦ omega arith ]
  | inr (same, lt) ↦ elim k [ inl lt' ↦ omega arith | inr (same', lt') ↦ omega arith ]
]

-- what compares as less comes before
pub less_from_cmp : (a b : ℕ × ℕ) → place_cmp a b ≡ Less → IsLess a b
less_from_cmp a b e = elim (cases_lt a.0 b.0) [
  | inl lt ↦ inl lt
  | inr ge ↦ elim (cases_eq a.0 b.0) [
    | inl same ↦
        let tied : nat_cmp a.0 b.0 ≡ Equal = sym (nat_cmp_is a.0 b.0 Equal same) in
        let second : nat_cmp a.1 b.1 ≡ Less = sym (ap (λ r. ordering_then r (nat_cmp a.1 b.1)) tied) ∙ e in
        elim (cases_lt a.1 b.1) [
          | inl lt ↦ inr (same, lt)
          | inr ge' ↦ elim (cases_eq a.1 b.1) [
            | inl same' ↦ let no_such : Equal ≡ Less = nat_cmp_is a.1 b.1 Equal same' ∙ second in absurd (cc)
            | inr other ↦ let no_such : Greater ≡ Less = nat_cmp_is a.1 b.1 Greater (omega arith) ∙ second in absurd (cc)
          ]
        ]
    | inr other ↦
        let first : nat_cmp a.0 b.0 ≡ Greater = sym (nat_cmp_is a.0 b.0 Greater (omega arith)) in
        let no_such : Greater ≡ Less = sym (ap (λ r. ordering_then r (nat_cmp a.1 b.1)) first) ∙ e in absurd (cc)
  ]
]
