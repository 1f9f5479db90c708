-- The end of a list: what its last offset tells of the others, and an offset that is put after them.
use Rattle.std.specs.Prelude.{◌≡◌, ◌↔◌, ℕ, zero, suc, ◌-◌, ◌<◌, IsTrue, cond, nat_eq, nat_lt, if◌then◌else◌, Some, None, [], ◌∷◌, ◌++◌, length, slice_get}
use Rattle.std.specs.List.{AllByRecursion}
use Rattle.std.proofs.Common.{refl, sym, ◌∙◌, ap, arith, inl, inr}
use Rattle.std.proofs.lemmas.Bool.{cases_eq, eq-eqb, ne_eqb, lt-ltb, ltb-true}
use Rattle.std.proofs.lemmas.Option.{slice_get_within, get_or_from_slice_get}
use Rattle.tt_setting.specs.Entries.{Ascends, listed}
use Rattle.tt_setting.specs.EntryLaws.{listed-here, listed-there}
use Rattle.tt_setting.proofs.EntryEdits.{all-at}
use Rattle.tt_family.specs.Representation.SlotLists.{Offsets, AreBelow}

-- the last offset

last_at : (list : Offsets) (d : ℕ × ℕ) → slice_get list (length list - 1) ≡ Some d → (i : ℕ) × (suc i ≡ length list) × (slice_get list i ≡ Some d)
last_at list d at =
    let lt = slice_get_within list (length list - 1) d at in
    (length list - 1, omega arith, at)

below_last : (o : ℕ) (list : Offsets) (i : ℕ) (d : ℕ × ℕ) → Ascends list → suc i ≡ length list → slice_get list i ≡ Some d → d.0 < o → AreBelow o list
below_last o [] i d ascends end at lt = tt
below_last o (e ∷ []) zero d ascends end at lt = let same : e ≡ d = cc in (let f = ap (λ (x : ℕ × ℕ). x.0) same in omega arith, tt)
below_last o (e ∷ f ∷ list) zero d ascends end at lt = absurd (omega arith)
below_last o (e ∷ list) (suc i) d ascends end at lt =
    let above = all-at e.0 list i e ascends.0 (omega arith) in
    let is = ap (λ (x : ℕ × ℕ). x.0) (get_or_from_slice_get list i d e at) in
    (omega arith, below_last o list i d ascends.1 (omega arith) at lt)

last_below : (o : ℕ) (list : Offsets) (i : ℕ) (d : ℕ × ℕ) → slice_get list i ≡ Some d → AreBelow o list → d.0 < o
last_below o [] i d at below = absurd (cc)
last_below o (e ∷ list) zero d at below = let same : e ≡ d = cc in let f = ap (λ (x : ℕ × ℕ). x.0) same in let lt = below.0 in omega arith
last_below o (e ∷ list) (suc i) d at below = last_below o list i d at below.1

-- a list is below an offset if its last offset is
pub tests_last : (o : ℕ) (list : Offsets) (d : ℕ × ℕ) → Ascends list → Some d ≡ slice_get list (length list - 1) → IsTrue (nat_lt d.0 o) ↔ AreBelow o list
tests_last o list d ascends at =
    let (i, end, at_i) = last_at list d (sym at) in (
      λ t. below_last o list i d ascends end at_i (ltb-true d.0 o t),
      λ below. lt-ltb d.0 o (last_below o list i d at_i below),
    )

listed_at : (o : ℕ) (list : Offsets) (i : ℕ) (d : ℕ × ℕ) → Ascends list → slice_get list i ≡ Some d → d.0 ≡ o → listed list o ≡ Some d.1
listed_at o [] i d ascends at same = absurd (cc)
listed_at o (e ∷ list) zero d ascends at same =
    let is : e ≡ d = cc in
    listed-here e list o (ap (λ (x : ℕ × ℕ). x.0) is ∙ same) ∙ ap (λ (x : ℕ × ℕ). Some x.1) is
listed_at o (e ∷ list) (suc i) d ascends at same =
    let above = all-at e.0 list i e ascends.0 (slice_get_within list i d at) in
    let is = ap (λ (x : ℕ × ℕ). x.0) (get_or_from_slice_get list i d e at) in
    listed-there e list o (λ f. absurd (omega arith)) ∙ listed_at o list i d ascends.1 at same

-- the slot of the last offset
pub listed_last : (o : ℕ) (list : Offsets) (d : ℕ × ℕ) → Ascends list → Some d ≡ slice_get list (length list - 1) → d.0 ≡ o → listed list o ≡ Some d.1
listed_last o list d ascends at same = listed_at o list (length list - 1) d ascends (sym at) same

-- an offset after a list

pub listed_below : (o : ℕ) (list : Offsets) → AreBelow o list → listed list o ≡ None
listed_below o [] below = refl
listed_below o (e ∷ list) below =
    let lt = below.0 in ap (λ b. if b then Some e.1 else listed list o) (ne_eqb e.0 o (λ f. absurd (omega arith))) ∙ listed_below o list below.1

pub listed_pushed : (o n : ℕ) (list : Offsets) (q : ℕ) → AreBelow o list → listed (list ++ (o, n) ∷ []) q ≡ cond (nat_eq o q) (Some n) (listed list q)
listed_pushed o n [] q below = refl
listed_pushed o n (e ∷ list) q below = elim (cases_eq e.0 q) [
  | inl here ↦
      let lt = below.0 in
      ap (λ b. if b then Some e.1 else listed (list ++ (o, n) ∷ []) q) (eq-eqb e.0 q here)
      ∙ sym (ap (λ b. cond b (Some n) (if nat_eq e.0 q then Some e.1 else listed list q)) (ne_eqb o q (λ f. absurd (omega arith)))
      ∙ ap (λ b. if b then Some e.1 else listed list q) (eq-eqb e.0 q here))
  | inr apart ↦
      ap (λ b. if b then Some e.1 else listed (list ++ (o, n) ∷ []) q) (ne_eqb e.0 q apart) ∙ listed_pushed o n list q below.1
      ∙ sym (ap (λ b. cond (nat_eq o q) (Some n) (if b then Some e.1 else listed list q)) (ne_eqb e.0 q apart))
]

above_pushed : (d o n : ℕ) (list : Offsets) → d < o → AllByRecursion (λ f. d < f.0) list → AllByRecursion (λ f. d < f.0) (list ++ (o, n) ∷ [])
above_pushed d o n [] lt all = (lt, tt)
above_pushed d o n (e ∷ list) lt all = (all.0, above_pushed d o n list lt all.1)

pub ascends_pushed : (o n : ℕ) (list : Offsets) → Ascends list → AreBelow o list → Ascends (list ++ (o, n) ∷ [])
ascends_pushed o n [] ascends below = (tt, tt)
ascends_pushed o n (e ∷ list) ascends below = (above_pushed e.0 o n list below.0 ascends.0, ascends_pushed o n list ascends.1 below.1)

pub below_first : (q : ℕ) (list es : Offsets) → AreBelow q (list ++ es) → AreBelow q list
below_first q [] es below = tt
below_first q (e ∷ list) es below = (below.0, below_first q list es below.1)
