-- Entries whose keys ascend, as contexts.
use Rattle.std.specs.Prelude.{◌≡◌, true, ℕ, ◌+◌, ◌-◌, ◌≤◌, ◌<◌, Some, List, length, slice_index_or, slice_get, zero, suc}
use Rattle.std.specs.declared.cmp.Ordering.{Ordering}
use Rattle.std.specs.declared.cmp.Ordering.TheVariants.{Less, Equal, Greater}
use Rattle.std.specs.Ordering.{is_lt}
use Rattle.std.specs.BTreeMap.{BTreeMap}
use Rattle.std.specs.Cmp.{IsTotalOrder}
use Rattle.std.proofs.Common.{refl, sym, ◌∙◌, ap, arith, inl, inr}
use Rattle.std.proofs.lemmas.Bool.{cases_lt}
use Rattle.std.proofs.lemmas.Cmp.{then_total, on_total, nat_cmp_total}
use Rattle.std.proofs.lemmas.Option.{slice_get_within, slice_get-get_or}
use Rattle.tt_code.specs.declared.machine.Frame.{Frame}
use Rattle.tt_abs.specs.declared.state.State.{State}
use Rattle.tt_family.specs.Contexts.{frames_of}
use Rattle.tt_family.specs.Contents.{Contents, frames_at}
use Rattle.tt_family.specs.Built.{Key, key_cmp, key_of, IsBuilt, AscendsByKey}
use Rattle.tt_family.specs.Ascending.{IsContextAt, IsFinished}
use Rattle.tt_family.proofs.Adding.{no_frame, at_entry, length_is, family_is, cons_same, key_same}

pub key_total : IsTotalOrder key_cmp
key_total =
    then_total
    (then_total
    (then_total
    (then_total (on_total (λ (k : Key). k.0) nat_cmp_total) (on_total (λ (k : Key). k.1) nat_cmp_total))
    (on_total (λ (k : Key). k.2) nat_cmp_total))
    (on_total (λ (k : Key). k.3) nat_cmp_total))
    (on_total (λ (k : Key). k.4) nat_cmp_total)

-- the entry at an index that is there
pub entry_at : (entries : List (ℕ × Frame)) (i : ℕ) → i < length entries → (e : ℕ × Frame) × (slice_get entries i ≡ Some e)
entry_at entries i lt = (slice_index_or entries i (0, no_frame), slice_get-get_or entries i (0, no_frame) lt)

-- an entry's key is above that of each one before
pub ascends_over : (entries : List (ℕ × Frame)) → AscendsByKey entries → (i j : ℕ) (d e : ℕ × Frame)
    → slice_get entries i ≡ Some d → slice_get entries (i + 1 + j) ≡ Some e → key_cmp (key_of d) (key_of e) ≡ Less
ascends_over entries ascends i zero d e at_d at_e = ascends i d e at_d (let n : i + 1 ≡ i + 1 + 0 = omega arith in ap (slice_get entries) n ∙ at_e)
ascends_over entries ascends i (suc j) d e at_d at_e =
    let within = slice_get_within entries (i + 1 + suc j) e at_e in
    let (m, at_m) = entry_at entries (i + 1 + j) (omega arith) in
    let n : i + 1 + j + 1 ≡ i + 1 + suc j = omega arith in
    key_total.trans (key_of d) (key_of m) (key_of e) (ascends_over entries ascends i j d m at_d at_m)
    (ascends (i + 1 + j) m e at_m (ap (slice_get entries) n ∙ at_e))

module _ (entries : List (ℕ × Frame)) (index : BTreeMap Key ℕ) (states : List ((ℕ × ℕ) × State)) (v : Contents)
    (is : ◌≡◌ {A = Contents} (record { contexts = frames_of entries; states = states }) v) (built : IsBuilt entries index states) where
  -- the entry of a context other than the empty one
  pub entry_of : (n : ℕ) → 0 < n → n < length v.contexts → (i : ℕ) × (e : ℕ × Frame) × (n ≡ i + 1) × (slice_get entries i ≡ Some e) × IsContextAt v.contexts n e
  entry_of zero some lt = absurd (omega arith)
  entry_of (suc i) some lt =
      let long = length_is entries index states v is built in
      let (e, at) = entry_at entries i (omega arith) in
      let before = built.parents i e at in
      let n : suc i ≡ i + 1 = omega arith in
      (i, e, n, at, (lt, omega arith, ap (frames_at v.contexts) n ∙ at_entry entries index states v is built i e at))

  -- a context has one parent and one last frame
  pub one_entry : (n : ℕ) (d e : ℕ × Frame) → IsContextAt v.contexts n d → IsContextAt v.contexts n e → key_of d ≡ key_of e
  one_entry n d e at_d at_e =
      let both = cons_same d.1 e.1 (frames_at v.contexts d.0) (frames_at v.contexts e.0) (sym at_d.2 ∙ at_e.2) in
      let lt = at_d.0 in
      let before = at_d.1 in
      let before' = at_e.1 in
      let family = family_is entries index states v is built in
      key_same d e (family.distinct d.0 e.0 (omega arith) (omega arith) both.0) both.1

  pub IsFinished-from : AscendsByKey entries → IsFinished v
  IsFinished-from ascends = (
    family_is entries index states v is built,
    record {
      parents = λ n some lt. let (i, e, n_is, at, stands) = entry_of n some lt in (e, stands);
      ascends = λ m n d e less at_d at_e.
          let some = at_d.1 in
          let lt = at_d.0 in
          let lt' = at_e.0 in
          let (i, d', m_is, at_i, stands_m) = entry_of m (omega arith) lt in
          let (j, e', n_is, at_j, stands_n) = entry_of n (omega arith) lt' in
          let j_is : j ≡ i + 1 + (j - (i + 1)) = omega arith in
          let same_d = one_entry m d' d stands_m at_d in
          let same_e = one_entry n e' e stands_n at_e in
          let below = ascends_over entries ascends i (j - (i + 1)) d' e' at_i (ap (slice_get entries) (sym j_is) ∙ at_j) in
          ap (λ x. key_cmp x (key_of e)) (sym same_d) ∙ ap (key_cmp (key_of d')) (sym same_e) ∙ below;
    },
  )

less_from : (o : Ordering) → is_lt o ≡ true → o ≡ Less
less_from Less e = refl
less_from Equal e = cc
less_from Greater e = cc

-- one more entry above the one before
pub ascends_step : (entries : List (ℕ × Frame)) (i : ℕ) (x y : ℕ × Frame)
    → ((k : ℕ) (d e : ℕ × Frame) → k + 1 < i → slice_get entries k ≡ Some d → slice_get entries (k + 1) ≡ Some e → key_cmp (key_of d) (key_of e) ≡ Less)
    → 1 ≤ i → i < length entries → (a b : Key) → a ≡ key_of (slice_index_or entries (i - 1) x) → b ≡ key_of (slice_index_or entries i y)
    → (o : Ordering) → o ≡ key_cmp a b → is_lt o ≡ true
    → (k : ℕ) (d e : ℕ × Frame) → k + 1 < i + 1 → slice_get entries k ≡ Some d → slice_get entries (k + 1) ≡ Some e → key_cmp (key_of d) (key_of e) ≡ Less
ascends_step entries i x y before some lt a b a_is b_is o o_is less k d e within at_d at_e = elim (cases_lt (k + 1) i) [
  | inl old ↦ before k d e old at_d at_e
  | inr new ↦
      let k_is : k ≡ i - 1 = omega arith in
      let next : k + 1 ≡ i = omega arith in
      let first : Some (slice_index_or entries (i - 1) x) ≡ Some d = sym (slice_get-get_or entries (i - 1) x (omega arith)) ∙ ap (slice_get entries) (sym k_is) ∙ at_d in
      let second : Some (slice_index_or entries i y) ≡ Some e = sym (slice_get-get_or entries i y lt) ∙ ap (slice_get entries) (sym next) ∙ at_e in
      let d_is : slice_index_or entries (i - 1) x ≡ d = cc in
      let e_is : slice_index_or entries i y ≡ e = cc in
      ap (λ z. key_cmp (key_of z) (key_of e)) (sym d_is) ∙ ap (λ z. key_cmp (key_of (slice_index_or entries (i - 1) x)) (key_of z)) (sym e_is)
      ∙ ap (λ z. key_cmp z (key_of (slice_index_or entries i y))) (sym a_is) ∙ ap (key_cmp a) (sym b_is) ∙ sym o_is ∙ less_from o less
]
