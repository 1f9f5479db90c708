-- Cells that don't depend on a symbol, and valuations that differ there.
use Rattle.std.proofs.Common.{◌≡◌, ◌≢◌, ℕ, zero, suc, ℤ, pos, ◌+ℤ◌, ◌*ℤ◌, List, [], ◌∷◌, ◌++◌, map, length, reverse, Some, Bool, true, false, nat_eq, ◌<◌, if◌then◌else◌, refl, sym, ◌∙◌, ap, subst, ◌⊎◌, inl, inr, arith}
use Rattle.std.specs.Prelude.{slice_get}
use Rattle.std.specs.List.{All}
use Rattle.std.proofs.lemmas.Bool.{eqb-true, eqb-false}
use Rattle.std.proofs.lemmas.List.Elements.{All-head, All-tail}
use Rattle.tt_setting.specs.Entries.{listed}
use Rattle.tt_symbolic_state.specs.declared.cell.Range.{Range}
use Rattle.tt_symbolic_state.specs.declared.cell.Cell.{Cell}
use Rattle.tt_symbolic_state.specs.Values.{Fits, IsWithin, Valuation, value}
use Rattle.tt_symbolic_state.proofs.Values.{value_is, value_constant}
use Rattle.std.proofs.lemmas.Option.{slice_get_within}
use Rattle.tt_code.specs.States.{Machine}
use Rattle.tt_symbolic_state.specs.declared.state.State.{State}
use Rattle.tt_code.specs.declared.machine.Frame.{Frame}
use Rattle.tt_symbolic_state.specs.declared.state.OpenCall.{OpenCall}
use Rattle.tt_symbolic_state.specs.Shows.{IsFree, IsFreeCall, IsFresh, Shows, ShowsArea, ShowsCalls, more, none, zone_number}

pub free_constant : (s : ℕ) (c : Cell) → c.factor ≡ pos 0 → IsFree s c
free_constant s c e = record { same = λ v w h. value_constant w c e ∙ sym (value_constant v c e) }

pub free_other : (s : ℕ) (c : Cell) → c.symbol ≢ s → IsFree s c
free_other s c e = record { same = λ v w h. value_is w c ∙ ap (λ z. c.factor *ℤ z +ℤ c.offset) (h c.symbol e) ∙ sym (value_is v c) }

-- a valuation with one number changed
abbrev pub with_value : Valuation → ℕ → ℤ → Valuation
with_value v s z i = if nat_eq i s then z else v i

with_same : (v : Valuation) (s : ℕ) (z : ℤ) → with_value v s z s ≡ z
with_same v s z = rw (is_eq s) refl
  where
    is_eq : (n : ℕ) → nat_eq n n ≡ true
    is_eq n = go (nat_eq n n) refl
      where
        go : (b : Bool) → nat_eq n n ≡ b → b ≡ true
        go true e = refl
        go false e = absurd (eqb-false n n e refl)

with_other : (v : Valuation) (s : ℕ) (z : ℤ) (i : ℕ) → i ≢ s → with_value v s z i ≡ v i
with_other v s z i h = go (nat_eq i s) refl
  where
    go : (b : Bool) → nat_eq i s ≡ b → (if b then z else v i) ≡ v i
    go true e = absurd (h (eqb-true i s e))
    go false e = refl

found : (s : ℕ) (es : List (ℕ × Cell)) → All (λ (e : ℕ × Cell). IsFree s e.1) es → (i : ℕ) (c : Cell) → listed es i ≡ Some c → IsFree s c
found s [] free i c at = absurd (cc)
found s (e ∷ es) free i c at = go (nat_eq e.0 i) at (found s es (All-tail (λ (e : ℕ × Cell). IsFree s e.1) e es free) i c)
  where
    go : (b : Bool) → (if b then Some e.1 else listed es i) ≡ Some c → (listed es i ≡ Some c → IsFree s c) → IsFree s c
    go true h k = let same : e.1 ≡ c = cc in subst (λ (x : Cell). IsFree s x) same (All-head (λ (e : ℕ × Cell). IsFree s e.1) e es free)
    go false h k = k h

pushed_get : (xs : List Range) (r : Range) (i : ℕ) (q : Range) → slice_get (xs ++ r ∷ []) i ≡ Some q → (slice_get xs i ≡ Some q) ⊎ ((i ≡ length xs) × (q ≡ r))
pushed_get [] r zero q e = let same : r ≡ q = cc in inr (refl, sym same)
pushed_get [] r (suc i) q e = absurd (cc)
pushed_get (x ∷ xs) r zero q e = inl e
pushed_get (x ∷ xs) r (suc i) q e = elim (pushed_get xs r i q e) [ inl h ↦ inl h | inr h ↦ inr (ap suc h.0, h.1) ]

module _ (v : Valuation) (s : ℕ) (z : ℤ) where
  kept : (c : Cell) → IsFree s c → value (with_value v s z) c ≡ value v c
  kept c h = h.same v (with_value v s z) (with_other v s z)

  kept_all : (cs : List Cell) → All (IsFree s) cs → map (value (with_value v s z)) cs ≡ map (value v) cs
  kept_all [] h = refl
  kept_all (c ∷ cs) h = ap (λ x. x ∷ map (value (with_value v s z)) cs) (kept c (All-head (IsFree s) c cs h)) ∙ ap (λ xs. value v c ∷ xs) (kept_all cs (All-tail (IsFree s) c cs h))

  kept_calls : (cs : List OpenCall) (fs : List Frame) → All (IsFreeCall s) cs → ShowsCalls v cs fs → ShowsCalls (with_value v s z) cs fs
  kept_calls cs fs free none = none
  kept_calls cs fs free (more c calls f frames h hs) =
      more c calls f frames (record { body_is = h.body_is; call_is = h.call_is; left_is = h.left_is ∙ sym (kept c.left (All-head (IsFreeCall s) c calls free)) })
      (kept_calls calls frames (All-tail (IsFreeCall s) c calls free) hs)

  kept_area : (es : List (ℕ × Cell)) → All (λ (e : ℕ × Cell). IsFree s e.1) es → (area : ℕ → ℤ) → ShowsArea v es area → ShowsArea (with_value v s z) es area
  kept_area es free area h = record { listed_is = λ i c at. h.listed_is i c at ∙ sym (kept c (found s es free i c at)); are_numbers = h.are_numbers }

  ranges_fit : (ranges : List Range) (range : Range) → Fits ranges v → IsWithin range z → length ranges ≡ s → Fits (ranges ++ range ∷ []) (with_value v s z)
  ranges_fit ranges range fits within n = record { each = λ i r at. elim (pushed_get ranges range i r at) [ inl old ↦ before i r old | inr new ↦ here i r new.0 new.1 ] }
    where
      before : (i : ℕ) (r : Range) → slice_get ranges i ≡ Some r → IsWithin r (with_value v s z i)
      before i r old =
          let lt : i < length ranges = slice_get_within ranges i r old in
          let same : with_value v s z i ≡ v i = with_other v s z i (λ e. absurd (omega arith)) in
          subst (IsWithin r) (sym same) (fits.each i r old)

      here : (i : ℕ) (r : Range) → i ≡ length ranges → r ≡ range → IsWithin r (with_value v s z i)
      here i r e f =
          let same : with_value v s z i ≡ z = ap (with_value v s z) (e ∙ n) ∙ with_same v s z in
          rw (f, same) within

  kept_state : (a : State) → IsFree s a.graphics.rp0 → IsFree s a.graphics.rp1 → IsFree s a.graphics.rp2 → IsFree s a.graphics.loop_number
      → All (IsFreeCall s) (reverse a.calls.items) → All (IsFree s) a.stack → All (λ (e : ℕ × Cell). IsFree s e.1) a.storage → All (λ (e : ℕ × Cell). IsFree s e.1) a.controls
      → (m : Machine) (controls : ℕ → ℤ) → Shows v a m controls → Shows (with_value v s z) a m controls
  kept_state a f0 f1 f2 f3 fk fs ft fc m controls h = record {
    calls = kept_calls (reverse a.calls.items) m.frames fk h.calls;
    stack = h.stack ∙ sym (kept_all a.stack fs);
    graphics = h.graphics ∙ λ i. record {
      rp0 = sym (kept a.graphics.rp0 f0) i;
      rp1 = sym (kept a.graphics.rp1 f1) i;
      rp2 = sym (kept a.graphics.rp2 f2) i;
      zp0 = zone_number a.graphics.zp0;
      zp1 = zone_number a.graphics.zp1;
      zp2 = zone_number a.graphics.zp2;
      loop_number = sym (kept a.graphics.loop_number f3) i;
    };
    storage = kept_area a.storage ft m.registers.storage h.storage;
    controls_are = kept_area a.controls fc controls h.controls_are;
    functions = h.functions;
  }

pub fresh_is : (old new : State) (range : Range) (s : ℕ) (cell : Cell) → length old.ranges.items ≡ s → new ≡ record old { ranges = new.ranges }
    → new.ranges.items ≡ old.ranges.items ++ range ∷ [] → ((v : Valuation) → value v cell ≡ v s)
    → IsFree s old.graphics.rp0 → IsFree s old.graphics.rp1 → IsFree s old.graphics.rp2 → IsFree s old.graphics.loop_number
    → All (IsFreeCall s) (reverse old.calls.items) → All (IsFree s) old.stack → All (λ (e : ℕ × Cell). IsFree s e.1) old.storage → All (λ (e : ℕ × Cell). IsFree s e.1) old.controls
    → IsFresh old new range cell
fresh_is old new range s cell n same ranges is f0 f1 f2 f3 fk fs ft fc = record {
  same = same;
  any = λ v z fits within. (
    with_value v s z,
    subst (λ (rs : List Range). Fits rs (with_value v s z)) (sym ranges) (ranges_fit v s z old.ranges.items range fits within n),
    is (with_value v s z) ∙ with_same v s z,
    kept_state v s z old f0 f1 f2 f3 fk fs ft fc,
  );
}
