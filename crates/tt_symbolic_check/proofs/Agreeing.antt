-- Cells that agree, by what is assigned.
use Rattle.std.proofs.Common.{◌≡◌, ℤ, pos, ◌+ℤ◌, ◌-ℤ◌, ◌*ℤ◌, List, Option, Some, slice_get, sym, ◌∙◌, ap, arith, inl, inr, ◌⊎◌}
use Rattle.std.proofs.lemmas.Int.{ints}
use Rattle.std.proofs.Math.IntN.{*ℤ_comm}
use Rattle.tt_symbolic_state.specs.declared.cell.Cell.{Cell}
use Rattle.tt_symbolic_state.specs.Values.{Assigns, Valuation, value}
use Rattle.tt_symbolic_state.proofs.Affine.{times_assoc, times_sum_left}
use Rattle.tt_symbolic_state.proofs.Values.{value_is, value_constant}

pub scaled_value : (v : Valuation) (f o g p : ℤ) (c : Cell) → g ≡ f *ℤ c.factor → p ≡ (f *ℤ c.offset) +ℤ o → value v (record { symbol = c.symbol; factor = g; offset = p }) ≡ (f *ℤ value v c) +ℤ o
scaled_value v f o g p c e h =
    let d = value_is v (record { symbol = c.symbol; factor = g; offset = p }) in
    let l : f *ℤ value v c ≡ ((f *ℤ c.factor) *ℤ v c.symbol) +ℤ (f *ℤ c.offset) =
    ap (λ (z : ℤ). f *ℤ z) (value_is v c) ∙ times_sum_left f (c.factor *ℤ v c.symbol) c.offset ∙ ap (λ (z : ℤ). z +ℤ (f *ℤ c.offset)) (times_assoc f c.factor (v c.symbol)) in
    d ∙ rw (e, h, l) (omega (arith, ints))

pub same_value : (v : Valuation) (a b : Cell) → a.factor ≡ b.factor → a.offset ≡ b.offset → a.factor ≡ pos 0 ⊎ a.symbol ≡ b.symbol → value v a ≡ value v b
same_value v a b e f (inl z) = value_constant v a z ∙ f ∙ sym (value_constant v b (sym e ∙ z))
same_value v a b e f (inr s) = value_is v a ∙ rw (e, f, s) (sym (value_is v b))

-- by what is assigned, the cell has the value of the other
abbrev pub Same : List (Option Cell) → Cell → Cell → Type 0
Same assigned mine theirs = (v w : Valuation) → Assigns assigned v w → value w theirs ≡ value v mine

pub agrees_constant : (assigned : List (Option Cell)) (mine theirs : Cell) → theirs.factor ≡ pos 0 → ((v : Valuation) → value v theirs ≡ value v mine) → Same assigned mine theirs
agrees_constant assigned mine theirs z h = λ v w a. value_constant w theirs z ∙ sym (value_constant v theirs z) ∙ h v

pub agrees_given : (assigned : List (Option Cell)) (mine theirs given : Cell) → slice_get assigned theirs.symbol ≡ Some (Some given) → ((v : Valuation) → (theirs.factor *ℤ value v given) +ℤ theirs.offset ≡ value v mine) → Same assigned mine theirs
agrees_given assigned mine theirs given at h = λ v w a. value_is w theirs ∙ ap (λ (z : ℤ). (theirs.factor *ℤ z) +ℤ theirs.offset) (a.each theirs.symbol given at) ∙ h v

pub image_is : (v : Valuation) (f o given shifted mine known : ℤ) → shifted ≡ mine -ℤ known → known ≡ o → shifted ≡ given *ℤ f → (f *ℤ given) +ℤ o ≡ mine
image_is v f o given shifted mine known e k g = let c = *ℤ_comm f given in omega (arith, ints)
