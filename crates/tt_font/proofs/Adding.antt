-- The sum over the components of a glyph, one by one.
use Rattle.std.specs.Prelude.{◌≡◌, ℕ, ◌+◌, ◌≤◌, ◌||◌, List, [], ◌∷◌, Bool, true, false, min}
use Rattle.std.specs.List.{sum_by, list_any}
use Rattle.std.proofs.Common.{refl, sym, ◌∙◌, ap, arith}
use Rattle.std.proofs.lemmas.List.Sums.{sum_by-cons}
use Rattle.tt_font.specs.declared.outline_size.OutlineSize.{OutlineSize}
use Rattle.tt_font.specs.Representation.OutlineSizes.{size_at, AddsUp}

-- the sum over all numbers is what a sum so far and the sum over the rest make together
pub record AddsOn (sizes : List OutlineSize) (all rest : List ℕ) (sum : OutlineSize) : Type 0 where
  pub unresolved : (sum.unresolved || list_any (λ id. (size_at sizes id).unresolved) rest) ≡ list_any (λ id. (size_at sizes id).unresolved) all
  pub points : min (sum.points + sum_by (λ id. (size_at sizes id).points) rest) 65536 ≡ min (sum_by (λ id. (size_at sizes id).points) all) 65536
  pub contours : min (sum.contours + sum_by (λ id. (size_at sizes id).contours) rest) 65536 ≡ min (sum_by (λ id. (size_at sizes id).contours) all) 65536
  pub points_most : sum.points ≤ 65536
  pub contours_most : sum.contours ≤ 65536

or_assoc : (a b c : Bool) → ((a || b) || c) ≡ (a || (b || c))
or_assoc true b c = refl
or_assoc false b c = refl

or_false : (a : Bool) → (a || false) ≡ a
or_false true = refl
or_false false = refl

pub adds_one : (sizes : List OutlineSize) (all rest : List ℕ) (id : ℕ) (sum next : OutlineSize) → AddsOn sizes all (id ∷ rest) sum
    → next.unresolved ≡ (sum.unresolved || (size_at sizes id).unresolved)
    → next.points ≡ min (sum.points + (size_at sizes id).points) 65536
    → next.contours ≡ min (sum.contours + (size_at sizes id).contours) 65536
    → AddsOn sizes all rest next
adds_one sizes all rest id sum next on unresolved points contours = record {
  unresolved = ap (λ b. b || list_any (λ id. (size_at sizes id).unresolved) rest) unresolved ∙ or_assoc sum.unresolved (size_at sizes id).unresolved (list_any (λ id. (size_at sizes id).unresolved) rest) ∙ on.unresolved;
  points = let whole = on.points in let one = sum_by-cons (λ id. (size_at sizes id).points) id rest in omega arith;
  contours = let whole = on.contours in let one = sum_by-cons (λ id. (size_at sizes id).contours) id rest in omega arith;
  points_most = omega arith;
  contours_most = omega arith;
}

pub adds_all : (sizes : List OutlineSize) (all : List ℕ) (sum : OutlineSize) → AddsOn sizes all [] sum → AddsUp sizes all sum
adds_all sizes all sum on = record {
  unresolved = sym (or_false sum.unresolved) ∙ on.unresolved;
  points = let whole = on.points in let most = on.points_most in omega arith;
  contours = let whole = on.contours in let most = on.contours_most in omega arith;
}
