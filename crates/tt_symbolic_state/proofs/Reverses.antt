-- A stack's cells, the bottom first.
use Rattle.std.proofs.Common.{◌≡◌, ℕ, ◌-◌, ◌<◌, List, length, take, drop, reverse, get_or, subst, sym, ◌∙◌, ap, arith, inl, inr}
use Rattle.std.proofs.lemmas.Bool.{cases_lt}
use Rattle.std.proofs.lemmas.List.{length-reverse, drop_all, get_or-reverse, reverse-reverse}
use Rattle.std.specs.List.{All}
use Rattle.tt_setting.proofs.Reversed.{reverse-take}

pub cut_is : {A : Type 0} (cells stack : List A) (count k : ℕ) → reverse cells ≡ stack → k ≡ length cells - count → reverse (take k cells) ≡ drop count stack
cut_is cells stack count k same e = elim (cases_lt (length cells) count) [ inl all ↦ past all | inr some ↦ reverse-take cells k count (omega arith) ∙ ap (drop count) same ]
  where
    past : length cells < count → reverse (take k cells) ≡ drop count stack
    past all = let none : k ≡ 0 = omega arith in let n = length-reverse cells in rw (none, ← same) (sym (drop_all count (reverse cells) (omega arith)))

pub all_reversed : {A : Type 0} (P : A → Type 0) (xs : List A) → All P (reverse xs) → All P xs
all_reversed {A} P xs h k d lt =
    let n : length (reverse xs) ≡ length xs = length-reverse xs in
    let e : get_or (reverse (reverse xs)) k d ≡ get_or (reverse xs) (length (reverse xs) - 1 - k) d = get_or-reverse (reverse xs) k d (omega arith) in
    let f : get_or xs k d ≡ get_or (reverse xs) (length (reverse xs) - 1 - k) d = ap (λ (ys : List A). get_or ys k d) (sym (reverse-reverse xs)) ∙ e in
    subst P (sym f) (h (length (reverse xs) - 1 - k) d (omega arith))

pub reversed_all : {A : Type 0} (P : A → Type 0) (xs : List A) → All P xs → All P (reverse xs)
reversed_all {A} P xs h = all_reversed P (reverse xs) (subst (All P) (sym (reverse-reverse xs)) h)
