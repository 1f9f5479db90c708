-- A list that is kept in the other direction: what is cut off, taken out and looked up there.
use Rattle.std.specs.Prelude.{min, reverse, remove}
use Rattle.std.proofs.Common.{◌≡◌, ℕ, suc, ◌-◌, ◌<◌, List, ◌++◌, sym, ◌∙◌, ap, arith, length, take, drop}
use Rattle.std.proofs.lemmas.List.{length-reverse, length-drop, reverse-append, take-append-drop, take_at, drop_at, drop_min}

parts : {A : Type 0} (xs : List A) (k : ℕ) → reverse xs ≡ reverse (drop k xs) ++ reverse (take k xs)
parts xs k = ap reverse (sym (take-append-drop k xs)) ∙ reverse-append (take k xs) (drop k xs)

above_length : {A : Type 0} (xs : List A) (k : ℕ) → length (reverse (drop k xs)) ≡ length xs - k
above_length xs k = length-reverse (drop k xs) ∙ length-drop k xs

pub reverse-take : {A : Type 0} (xs : List A) (k n : ℕ) → n ≡ length xs - k → reverse (take k xs) ≡ drop n (reverse xs)
reverse-take xs k n e =
    sym (ap (drop n) (parts xs k) ∙ drop_at (reverse (drop k xs)) (reverse (take k xs)) n (above_length xs k ∙ sym e))

pub reverse-drop : {A : Type 0} (xs : List A) (k n : ℕ) → n ≡ length xs - k → reverse (drop k xs) ≡ take n (reverse xs)
reverse-drop xs k n e =
    sym (ap (take n) (parts xs k) ∙ take_at (reverse (drop k xs)) (reverse (take k xs)) n (above_length xs k ∙ sym e))

-- all but the last so many, in the other direction
pub cut_is : {A : Type 0} (cells stack : List A) (k n : ℕ) → reverse cells ≡ stack → k ≡ length cells - n → reverse (take k cells) ≡ drop n stack
cut_is cells stack k n e h =
    reverse-take cells k (min n (length cells)) (omega arith)
    ∙ ap (λ m. drop (min n m) (reverse cells)) (sym (length-reverse cells))
    ∙ drop_min n (reverse cells)
    ∙ ap (drop n) e

pub removed_is : {A : Type 0} (cells stack : List A) (k place : ℕ) → reverse cells ≡ stack → place < length cells → k ≡ length cells - 1 - place
    → reverse (remove cells k) ≡ remove stack place
removed_is cells stack k place e h f =
    reverse-append (take k cells) (drop (suc k) cells)
    ∙ ap (λ x. x ++ reverse (take k cells)) (reverse-drop cells (suc k) place (omega arith))
    ∙ ap (λ x. take place (reverse cells) ++ x) (reverse-take cells k (suc place) (omega arith))
    ∙ ap (λ x. remove x place) e
