-- Beginnings of texts that are written one after the other.
use Rattle.std.proofs.Common.{◌≡◌, ℕ, suc, ◌+◌, List, [], ◌∷◌, ◌++◌, length, take, Option, sym, ap, subst, ◌∙◌, append-nil, zero-add, arith}
use Rattle.std.specs.Io.KnownBytes.{Appends}
use Rattle.std.proofs.KnownBytes.{Appends-nil, Appends-trans}
use Rattle.tt_stream.specs.Streams.{AppendsBeginning}

pub begins_nothing : (w : Option (List ℕ)) → AppendsBeginning w w []
begins_nothing w = record { count = 0; appended = Appends-nil w }

-- a beginning after a whole text
pub begins_on : (a b c : Option (List ℕ)) (x y : List ℕ) → Appends a b x → AppendsBeginning b c y → AppendsBeginning a c (x ++ y)
begins_on a b c x y whole part = record {
  count = length x + part.count;
  appended = subst (Appends a c) (sym (take-append_more x y part.count)) (Appends-trans a b c x (take part.count y) whole part.appended);
}
  where
    take-append_more : (xs ys : List ℕ) (n : ℕ) → take (length xs + n) (xs ++ ys) ≡ xs ++ take n ys
    take-append_more [] ys n = ap (λ (k : ℕ). take k ys) (zero-add n)
    take-append_more (z ∷ zs) ys n =
        let number : suc (length zs) + n ≡ suc (length zs + n) = omega arith in
        ap (λ (k : ℕ). take k (z ∷ (zs ++ ys))) number ∙ ap (λ (l : List ℕ). z ∷ l) (take-append_more zs ys n)

-- a whole text is a beginning of itself
pub begins_whole : (a b : Option (List ℕ)) (text : List ℕ) → Appends a b text → AppendsBeginning a b text
begins_whole a b text whole = subst (AppendsBeginning a b) (append-nil text) (begins_on a b b text [] whole (begins_nothing b))
