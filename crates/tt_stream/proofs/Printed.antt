-- A text that is printed window by window.
use Rattle.std.proofs.Common.{◌≡◌, ℕ, ◌+◌, ◌<◌, List, ◌++◌, Option, None, Some, length, take, drop, sym, ap, ◌∙◌, subst, arith, take_all, inl, inr}
use Rattle.std.specs.Prelude.{IfSome, min}
use Rattle.std.specs.Io.KnownBytes.{Appends}
use Rattle.std.proofs.KnownBytes.{Appends-trans}
use Rattle.std.proofs.Math.Seq.{take-add}
use Rattle.std.proofs.lemmas.Bool.{cases_lt}
use Rattle.std.proofs.lemmas.List.{take-append-drop, take-take, length-take-le}
use Rattle.tt_stream.proofs.Windows.{length-take_cut}
use Rattle.tt_stream.specs.Streams.{AppendsText, AppendsBeginning, AppendsBeginningOfText, AppendsOnly}

-- the window shows the text after its first skip bytes
abbrev pub Shows : Option (List ℕ) → ℕ → ℕ → List ℕ → Type 0
Shows text room skip kept = IfSome text (λ t. kept ≡ take room (drop skip t))

-- the text up to skip was written
abbrev pub WrittenTo : Option (List ℕ) → Option (List ℕ) → Option (List ℕ) → ℕ → Type 0
WrittenTo text old new skip = IfSome text (λ t. Appends old new (take skip t))

short_take : (n : ℕ) (xs : List ℕ) → length (take n xs) < n → take n xs ≡ xs
short_take n xs h = elim (cases_lt (length xs) n) [
  | inl short ↦ take_all n xs (omega arith)
  | inr long ↦ let whole : length (take n xs) ≡ n = length-take-le n xs long in absurd (omega arith)
]

take-of_take : (n m : ℕ) (xs : List ℕ) → take n (take m xs) ≡ take (min n m) xs
take-of_take n m xs = elim (cases_lt n m) [
  | inl short ↦ let least : min n m ≡ n = omega arith in take-take n m xs (omega arith) ∙ ap (λ k. take k xs) (sym least)
  | inr long ↦ let least : min n m ≡ m = omega arith in take_all n (take m xs) (omega (arith, length-take_cut m xs)) ∙ ap (λ k. take k xs) (sym least)
]

-- the last window isn't full
pub printed_all : (text old mid new : Option (List ℕ)) (room skip : ℕ) (kept : List ℕ) → WrittenTo text old mid skip → Shows text room skip kept → Appends mid new kept → length kept < room → AppendsText text old new
printed_all None old mid new room skip kept before shows appended short = tt
printed_all (Some t) old mid new room skip kept before shows appended short =
    let rest : kept ≡ drop skip t = shows ∙ short_take room (drop skip t) (omega (arith, ap length shows)) in
    subst (Appends old new) (ap (λ l. take skip t ++ l) rest ∙ take-append-drop skip t) (Appends-trans old mid new (take skip t) kept before appended)

-- a full window
pub printed_more : (text old mid new : Option (List ℕ)) (room skip : ℕ) (kept : List ℕ) → WrittenTo text old mid skip → Shows text room skip kept → Appends mid new kept → WrittenTo text old new (skip + room)
printed_more None old mid new room skip kept before shows appended = tt
printed_more (Some t) old mid new room skip kept before shows appended =
    subst (Appends old new) (ap (λ l. take skip t ++ l) shows ∙ sym (take-add skip room t)) (Appends-trans old mid new (take skip t) kept before appended)

-- a window of which a beginning was written
pub printed_part : (text old mid new : Option (List ℕ)) (room skip : ℕ) (kept : List ℕ) → WrittenTo text old mid skip → Shows text room skip kept → AppendsBeginning mid new kept → AppendsBeginningOfText text old new
printed_part None old mid new room skip kept before shows part = tt
printed_part (Some t) old mid new room skip kept before shows part = record {
  count = skip + min part.count room;
  appended = subst (Appends old new) (ap (λ l. take skip t ++ take part.count l) shows ∙ ap (λ l. take skip t ++ l) (take-of_take part.count room (drop skip t)) ∙ sym (take-add skip (min part.count room) t))
      (Appends-trans old mid new (take skip t) (take part.count kept) before part.appended);
}

-- more bytes are appended after others
pub kept_then : (a b c : Option (List ℕ)) (bytes : List ℕ) → AppendsOnly a b → Appends b c bytes → AppendsOnly a c
kept_then a b c bytes before appended = record { bytes = before.bytes ++ bytes; appended = Appends-trans a b c before.bytes bytes before.appended appended }
