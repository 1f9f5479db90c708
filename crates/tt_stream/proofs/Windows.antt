-- Windows on a text that is given in pieces.
use Rattle.std.proofs.Common.{◌≡◌, ℕ, zero, suc, ◌+◌, ◌-◌, ◌≤◌, List, [], ◌∷◌, ◌++◌, length, take, drop, refl, sym, ap, ◌∙◌, arith, Option, None, Some, Ok, append_assoc, take_all, length-drop, inl, inr}
use Rattle.std.specs.Prelude.{min, IfSome}
use Rattle.std.specs.List.{FoldsTo, concat}
use Rattle.std.specs.Fmt.{WritesInCalls, DisplaysOnOk, IsPlainFormatter, formatter_writer}
use Rattle.std.specs.declared.fmt.Formatter.{Formatter}
use Rattle.std.proofs.lemmas.Bool.{cases_lt}
use Rattle.std.proofs.lemmas.Slice.{take-put_mid}
use borrow.Rule.Slice.PartMut.{put_mid}
use Rattle.std.proofs.lemmas.List.{append-nil, drop_all, length-take-le}
use Rattle.std.proofs.lemmas.Grind.{common_steps}
use Rattle.std.proofs.Math.Seq.{take-append-add, drop-nil}
use Rattle.tt_stream.specs.Representation.Windows.{Part, TakesPiece}

pub take-append_fit : (n : ℕ) (a b : List ℕ) → length a ≤ n → take n (a ++ b) ≡ a ++ take (n - length a) b
take-append_fit n a b fits =
    let same : n ≡ length a + (n - length a) = omega arith in
    ap (λ m. take m (a ++ b)) same ∙ take-append-add a b (n - length a)

-- a cut before more is appended is no other cut
pub take-take_append : (n : ℕ) (a b : List ℕ) → take n (take n a ++ b) ≡ take n (a ++ b)
take-take_append zero a b = refl
take-take_append (suc n) [] b = refl
take-take_append (suc n) (x ∷ a) b = ap (λ l. x ∷ l) (take-take_append n a b)

pub drop-append : (n : ℕ) (a b : List ℕ) → drop n (a ++ b) ≡ drop n a ++ drop (n - length a) b
drop-append zero a b = let none : 0 ≡ 0 - length a = omega arith in ap (λ m. a ++ drop m b) none
drop-append (suc n) [] b = let all : suc n ≡ suc n - 0 = omega arith in ap (λ m. drop m b) all
drop-append (suc n) (x ∷ a) b = let one : n - length a ≡ suc n - suc (length a) = omega arith in drop-append n a b ∙ ap (λ m. drop n a ++ drop m b) one

pub length-take_cut : (n : ℕ) (xs : List ℕ) → length (take n xs) ≤ n
length-take_cut n xs = grind (arith, common_steps)

-- the pieces together, seen through the window
pub kept_is : (room : ℕ) (old : Part) (pieces : List (List ℕ)) (new : Part) → length old.kept ≤ room → FoldsTo (TakesPiece room) old pieces new
    → new.kept ≡ take room (old.kept ++ drop old.skip (concat pieces))
kept_is room old [] new fits folds =
    let nothing : drop old.skip [] ≡ [] = drop-nil old.skip in
    ap (λ (p : Part). p.kept) (sym folds) ∙ sym (ap (λ l. take room (old.kept ++ l)) nothing ∙ ap (take room) (append-nil old.kept) ∙ take_all room old.kept fits)
kept_is room old (piece ∷ pieces) new fits folds =
    let next = folds.0 in
    let took = folds.1 in
    let short : length next.kept ≤ room = omega (arith, ap length took.kept, length-take_cut room (old.kept ++ drop old.skip piece)) in
    kept_is room next pieces new short folds.2
    ∙ ap (λ l. take room (l ++ drop next.skip (concat pieces))) took.kept
    ∙ take-take_append room (old.kept ++ drop old.skip piece) (drop next.skip (concat pieces))
    ∙ ap (take room) (append_assoc old.kept (drop old.skip piece) (drop next.skip (concat pieces)) ∙ ap (λ l. old.kept ++ l) (ap (λ n. drop old.skip piece ++ drop n (concat pieces)) took.skipped ∙ sym (drop-append old.skip piece (concat pieces))))

take-min : (n : ℕ) (xs : List ℕ) → take (min (length xs) n) xs ≡ take n xs
take-min n xs = elim (cases_lt n (length xs)) [
  | inl short ↦ let least : min (length xs) n ≡ n = omega arith in ap (λ m. take m xs) least
  | inr long ↦ let least : min (length xs) n ≡ length xs = omega arith in ap (λ m. take m xs) least ∙ take_all (length xs) xs (omega arith) ∙ sym (take_all n xs long)
]

-- a piece after the bytes that are skipped, or none of it
pub drop-min : (skip : ℕ) (piece : List ℕ) → take (length piece - min skip (length piece)) (drop (min skip (length piece)) piece) ≡ drop skip piece
drop-min skip piece =
    let same : drop (min skip (length piece)) piece ≡ drop skip piece = elim (cases_lt skip (length piece)) [
      | inl short ↦ let least : min skip (length piece) ≡ skip = omega arith in ap (λ m. drop m piece) least
      | inr long ↦ let least : min skip (length piece) ≡ length piece = omega arith in ap (λ m. drop m piece) least ∙ drop_all (length piece) piece (omega arith) ∙ sym (drop_all skip piece long)
    ] in
    take_all (length piece - min skip (length piece)) (drop (min skip (length piece)) piece) (simp length-drop (omega arith)) ∙ same

-- what a window holds after it took of a piece what there is room for
pub window_took : (room len skip skipped count : ℕ) (bytes piece rest new : List ℕ) → len ≤ room → length bytes ≡ room
    → rest ≡ drop skip piece → count ≡ min (length rest) (room - len) → new ≡ take count rest
    → take (len + count) (put_mid len (len + count - len) bytes new) ≡ take room (take len bytes ++ drop skip piece)
window_took room len skip skipped count bytes piece rest new fits whole rest_is count_is new_is =
    let fit : len ≤ length bytes = omega arith in
    let held : length (take len bytes) ≡ len = length-take-le len bytes fit in
    let taken : length new ≡ count = ap length new_is ∙ length-take-le count rest (omega arith) in
    let cut : new ≡ take (room - len) rest = new_is ∙ ap (λ n. take n rest) count_is ∙ take-min (room - len) rest in
    take-put_mid len (len + count - len) bytes new (len + count) (omega arith) fit
    ∙ ap (λ l. take len bytes ++ l) (cut ∙ ap (λ n. take (room - n) rest) (sym held))
    ∙ sym (take-append_fit room (take len bytes) rest (omega arith))
    ∙ ap (λ l. take room (take len bytes ++ l)) rest_is

-- the text, given in some calls, seen through a window that was empty
pub rendered : (room skip : ℕ) (old new : Part) (text : List ℕ) → old.skip ≡ skip → old.kept ≡ [] → WritesInCalls (TakesPiece room) old text new → new.kept ≡ take room (drop skip text)
rendered room skip old new text skip_is empty calls =
    let short : length old.kept ≤ room = omega (arith, ap length empty) in
    kept_is room old calls.parts new short calls.calls ∙ ap (λ l. take room (l ++ drop old.skip (concat calls.parts))) empty
    ∙ ap (λ l. take room (drop old.skip l)) calls.whole ∙ ap (λ n. take room (drop n text)) skip_is

-- the same of what a formatter wrote
pub shown : (room skip : ℕ) (old new : Formatter Part) (done : Unit {0}) (text : Option (List ℕ)) (part : Part) → (formatter_writer old).skip ≡ skip → (formatter_writer old).kept ≡ []
    → IsPlainFormatter old → part ≡ formatter_writer new → DisplaysOnOk (TakesPiece room) old (Ok done) text new → IfSome text (λ t. part.kept ≡ take room (drop skip t))
shown room skip old new done None part skip_is empty plain part_is displays = tt
shown room skip old new done (Some t) part skip_is empty plain part_is displays =
    ap (λ (p : Part). p.kept) part_is ∙ rendered room skip (formatter_writer old) (formatter_writer new) t skip_is empty (displays plain refl).wrote
