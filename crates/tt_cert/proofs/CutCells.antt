-- Cells that are cut from bytes, with their texts.
use Rattle.std.proofs.Common.{rules, ◌≡◌, ℕ, ◌+◌, ◌-◌, ◌<◌, ◌≤◌, ◌^◌, List, [], ◌∷◌, ◌++◌, length, take, drop, get_or, Fits, w8, eqb, false, Ok, Err, refl, sym, ap, subst, ◌∙◌, arith, append-nil, append_assoc}
use Rattle.std.proofs.lemmas.List.{length-append, length-drop, length-take}
use Rattle.tt_abs.specs.declared.cells.Cell.{Cell}
use Rattle.tt_abs.specs.declared.cells.Cell.TheVariants.{Unknown}
use Rattle.tt_cert.specs.Answers.{AreBytes}
use Rattle.tt_setting.specs.declared.cert_fault.CertFault.TheVariants as fault
use Rattle.tt_cert.specs.Representation.Blocks.{IsTakingCells, TakesSomeCells, cells_at, input_of}
use Rattle.tt_cert.specs.Readers.{place_after}
use Rattle.tt_cert.specs.Reading.{cell_at}
use Rattle.tt_cert.specs.Representation.KeptTexts.{KeepsCut, KeepsMore}
use Rattle.tt_cert.specs.Text.{cell_text}
use Rattle.tt_cert.proofs.Blocks.{none_left, suffix_fits}
use Rattle.tt_cert.proofs.Cells.{IsTakingOn, cell_known, cells_broken_in, cells_known, cells_unknown, number_of}
use Rattle.tt_cert.proofs.Codecs.{AreBytes-drop}
use Rattle.tt_cert.proofs.Fields.{cell_codec}
use Rattle.tt_cert.proofs.KeptTexts.{keeps_next, keeps_none}

byte_fits : (n : ℕ) → Fits w8 n → n < 256
byte_fits n h = search rules

pub are_bytes : (bytes : List ℕ) → ((i : ℕ) → Fits w8 (get_or bytes i 0)) → AreBytes bytes
are_bytes bytes fits = λ i. byte_fits (get_or bytes i 0) (fits i)

-- what is left of bytes is bytes
left_bytes : (bytes left : List ℕ) (n : ℕ) → AreBytes bytes → left ≡ drop n bytes → AreBytes left
left_bytes bytes left n are left_is = subst AreBytes (sym left_is) (AreBytes-drop n bytes are)

-- no cell is taken so far
pub taking_no_cells : (old : List Cell) (place : ℕ) (bytes : List ℕ) → place < 2 ^ 64
    → IsTakingCells old old place (place_after place (length bytes - length bytes)) bytes bytes
taking_no_cells old place bytes lt = record {
  taken = 0;
  grown = omega arith;
  few = omega arith;
  some = λ less. absurd (omega arith);
  at_is = refl;
  reads = λ n rest.
      let there : place ≡ place_after place (length bytes - length bytes) = omega (arith, lt) in
      let all : 0 + n ≡ n = omega arith in
      ap (λ (k : ℕ). cells_at old k (input_of place bytes rest)) all ∙ ap (λ (p : ℕ). cells_at old n (input_of p bytes rest)) there;
}

-- the bytes of a known cell are its text
text_known : (left rest number over : List ℕ) (x : Cell) → AreBytes left → left ≡ 1 ∷ rest → 4 ≤ length rest → number ≡ take 4 rest → over ≡ drop 4 rest → x ≡ number_of number
    → left ≡ cell_text x ++ over
text_known left rest number over x are left_is four number_is over_is x_is =
    let here : number_of (take 4 rest) ≡ x = sym (x_is ∙ ap number_of number_is) in
    let read : cell_at (input_of 0 (1 ∷ rest) []) ≡ Ok (x, input_of (place_after 0 5) (drop 4 rest) []) =
    cell_known 0 rest [] four ∙ ap (λ (y : Cell). Ok (y, input_of (place_after 0 5) (drop 4 rest) [])) here in
    let are_here : AreBytes ((1 ∷ rest) ++ []) = subst AreBytes (left_is ∙ sym (append-nil (1 ∷ rest))) are in
    let takes = (cell_codec.takes (input_of 0 (1 ∷ rest) []) x (input_of (place_after 0 5) (drop 4 rest) []) read are_here (omega arith)).0 in
    left_is ∙ sym (append-nil (1 ∷ rest)) ∙ takes.parts ∙ ap (λ (l : List ℕ). cell_text x ++ l) (append-nil (drop 4 rest) ∙ sym over_is)

-- what is cut so far: these cells, whose texts end there
abbrev pub IsCut : ℕ → ℕ → ℕ → List ℕ → List ℕ → List ℕ → List Cell → Type 0
IsCut place start count bytes left ends cells =
    IsTakingOn [] cells place (place_after place (length bytes - length left)) bytes left × (length cells ≤ count)
    × KeepsCut start (take (length bytes - length left) bytes) ends cells

-- none
pub cut_none : (place start count : ℕ) (bytes ends : List ℕ) (cells : List Cell) → place < 2 ^ 64 → ends ≡ [] → cells ≡ [] → IsCut place start count bytes bytes ends cells
cut_none place start count bytes ends cells lt ends_is cells_is =
    let none : take (length bytes - length bytes) bytes ≡ [] = none_left (take (length bytes - length bytes) bytes) (omega (arith, length-take (length bytes - length bytes) bytes)) in
    let all : length bytes - length bytes ≡ 0 = omega arith in
    subst (λ (c : List Cell). IsCut place start count bytes bytes ends c) (sym cells_is) (subst (λ (e : List ℕ). IsCut place start count bytes bytes e []) (sym ends_is) (
      (taking_no_cells [] place bytes lt, ap (λ (k : ℕ). drop k bytes) (sym all)),
      omega arith,
      λ before. subst (λ (e : List ℕ). KeepsMore start (take (length bytes - length bytes) bytes) before e [] []) (sym (append-nil before))
          (keeps_none start (take (length bytes - length bytes) bytes) before [] none),
    ))

module _ (place start count end : ℕ) (bytes left rest ends next_ends : List ℕ) (cells next : List Cell) (x : Cell) (cut : IsCut place start count bytes left ends cells)
    (ends_is : next_ends ≡ ends ++ end ∷ []) (next_is : next ≡ cells ++ x ∷ []) (lt : length cells < count) where
  -- one more cell, whose text is at the front
  cut_more : left ≡ cell_text x ++ rest → end ≡ start + (length bytes - length rest)
      → IsTakingOn [] next place (place_after place (length bytes - length rest)) bytes rest → IsCut place start count bytes rest next_ends next
  cut_more left_is end_is taking = (
    taking,
    omega (arith, lt, ap length next_is, length-append cells (x ∷ [])),
    λ before. keeps_next start end bytes left rest before (before ++ ends) (before ++ next_ends) [] cells next x (cut.2 before) cut.0.1 left_is
        (ap (λ (l : List ℕ). before ++ l) ends_is ∙ sym (append_assoc before ends (end ∷ []))) end_is next_is,
  )

-- an unknown one
pub cut_unknown : (place start count end : ℕ) (bytes left rest ends next_ends : List ℕ) (cells next : List Cell) → IsCut place start count bytes left ends cells
    → next_ends ≡ ends ++ end ∷ [] → next ≡ cells ++ Unknown ∷ [] → length cells < count → left ≡ 0 ∷ rest → end ≡ start + (length bytes - length rest)
    → IsCut place start count bytes rest next_ends next
cut_unknown place start count end bytes left rest ends next_ends cells next cut ends_is next_is lt left_is end_is =
    let fits = suffix_fits bytes left cut.0.1 in
    let at_is : place_after place (length bytes - length rest) ≡ place_after (place_after place (length bytes - length left)) 1 = omega (arith, fits, ap length left_is) in
    cut_more place start count end bytes left rest ends next_ends cells next Unknown cut ends_is next_is lt left_is end_is
    (cells_unknown [] cells next place (place_after place (length bytes - length left)) _ bytes left rest cut.0 left_is next_is at_is)

-- a known one
pub cut_known : (place start count end : ℕ) (bytes left rest number over ends next_ends : List ℕ) (cells next : List Cell) (x : Cell) → AreBytes bytes
    → IsCut place start count bytes left ends cells → next_ends ≡ ends ++ end ∷ [] → next ≡ cells ++ x ∷ [] → length cells < count → left ≡ 1 ∷ rest → 4 ≤ length rest
    → number ≡ take 4 rest → over ≡ drop 4 rest → x ≡ number_of number → end ≡ start + (length bytes - length over) → IsCut place start count bytes over next_ends next
cut_known place start count end bytes left rest number over ends next_ends cells next x are cut ends_is next_is lt left_is four number_is over_is x_is end_is =
    let fits = suffix_fits bytes left cut.0.1 in
    let long : length left ≡ 5 + length over = omega (arith, ap length left_is, ap length over_is, length-drop 4 rest, four) in
    let at_is : place_after place (length bytes - length over) ≡ place_after (place_after place (length bytes - length left)) 5 = omega (arith, fits, long) in
    let text_is = text_known left rest number over x (left_bytes bytes left _ are cut.0.1) left_is four number_is over_is x_is in
    cut_more place start count end bytes left over ends next_ends cells next x cut ends_is next_is lt text_is end_is
    (cells_known [] cells next place (place_after place (length bytes - length left)) _ bytes left rest number over x cut.0 left_is four number_is over_is x_is next_is at_is)

-- the next byte is no tag
pub cut_broken : (place start count broken tag : ℕ) (bytes left rest ends : List ℕ) (cells : List Cell) → IsCut place start count bytes left ends cells → left ≡ tag ∷ rest
    → eqb tag 0 ≡ false → eqb tag 1 ≡ false → length cells < count → broken ≡ place_after place (length bytes - length left)
    → TakesSomeCells (Err (fault.Form broken)) [] [] place bytes count
cut_broken place start count broken tag bytes left rest ends cells cut left_is zero one lt broken_is = λ tail.
    cells_broken_in [] cells place (place_after place (length bytes - length left)) tag count bytes left rest cut.0.0 left_is zero one lt tail
    ∙ ap (λ (p : ℕ). Err p) (sym broken_is)
