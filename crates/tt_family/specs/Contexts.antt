-- Contexts by number, as the lists of frames that they stand for.
use Rattle.std.specs.Prelude.{◌≡◌, ℕ, ◌+◌, ◌<◌, List, [], ◌∷◌, ◌++◌, length, slice_index_or, slice_get, Some, zero, suc}
use Rattle.std.proofs.Common.{refl, sym, ◌∙◌, ap, arith, length-append}
use Rattle.std.proofs.Math.ListN.{get_or-append}
use Rattle.std.proofs.Math.Seq.{get_or-append_seam}

-- each entry adds its parent's list with one more frame
abbrev pub grow : {F : Type 0} → List (List F) → List (ℕ × F) → List (List F)
grow lists [] = lists
grow lists (x ∷ rest) = grow (lists ++ (x.1 ∷ slice_index_or lists x.0 []) ∷ []) rest

-- the list of each context, the empty one first
abbrev pub frames_of : {F : Type 0} → List (ℕ × F) → List (List F)
frames_of entries = grow ([] ∷ []) entries

-- one more entry adds its list after the others
pub grow-push : {F : Type 0} (lists : List (List F)) (entries : List (ℕ × F)) (x : ℕ × F)
    → grow lists (entries ++ x ∷ []) ≡ grow lists entries ++ (x.1 ∷ slice_index_or (grow lists entries) x.0 []) ∷ []
grow-push lists [] x = refl
grow-push lists (e ∷ entries) x =
    grow-push (lists ++ (e.1 ∷ slice_index_or lists e.0 []) ∷ []) entries x

-- each entry adds one list
pub length-grow : {F : Type 0} (lists : List (List F)) (entries : List (ℕ × F))
    → length (grow lists entries) ≡ length lists + length entries
length-grow lists [] = omega arith
length-grow lists (e ∷ entries) =
    let ih = length-grow (lists ++ (e.1 ∷ slice_index_or lists e.0 []) ∷ []) entries in
    let one = length-append lists ((e.1 ∷ slice_index_or lists e.0 []) ∷ []) in
    omega arith

-- the first lists stay the same
pub grow-keeps : {F : Type 0} (lists : List (List F)) (entries : List (ℕ × F)) (j : ℕ)
    → j < length lists
    → slice_index_or (grow lists entries) j [] ≡ slice_index_or lists j []
grow-keeps lists [] j lt = refl
grow-keeps lists (e ∷ entries) j lt =
    let y = (e.1 ∷ slice_index_or lists e.0 []) ∷ [] in
    let one = length-append lists ((e.1 ∷ slice_index_or lists e.0 []) ∷ []) in
    grow-keeps (lists ++ (e.1 ∷ slice_index_or lists e.0 []) ∷ []) entries j (omega arith)
    ∙ get_or-append lists ((e.1 ∷ slice_index_or lists e.0 []) ∷ []) [] j lt

-- an entry's list is its parent's with its frame
pub grow-at : {F : Type 0} (lists : List (List F)) (entries : List (ℕ × F)) (i : ℕ) (e : ℕ × F)
    → slice_get entries i ≡ Some e → e.0 < length lists + i
    → slice_index_or (grow lists entries) (length lists + i) [] ≡ e.1 ∷ slice_index_or (grow lists entries) e.0 []
grow-at lists [] i e at lt = cc
grow-at {F} lists (x ∷ entries) zero e at lt =
    let y : List F = x.1 ∷ slice_index_or lists x.0 [] in
    let one = length-append lists (y ∷ []) in
    let there : slice_index_or (grow (lists ++ y ∷ []) entries) (length lists) [] ≡ slice_index_or (lists ++ y ∷ []) (length lists) [] =
    grow-keeps (lists ++ y ∷ []) entries (length lists) (omega arith) in
    let seam : slice_index_or (lists ++ y ∷ []) (length lists) [] ≡ y = get_or-append_seam lists y [] [] in
    let parent : slice_index_or (grow lists (x ∷ entries)) e.0 [] ≡ slice_index_or lists e.0 [] = grow-keeps lists (x ∷ entries) e.0 (omega arith) in
    let same : x ≡ e = cc in
    let len : length lists + 0 ≡ length lists = omega arith in
    ap (λ n. slice_index_or (grow lists (x ∷ entries)) n []) len ∙ there ∙ seam ∙ ap (λ (z : ℕ × F). z.1 ∷ slice_index_or lists z.0 []) same
    ∙ ap (λ l. e.1 ∷ l) (sym parent)
grow-at {F} lists (x ∷ entries) (suc i) e at lt =
    let y : List F = x.1 ∷ slice_index_or lists x.0 [] in
    let one = length-append lists (y ∷ []) in
    let len : length lists + suc i ≡ length (lists ++ y ∷ []) + i = omega arith in
    ap (λ n. slice_index_or (grow lists (x ∷ entries)) n []) len ∙ grow-at (lists ++ y ∷ []) entries i e at (omega arith)
