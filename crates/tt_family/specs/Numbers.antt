-- The number of a context: its index in the list of contexts.
use Rattle.std.specs.Prelude.{◌≡◌, ◌==◌, ◌&&◌, ℕ, ◌+◌, ◌≤◌, ◌<◌, true, false, cond, List, [], ◌∷◌, ◌++◌, length, slice_index_or, zero, suc}
use Rattle.std.specs.Bool.{Decides}
use Rattle.std.proofs.Common.{refl, sym, ◌∙◌, ap, arith, inl, inr}
use Rattle.std.proofs.lemmas.Bool.{cases_Bool}
use Rattle.std.proofs.lemmas.Bool.Decides.{Decides-eqb, Decides-and}
use Rattle.tt_code.specs.declared.machine.Frame.{Frame}
use Rattle.tt_family.specs.Contents.{same_frame, same_frames, number_of}

-- `same_frame` decides whether two frames are the same
pub same_frame-decides : (a b : Frame) → Decides (same_frame a b) (a ≡ b)
same_frame-decides a b =
    let fields = Decides-and ((a.body == b.body) && (a.call == b.call) && (a.turn == b.turn)) (a.count == b.count)
    (Decides-and ((a.body == b.body) && (a.call == b.call)) (a.turn == b.turn)
    (Decides-and (a.body == b.body) (a.call == b.call) (Decides-eqb a.body b.body) (Decides-eqb a.call b.call))
    (Decides-eqb a.turn b.turn))
    (Decides-eqb a.count b.count) in (
      (λ t. let h = fields.0 t in λ i. record { body = h.0.0.0 i; call = h.0.0.1 i; turn = h.0.1 i; count = h.1 i }),
      (λ e. fields.1 (((ap (λ (x : Frame). x.body) e, ap (λ (x : Frame). x.call) e), ap (λ (x : Frame). x.turn) e), ap (λ (x : Frame). x.count) e)),
    )

-- `same_frames` decides whether two lists of frames are the same
pub same_frames-decides : (as' bs : List Frame) → Decides (same_frames as' bs) (as' ≡ bs)
same_frames-decides [] [] = ((λ _. refl), (λ _. refl))
same_frames-decides [] (b ∷ bs) = ((λ t. cc), (λ e. cc))
same_frames-decides (a ∷ as') [] = ((λ t. cc), (λ e. cc))
same_frames-decides (a ∷ as') (b ∷ bs) =
    let both = Decides-and (same_frame a b) (same_frames as' bs) (same_frame-decides a b) (same_frames-decides as' bs) in (
      (λ t. let h = both.0 t in let first : a ≡ b = h.0 in let rest : as' ≡ bs = h.1 in cc),
      (λ e. let first : a ≡ b = cc in let rest : as' ≡ bs = cc in both.1 (first, rest)),
    )

-- a number is at most how many lists there are
pub number_of-le : (xs : List (List Frame)) (frames : List Frame) → number_of xs frames ≤ length xs
number_of-le [] frames = omega arith
number_of-le (x ∷ xs) frames = elim (same_frames x frames) as (λ b. cond b 0 (1 + number_of xs frames) ≤ length (x ∷ xs)) [
  | true ↦ omega arith
  | false ↦ let ih = number_of-le xs frames in omega arith
]

-- if some context has these frames, the one of their number does
pub at-number_of : (xs : List (List Frame)) (frames : List Frame) → number_of xs frames < length xs
    → slice_index_or xs (number_of xs frames) [] ≡ frames
at-number_of [] frames lt = absurd (omega arith)
at-number_of (x ∷ xs) frames lt = elim (cases_Bool (same_frames x frames)) [
  | inl e ↦
      let zero_is : number_of (x ∷ xs) frames ≡ 0 = ap (λ c. cond c 0 (1 + number_of xs frames)) e in
      ap (λ n. slice_index_or (x ∷ xs) n []) zero_is ∙ (same_frames-decides x frames).0 e
  | inr e ↦
      let more : number_of (x ∷ xs) frames ≡ 1 + number_of xs frames = ap (λ c. cond c 0 (1 + number_of xs frames)) e in
      let succ : number_of (x ∷ xs) frames ≡ suc (number_of xs frames) = omega arith in
      ap (λ n. slice_index_or (x ∷ xs) n []) succ ∙ at-number_of xs frames (omega arith)
]

-- a list that is at an index has a number, at most that index
pub number_of-place : (xs : List (List Frame)) (frames : List Frame) (i : ℕ) → i < length xs
    → slice_index_or xs i [] ≡ frames → number_of xs frames ≤ i
number_of-place [] frames i lt at = absurd (omega arith)
number_of-place (x ∷ xs) frames zero lt at =
    let e : same_frames x frames ≡ true = (same_frames-decides x frames).1 at in
    let zero_is : number_of (x ∷ xs) frames ≡ 0 = ap (λ c. cond c 0 (1 + number_of xs frames)) e in
    omega arith
number_of-place (x ∷ xs) frames (suc i) lt at = elim (same_frames x frames) as (λ b. cond b 0 (1 + number_of xs frames) ≤ suc i) [
  | true ↦ omega arith
  | false ↦ let ih = number_of-place xs frames i (omega arith) at in omega arith
]

-- where no two are the same, the number is the index
pub number_of-is : (xs : List (List Frame)) (frames : List Frame) (i : ℕ)
    → ((a b : ℕ) → a < length xs → b < length xs → slice_index_or xs a [] ≡ slice_index_or xs b [] → a ≡ b)
    → i < length xs → slice_index_or xs i [] ≡ frames → number_of xs frames ≡ i
number_of-is xs frames i distinct lt at =
    let most = number_of-place xs frames i lt at in
    let within : number_of xs frames < length xs = omega arith in
    distinct (number_of xs frames) i within lt (at-number_of xs frames within ∙ sym at)

-- one more context: the others keep their numbers
pub number_of-append : (xs : List (List Frame)) (y frames : List Frame)
    → number_of xs frames < length xs → number_of (xs ++ y ∷ []) frames ≡ number_of xs frames
number_of-append [] y frames lt = absurd (omega arith)
number_of-append (x ∷ xs) y frames lt = elim (cases_Bool (same_frames x frames)) [
  | inl e ↦ ap (λ c. cond c 0 (1 + number_of (xs ++ y ∷ []) frames)) e ∙ sym (ap (λ c. cond c 0 (1 + number_of xs frames)) e)
  | inr e ↦
      let more : number_of (x ∷ xs) frames ≡ 1 + number_of xs frames = ap (λ c. cond c 0 (1 + number_of xs frames)) e in
      let more' : number_of ((x ∷ xs) ++ y ∷ []) frames ≡ 1 + number_of (xs ++ y ∷ []) frames = ap (λ c. cond c 0 (1 + number_of (xs ++ y ∷ []) frames)) e in
      let ih = number_of-append xs y frames (omega arith) in
      omega arith
]

-- and a list that had none is after the old ones
pub number_of-append_past : (xs : List (List Frame)) (y frames : List Frame)
    → number_of xs frames ≡ length xs → length xs ≤ number_of (xs ++ y ∷ []) frames
number_of-append_past [] y frames e = omega arith
number_of-append_past (x ∷ xs) y frames e = elim (cases_Bool (same_frames x frames)) [
  | inl t ↦ absurd (let zero_is : number_of (x ∷ xs) frames ≡ 0 = ap (λ c. cond c 0 (1 + number_of xs frames)) t in omega arith)
  | inr t ↦
      let more : number_of (x ∷ xs) frames ≡ 1 + number_of xs frames = ap (λ c. cond c 0 (1 + number_of xs frames)) t in
      let more' : number_of ((x ∷ xs) ++ y ∷ []) frames ≡ 1 + number_of (xs ++ y ∷ []) frames = ap (λ c. cond c 0 (1 + number_of (xs ++ y ∷ []) frames)) t in
      let ih = number_of-append_past xs y frames (omega arith) in
      omega arith
]
