-- The glyphs that may be drawn with hints, as sets from which refused ones are taken out, and as
-- arrays.
use Rattle.std.proofs.Common.{◌≡◌, ◌↔◌, ℕ, suc, ◌<◌, ◌≤◌, List, [], ◌∷◌, Bool, true, false, None, length, replicate, refl, sym, ◌∙◌, ap, subst, arith, inl, inr, get_or, ◌++◌, take, drop}
use Rattle.std.specs.Prelude.{◌⊎◌, slice_index, if◌then◌else◌}
use Rattle.std.proofs.lemmas.Bool.{cases_lt}
use Rattle.std.proofs.lemmas.List.{get_or_past}
use Rattle.std.proofs.Math.Seq.{take-append_seam}
use Rattle.tt_setting.specs.declared.name.Name.{Name}
use Rattle.tt_setting.specs.declared.name.Name.TheVariants as name
use Rattle.hintcheck_c.specs.Representation.Retained.{HasAllReached, is_in}
use Rattle.hintcheck_c.proofs.Chains.{reached_inside, reaches_itself}
use Rattle.tt_font.specs.FileFaults.{font_fault}
use Rattle.tt_font.specs.Files.{font_glyph_count, font_outlines}
use Rattle.hintcheck_report.specs.declared.refused.Refused.{Refused}
use Rattle.hintcheck_c.specs.MayHint.{IsAnothers, MayHint, TellsMayHint}
use Rattle.hintcheck_c.specs.Representation.HintedSets.{AreHinted, Tell}

-- ---- sets

-- the first n of the refused programs are other glyphs' programs
abbrev pub AreOthersBelow : List Refused → ℕ → ℕ → Type 0
AreOthersBelow refused id n = (i : ℕ) (d : Refused) → i < n → IsAnothers (get_or refused i d).program id

-- the set of the first `count` glyphs, without those of which one of the first n refused programs is
pub record IsLeft (count : ℕ) (refused : List Refused) (n : ℕ) (set : List Bool) : Type 0 where
  pub len : length set ≡ count
  pub inside : (id : ℕ) → is_in set id ≡ true → id < count
  pub others : (id : ℕ) → is_in set id ≡ true → AreOthersBelow refused id n
  pub stays : (id : ℕ) → id < count → AreOthersBelow refused id n → is_in set id ≡ true

-- a refused font program or CVT program leaves no glyph
not_anothers : (p : Name) (id : ℕ) → (p ≡ name.Font) ⊎ (p ≡ name.Cvt) → IsAnothers p id → ⊥
not_anothers p id (inl e) is = let A : Name → Type 0 = λ x. IsAnothers x id in subst A e is
not_anothers p id (inr e) is = let A : Name → Type 0 = λ x. IsAnothers x id in subst A e is

pub none_hinted : (bytes : List ℕ) (refused : List Refused) (n : ℕ) (d : Refused) (set : List Bool) → n < length refused
    → ((get_or refused n d).program ≡ name.Font) ⊎ ((get_or refused n d).program ≡ name.Cvt) → set ≡ [] → AreHinted bytes refused set
none_hinted bytes refused n d set lt which e id = (
  λ is. (let no : is_in set id ≡ false = ap (λ s. is_in s id) e in absurd (cc)),
  λ may. absurd (not_anothers (get_or refused n d).program id which (may.accepted id (reaches_itself (font_outlines bytes) id) n d lt)),
)

-- what is left, closed over components
closed_is_hinted : (bytes : List ℕ) (refused : List Refused) (left set : List Bool) → font_fault bytes ≡ None → IsLeft (font_glyph_count bytes) refused (length refused) left
    → ((id : ℕ) → (is_in set id ≡ true) ↔ HasAllReached (font_outlines bytes) left id) → AreHinted bytes refused set
closed_is_hinted bytes refused left set none is closed id = (
  λ e. (let all : HasAllReached (font_outlines bytes) left id = (closed id).0 e in record {
    inside = is.inside id (all id (reaches_itself (font_outlines bytes) id));
    accepted = λ other reached k d lt. is.others other (all other reached) k d lt;
  }),
  λ may. (closed id).1 (λ other reached. is.stays other (reached_inside bytes none id other may.inside reached) (λ i d lt. may.accepted other reached i d lt)),
)

-- the same of a `Vec`, of which all was lent
pub lent_is_hinted : (bytes : List ℕ) (refused : List Refused) (count n k : ℕ) (items lent set : List Bool) → font_fault bytes ≡ None → count ≡ font_glyph_count bytes
    → n ≡ length refused → IsLeft count refused n items → lent ≡ items → length lent ≡ k → length set ≡ length lent
    → ((id : ℕ) → (is_in set id ≡ true) ↔ HasAllReached (font_outlines bytes) lent id) → AreHinted bytes refused (take k (set ++ drop (length set) items))
lent_is_hinted bytes refused count n k items lent set none count_is n_is left same len set_len closed =
    let L : ℕ → ℕ → List Bool → Type 0 = λ c m xs. IsLeft c refused m xs in
    let is : IsLeft (font_glyph_count bytes) refused (length refused) lent =
    subst (λ c. L c (length refused) lent) count_is (subst (λ m. L count m lent) n_is (subst (L count n) (sym same) left)) in
    let k_is : k ≡ length set = omega arith in
    let whole : take k (set ++ drop (length set) items) ≡ set = ap (λ m. take m (set ++ drop (length set) items)) k_is ∙ take-append_seam set (drop (length set) items) in
    let H : List Bool → Type 0 = AreHinted bytes refused in
    subst H (sym whole) (closed_is_hinted bytes refused lent set none is closed)

-- ---- arrays

abbrev bit : Bool → ℕ
bit b = if b then 1 else 0

entry_is_bit : (b : Bool) → bit b ≤ 1
entry_is_bit true = omega arith
entry_is_bit false = omega arith

entry_is_one : (b : Bool) → bit b ≡ 1 → b ≡ true
entry_is_one true e = refl
entry_is_one false e = absurd (omega arith)

-- an array that tells the set of the glyphs that may be drawn with hints
pub tells_may_hint : (bytes : List ℕ) (refused : List Refused) (set : List Bool) (entries : List ℕ) → AreHinted bytes refused set → Tell set entries → TellsMayHint bytes refused entries
tells_may_hint bytes refused set entries hinted told = record {
  numbers = λ id. elim (cases_lt id (length entries)) [
    | inl lt ↦ (let e = told id lt in let bit = entry_is_bit (is_in set id) in omega arith)
    | inr le ↦ (let e : slice_index entries id ≡ 0 = get_or_past entries id 0 le in omega arith)
  ];
  ones = λ id lt. (
    λ one. (hinted id).0 (entry_is_one (is_in set id) (sym (told id lt) ∙ one)),
    λ may. told id lt ∙ ap bit ((hinted id).1 may),
  );
}

-- a 1 is in the array, and so the glyph may be drawn with hints
pub one_may : (bytes : List ℕ) (refused : List Refused) (entries : List ℕ) (id : ℕ) → TellsMayHint bytes refused entries → slice_index entries id ≡ 1 → MayHint bytes refused id
one_may bytes refused entries id tells one = elim (cases_lt id (length entries)) [
  | inl lt ↦ (tells.ones id lt).0 one
  | inr le ↦ (let e : slice_index entries id ≡ 0 = get_or_past entries id 0 le in absurd (omega arith))
]

-- an array that tells the empty set
all_zero : (entries : List ℕ) → ((id : ℕ) → id < length entries → slice_index entries id ≡ 0) → entries ≡ replicate (length entries) 0
all_zero [] zeros = refl
all_zero (x ∷ xs) zeros = ap (λ y. y ∷ xs) (zeros 0 (omega arith)) ∙ ap (λ ys. 0 ∷ ys) (all_zero xs (λ id lt. zeros (suc id) (omega arith)))

pub none_is_zeros : (old new : List ℕ) → length new ≡ length old → Tell [] new → new ≡ replicate (length old) 0
none_is_zeros old new len told = all_zero new told ∙ ap (λ n. replicate n 0) len
