-- The programs of the glyphs, one by one.
use Rattle.std.specs.Prelude.{◌≡◌, ℕ, ◌+◌, ◌<◌, ◌++◌, List, [], ◌∷◌, length, is_none, Some, None}
use Rattle.std.proofs.Common.{sym, ◌∙◌, ap, subst, arith, inl, inr, length-append}
use Rattle.std.proofs.lemmas.List.{get_or_append_left}
use Rattle.std.proofs.Math.Seq.{get_or-append_seam}
use Rattle.std.proofs.lemmas.Bool.{cases_eq}
use Rattle.tt_font.proofs.FirstBelow.{none_yet, none_more, first_is}
use Rattle.tt_font.specs.Glyphs.{program_of}
use Rattle.tt_font.specs.Conditions.{truncated_glyph}
use Rattle.tt_font.specs.Representation.GlyphParts.{program_in, ProgramsAre}

pub no_programs : (glyphs : ℕ → List ℕ) (programs : List (List ℕ)) → programs ≡ [] → ProgramsAre glyphs 0 programs
no_programs glyphs programs e = record { len = ap (λ xs. length xs) e; programs_at = λ id lt. absurd (omega arith) }

pub programs_more : (glyphs : ℕ → List ℕ) (n : ℕ) (programs pushed : List (List ℕ)) (program : List ℕ) → ProgramsAre glyphs n programs
    → pushed ≡ programs ++ program ∷ [] → program_of (glyphs n) ≡ Some program → ProgramsAre glyphs (n + 1) pushed
programs_more glyphs n programs pushed program are is here =
    let P : List (List ℕ) → Type 0 = λ x. ProgramsAre glyphs (n + 1) x in
    subst P (sym is) (record {
      len = let a = are.len in let b = length-append programs (program ∷ []) in omega arith;
      programs_at = λ id lt. elim (cases_eq id n) [
        | inl same ↦ ap (λ x. program_of (glyphs x)) same ∙ here
            ∙ ap (λ x. Some x) (sym (ap (program_in (programs ++ program ∷ [])) (same ∙ sym are.len) ∙ get_or-append_seam programs program [] []))
        | inr other ↦
            let a = are.len in
            are.programs_at id (omega arith) ∙ ap (λ x. Some x) (sym (get_or_append_left programs (program ∷ []) [] id (omega arith)))
      ];
    })

pub none_truncated : (glyphs : ℕ → List ℕ) → truncated_glyph 0 glyphs ≡ None
unfolding truncated_glyph
none_truncated glyphs = none_yet _

pub none_truncated_more : (glyphs : ℕ → List ℕ) (n : ℕ) (program : List ℕ) → truncated_glyph n glyphs ≡ None → program_of (glyphs n) ≡ Some program
    → truncated_glyph (n + 1) glyphs ≡ None
unfolding truncated_glyph
none_truncated_more glyphs n program none here = none_more (λ id. is_none (program_of (glyphs id))) n none (ap (λ o. is_none o) here)

pub first_truncated : (glyphs : ℕ → List ℕ) (id count : ℕ) → truncated_glyph id glyphs ≡ None → program_of (glyphs id) ≡ None → id < count
    → truncated_glyph count glyphs ≡ Some id
unfolding truncated_glyph
first_truncated glyphs id count none here lt = first_is (λ id. is_none (program_of (glyphs id))) id count none (ap (λ o. is_none o) here) lt
