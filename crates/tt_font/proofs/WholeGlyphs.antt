-- What is there in a glyph whose bytes don't end too early.
use Rattle.std.specs.Prelude.{◌≡◌, ◌==◌, ℕ, ◌+◌, ◌*◌, ◌<◌, ◌≤◌, ◌&&◌, List, [], length, Bool, true, false, nat_le, is_some, Some, None, if◌then◌else◌}
use Rattle.std.proofs.Common.{refl, sym, ◌∙◌, ap, arith}
use Rattle.std.proofs.lemmas.Bool.{le-leb, leb-true, ne_eqb}
use Rattle.tt_font.specs.Numbers.{u16_at}
use Rattle.tt_font.specs.Components.{components, last_of}
use Rattle.tt_font.specs.Glyphs.{contour_count, is_composite, program_at, simple_program, composite_program, program_of}

there : (end : ℕ) (glyph program : List ℕ) (b : Bool) → nat_le end (length glyph) ≡ b → is_some (if b then Some program else None) ≡ true → end ≤ length glyph
there end glyph program true fits e = leb-true _ _ fits
there end glyph program false fits e = cc

program_is_there : (place : ℕ) (glyph : List ℕ) → is_some (program_at place glyph) ≡ true → place + 2 ≤ length glyph
unfolding program_at
program_is_there place glyph e = let le = there (place + 2 + u16_at place glyph) glyph _ (nat_le (place + 2 + u16_at place glyph) (length glyph)) refl e in omega arith

-- the end points of a simple glyph's contours are there
pub end_points_are_there : (glyph : List ℕ) → is_composite glyph ≡ false → is_some (program_of glyph) ≡ true → 10 ≤ length glyph → 0 < contour_count glyph
    → 10 + 2 * contour_count glyph + 2 ≤ length glyph
unfolding program_of
end_points_are_there glyph simple whole long some =
    let has_header : nat_le 10 (length glyph) ≡ true = le-leb _ _ long in
    let contours : (contour_count glyph == 0) ≡ false = ne_eqb (contour_count glyph) 0 (λ e. absurd (omega arith)) in
    let is : program_of glyph ≡ program_at (10 + 2 * contour_count glyph) glyph =
    ap (λ b. if b then composite_program glyph (last_of (components glyph)) else (if nat_le 10 (length glyph) then simple_program glyph else (if length glyph == 0 then Some [] else None))) simple
    ∙ ap (λ b. if b then simple_program glyph else (if length glyph == 0 then Some [] else None)) has_header
    ∙ ap (λ b. if b && length glyph == 10 then Some [] else program_at (10 + 2 * contour_count glyph) glyph) contours in
    program_is_there (10 + 2 * contour_count glyph) glyph (sym (ap (λ o. is_some o) is) ∙ whole)
