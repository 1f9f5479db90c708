-- The outline that the bytes of a glyph tell, by cases.
use Rattle.std.specs.Prelude.{◌≡◌, ◌==◌, ℕ, List, [], ◌∷◌, length, true, false, nat_le, is_some, Some, None, if◌then◌else◌}
use Rattle.std.proofs.Common.{sym, ◌∙◌, ap, arith}
use Rattle.std.proofs.lemmas.Bool.{lt-ltb}
use Rattle.tt_font.specs.declared.component.Component.{Component}
use Rattle.tt_font.specs.Components.{components, glyphs_named, last_of}
use Rattle.tt_font.specs.Glyphs.{is_composite, composite_program, simple_program, program_of, simple_points, simple_contours}
use Rattle.tt_font.specs.Outlines.{simple, composite, outline_of}
use Rattle.tt_font.specs.Representation.OutlineSizes.{has_parts}

pub outline_is_simple : (glyph : List ℕ) → is_composite glyph ≡ false → outline_of glyph ≡ simple (simple_points glyph) (simple_contours glyph)
unfolding outline_of
outline_is_simple glyph e =
    ap (λ b. if b then composite (glyphs_named (components glyph)) else simple (simple_points glyph) (simple_contours glyph)) e

pub outline_is_composite : (glyph : List ℕ) → is_composite glyph ≡ true → outline_of glyph ≡ composite (glyphs_named (components glyph))
unfolding outline_of
outline_is_composite glyph e =
    ap (λ b. if b then composite (glyphs_named (components glyph)) else simple (simple_points glyph) (simple_contours glyph)) e

some_component : (glyph : List ℕ) (cs : List Component) → is_some (composite_program glyph (last_of cs)) ≡ true → has_parts (composite (glyphs_named cs)) ≡ true
some_component glyph [] e = cc
some_component glyph (c ∷ cs) e = lt-ltb 0 (length (glyphs_named (c ∷ cs))) (omega arith)

-- a composite glyph whose bytes are there has components
pub composite_has_parts : (glyph : List ℕ) → is_composite glyph ≡ true → is_some (program_of glyph) ≡ true → has_parts (outline_of glyph) ≡ true
unfolding program_of
composite_has_parts glyph e whole =
    let is : program_of glyph ≡ composite_program glyph (last_of (components glyph)) =
    ap (λ b. if b then composite_program glyph (last_of (components glyph)) else (if nat_le 10 (length glyph) then simple_program glyph else (if length glyph == 0 then Some [] else None))) e in
    ap has_parts (outline_is_composite glyph e) ∙ some_component glyph (components glyph) (sym (ap (λ o. is_some o) is) ∙ whole)
