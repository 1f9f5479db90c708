-- The components of a glyph, one after the other, and tests of the glyphs that they name.
use Rattle.std.proofs.Common.{◌≡◌, ℕ, List, [], Bool, true, false, Some, None, refl, ◌∙◌, ap}
use Rattle.std.specs.Prelude.{◌&&◌}
use Rattle.std.specs.List.{list_all}
use Rattle.tt_font.specs.declared.component.Component.{Component}
use Rattle.tt_font.specs.Components.{component_at, components, components_at, glyphs_named, has_more}
use Rattle.tt_font.specs.Glyphs.{is_composite}
use Rattle.tt_font.specs.Outlines.{outline_of, parts}
use Rattle.tt_font.proofs.ComponentLists.{more_are_there, none_is_there, one_is_there}
use Rattle.tt_font.proofs.OutlineLemmas.{outline_is_composite, outline_is_simple}

-- whether a test passes for the glyphs that the components from an offset on name
abbrev pub all_from : (ℕ → Bool) → ℕ → List ℕ → Bool
all_from test place glyph = list_all test (glyphs_named (components_at place glyph))

-- no component is there
pub none_from : (test : ℕ → Bool) (place : ℕ) (glyph : List ℕ) → component_at place glyph ≡ None → all_from test place glyph ≡ true
none_from test place glyph e = ap (λ cs. list_all test (glyphs_named cs)) (none_is_there place glyph e)

-- the last component is there
pub last_from : (test : ℕ → Bool) (place : ℕ) (glyph : List ℕ) (c : Component) → component_at place glyph ≡ Some c → has_more c.flags ≡ false → test c.glyph ≡ true
    → all_from test place glyph ≡ true
last_from test place glyph c e last passes = ap (λ cs. list_all test (glyphs_named cs)) (one_is_there place glyph c e last) ∙ ap (λ b. b && true) passes

-- a component is there that others follow
pub more_from : (test : ℕ → Bool) (place : ℕ) (glyph : List ℕ) (c : Component) → component_at place glyph ≡ Some c → has_more c.flags ≡ true → test c.glyph ≡ true
    → all_from test place glyph ≡ all_from test c.after glyph
more_from test place glyph c e more passes =
    ap (λ cs. list_all test (glyphs_named cs)) (more_are_there place glyph c e more) ∙ ap (λ b. b && all_from test c.after glyph) passes

-- a component is there whose glyph fails the test
pub fails_from : (test : ℕ → Bool) (place : ℕ) (glyph : List ℕ) (c : Component) → component_at place glyph ≡ Some c → test c.glyph ≡ false → all_from test place glyph ≡ false
fails_from test place glyph c e fails = by_more (has_more c.flags) refl
  where
    by_more : (more : Bool) → has_more c.flags ≡ more → all_from test place glyph ≡ false
    by_more true more = ap (λ cs. list_all test (glyphs_named cs)) (more_are_there place glyph c e more) ∙ ap (λ b. b && all_from test c.after glyph) fails
    by_more false last = ap (λ cs. list_all test (glyphs_named cs)) (one_is_there place glyph c e last) ∙ ap (λ b. b && true) fails

-- the parts of a glyph, by whether it is composite
pub parts_of_composite : (glyph : List ℕ) → is_composite glyph ≡ true → parts (outline_of glyph) ≡ glyphs_named (components glyph)
parts_of_composite glyph e = ap parts (outline_is_composite glyph e)

pub parts_of_simple : (glyph : List ℕ) → is_composite glyph ≡ false → parts (outline_of glyph) ≡ []
parts_of_simple glyph e = ap parts (outline_is_simple glyph e)
