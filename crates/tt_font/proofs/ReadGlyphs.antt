-- From the programs and the sizes of all glyphs to what is read of them.
use Rattle.std.specs.Prelude.{◌≡◌, ℕ, zero, suc, ◌+◌, ◌*◌, ◌^◌, ◌-◌, ◌<◌, ◌≤◌, List, [], length, drop, Bool, true, false, Option, Some, None, if◌then◌else◌}
use Rattle.std.specs.Option.{option_map}
use Rattle.std.proofs.Common.{refl, sym, ◌∙◌, ap, subst, arith, length-take, length-drop}
use Rattle.tt_font.specs.declared.component.Component.{Component}
use Rattle.tt_font.specs.declared.fault.FontFault.{FontFault}
use Rattle.tt_font.specs.declared.outline_size.OutlineSize.{OutlineSize}
use Rattle.tt_font.specs.Locations.{entry, glyph_bytes}
use Rattle.tt_font.specs.Components.{has_more, component_at, listed, components_from, components_at, components}
use Rattle.tt_font.specs.Glyphs.{is_composite, component_count, component_total}
use Rattle.tt_font.specs.Outlines.{Outline, own_points, own_contours}
use Rattle.tt_font.specs.Representation.OutlineSizes.{size_at, AreTotals}
use Rattle.tt_font.specs.Conditions.{refused_glyph}
use Rattle.tt_font.specs.Chains.{SumsChains}
use Rattle.tt_font.specs.Reading.{GlyphData, ReadsGlyph, ReadsGlyphs}
use Rattle.tt_font.specs.Representation.GlyphParts.{ProgramsAre, PartsAre}
use Rattle.tt_font.proofs.SizeLemmas.{all_taken}
use Rattle.tt_font.proofs.ChainSums.{points_sum_chains, contours_sum_chains}

pub no_fault : {X : Type 0} (f : X → FontFault) (o : Option X) → option_map f o ≡ None → o ≡ None
no_fault f None e = refl
no_fault f (Some x) e = cc

pub points_are_few : (count : ℕ) (outlines : ℕ → Outline) (sizes : List OutlineSize) → AreTotals outlines count sizes → refused_glyph count outlines ≡ None
    → (id : ℕ) → id < count → (size_at sizes id).points ≤ 65535
points_are_few count outlines sizes sums none id lt =
    let taken = all_taken count outlines none id lt in let most = taken.points in let is = (sums id lt).0 in omega arith

pub contours_are_few : (count : ℕ) (outlines : ℕ → Outline) (sizes : List OutlineSize) → AreTotals outlines count sizes → refused_glyph count outlines ≡ None
    → (id : ℕ) → id < count → (size_at sizes id).contours ≤ 65535
contours_are_few count outlines sizes sums none id lt =
    let taken = all_taken count outlines none id lt in let most = taken.contours in let is = (sums id lt).1 in omega arith

pub glyphs_are_read : (count : ℕ) (glyphs : ℕ → List ℕ) (outlines : ℕ → Outline) (programs : List (List ℕ)) (sizes : List OutlineSize) (found : List GlyphData)
    → ProgramsAre glyphs count programs → AreTotals outlines count sizes → refused_glyph count outlines ≡ None → PartsAre programs sizes count found
    → ReadsGlyphs count glyphs outlines found
glyphs_are_read count glyphs outlines programs sizes found are sums none parts = record {
  len = parts.len;
  each = λ id lt.
      let taken = all_taken count outlines none id lt in
      let is = parts.parts_at id lt in
      let points = (sums id lt).0 in
      let contours = (sums id lt).1 in
      let P : GlyphData → Type 0 = λ x. ReadsGlyph (glyphs id) outlines id x in
      let S : ℕ → Type 0 = λ n. SumsChains own_points outlines id n in
      let T : ℕ → Type 0 = λ n. SumsChains own_contours outlines id n in
      subst P (sym is) (record {
        program = are.programs_at id lt;
        points = subst S (sym points) (points_sum_chains outlines 16 id taken.ends);
        contours = subst T (sym contours) (contours_sum_chains outlines 16 id taken.ends);
        points_most = let most = taken.points in omega arith;
        contours_most = let most = taken.contours in omega arith;
      });
}

-- ---- there are fewer components than bytes

by_more : (b : Bool) (xs : List Component) (n : ℕ) → length xs ≤ n → length (if b then xs else []) ≤ n
by_more true xs n le = le
by_more false xs n le = omega arith

few_listed : (f : ℕ → List Component) (n : ℕ) (o : Option Component) → ((place : ℕ) → length (f place) ≤ n) → length (listed f o) ≤ suc n
few_listed f n None few = omega arith
few_listed f n (Some c) few = let rest = by_more (has_more c.flags) (f c.after) n (few c.after) in omega arith

few_components : (n place : ℕ) (glyph : List ℕ) → length (components_from n place glyph) ≤ n
unfolding components_from
few_components zero place glyph = omega arith
few_components (suc n) place glyph = few_listed (λ after. components_from n after glyph) n (component_at place glyph) (λ after. few_components n after glyph)

by_kind : (b : Bool) (n most : ℕ) → n ≤ most → (if b then n else 0) ≤ most
by_kind true n most le = le
by_kind false n most le = omega arith

few_in_glyph : (glyph : List ℕ) → component_count glyph ≤ length glyph
unfolding component_count components_at
few_in_glyph glyph = by_kind (is_composite glyph) (length (components glyph)) (length glyph) (few_components (length glyph) 10 glyph)

glyph_is_in : (format : ℕ) (loca glyf : List ℕ) (id : ℕ) → length (glyph_bytes format loca glyf id) ≤ length glyf
unfolding glyph_bytes
glyph_is_in format loca glyf id =
    let a = length-take (entry format loca (id + 1) - entry format loca id) (drop (entry format loca id) glyf) in
    let b = length-drop (entry format loca id) glyf in
    omega arith

few_in_all : (format : ℕ) (loca glyf : List ℕ) (n : ℕ) → length glyf < 2 ^ 32 → component_total (λ id. glyph_bytes format loca glyf id) n ≤ n * 2 ^ 32
unfolding component_total
few_in_all format loca glyf zero small = omega arith
few_in_all format loca glyf (suc n) small =
    let rest = few_in_all format loca glyf n small in
    let here = few_in_glyph (glyph_bytes format loca glyf n) in
    let most = glyph_is_in format loca glyf n in
    omega arith

pub room_for_all : (format : ℕ) (loca glyf : List ℕ) (count : ℕ) → length glyf < 2 ^ 32 → count < 2 ^ 16
    → 0 + 17 * component_total (λ id. glyph_bytes format loca glyf id) count + 1 < 2 ^ 64
room_for_all format loca glyf count small few = let all = few_in_all format loca glyf count small in omega arith

-- ---- the tables of the file

pub same_glyphs : (format format' : ℕ) (loca loca' glyf glyf' : List ℕ) → format ≡ format' → loca ≡ loca' → glyf ≡ glyf'
    → ◌≡◌ {A = ℕ → List ℕ} (λ id. glyph_bytes format loca glyf id) (λ id. glyph_bytes format' loca' glyf' id)
same_glyphs format format' loca loca' glyf glyf' f l g =
    let F : ℕ → (ℕ → List ℕ) = λ x id. glyph_bytes x loca glyf id in
    let L : List ℕ → (ℕ → List ℕ) = λ x id. glyph_bytes format' x glyf id in
    let G : List ℕ → (ℕ → List ℕ) = λ x id. glyph_bytes format' loca' x id in
    ap F f ∙ ap L l ∙ ap G g
