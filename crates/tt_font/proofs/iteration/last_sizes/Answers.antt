use Rattle.std.proofs.Common.{◌≡◌, ◌+◌, ◌-◌, ◌*◌, ◌≤◌, ◌∙◌, sym, ap, subst, arith, rules, length, List, ℕ}
use Rattle.std.proofs.Math.Nat.{mul-le-mul_right}
use Rattle.tt_font.specs.declared.outline_size.OutlineSize.{OutlineSize}
use Rattle.tt_font.specs.Glyphs.{component_total}
use Rattle.tt_font.specs.Representation.OutlineSizes.{size_at, SizesAfter, NextSizes}
use Rattle.tt_font.specs.PlacedGlyphs.{glyphs_of, outlines_in}
use Rattle.tt_font.proofs.CountLemmas.{outline_past}
use Rattle.tt_font.proofs.SizeLemmas.{points_capped, contours_capped, next_iteration, stays_so}
use Rattle.tt_font.specs.Representation.CompositeLists.{AgreeOnSimple}
use Rattle.tt_font.proofs.CompositeLemmas.{nothing_changes, sizes_written, agrees_with_itself, agrees_with_next}
use Rattle.tt_font.proofs.iteration.last_sizes.Goals as goal

pub returns-then-is_empty-clause-sizes : goal.returns-then-is_empty-clause-sizes
returns-then-is_empty-clause-sizes c =
    let none : length c.first_sizes.new.composites.items ≡ 0 = search rules in
    stays_so _ _ 0 16 _ (outline_past c.args.glyphs.now.count (glyphs_of c.args.glyphs.now))
    (nothing_changes _ _ _ _ c.in_ok-sizes.ensures.composites none c.in_ok-sizes.ensures.sizes.len) c.in_ok-sizes.ensures.sizes

pub loop-init : goal.loop-init
loop-init c = record {
  sizes = c.in_ok-sizes.ensures.sizes;
  simple = agrees_with_itself _ _ _ _ c.in_ok-sizes.ensures.sizes.len (c.in_ok-next.ensures.items ∙ c.deref.ensures.value);
  counted = omega arith;
}

pub iterate-requires-clause-simple : goal.iterate-requires-clause-simple
iterate-requires-clause-simple c =
    let A : List OutlineSize → List OutlineSize → Type 0 = AgreeOnSimple (glyphs_of c.args.glyphs.now) c.args.glyphs.now.count in
    subst (A c.deref-in-loop-2.result.now) (sym c.deref_mut.ensures.value) (subst (λ sizes. A sizes c.loop.next.items) (sym c.deref-in-loop-2.ensures.value) c.loop.invariant.simple)

pub iterate-requires-clause-points : goal.iterate-requires-clause-points
iterate-requires-clause-points c =
    let P : List OutlineSize → Type 0 = λ sizes. (id : ℕ) → (size_at sizes id).points ≤ 65536 in
    subst P (sym c.deref-in-loop-2.ensures.value) (points_capped _ _ _ _ (outline_past c.args.glyphs.now.count (glyphs_of c.args.glyphs.now)) c.loop.invariant.sizes)

pub iterate-requires-clause-contours : goal.iterate-requires-clause-contours
iterate-requires-clause-contours c =
    let P : List OutlineSize → Type 0 = λ sizes. (id : ℕ) → (size_at sizes id).contours ≤ 65536 in
    subst P (sym c.deref-in-loop-2.ensures.value) (contours_capped _ _ _ _ (outline_past c.args.glyphs.now.count (glyphs_of c.args.glyphs.now)) c.loop.invariant.sizes)

pub iterate-requires-clause-room : goal.iterate-requires-clause-room
iterate-requires-clause-room c =
    let counted = c.loop.invariant.counted in
    let room = c.requires.room in
    let end = c.loop.auto.counter-end in
    let test = c.loop-test.true in
    let least : (c.loop.counter + 1) * component_total (glyphs_of c.args.glyphs.now) c.args.glyphs.now.count ≤ 16 * component_total (glyphs_of c.args.glyphs.now) c.args.glyphs.now.count
    = mul-le-mul_right (component_total (glyphs_of c.args.glyphs.now) c.args.glyphs.now.count) (omega arith) in
    omega arith

pub returns-then-is_same-clause-sizes : goal.returns-then-is_same-clause-sizes
returns-then-is_same-clause-sizes c =
    let test = c.loop-test.true in
    let end = c.loop.auto.counter-end in
    let same = c.is_same.ensures.0 c.if-is_same.true in
    let equal : c.iterate.new.next ≡ c.loop.sizes.items = sym (c.deref-in-loop-3.ensures.value ∙ sizes_written _ _ _ _ _ c.loop.invariant.simple.len c.deref_mut.ensures.value c.deref_mut.ensures.len c.iterate.ensures.sizes.len) ∙ same ∙ c.deref-in-loop-4.ensures.value in
    let N : List OutlineSize → Type 0 = λ sizes. NextSizes (outlines_in c.args.glyphs.now) sizes c.args.glyphs.now.count c.iterate.new.next in
    let M : List OutlineSize → Type 0 = λ next. NextSizes (outlines_in c.args.glyphs.now) c.loop.sizes.items c.args.glyphs.now.count next in
    let last : c.loop.counter + (16 - c.loop.counter) ≡ 16 = omega arith in
    let T : ℕ → Type 0 = λ k. SizesAfter c.args.glyphs.now k c.loop.sizes.items in
    subst T last (stays_so _ _ c.loop.counter (16 - c.loop.counter) _ (outline_past c.args.glyphs.now.count (glyphs_of c.args.glyphs.now))
    (subst M equal (subst N c.deref-in-loop-2.ensures.value c.iterate.ensures.sizes)) c.loop.invariant.sizes)

pub returns-then-is_same-clause-at_most : goal.returns-then-is_same-clause-at_most
returns-then-is_same-clause-at_most c =
    let counted = c.loop.invariant.counted in
    let more = c.iterate.ensures.counted in
    let end = c.loop.auto.counter-end in
    let test = c.loop-test.true in
    let least : (c.loop.counter + 1) * component_total (glyphs_of c.args.glyphs.now) c.args.glyphs.now.count ≤ 16 * component_total (glyphs_of c.args.glyphs.now) c.args.glyphs.now.count
    = mul-le-mul_right (component_total (glyphs_of c.args.glyphs.now) c.args.glyphs.now.count) (omega arith) in
    omega arith

pub loop-preserved : goal.loop-preserved
loop-preserved c =
    let glyphs = glyphs_of c.args.glyphs.now in
    let N : List OutlineSize → Type 0 = λ sizes. NextSizes (outlines_in c.args.glyphs.now) sizes c.args.glyphs.now.count c.iterate.new.next in
    let on = subst N c.deref-in-loop-2.ensures.value c.iterate.ensures.sizes in
    let next : c.swap.new.x.items ≡ c.iterate.new.next = ap (λ v. v.items) c.swap.ensures.x_after ∙ sizes_written _ _ _ _ _ c.loop.invariant.simple.len c.deref_mut.ensures.value c.deref_mut.ensures.len c.iterate.ensures.sizes.len in
    let sizes : c.swap.new.y.items ≡ c.loop.sizes.items = ap (λ v. v.items) c.swap.ensures.y_after in
    let T : List OutlineSize → Type 0 = SizesAfter c.args.glyphs.now (c.loop.counter + 1) in
    let A : List OutlineSize → List OutlineSize → Type 0 = AgreeOnSimple glyphs c.args.glyphs.now.count in
    record {
      sizes = subst T (sym next) (next_iteration _ _ _ _ (outline_past c.args.glyphs.now.count glyphs) c.loop.invariant.sizes _ on);
      simple = subst (A c.swap.new.x.items) (sym sizes) (subst (λ x. A x c.loop.sizes.items) (sym next) (agrees_with_next glyphs _ _ _ c.loop.invariant.sizes.len on));
      counted =
          let counted = c.loop.invariant.counted in
          let more = c.iterate.ensures.counted in
          omega arith;
    }

pub returns-clause-sizes : goal.returns-clause-sizes
returns-clause-sizes c =
    let test = c.loop-test.false in
    let end = c.loop.auto.counter-end in
    let e : c.loop.counter ≡ 16 = omega arith in
    let T : ℕ → Type 0 = λ k. SizesAfter c.args.glyphs.now k c.loop.sizes.items in
    subst T e c.loop.invariant.sizes

pub returns-clause-at_most : goal.returns-clause-at_most
returns-clause-at_most c =
    let test = c.loop-test.false in
    let end = c.loop.auto.counter-end in
    let e : c.loop.counter ≡ 16 = omega arith in
    let counted = c.loop.invariant.counted in
    let same = ap (λ n. n * component_total (glyphs_of c.args.glyphs.now) c.args.glyphs.now.count) e in
    omega arith
