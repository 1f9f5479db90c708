use Rattle.std.proofs.Common.{◌≡◌, ◌∙◌, sym, ap, None}
use Rattle.std.specs.Option.{option_map}
use Rattle.tt_font.specs.declared.fault.FontFault.TheVariants as faults
use Rattle.tt_font.specs.Numbers.{first_below}
use Rattle.tt_font.specs.Conditions.{refused_glyph}
use Rattle.tt_font.specs.Representation.OutlineSizes.{size_at, size_refuses}
use Rattle.tt_font.specs.PlacedGlyphs.{outlines_in}
use Rattle.tt_font.proofs.SizeLemmas.{first_refused_is, sums_are_exact}
use Rattle.tt_font.proofs.iteration.outline_sizes.Goals as goal

pub returns-in-Some-clause-fault : goal.returns-in-Some-clause-fault
returns-in-Some-clause-fault c = λ _.
    let same = first_refused_is _ _ _ c.in_ok-sizes.ensures.sizes in
    ap (option_map (λ id. faults.Composite id)) (sym (c.in-Some.ensures ∙ ap (λ sizes. first_below (λ id. size_refuses (size_at sizes id)) c.args.glyphs.now.count) c.deref.ensures.value ∙ same))

none_refused : (c : goal.In-None) → refused_glyph c.args.glyphs.now.count (outlines_in c.args.glyphs.now) ≡ None
none_refused c =
    let same = first_refused_is _ _ _ c.in_ok-sizes.ensures.sizes in
    sym (c.in-None.ensures ∙ ap (λ sizes. first_below (λ id. size_refuses (size_at sizes id)) c.args.glyphs.now.count) c.deref.ensures.value ∙ same)

pub returns-in-None-clause-fault : goal.returns-in-None-clause-fault
returns-in-None-clause-fault c = ap (option_map (λ id. faults.Composite id)) (none_refused c)

pub returns-in-None-clause-sizes : goal.returns-in-None-clause-sizes
returns-in-None-clause-sizes c = sums_are_exact _ _ _ c.in_ok-sizes.ensures.sizes (none_refused c)
