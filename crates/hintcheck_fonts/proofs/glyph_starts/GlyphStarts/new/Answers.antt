use Rattle.std.proofs.Common.{rules, subst}
use Rattle.std.specs.List.{All}
use Rattle.std.proofs.lemmas.List.{take_all}
use Rattle.std.proofs.lemmas.List.Elements.{All-more, All-weaker}
use Rattle.hintcheck_fonts.specs.SymbolicEnds.{IsWithin}
use Rattle.hintcheck_fonts.proofs.Following.{made}
use Rattle.hintcheck_fonts.proofs.Following.{within_more, within_is}
use Rattle.hintcheck_fonts.proofs.glyph_starts.GlyphStarts.new.Goals as goal

pub loop-start-preserved : goal.loop-start-preserved
loop-start-preserved c =
    let functions = c.args.ends.now.functions in
    let old = IsWithin functions c.loop-start.storage.items c.loop-start.controls.items in
    let new = IsWithin functions c.put_indexes.new.indexes.items c.put_indexes-in-loop-start.new.indexes.items in
    All-more new c.as_slice-start-items.result.now c.loop-start.start-index c.start-item.result c.loop-start-test.true
    (All-weaker old new (λ s h. within_more functions _ _ _ _ s c.in_ok-put_indexes.ensures.before c.in_ok-put_indexes-2.ensures.before h) _ c.loop-start.invariant)
    (subst new c.start-item.is (within_is functions _ _ c.start-item.result c.in_ok-put_indexes.ensures.listed c.in_ok-put_indexes-2.ensures.listed (c.has_functions.ensures (search rules))))

pub returns : goal.returns
returns c =
    let within = IsWithin c.args.ends.now.functions c.loop-start.storage.items c.loop-start.controls.items in
    made c.args.ends.now _ _ _ _ c.as_slice.ensures.value c.as_slice-2.ensures.value c.as_slice-start-items.ensures.value (c.in_ok-followed.ensures (search rules))
    (subst (All within) (take_all c.loop-start.start-index c.as_slice-start-items.result.now c.loop-start-test.false) c.loop-start.invariant)
