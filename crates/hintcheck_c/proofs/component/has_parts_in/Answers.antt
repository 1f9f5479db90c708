use Rattle.std.proofs.Common.{◌≡◌, ◌∙◌, sym, ap, true, false, not, rules}
use Rattle.std.specs.List.{list_all}
use Rattle.tt_font.specs.Glyphs.{is_composite}
use Rattle.hintcheck_c.specs.Representation.Retained.{is_in}
use Rattle.hintcheck_c.proofs.ComponentTests.{parts_of_composite, parts_of_simple}
use Rattle.hintcheck_c.proofs.component.has_parts_in.Goals as goal

pub returns-then-not-is_composite : goal.returns-then-not-is_composite
returns-then-not-is_composite c =
    let simple : is_composite c.args.glyph.now ≡ false = search rules in
    ap not c.if-not-is_composite.true ∙ sym (ap (list_all (is_in c.args.set.now)) (parts_of_simple c.args.glyph.now simple))

pub returns-else-not-is_composite : goal.returns-else-not-is_composite
returns-else-not-is_composite c =
    let composite : is_composite c.args.glyph.now ≡ true = search rules in
    c.lists_only.ensures ∙ sym (ap (list_all (is_in c.args.set.now)) (parts_of_composite c.args.glyph.now composite))
