use Rattle.std.proofs.Common.{◌∙◌, ◌++◌, [], ◌∷◌, List, ap}
use Rattle.tt_symbolic_check.specs.declared.start.Start.{Start}
use Rattle.hintcheck_fonts.proofs.SymbolicStarts.{unknown_follows}
use Rattle.hintcheck_fonts.proofs.glyph_starts.GlyphStarts.unknown.Goals as goal

pub returns : goal.returns
returns c =
    let start : Start = record c.unknown-start.result { functions = c.copy_from.new.self } in
    let u = c.unknown-start.ensures in
    unknown_follows c.args.ends.now start (record { starts = c.push.new.self; storage = c.new.result; controls = c.new-2.result }) u.storage u.controls c.in_ok-copy_from.ensures u.ranges
    (c.in_ok-push.ensures.items ∙ ap (λ (l : List Start). l ++ start ∷ []) c.new-starts.ensures.items)
