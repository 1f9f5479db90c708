use Rattle.std.proofs.Common.{◌≡◌, sym, ap, arith, rules, true, false}
use Rattle.tt_font.specs.Glyphs.{is_composite}
use Rattle.tt_font.specs.Outlines.{own_points, own_contours}
use Rattle.tt_font.specs.Representation.OutlineSizes.{has_parts}
use Rattle.tt_font.proofs.OutlineLemmas.{outline_is_simple, outline_is_composite, composite_has_parts}
use Rattle.tt_font.proofs.outline_size.OutlineSize.own.Goals as goal

pub returns-then-is_composite-clause-unresolved : goal.returns-then-is_composite-clause-unresolved
returns-then-is_composite-clause-unresolved c =
    sym (composite_has_parts c.args.glyph.now (let is : is_composite c.args.glyph.now ≡ true = search rules in is) c.requires)

pub returns-then-is_composite-clause-points : goal.returns-then-is_composite-clause-points
returns-then-is_composite-clause-points c =
    let none = ap own_points (outline_is_composite c.args.glyph.now (let is : is_composite c.args.glyph.now ≡ true = search rules in is)) in omega arith

pub returns-then-is_composite-clause-contours : goal.returns-then-is_composite-clause-contours
returns-then-is_composite-clause-contours c =
    let none = ap own_contours (outline_is_composite c.args.glyph.now (let is : is_composite c.args.glyph.now ≡ true = search rules in is)) in omega arith

pub returns-clause-unresolved : goal.returns-clause-unresolved
returns-clause-unresolved c = sym (ap has_parts (outline_is_simple c.args.glyph.now (let is : is_composite c.args.glyph.now ≡ false = search rules in is)))

pub returns-clause-points : goal.returns-clause-points
returns-clause-points c =
    let same = ap own_points (outline_is_simple c.args.glyph.now (let is : is_composite c.args.glyph.now ≡ false = search rules in is)) in
    let points = c.simple_points.ensures.points in
    let most = c.simple_points.ensures.most in
    omega arith

pub returns-clause-contours : goal.returns-clause-contours
returns-clause-contours c =
    let same = ap own_contours (outline_is_simple c.args.glyph.now (let is : is_composite c.args.glyph.now ≡ false = search rules in is)) in
    let contours = c.simple_contours.ensures.contours in
    let most = c.simple_contours.ensures.most in
    omega arith
