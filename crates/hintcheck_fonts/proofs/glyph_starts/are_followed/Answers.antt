use Rattle.std.proofs.Common.{rules, subst}
use Rattle.std.specs.List.{All}
use Rattle.std.proofs.lemmas.List.{take_all}
use Rattle.std.proofs.lemmas.List.Elements.{All-more}
use Rattle.hintcheck_fonts.specs.SymbolicEnds.{IsFollowed}
use Rattle.hintcheck_fonts.proofs.Following.{all_found}
use Rattle.hintcheck_fonts.proofs.glyph_starts.are_followed.Goals as goal

pub loop-end-preserved : goal.loop-end-preserved
loop-end-preserved c =
    All-more (IsFollowed c.args.functions.now c.args.starts.now) c.args.ends.now c.loop-end.end-index c.end-item.result c.loop-end-test.true c.loop-end.invariant
    (subst (IsFollowed c.args.functions.now c.args.starts.now) c.end-item.is (c.in_ok-followed.ensures (search rules)))

pub returns : goal.returns
returns c = λ e i a at. all_found (IsFollowed c.args.functions.now c.args.starts.now) c.args.ends.now (subst (All (IsFollowed c.args.functions.now c.args.starts.now)) (take_all c.loop-end.end-index c.args.ends.now c.loop-end-test.false) c.loop-end.invariant) i a at
