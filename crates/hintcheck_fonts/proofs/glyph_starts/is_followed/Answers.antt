use Rattle.std.proofs.Common.{rules, ap, sym, ◌∙◌, Some}
use Rattle.std.proofs.lemmas.Option.{slice_get-get_or}
use Rattle.hintcheck_fonts.proofs.Following.{followed_by}
use Rattle.hintcheck_fonts.proofs.glyph_starts.is_followed.Goals as goal

pub returns-then-covered : goal.returns-then-covered
returns-then-covered c = λ e. followed_by c.args.functions.now c.args.starts.now c.args.end.now c.in_ok-after.after c.start-item.result c.loop-start.start-index
    (slice_get-get_or c.args.starts.now c.loop-start.start-index c.start-item.result c.loop-start-test.true ∙ ap Some (sym c.start-item.is)) (c.in_ok-covered.ensures (search rules)) c.in_ok-after.ensures
