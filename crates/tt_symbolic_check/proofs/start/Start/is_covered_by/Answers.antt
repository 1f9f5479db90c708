use Rattle.tt_symbolic_check.proofs.Parts.{as_start}
use Rattle.tt_symbolic_check.proofs.start.Start.is_covered_by.Goals as goal

pub returns : goal.returns
returns c = λ e m h. as_start c.in_ok-theirs.theirs c.args.other.now m c.in_ok-theirs.ensures.parts h.fresh ((c.in_ok-covered.ensures e).covers m.machine m.controls (c.in_ok-mine.ensures.start.shows m h))
