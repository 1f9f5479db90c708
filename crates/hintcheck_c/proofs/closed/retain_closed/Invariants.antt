use Rattle.tt_font.specs.Files.{font_outlines}
use Rattle.hintcheck_c.proofs.Retaining.{IsRetained}
use Rattle.hintcheck_c.proofs.closed.retain_closed.Given as goal

abbrev pub invariant-loop : goal.invariant-loop
invariant-loop l = IsRetained (font_outlines l.bytes) l.initial.set l.counter l.set
