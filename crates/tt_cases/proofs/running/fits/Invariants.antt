use denote.Shadow.{shadow}
use denote.Text.{Utf8}
use Rattle.tt_cases.proofs.running.fits.Given as goal

-- What is left of the answer, and the last piece, are texts.
abbrev pub invariant-loop-piece : goal.invariant-loop-piece
invariant-loop-piece l =
    (goal.iterator-loop-piece).can_next l.piece-iterator
    × (goal.iterator-loop-piece).is_finite l.piece-iterator
    × (shadow (Utf8 l.rest) × shadow (Utf8 l.last))
