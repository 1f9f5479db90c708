-- The first refused programs are listed up to the place; from there on is what was there before.
use Rattle.std.proofs.Common.{◌≡◌, drop, map, take}
use Rattle.hintcheck_c.specs.Refusals.{numbers_of}
use Rattle.hintcheck_c.proofs.refusal.list_refused.Given as goal

abbrev pub invariant-loop-place : goal.invariant-loop-place
invariant-loop-place l = record {
  done : take l.place l.room ≡ map numbers_of (take l.place l.refused);
  rest : drop l.place l.room ≡ drop l.place l.initial.room;
}
