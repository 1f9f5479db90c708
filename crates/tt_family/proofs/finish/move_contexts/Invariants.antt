use Rattle.std.proofs.Common.{◌≡◌}
use Rattle.tt_family.specs.Contents.{IsFamily}
use Rattle.tt_family.proofs.Renumbering.{first_of}
use Rattle.tt_family.proofs.finish.move_contexts.Given as goal

abbrev pub invariant-loop-place : goal.invariant-loop-place
invariant-loop-place l = record {
  moved : l.new.contexts ≡ first_of l.old.contexts l.order l.place;
  states : l.new.states ≡ l.initial.new.states;
  family : IsFamily l.new;
}
