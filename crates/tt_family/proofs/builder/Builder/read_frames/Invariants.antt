use Rattle.std.proofs.Common.{◌≡◌, ◌≤◌, ◌++◌, length}
use Rattle.tt_family.specs.Contexts.{frames_of}
use Rattle.tt_family.specs.Contents.{frames_at}
use Rattle.tt_family.proofs.builder.Builder.read_frames.Given as goal

abbrev pub invariant-loop-at : goal.invariant-loop-at
invariant-loop-at l = record {
  within : l.at ≤ length l.self-inside.entries.items;
  frames : frames_at (frames_of l.self-inside.entries.items) l.number ≡ l.frames.items ++ frames_at (frames_of l.self-inside.entries.items) l.at;
}

abbrev pub decreases-loop-at : goal.decreases-loop-at
decreases-loop-at l = l.at
