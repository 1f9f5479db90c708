use Rattle.std.proofs.Common.{◌≡◌, [], take}
use Rattle.tt_family.specs.Contents.{IsFamily}
use Rattle.tt_family.specs.Contexts.{frames_of}
use Rattle.tt_cert.proofs.contexts.builder_of.Given as goal

abbrev pub invariant-loop-parent : goal.invariant-loop-parent
invariant-loop-parent l = (l.builder.contexts ≡ frames_of (take l.parent-index l.contexts)) × (l.builder.states ≡ []) × IsFamily l.builder
