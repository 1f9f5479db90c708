use Rattle.std.proofs.Common.{take_all, ap, ◌∙◌, arith}
use Rattle.tt_family.specs.Contexts.{frames_of}
use Rattle.tt_cert.specs.Sections.{Context, no_frame}
use Rattle.tt_cert.proofs.ContextLists.{IsFinished-from, context_added, contexts_so_far, parent_there}
use Rattle.tt_cert.proofs.contexts.builder_of.Goals as goal

no_context : Context
no_context = (0, no_frame)

pub add_context-requires : goal.add_context-requires
unfolding no_context
add_context-requires c =
    parent_there c.args.contexts.now c.loop-parent.parent-index no_context c.loop-parent.builder c.requires.contexts c.loop-parent-test.true c.loop-parent.invariant.0

pub loop-parent-preserved : goal.loop-parent-preserved
unfolding no_context
loop-parent-preserved c = (
  context_added c.args.contexts.now c.loop-parent.parent-index no_context c.loop-parent.builder c.add_context.new.self.contexts c.in-Ok.field-0
      c.requires.contexts c.loop-parent-test.true c.loop-parent.invariant.0 c.loop-parent.invariant.2 c.in-Ok.ensures.added,
  c.in-Ok.ensures.states ∙ c.loop-parent.invariant.1,
  c.in-Ok.ensures.family,
)

pub returns-clause-finished : goal.returns-clause-finished
returns-clause-finished c =
    let all = take_all c.loop-parent.parent-index c.args.contexts.now (omega arith) in
    IsFinished-from c.args.contexts.now c.loop-parent.builder (c.loop-parent.invariant.0 ∙ ap frames_of all) c.loop-parent.invariant.2 c.requires.contexts

pub unreachable-requires : goal.unreachable-requires
unreachable-requires c =
    let (_, _, full) = rw c.in-Err-Refused.field-0-is at c.in-Err-Refused.ensures.full in
    let lt = c.loop-parent-test.true in
    let few = c.requires.few in
    let count = contexts_so_far c.args.contexts.now c.loop-parent.parent-index c.loop-parent.builder lt c.loop-parent.invariant.0 in
    absurd (omega (arith, full))
