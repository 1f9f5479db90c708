use Rattle.std.proofs.Common.{◌≡◌, ◌-◌, sym, ap, ◌∙◌, arith}
use Rattle.std.specs.Prelude.{slice_index_or}
use Rattle.std.proofs.lemmas.Bool.{eq-eqb, ne_eqb}
use Rattle.tt_cert.specs.Sections.{Context, no_frame}
use Rattle.tt_cert.proofs.Bodies.{context_at_index, new_at_number, new_in, new_in_main, new_in_parent, not_new}
use Rattle.tt_cert.proofs.contexts.is_new_body.Goals as goal

no_context : Context
no_context = (0, no_frame)

pub returns-then-frame-body : goal.returns-then-frame-body
unfolding no_context
returns-then-frame-body c =
    let contexts = c.args.contexts.now in
    let at = context_at_index contexts no_context c.loop-at.at c.loop-at-test.true c.loop-at.invariant.0 in
    sym (c.loop-at.invariant.1 ∙ new_at_number contexts c.loop-at.at c.args.body c.loop-at-test.true
    ∙ not_new contexts c.requires.parents (c.loop-at.at - 1) c.args.body (slice_index_or contexts (c.loop-at.at - 1) no_context) at (eq-eqb _ _ c.if-frame-body.true))

pub loop-at-smaller : goal.loop-at-smaller
unfolding no_context
loop-at-smaller c =
    let contexts = c.args.contexts.now in
    let at = context_at_index contexts no_context c.loop-at.at c.loop-at-test.true c.loop-at.invariant.0 in
    let parent = c.requires.parents (c.loop-at.at - 1) (slice_index_or contexts (c.loop-at.at - 1) no_context) at in
    omega arith

pub loop-at-preserved : goal.loop-at-preserved
unfolding no_context
loop-at-preserved c =
    let contexts = c.args.contexts.now in
    let at = context_at_index contexts no_context c.loop-at.at c.loop-at-test.true c.loop-at.invariant.0 in
    let parent = c.requires.parents (c.loop-at.at - 1) (slice_index_or contexts (c.loop-at.at - 1) no_context) at in (
      omega arith,
      c.loop-at.invariant.1 ∙ new_at_number contexts c.loop-at.at c.args.body c.loop-at-test.true
          ∙ new_in_parent contexts c.requires.parents (c.loop-at.at - 1) c.args.body (slice_index_or contexts (c.loop-at.at - 1) no_context) at (ne_eqb _ _ c.if-frame-body.false),
    )

pub returns : goal.returns
returns c =
    let end : c.loop-at.at ≡ 0 = omega arith in
    sym (c.loop-at.invariant.1 ∙ ap (λ n. new_in c.args.contexts.now n c.args.body) end ∙ new_in_main c.args.contexts.now c.args.body)
