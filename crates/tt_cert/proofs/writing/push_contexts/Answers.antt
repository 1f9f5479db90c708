use Rattle.std.proofs.Common.{◌≡◌, ◌+◌, ◌<◌, ◌∷◌, ◌++◌, ◌∙◌, List, Option, ap, length, subst, take, arith}
use Rattle.std.specs.List.{AllByRecursion, flat_map}
use Rattle.std.proofs.lemmas.List.{take_all}
use Rattle.std.specs.Prelude.{IfSome}
use Rattle.tt_family.specs.Contents.{frames_at}
use Rattle.tt_cert.specs.Rules.{CallFits}
use Rattle.tt_cert.specs.Sections.{Context, contexts_in}
use Rattle.tt_cert.specs.Text.{context_text, word}
use Rattle.tt_cert.proofs.Listed.{context_listed, length_listed}
use Rattle.tt_cert.proofs.Pushed.{all_next, next_written}
use Rattle.tt_cert.proofs.writing.push_contexts.Goals as goal

pub loop-number-preserved : goal.loop-number-preserved
loop-number-preserved c =
    let v = c.args.certificate.now in
    let at = c.loop-number.number in
    let e : Context = c.unwrap-parent.result in
    let S : Option Context → Type 0 = λ o. IfSome o (λ e. (at + 1 < length v.contexts) × (e.0 < at + 1) × (frames_at v.contexts (at + 1) ≡ e.1 ∷ frames_at v.contexts e.0)) in
    let there = subst S c.unwrap-parent.ensures c.context.ensures.some in
    let lt = there.0 in
    let before = there.1 in
    let listed = context_listed v at e c.contexts-count.ensures.finished.0 lt there.2 (omega arith) in (
      next_written context_text c.args.out.now.items (word (length (contexts_in v.contexts))) c.loop-number.out.items _ (contexts_in v.contexts) at e listed
          c.loop-number.invariant.0 c.in_ok-push_context.ensures.written,
      all_next CallFits (contexts_in v.contexts) at e listed c.loop-number.invariant.1 c.in_ok-push_context.ensures.numbers,
    )

pub returns : goal.returns
returns c =
    let v = c.args.certificate.now in
    let cs = contexts_in v.contexts in
    let all : take c.loop-number.number cs ≡ cs =
    take_all c.loop-number.number cs (omega (arith, length_listed v, c.contexts-count.ensures.value, c.loop-number-test.false)) in
    record {
      written = c.loop-number.invariant.0 ∙ ap (λ (l : List Context). c.args.out.now.items ++ (word (length cs) ++ flat_map context_text l)) all;
      numbers = subst (λ (l : List Context). AllByRecursion CallFits l) all c.loop-number.invariant.1;
      finished = c.contexts-count.ensures.finished;
    }
