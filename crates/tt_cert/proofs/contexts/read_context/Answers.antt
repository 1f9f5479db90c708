use Rattle.std.proofs.Common.{◌≡◌, ◌-◌, ◌∙◌, arith, length, refl, subst, sym, true}
use Rattle.std.specs.Io.KnownBytes.{Consumes}
use Rattle.tt_stream.proofs.Ahead.{starts_part}
use Rattle.tt_cert.specs.Reading.{context_at}
use Rattle.tt_cert.specs.Rules.{ContextFits, may_follow}
use Rattle.tt_cert.specs.Sections.{Context}
use Rattle.tt_cert.specs.Text.{context_text}
use Rattle.tt_cert.proofs.ContextLists.{pushed_same}
use Rattle.tt_cert.proofs.Fronts.{front_read}
use Rattle.tt_cert.proofs.Spelled.{context_codec}
use Rattle.tt_cert.proofs.contexts.read_context.Goals as goal

pub returns-clause-reads : goal.returns-clause-reads
returns-clause-reads g c =
    let rest = c.in-Some.rest.now in
    let before = c.args.contexts.now.items in
    let numbers = c.in-Some.ensures.fits in
    let follows : may_follow before c.in-Some.context ≡ true = rw c.deref.ensures.value at (sym c.may_follow.ensures ∙ c.if-may_follow.true) in
    let fits : ContextFits before c.in-Some.context = record { parent = numbers.0; call = numbers.1.0; body = numbers.1.1; follows = follows } in
    let shown = c.ahead-ahead.result.now in
    let skipped = subst (Consumes _ _) (starts_part _ shown (length shown - length rest) c.ahead-ahead.ensures.value (omega arith)) c.skip.ensures.bytes in
    record {
      value = c.in-Some.context;
      pushed = c.push_reserved.ensures.items;
      gives = front_read (context_at before) context_text (ContextFits before) _ _ shown rest _ c.args.place _ _ (context_codec before) c.in-Some.ensures.begins fits refl skipped
          c.ranges.place.fits c.saturating_add.ensures;
    }

pub returns-clause-follows : goal.returns-clause-follows
returns-clause-follows g c = λ x pushed.
    let before = c.args.contexts.now.items in
    subst (λ (y : Context). may_follow before y ≡ true) (pushed_same before c.in-Some.context x (sym c.push_reserved.ensures.items ∙ pushed))
    (rw c.deref.ensures.value at (sym c.may_follow.ensures ∙ c.if-may_follow.true))

pub returns-2-clause-reads : goal.returns-2-clause-reads
returns-2-clause-reads g c = record {
  value = c.in_ok-context.context;
  pushed = c.push_reserved-2.ensures.items;
  gives = rw c.deref-2.ensures.value at c.in_ok-context.ensures.reads;
}

pub returns-2-clause-follows : goal.returns-2-clause-follows
returns-2-clause-follows g c = λ x pushed.
    let before = c.args.contexts.now.items in
    subst (λ (y : Context). may_follow before y ≡ true) (pushed_same before c.in_ok-context.context x (sym c.push_reserved-2.ensures.items ∙ pushed))
    (rw c.deref-2.ensures.value at c.in_ok-context.ensures.follows)
