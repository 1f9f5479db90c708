use Rattle.std.proofs.Common.{◌++◌, ◌∷◌, List, length, [], ◌<◌, ap, ◌∙◌, arith, append_assoc, sym}
use Rattle.std.proofs.Math.Facts.{Fits-of_lt}
use Rattle.tt_family.specs.Contents.{Contents, IsFamily}
use Rattle.tt_family.proofs.Moves.{entry_found}
use Rattle.tt_cert.specs.declared.form.Form.TheVariants.{Four}
use Rattle.tt_cert.specs.Rules.{HasRoom}
use Rattle.tt_cert.specs.Sections.{Entry}
use Rattle.tt_cert.specs.Text.{state_text}
use Rattle.tt_cert.proofs.Pushed.{all_more, one_written}
use Rattle.tt_cert.proofs.writing.push_each_state.Goals as goal

pub overflow_cast-context : goal.overflow_cast-context
overflow_cast-context c =
    let v : Contents = c.args.certificate.now in
    let family : IsFamily v = c.states-states.ensures.finished.0 in
    let (done, split, written, room, known, stack) = c.loop-context.invariant in
    let found = entry_found v done c.take_first.new.self ((c.in-Some.context, c.in-Some.offset), c.in-Some.state.now)
    (split ∙ ap (λ (l : List Entry). done ++ l) c.in-Some.ensures.some) c.states-states.ensures.found in
    let held : c.in-Some.context < length v.contexts = family.held c.in-Some.context c.in-Some.offset c.in-Some.state.now found in
    let few = family.few in
    Fits-of_lt (omega arith)

pub loop-context-preserved : goal.loop-context-preserved
loop-context-preserved c =
    let v : Contents = c.args.certificate.now in
    let family : IsFamily v = c.states-states.ensures.finished.0 in
    let x : Entry = ((c.in-Some.context, c.in-Some.offset), c.in-Some.state.now) in
    let (done, split, written, room, known, stack) = c.loop-context.invariant in
    let found = entry_found v done c.take_first.new.self x (split ∙ ap (λ (l : List Entry). done ++ l) c.in-Some.ensures.some) c.states-states.ensures.found in
    let held : c.in-Some.context < length v.contexts = family.held c.in-Some.context c.in-Some.offset c.in-Some.state.now found in
    let range = family.in_range c.in-Some.context c.in-Some.offset c.in-Some.state.now found in (
      done ++ x ∷ [],
      split ∙ ap (λ (l : List Entry). done ++ l) c.in-Some.ensures.some ∙ sym (append_assoc done (x ∷ []) c.take_first.new.self),
      one_written (state_text Four) c.args.out.now.items [] c.loop-context.out.items _ done x written c.in_ok-push_state.ensures.written,
      all_more (HasRoom (length v.contexts)) done x room (held, c.in_ok-push_state.ensures.offset, c.in_ok-push_state.ensures.fits range),
      c.in_ok-push_state.ensures.functions,
      c.in_ok-push_state.ensures.stack,
    )
