use Rattle.std.proofs.Common.{◌≡◌, [], ◌++◌, List, length, reverse}
use Rattle.std.specs.Prelude.{IfSome}
use Rattle.std.specs.List.{AllByRecursion}
use Rattle.tt_cert.specs.declared.form.Form.TheVariants.{Four}
use Rattle.tt_cert.specs.Representation.KeptTexts.{IsStackText}
use Rattle.tt_cert.specs.Rules.{HasRoom, IsTextOf}
use Rattle.tt_cert.specs.Sections.{Entry}
use Rattle.tt_cert.specs.Text.{state_text}
use Rattle.tt_cert.proofs.Pushed.{AreWritten}
use Rattle.tt_cert.proofs.writing.push_each_state.Given as goal

abbrev pub invariant-loop-context : goal.invariant-loop-context
invariant-loop-context l =
    (done : List Entry) × (l.certificate.states ≡ done ++ l.states) × AreWritten (state_text Four) l.fn.out.items [] done l.out.items
    × AllByRecursion (HasRoom (length l.certificate.contexts)) done × IfSome l.before (λ s. IsTextOf l.texts.functions.items s.now.functions)
    × IfSome l.before (λ s. IsStackText l.texts.stack (reverse s.now.stack))

abbrev pub decreases-loop-context : goal.decreases-loop-context
decreases-loop-context l = length l.states
