use Rattle.std.proofs.Common.{◌≡◌, ap, refl, sym, true, ◌∙◌}
use denote.Enum.Bare.{sameb}
use Rattle.tt_code.specs.contracts.kinds.Written.{the_type}
use Rattle.tt_code.specs.declared.kinds.Written.{Written}
use Rattle.tt_code.specs.declared.kinds.Written.TheVariants.{StorageCell, ControlValue, ControlValues, Nothing}
use Rattle.tt_code.specs.Entries.{view}
use Rattle.tt_symbolic.specs.Representation.Plain.{line_of}
use Rattle.tt_symbolic.proofs.Keepings.{keeps_other, keeps_plain, keeps_stored}
use Rattle.tt_symbolic.proofs.kept.keeps_storage.Goals as goal

same_written : (a b : Written) → sameb the_type a b ≡ true → a ≡ b
same_written StorageCell StorageCell h = refl
same_written StorageCell ControlValue h = cc
same_written StorageCell ControlValues h = cc
same_written StorageCell Nothing h = cc
same_written ControlValue StorageCell h = cc
same_written ControlValue ControlValue h = refl
same_written ControlValue ControlValues h = cc
same_written ControlValue Nothing h = cc
same_written ControlValues StorageCell h = cc
same_written ControlValues ControlValue h = cc
same_written ControlValues ControlValues h = refl
same_written ControlValues Nothing h = cc
same_written Nothing StorageCell h = cc
same_written Nothing ControlValue h = cc
same_written Nothing ControlValues h = cc
same_written Nothing Nothing h = refl

pub returns-then-eq : goal.returns-then-eq
returns-then-eq c = λ e. keeps_stored c.args.numbers.now c.args.code c.args.state.now (sym c.written.ensures ∙ same_written _ _ (sym c.eq.ensures ∙ c.if-eq.true)) (c.is_second_none_of.ensures e)

pub returns-in-Plain : goal.returns-in-Plain
returns-in-Plain c = λ e. keeps_plain c.args.numbers.now c.args.code c.args.state.now (line_of c.in-Plain.line) (sym c.entry.ensures ∙ ap view c.in-Plain.is) (c.stores_nothing.ensures e)

pub returns-in-Push : goal.returns-in-Push
returns-in-Push c = λ e. keeps_other c.args.numbers.now c.args.code c.args.state.now _ (sym c.entry.ensures ∙ ap view c.in-Push.is) tt

pub returns-in-Stack : goal.returns-in-Stack
returns-in-Stack c = λ e. keeps_other c.args.numbers.now c.args.code c.args.state.now _ (sym c.entry.ensures ∙ ap view c.in-Stack.is) tt

pub returns-in-Arithmetic : goal.returns-in-Arithmetic
returns-in-Arithmetic c = λ e. keeps_other c.args.numbers.now c.args.code c.args.state.now _ (sym c.entry.ensures ∙ ap view c.in-Arithmetic.is) tt

pub returns-in-Control : goal.returns-in-Control
returns-in-Control c = λ e. keeps_other c.args.numbers.now c.args.code c.args.state.now _ (sym c.entry.ensures ∙ ap view c.in-Control.is) tt

pub returns-in-NoEntry : goal.returns-in-NoEntry
returns-in-NoEntry c = λ e. keeps_other c.args.numbers.now c.args.code c.args.state.now _ (sym c.entry.ensures ∙ ap view c.in-NoEntry.is) tt
