use Rattle.std.proofs.Common.{◌≡◌, ◌∙◌, sym}
use Rattle.std.specs.Prelude.{true}
use Rattle.std.specs.Str.{IsValidUpTo, valid_up_to}
use Rattle.tt_names.specs.Names.{is_printable}
use Rattle.tt_names.proofs.TextLemmas.{name_of_text}
use Rattle.tt_names.proofs.names.printable.Goals as goal

pub returns-then-is_printable : goal.returns-then-is_printable
returns-then-is_printable c =
    let counts : is_printable c.args.text.now ≡ true = sym c.is_printable.ensures ∙ c.if-is_printable.true in
    name_of_text (λ e. IsValidUpTo c.args.text.now (valid_up_to e)) c.args.text.now c.from_utf8.result c.ok.result counts c.from_utf8.ensures.cases c.ok.ensures.value
