use Rattle.std.proofs.Common.{Some, ◌++◌, sym, ap, subst, ◌∙◌}
use Rattle.tt_cert.specs.declared.form.Form.{Form}
use Rattle.tt_cert.specs.Families.{HasText, family_text}
use Rattle.tt_cert.proofs.reading.decode.Goals as goal

pub returns-clause-same : goal.returns-clause-same
returns-clause-same g c = λ name family rest text known.
    c.read_next.ensures.same name family rest (subst (λ (f : Form). HasText f name family) (sym c.numbered.ensures) text)
    (known ∙ ap (λ (f : Form). Some (family_text f name family ++ rest)) (sym c.numbered.ensures))
