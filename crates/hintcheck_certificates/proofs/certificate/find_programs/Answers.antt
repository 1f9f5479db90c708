use Rattle.std.proofs.Common.{◌≡◌, [], inl, inr, refl, sym, ◌∙◌, ap, subst}
use Rattle.std.proofs.lemmas.Bool.{eqb-true}
use Rattle.std.proofs.lemmas.Result.{err_from_is_err_and}
use Rattle.hintcheck_certificates.specs.CertificateTexts.{IsPassingCertificate, WritesText}
use Rattle.hintcheck_programs.specs.Verdicts.{Judgement}
use Rattle.hintcheck_certificates.proofs.CertificateWriting.{refuses_none, told_empty}
use Rattle.hintcheck_certificates.proofs.certificate.find_programs.Goals as goal
use Rattle.hintcheck_certificates.proofs.certificate.find_programs.Goals.{then-is_empty+in_ok-write_certificate, else-is_empty}

pub returns-clause-written : goal.returns-clause-written
returns-clause-written g c = λ none.
    let empty : c.in_ok-refused.refused.items ≡ [] = sym (ap (λ (v : Judgement). v.refused) c.new.ensures) ∙ none in
    let W : g.row.W.Denot → Type 0 = λ sink. WritesText (g.W.Sink.contents c.args.sink.now) (g.W.Sink.contents sink) (IsPassingCertificate c.args.font.now) in
    elim c.if-is_empty.branch [
      | then-is_empty+in_ok-write_certificate w ↦ subst W (sym w.sink-is) w.in_ok-write_certificate.ensures.written
      | else-is_empty w ↦ absurd (told_empty c.in_ok-refused.refused.items c.in_ok-refused.refused.len (sym c.in_ok-refused.refused.ok.0) empty w.if-is_empty.ensures)
    ]

pub returns-in_err-refused-clause-begun : goal.returns-in_err-refused-clause-begun
returns-in_err-refused-clause-begun g c =
    let p = err_from_is_err_and c.from_residual.result c.from_residual.ensures.1 in rw p.1 (inl refl)

pub returns-in_err-write_certificate-clause-begun : goal.returns-in_err-write_certificate-clause-begun
returns-in_err-write_certificate-clause-begun g c =
    let p = err_from_is_err_and c.from_residual-in_err-write_certificate.result c.from_residual-in_err-write_certificate.ensures.1 in
    rw p.1 (inr (
      refuses_none c.args.font.now c.in_ok-refused.refused.items c.in_ok-refused.refused.len c.in_ok-refused.refused.ok.0 c.in_ok-refused.ensures.refused
          (eqb-true _ _ (sym c.if-is_empty.ensures)),
      c.in_err-write_certificate.ensures.begun,
    ))

pub returns-in_err-write_certificate-clause-write_fault : goal.returns-in_err-write_certificate-clause-write_fault
returns-in_err-write_certificate-clause-write_fault g c = λ _.
    refuses_none c.args.font.now c.in_ok-refused.refused.items c.in_ok-refused.refused.len c.in_ok-refused.refused.ok.0 c.in_ok-refused.ensures.refused
    (eqb-true _ _ (sym c.if-is_empty.ensures))

pub returns-then-is_exceeded-clause-begun : goal.returns-then-is_exceeded-clause-begun
returns-then-is_exceeded-clause-begun g c = inl refl
