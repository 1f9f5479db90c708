use Rattle.std.proofs.Common.{inl, inr, refl}
use Rattle.std.proofs.lemmas.Result.{IfOk-weaker, err_from_is_err_and, on_err_weaker}
use Rattle.hintcheck_programs.proofs.FontSafety.{font_is_safe}
use Rattle.hintcheck_certificates.proofs.certificate.find_font_within.Goals as goal

pub returns-clause-exact : goal.returns-clause-exact
returns-clause-exact g c =
    let d = c.in_ok-read.read in
    IfOk-weaker c.find_programs.result _ _ (λ v is. (d, c.in_ok-read.ensures.reads, is, font_is_safe d c.in_ok-read.ensures.range v is)) c.find_programs.ensures.exact

pub returns-clause-written : goal.returns-clause-written
returns-clause-written g c =
    let d = c.in_ok-read.read in
    IfOk-weaker c.find_programs.result _ _ (λ v writes none. (d, c.in_ok-read.ensures.reads, writes none)) c.find_programs.ensures.written

pub returns-in_err-read-clause-begun : goal.returns-in_err-read-clause-begun
returns-in_err-read-clause-begun g c =
    let p = err_from_is_err_and c.from_residual.result c.from_residual.ensures.1 in rw p.1 (inl refl)

pub returns-clause-begun : goal.returns-clause-begun
returns-clause-begun g c =
    on_err_weaker c.find_programs.result (λ begun. elim begun [
      | inl same ↦ inl same
      | inr begun_for ↦ inr (c.in_ok-read.read, c.in_ok-read.ensures.reads, begun_for)
    ]) c.find_programs.ensures.begun

pub returns-clause-write_fault : goal.returns-clause-write_fault
returns-clause-write_fault g c = λ failed. (c.in_ok-read.read, c.in_ok-read.ensures.reads, c.find_programs.ensures.write_fault failed)
