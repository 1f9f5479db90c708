-- The fault of work on a certificate with the greatest budget, whose end is told as out of memory.
use Rattle.std.specs.Prelude.{ℕ, List, Option, Err}
use Rattle.tt_font.specs.Conditions.{Condition}
use Rattle.hintcheck_report.specs.AnswerFaults.{unlimited}
use Rattle.hintcheck_report.specs.declared.answer_fault.AnswerFault.{AnswerFault}
use Rattle.hintcheck_report.specs.declared.answer_fault.AnswerFault.TheVariants as fault
use Rattle.hintcheck_certificates.specs.BudgetAnswers.{AnswerTellsFontFault}
use Rattle.hintcheck_certificates.specs.CertificateFaults.{CountsCheck, CountsFind, TellsFontFault}
use Rattle.hintcheck_certificates.specs.CheckedFonts.{Finds}
use Rattle.hintcheck_certificates.specs.FailedReads.{HasRead}

module _ {T : Type 0} where
  pub finds_unlimited : (Is : T → Type 0) (At : ℕ → Type 0) (e : AnswerFault) → Finds {T = T} (Err e) Is At → Finds {T = T} (Err (unlimited e)) Is At
  finds_unlimited Is At (fault.Exhausted by) told = tt
  finds_unlimited Is At (fault.Font font) told = told
  finds_unlimited Is At (fault.Form place) told = told
  finds_unlimited Is At fault.Read told = told
  finds_unlimited Is At fault.Write told = told
  finds_unlimited Is At (fault.Print failed) told = told

pub counts_unlimited : (old new : ℕ) (e : AnswerFault) → CountsCheck {T = Unit {0}} (Err e) old new → CountsCheck {T = Unit {0}} (Err (unlimited e)) old new
counts_unlimited old new (fault.Exhausted by) told = told
counts_unlimited old new (fault.Font font) told = told
counts_unlimited old new (fault.Form place) told = told
counts_unlimited old new fault.Read told = told
counts_unlimited old new fault.Write told = told
counts_unlimited old new (fault.Print failed) told = told

pub counts_found : (old new : ℕ) (e : AnswerFault) → CountsFind {T = Unit {0}} (Err e) old new → CountsFind {T = Unit {0}} (Err (unlimited e)) old new
counts_found old new (fault.Exhausted by) told = told
counts_found old new (fault.Font font) told = told
counts_found old new (fault.Form place) told = told
counts_found old new fault.Read told = told
counts_found old new fault.Write told = told
counts_found old new (fault.Print failed) told = told

pub font_unlimited : (condition : Condition) (e : AnswerFault) → AnswerTellsFontFault {T = Unit {0}} condition (Err e) → TellsFontFault {T = Unit {0}} condition (Err (unlimited e))
font_unlimited condition (fault.Exhausted by) told = told
font_unlimited condition (fault.Font font) told = told
font_unlimited condition (fault.Form place) told = told
font_unlimited condition fault.Read told = told
font_unlimited condition fault.Write told = told
font_unlimited condition (fault.Print failed) told = told

pub read_unlimited : (old new : Option (List ℕ)) (Is : List ℕ → Type 0) (e : AnswerFault) → HasRead old new Is e → HasRead old new Is (unlimited e)
read_unlimited old new Is (fault.Exhausted by) told = tt
read_unlimited old new Is (fault.Font font) told = told
read_unlimited old new Is (fault.Form place) told = told
read_unlimited old new Is fault.Read told = told
read_unlimited old new Is fault.Write told = told
read_unlimited old new Is (fault.Print failed) told = told
