-- How far a certificate was read. (Representation: no public clause cites it.)
use Rattle.std.specs.Prelude.{ℕ, List, Option}
use Rattle.tt_cert.specs.Answers.{input_at}
use Rattle.tt_cert.specs.Readers.{Input}
use Rattle.hintcheck_certificates.specs.declared.sections.Progress.{Progress}

-- what is read next, in the bytes that are left in the source
abbrev pub input_from : Progress → Option (List ℕ) → Input
input_from progress left = input_at progress.place left
