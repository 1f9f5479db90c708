-- What is answered to a request, by what its parts promise.
use Rattle.std.proofs.Common.{◌≡◌, ◌≢◌, ◌≤◌, ℕ, List, [], Option, None, Some, IfErr, IfOk, IsErrAnd, OnOk, Result, Ok, Err, arith, inl, inr, refl, subst}
use Rattle.std.specs.Prelude.{unwrap_or}
use Rattle.std.specs.Io.KnownBytes.{Appends}
use Rattle.hintcheck_report.specs.ReasonNumbers.{IsReasonWord}
use Rattle.hintcheck_words.specs.declared.words.ListOptions.{ListOptions}
use Rattle.hintcheck_words.specs.declared.words.ExplainOptions.{ExplainOptions}
use Rattle.hintcheck_words.specs.declared.words.Profile.{Profile}
use Rattle.hintcheck_words.specs.declared.words.TaskFault.{TaskFault}
use Rattle.hintcheck_words.specs.declared.words.VerdictOptions.{VerdictOptions}
use Rattle.hintcheck_words.specs.Requests.{IsMemoryIfTaken, Request, bare, check, explain, find, list, scan, upgrade, verdict}
use Rattle.hintcheck.specs.Representation.Answers.{IsAnswered, IsExplained, IsNoVerdictFor, IsVerdictFor}
use Rattle.hintcheck.specs.CommandFaults.{HasNoFault, IsFaultOfFontFile, IsFaultOfGlyph, IsFaultOfPrinting, IsFaultOfRequest, IsFaultOfTask, IsReported, SpellNoFault, TellsNoTask, no_memory, not_taken}
use Rattle.hintcheck.specs.Commands.{IsForVerdict, IsNoWriteFault, TellsFailure, status_of}
use Rattle.hintcheck.specs.Listing.{HoldListedProgram, HoldToldProgram, HoldUnlistedProgram}
use Rattle.hintcheck.specs.MeansSafe.{HoldRefusedBy, HoldSafeBy, IsBareVerdict, IsRefusedBareBy, IsSafeBareBy, SpellBare}
use Rattle.hintcheck.specs.Printed.{Prints, PrintsVerdict, asks_last_line}
use Rattle.hintcheck.specs.Texts.{told_text}
use Rattle.hintcheck_fonts.specs.declared.request.Request.{Request as VerdictRequest}
use Rattle.hintcheck_fonts.specs.declared.request.Judged.{Judged}
use Rattle.hintcheck_programs.specs.Verdicts.{Judgement}
use Rattle.tt_font.specs.Reading.{GlyphData}
use Rattle.hintcheck.specs.declared.commands.faults.CommandFault.{CommandFault}
use Rattle.hintcheck.specs.declared.commands.faults.CommandFault.TheVariants as fault

-- a fault that is no failed write is passed on
pub unwritten_failures : {T : Type 0} (f : CommandFault) (r : Result T CommandFault) (n : ℕ) → IsErrAnd r (λ told. told ≡ f) → IsNoWriteFault f → TellsFailure r n n
unwritten_failures f (Ok x) n is unwritten = absurd is
unwritten_failures fault.Write (Err told) n is unwritten = absurd unwritten
unwritten_failures _ (Err told) n is unwritten = rw is refl

-- a fault of a request whose faults are unspecified
pub any_fault : {T : Type 0} (q : Request) (r : Result T CommandFault) → ((f : CommandFault) → IsFaultOfRequest q f) → IfErr r (IsFaultOfTask q)
any_fault q (Ok x) any = tt
any_fault q (Err f) any = inl (any f)

pub printing_fault : {T : Type 0} (q : Request) (r : Result T CommandFault) → HasNoFault q → IfErr r IsFaultOfPrinting → IfErr r (IsFaultOfTask q)
printing_fault q (Ok x) none is = tt
printing_fault q (Err f) none is = inr (none, is)

-- why there is no verdict on a font file
pub no_font_verdict : {T : Type 0} (font : List ℕ) (options : VerdictOptions) (r : Result T CommandFault) → IfErr r IsFaultOfFontFile → IfErr r IsNoWriteFault → IfErr r (IsNoVerdictFor (verdict font options))
no_font_verdict font options (Ok x) is unwritten = tt
no_font_verdict font options (Err f) is unwritten = (is, unwritten)

-- what is reported where words ask for nothing is a fault of theirs
pub no_task : (words : List (List ℕ)) (why : TaskFault) (status : ℕ) → IsMemoryIfTaken words why → (reported : CommandFault) × TellsNoTask why reported × (status ≡ status_of reported) → IsReported words status
no_task words why status memory (reported, inl (is, same), gives) = (reported, rw same no_memory, gives)
no_task words why status memory (reported, inr (other, usage), gives) = (reported, not_taken reported (λ taken. other (memory taken)) usage, gives)

-- where a verdict is asked for, its lines are the answer
prints_for_verdict : (q : Request) (status : ℕ) (old new : Option (List ℕ)) → IsForVerdict q → PrintsVerdict q status old new → Prints q status old new
prints_for_verdict (bare maxp cvt points contours program profile) status old new for_verdict printed = printed
prints_for_verdict (verdict font options) status old new for_verdict printed = printed
prints_for_verdict (find font certificate options) status old new for_verdict printed = printed
prints_for_verdict (check font certificate options) status old new for_verdict printed = printed
prints_for_verdict (scan fonts options texts) status old new for_verdict printed = absurd for_verdict
prints_for_verdict (explain font program place options) status old new for_verdict printed = absurd for_verdict
prints_for_verdict (list font program options) status old new for_verdict printed = absurd for_verdict
prints_for_verdict (upgrade before after max_bytes) status old new for_verdict printed = absurd for_verdict

pub verdict_answered : (q : Request) (r : Result ℕ CommandFault) (by : VerdictRequest) (v : Judgement) (old new : Option (List ℕ)) → IsForVerdict q → IsVerdictFor q by v → IfOk r (λ status. status ≤ 1) → IfOk r (λ status. status ≡ 0 → v.refused ≡ [])
    → IfOk r (λ status. status ≡ 1 → v.refused ≢ []) → OnOk r (Appends old new (told_text (asks_last_line q) by v)) → IfOk r (λ status. IsAnswered q status old new)
verdict_answered q (Err f) by v old new asks is few accepted refused written = tt
verdict_answered q (Ok status) by v old new asks is few accepted refused written = record {
  few = omega arith;
  safe = λ zero. is.safe (accepted zero);
  refused = λ one. is.refused (refused one);
  told = λ two. absurd (omega arith);
  none = λ few. is.none;
  printed = prints_for_verdict q status old new asks (record { by = by; judgement = v; given = is.given; accepted = accepted; refused = refused; written = written });
}

pub list_answered : (font word : List ℕ) (options : ListOptions) (bytes : List ℕ) (r : Result ℕ CommandFault) (old new : Option (List ℕ)) → IfOk r (λ status. status ≤ 1) → IfOk r (λ status. status ≡ 0 → HoldListedProgram options.detail bytes word old new)
    → IfOk r (λ status. status ≡ 1 → HoldUnlistedProgram bytes word) → IfOk r (λ status. status ≡ 1 → HoldToldProgram bytes word old new) → IfOk r (λ status. IsAnswered (list font word options) status old new)
list_answered font word options bytes (Err f) old new few listed unlisted told = tt
list_answered font word options bytes (Ok status) old new few listed unlisted told = record {
  few = omega arith;
  safe = λ zero. tt;
  refused = λ one. (bytes, unlisted one);
  told = λ two. absurd (omega arith);
  none = λ few. tt;
  printed = record { bytes = bytes; listed = listed; told = told };
}

-- the verdict on a program, or why there is none, where its word may be left out
bare_of : (maxp : List ℕ) (points contours : ℕ) (word : List ℕ) (program : Option (List ℕ)) (P : List ℕ → GlyphData → Type 0) → word ≡ unwrap_or program [] → SpellBare maxp points contours word P → SpellBare maxp points contours (unwrap_or program []) P
bare_of maxp points contours word program P same is = subst (λ w. SpellBare maxp points contours w P) same is

pub bare_for : (maxp : List ℕ) (cvt points contours : ℕ) (word : List ℕ) (program : Option (List ℕ)) (profile : Profile) (j : Judged) → word ≡ unwrap_or program [] → IsVerdictFor (bare maxp cvt points contours (Some word) profile) j.by j.verdict
    → IsVerdictFor (bare maxp cvt points contours program profile) j.by j.verdict
bare_for maxp cvt points contours word program profile j same is = record {
  given = bare_of maxp points contours word program (IsBareVerdict profile j.by cvt j.verdict) same is.given;
  safe = λ none. bare_of maxp points contours word program (IsSafeBareBy profile cvt) same (is.safe none);
  refused = λ some. bare_of maxp points contours word program (IsRefusedBareBy profile cvt) same (is.refused some);
  none = subst (λ w. SpellNoFault maxp w) same is.none;
}

pub no_bare_for : (maxp : List ℕ) (cvt points contours : ℕ) (word : List ℕ) (program : Option (List ℕ)) (by : Profile) (f : CommandFault) → word ≡ unwrap_or program [] → IsNoVerdictFor (bare maxp cvt points contours (Some word) by) f → IsNoVerdictFor (bare maxp cvt points contours program by) f
no_bare_for maxp cvt points contours word program by f same is = (subst (λ w. IsFaultOfGlyph maxp w f) same is.0, is.1)

-- an explanation of one program
pub program_answered : (font word : List ℕ) (place : Option (List ℕ)) (options : ExplainOptions) (status : ℕ) (old new : Option (List ℕ)) → IsExplained options.profile word status → IsAnswered (explain font (Some word) place options) status old new
program_answered font word place options status old new is = record { few = is.few; safe = is.accepted; refused = is.refused; told = λ two. tt; none = λ few. tt; printed = tt }

-- an explanation of a font
pub font_answered : (font bytes : List ℕ) (place : Option (List ℕ)) (options : ExplainOptions) (r : Result ℕ CommandFault) (old new : Option (List ℕ)) → IfOk r (λ status. status ≤ 1) → IfOk r (λ status. status ≡ 0 → HoldSafeBy options.profile bytes)
    → IfOk r (λ status. status ≡ 1 → HoldRefusedBy options.profile bytes) → IfOk r (λ status. IsAnswered (explain font None place options) status old new)
font_answered font bytes place options (Err f) old new few safe refused = tt
font_answered font bytes place options (Ok status) old new few safe refused =
    record { few = omega arith; safe = λ zero. inr (bytes, safe zero); refused = λ one. (bytes, refused one); told = λ two. tt; none = λ few. tt; printed = tt }

-- what a reason means
pub reason_answered : (font : List ℕ) (place : Option (List ℕ)) (options : ExplainOptions) (r : Result ℕ CommandFault) (old new : Option (List ℕ)) → IsReasonWord font → IfOk r (λ status. status ≡ 0) → IfOk r (λ status. IsAnswered (explain font None place options) status old new)
reason_answered font place options (Err f) old new word is = tt
reason_answered font place options (Ok status) old new word is =
    record { few = omega arith; safe = λ zero. inl word; refused = λ one. absurd (omega arith); told = λ two. tt; none = λ few. tt; printed = tt }
