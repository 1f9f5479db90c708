use Rattle.std.proofs.Common.{refl, arith, ◌∙◌, ◌<◌, Bor, [], ap, subst, sym}
use Rattle.std.specs.Option.{option_copied}
use Rattle.std.proofs.lemmas.Result.{err_from_is_err_and}
use Rattle.tt_family.proofs.Spending.{spends_on}
use Rattle.tt_font.specs.Reading.{FontData}
use Rattle.hintcheck_programs.specs.FontPrograms.{IsFontInRange}
use Rattle.hintcheck_certificates.specs.CertificateTexts.{WritesBeginning, WritesText}
use Rattle.hintcheck_programs.specs.ProgramVerdicts.{IsForCertificate}
use Rattle.hintcheck_programs.specs.Representation.FontVerdicts.{AreAllRefused}
use Rattle.hintcheck_programs.specs.Representation.ProgramOrder.{stage_of}
use Rattle.hintcheck_certificates.specs.Representation.SessionStages.{AreSectionsFrom, AreSomeSections}
use Rattle.hintcheck_programs.specs.Stages.{at_start}
use Rattle.hintcheck_programs.specs.declared.program.Search.{Search}
use Rattle.hintcheck_certificates.proofs.CertificateWriting.{IsWrittenSoFar, counts_encoding, encoding_no_font, found_next, found_once_more, nothing_found, sections_written, stopped, stopped_within}
use Rattle.hintcheck_programs.proofs.ProgramSteps.{calls_left, fewer_after}
use Rattle.hintcheck_programs.proofs.VerdictSteps.{known_can_go_on}
use Rattle.hintcheck_certificates.proofs.certificate.write_sections.Goals as goal

pub loop-encoder-init : goal.loop-encoder-init
loop-encoder-init g c =
    let d = c.new-programs.result.font.now in
    let none = subst (λ (f : FontData). AreAllRefused f []) (sym c.new-programs.ensures.font) c.requires.accepted in
    record {
      font = c.new-programs.ensures.font;
      certificate = subst (λ (s : Search). IsForCertificate s) (sym c.new-judge.ensures) tt;
      written = nothing_found d (g.W.Sink.contents c.args.sink.now) (stage_of c.new-programs.result) none c.new-programs.ensures.stage;
      failures = refl;
      spends = (refl, omega arith);
      alike = refl;
    }

pub judge_next-requires-clause-range : goal.judge_next-requires-clause-range
judge_next-requires-clause-range g c = subst IsFontInRange (sym c.loop-encoder.invariant.font) c.requires.range

pub judge_next-requires-clause-start : goal.judge_next-requires-clause-start
judge_next-requires-clause-start g c = known_can_go_on c.loop-encoder.programs.font.now (stage_of c.loop-encoder.programs) c.loop-encoder.invariant.written.known

pub loop-encoder-smaller : goal.loop-encoder-smaller
loop-encoder-smaller g c =
    let e = c.in_ok-outcome.ensures in
    let s = stage_of c.loop-encoder.programs in
    let t = stage_of c.judge_next.new.self in
    let d = c.loop-encoder.programs.font.now in
    subst (λ (f : Bor FontData). calls_left f.now t < calls_left d s) (sym e.font) (fewer_after d _ _ _ s t c.in_ok-outcome.field-0 c.in-Some.outcome c.in-Some.is e.answer)

pub loop-encoder-preserved : goal.loop-encoder-preserved
loop-encoder-preserved g c =
    let e = c.in_ok-outcome.ensures in
    let at = g.W.Sink.contents in
    let s = stage_of c.loop-encoder.programs in
    let t = stage_of c.judge_next.new.self in
    let d = c.loop-encoder.programs.font.now in
    let j = c.judge_next.new.judge in
    let i = c.loop-encoder.invariant in
    let certificate = subst (λ (x : Search). IsForCertificate x) (sym e.keeps) i.certificate in
    record {
      font = ap (λ (f : Bor FontData). f.now) e.font ∙ i.font;
      certificate = certificate;
      written = subst (λ (f : Bor FontData). IsWrittenSoFar f.now (at c.args.sink.now) t (at c.encode.new.sink)) (sym e.font)
          (found_next d (at c.args.sink.now) (at c.loop-encoder.sink) (at c.encode.new.sink) j s t c.in_ok-outcome.field-0 c.in-Some.outcome c.unwrap-certificate.result.now c.in-Some.is
          (sym c.certificate.ensures.value ∙ ap option_copied c.unwrap-certificate.ensures) certificate i.written e.answer c.order_facts.ensures c.in_ok-encode.ensures.fits
          c.in_ok-encode.ensures.written);
      failures = c.in_ok-encode.ensures.failures ∙ i.failures;
      spends = spends_on c.args.budget.now c.loop-encoder.budget c.judge_next.new.budget i.spends c.judge_next.ensures.spends;
      alike = e.budget ∙ i.alike;
    }

pub unwrap-certificate-requires : goal.unwrap-certificate-requires
unwrap-certificate-requires g c =
    let e = c.in_ok-outcome.ensures in
    let i = c.loop-encoder.invariant in
    let certificate = subst (λ (x : Search). IsForCertificate x) (sym e.keeps) i.certificate in
    c.certificate.ensures.variant ∙ (found_once_more c.loop-encoder.programs.font.now c.judge_next.new.judge (stage_of c.loop-encoder.programs) (stage_of c.judge_next.new.self)
    c.in_ok-outcome.field-0 c.in-Some.outcome c.in-Some.is certificate e.answer i.written.least).1

pub returns-clause-written : goal.returns-clause-written
returns-clause-written g c =
    let at = g.W.Sink.contents in
    let i = c.loop-encoder.invariant in
    subst (λ (f : FontData). WritesText (at c.args.sink.now) (at c.loop-encoder.sink) (AreSectionsFrom f at_start)) i.font
    (sections_written c.loop-encoder.programs.font.now (at c.args.sink.now) (at c.loop-encoder.sink) c.judge_next.new.judge (stage_of c.loop-encoder.programs) (stage_of c.judge_next.new.self)
    c.in_ok-outcome.field-0 c.in_default.is i.written c.in_ok-outcome.ensures.answer)

pub returns-in_err-outcome-clause-begun : goal.returns-in_err-outcome-clause-begun
returns-in_err-outcome-clause-begun g c =
    let p = err_from_is_err_and c.from_residual.result c.from_residual.ensures.1 in
    let at = g.W.Sink.contents in
    let i = c.loop-encoder.invariant in
    rw p.1 (subst (λ (f : FontData). WritesBeginning (at c.args.sink.now) (at c.loop-encoder.sink) (AreSomeSections f)) i.font
    (stopped c.loop-encoder.programs.font.now (at c.args.sink.now) (at c.loop-encoder.sink) (stage_of c.loop-encoder.programs) i.written))

pub returns-in_err-encode-clause-begun : goal.returns-in_err-encode-clause-begun
returns-in_err-encode-clause-begun g c =
    let p = err_from_is_err_and c.from_residual-in_err-encode.result c.from_residual-in_err-encode.ensures.1 in
    let e = c.in_ok-outcome.ensures in
    let at = g.W.Sink.contents in
    let i = c.loop-encoder.invariant in
    let certificate = subst (λ (x : Search). IsForCertificate x) (sym e.keeps) i.certificate in
    rw p.1 (subst (λ (f : FontData). WritesBeginning (at c.args.sink.now) (at c.encode.new.sink) (AreSomeSections f)) i.font
    (stopped_within c.loop-encoder.programs.font.now (at c.args.sink.now) (at c.loop-encoder.sink) (at c.encode.new.sink) c.judge_next.new.judge (stage_of c.loop-encoder.programs)
    (stage_of c.judge_next.new.self) c.in_ok-outcome.field-0 c.in-Some.outcome c.unwrap-certificate.result.now c.in-Some.is
    (sym c.certificate.ensures.value ∙ ap option_copied c.unwrap-certificate.ensures) certificate i.written e.answer c.in_err-encode.ensures.beginning))

pub returns-in_err-encode-clause-failures : goal.returns-in_err-encode-clause-failures
returns-in_err-encode-clause-failures g c =
    let p = err_from_is_err_and c.from_residual-in_err-encode.result c.from_residual-in_err-encode.ensures.1 in
    rw (p.1, p.2) (counts_encoding c.in_err-encode.field-0.0 _ _ _ c.loop-encoder.invariant.failures c.in_err-encode.ensures.failures)

pub returns-in_err-encode-clause-font : goal.returns-in_err-encode-clause-font
returns-in_err-encode-clause-font g c =
    let p = err_from_is_err_and c.from_residual-in_err-encode.result c.from_residual-in_err-encode.ensures.1 in
    rw (p.1, p.2) (encoding_no_font c.in_err-encode.field-0.0)
