use Rattle.std.specs.Prelude.{codes}
use Rattle.std.specs.Io.KnownBytes.{Appends}
use Rattle.std.proofs.Common.{ℕ, List, [], ◌++◌, subst}
use Rattle.tt_code.specs.declared.reason.Reason.{Reason}
use Rattle.tt_font.specs.Reading.{no_glyph}
use Rattle.hintcheck_programs.specs.FontPrograms.{font_of, glyph_subject, one_glyph_font}
use Rattle.hintcheck_programs.specs.Programs.{IsRefusal, Subject}
use Rattle.tt_family.specs.Checks.{IsExhausted}
use Rattle.tt_setting.specs.Refusals.{reason_of}
use Rattle.tt_setting.specs.declared.refusal.Refusal.{Refusal}
use Rattle.tt_setting.specs.declared.refusal.Refusal.TheVariants as fault
use Rattle.hintcheck_programs.specs.Representation.Judges.{IsRefusedFor}
use Rattle.hintcheck_programs.proofs.JudgeLaws.{uncut_is_refused}
use Rattle.hintcheck_programs.specs.ProgramVerdicts.{IfRefused, IsUncut}
use Rattle.hintcheck_report.specs.Places.{reported_at}
use Rattle.hintcheck_report.specs.Texts.{refused_text}
use Rattle.hintcheck_report.specs.declared.refused.Refused.{Refused}
use Rattle.hintcheck.specs.Listing.{refused_in}
use Rattle.hintcheck.proofs.ListingLemmas.{tells_unlisted}
use Rattle.hintcheck.proofs.instruction_list.list_named.Goals as goal

refusal_of : (x : Subject) (f : Refusal) → IfRefused x.name f (IsRefusedFor x) → IfRefused x.name f (IsRefusal x)
refusal_of x (fault.Refused spot offset failed) is = is.refusal
refusal_of x (fault.Exhausted by) is = tt

uncut_refusal : (x : Subject) (f : Refusal) → IfRefused x.name f (IsUncut x.name x.bytes) → IfRefused x.name f (IsRefusedFor x)
uncut_refusal x (fault.Refused spot offset failed) is = uncut_is_refused x (reported_at x.name spot offset (reason_of failed)) is
uncut_refusal x (fault.Exhausted by) is = tt

-- a program of these bytes in some font
in_some_font : List ℕ → Subject
in_some_font bytes = record (glyph_subject (font_of (one_glyph_font [] 0 no_glyph) [] []) [] 0 no_glyph) { bytes = bytes }

pub returns-in_ok-print_program-in-Ok-clause-listed : goal.returns-in_ok-print_program-in-Ok-clause-listed
unfolding in_some_font
returns-in_ok-print_program-in-Ok-clause-listed g c = λ zero.
    let cut = c.in-Ok.ensures.cut in
    record { instructions = c.in-Ok.program; is_cut = cut.0; structured = cut.1; written = c.in_ok-print_program-in-Ok.ensures.written }

pub returns-in_ok-writeln-in-Err-Refused-clause-told : goal.returns-in_ok-writeln-in-Err-Refused-clause-told
unfolding in_some_font
returns-in_ok-writeln-in-Err-Refused-clause-told g c = λ one.
    let e = c.in-Err-Refused in
    let x = in_some_font c.args.named.bytes.now in
    let F : Refusal → Type 0 = λ f. IfRefused x.name f (IsRefusal x) in
    let W : Refused → Type 0 = λ r. Appends (g.O.Sink.contents c.args.out.now) (g.O.Sink.contents c.writeln.new.self) (refused_text r ++ codes "\n") in
    let L : Reason → Type 0 = λ r. Appends (g.O.Sink.contents c.args.out.now) (g.O.Sink.contents c.writeln.new.self) (refused_text (refused_in c.args.named.name e.offset r) ++ codes "\n") in
    tells_unlisted x c.args.named.name (reported_at x.name e.field-0-0 e.offset (reason_of e.failed)) (g.O.Sink.contents c.args.out.now) (g.O.Sink.contents c.writeln.new.self)
    (subst F e.field-0-is (refusal_of x e.field-0 (uncut_refusal x e.field-0 (e.ensures.uncut x.name))))
    (λ is cut structured. subst IsExhausted e.field-0-is (e.ensures.only is cut structured))
    (subst L (rw e.field-0-is at c.reason.ensures) (rw e.field-0-is at (subst W c.refused_at-refused.ensures c.in_ok-writeln-in-Err-Refused.ensures.written)))
