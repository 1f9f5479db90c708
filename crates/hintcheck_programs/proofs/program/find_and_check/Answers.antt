use Rattle.std.proofs.Common.{◌∙◌, ap, sym}
use Rattle.std.specs.Option.{option_copied}
use Rattle.std.specs.Prelude.{is_some}
use Rattle.tt_setting.specs.Settings.{setting_of}
use Rattle.hintcheck_programs.specs.ProgramVerdicts.{IfRefused}
use Rattle.hintcheck_programs.specs.Programs.{HasGoodFamily, IsRefusal}
use Rattle.hintcheck_programs.proofs.ProgramVerdictLemmas.{HasFlow, found_here, found_refusal, glyph_without_good, holds_anyway, lent_filled, only_memory, passed_on}
use Rattle.hintcheck_programs.proofs.program.find_and_check.Goals as goal

pub returns-in-Writing-clause-accepted : goal.returns-in-Writing-clause-accepted
returns-in-Writing-clause-accepted c = λ x subject.
    let e = c.in_ok-find.ensures in
    let h : HasFlow (setting_of c.args.setting.now) c.args.setting.now.start.now =
    record { range = c.range_facts.ensures.range; short = c.range_facts.ensures.short; ascends = c.requires.ascends; fits = c.requires.fits } in
    found_here c.find.new.self c.args.search x c.args.setting.now _ subject h e.kept e.filling e.contexts (λ certificate. e.needed (c.listed.ensures certificate))

pub returns-in-Verdict-clause-accepted : goal.returns-in-Verdict-clause-accepted
returns-in-Verdict-clause-accepted c = λ x subject.
    let e = c.in_ok-find.ensures in
    let h : HasFlow (setting_of c.args.setting.now) c.args.setting.now.start.now =
    record { range = c.range_facts.ensures.range; short = c.range_facts.ensures.short; ascends = c.requires.ascends; fits = c.requires.fits } in
    holds_anyway c.check_found.result (found_here c.find.new.self c.args.search x c.args.setting.now _ subject h e.kept e.filling e.contexts (λ certificate. e.needed (c.listed.ensures certificate)))

pub returns-in-Verdict-clause-refused : goal.returns-in-Verdict-clause-refused
returns-in-Verdict-clause-refused c = λ x subject.
    let lent = sym c.certificate.ensures.value ∙ ap option_copied c.unwrap-certificate.ensures in
    only_memory c.check_found.result x.name (IsRefusal x)
    (c.check_found.ensures.exact (lent_filled c.find.new.self.found c.unwrap-certificate.result.now c.args.setting.now c.in_ok-find.ensures.filling lent))

pub returns-in-Verdict-clause-none_good : goal.returns-in-Verdict-clause-none_good
returns-in-Verdict-clause-none_good c = λ x points contours subject k.
    let lent = sym c.certificate.ensures.value ∙ ap option_copied c.unwrap-certificate.ensures in
    only_memory c.check_found.result x.name (λ _. HasGoodFamily x → ⊥)
    (c.check_found.ensures.exact (lent_filled c.find.new.self.found c.unwrap-certificate.result.now c.args.setting.now c.in_ok-find.ensures.filling lent))

pub unwrap-certificate-requires : goal.unwrap-certificate-requires
unwrap-certificate-requires c = c.certificate.ensures.variant ∙ ap is_some c.in_ok-find.ensures.kept.is_kept

pub returns-in_err-find-clause-refused : goal.returns-in_err-find-clause-refused
returns-in_err-find-clause-refused c = λ x subject.
    let s = setting_of c.args.setting.now in
    let fs = c.args.setting.now.start.now in
    let h : HasFlow s fs = record { range = c.range_facts.ensures.range; short = c.range_facts.ensures.short; ascends = c.requires.ascends; fits = c.requires.fits } in
    passed_on c.from_residual.result c.in_err-find.field-0.0 (λ fault. IfRefused x.name fault (IsRefusal x)) c.from_residual.ensures.1
    (found_refusal x c.args.setting.now.main.now s fs c.in_err-find.field-0.0 subject.cut subject.setting subject.functions h c.in_err-find.ensures.justified c.in_err-find.ensures.none_good)

pub returns-in_err-find-clause-none_good : goal.returns-in_err-find-clause-none_good
returns-in_err-find-clause-none_good c = λ x points contours subject k.
    let s = setting_of c.args.setting.now in
    let fs = c.args.setting.now.start.now in
    let h : HasFlow s fs = record { range = c.range_facts.ensures.range; short = c.range_facts.ensures.short; ascends = c.requires.ascends; fits = c.requires.fits } in
    passed_on c.from_residual.result c.in_err-find.field-0.0 (λ fault. IfRefused x.name fault (λ _. HasGoodFamily x → ⊥)) c.from_residual.ensures.1
    (glyph_without_good x c.args.setting.now.main.now s fs points contours c.in_err-find.field-0.0 subject.cut subject.setting subject.functions k h
    c.in_err-find.ensures.justified c.in_err-find.ensures.none_good)
