-- What the judges decide on a program.
use Rattle.std.proofs.Common.{◌≡◌, ◌∙◌, ℕ, List, [], Bor, Option, Some, None, Result, Ok, Err, true, ap, inr, refl, subst, sym}
use Rattle.std.specs.Prelude.{IfErr, IfSome, is_some, option_map}
use Rattle.tt_code.specs.Cut.{Instruction, size}
use Rattle.tt_code.specs.Settings.{GlyphProgram, Setting as MachineSetting}
use Rattle.tt_setting.specs.Settings.{setting_of}
use Rattle.tt_setting.specs.declared.refusal.Refusal.{Refusal}
use Rattle.tt_setting.specs.declared.refusal.Refusal.TheVariants as fault
use Rattle.tt_setting.specs.declared.setting.Setting.{Setting}
use Rattle.tt_code.specs.declared.reason.Reason.TheVariants as reason
use Rattle.tt_setting.specs.declared.spot.Spot.TheVariants as spot
use Rattle.tt_abs.specs.declared.state.State.{State}
use Rattle.tt_family.specs.Contents.{Contents, family_of}
use Rattle.tt_find.specs.declared.finder.Found.{Found}
use Rattle.hintcheck_programs.specs.ProgramVerdicts.{IfRefused, IsFaultOfProgram, IsProgramOf, IsSubjectOf, IsUncut, NoneIsGoodFor, no_cut, no_structure, with_start}
use Rattle.hintcheck_programs.specs.Programs.{Subject}
use Rattle.hintcheck_programs.specs.Programs as cause
use Rattle.hintcheck_programs.specs.Representation.Judges.{IsFoundIn, IsFoundToEndIn, IsRefusedFor}
use Rattle.hintcheck_programs.specs.Representation.FontVerdicts.{ComesToEnd}
use Rattle.hintcheck_programs.specs.declared.finding.Finding.{Finding}
use Rattle.hintcheck_report.specs.declared.refused.Refused.{Refused}
use Rattle.hintcheck_programs.proofs.FontEnds.{found_at_end, found_to_end, known_of_accepted}
use Rattle.hintcheck_programs.proofs.ProgramSteps.{mapped_from}
use Rattle.hintcheck_programs.proofs.ProgramVerdictLemmas.{known_cut, not_cut, not_structured, without_good}

-- a program that can't be cut, or isn't structured, is refused by each judge

pub uncut_is_refused : (x : Subject) (r : Refused) → IsUncut x.name x.bytes r → IsRefusedFor x r
uncut_is_refused x r (no_cut offset cannot) = record {
  refusal = without_good x ([], offset) spot.Main offset reason.CannotCut refl refl (cause.no_cut offset cannot) (not_cut x offset cannot);
  no_good = λ good points contours k. not_cut x offset cannot good;
}
uncut_is_refused x r (no_structure is offset cut fault) = record {
  refusal = without_good x ([], offset) spot.Main offset reason.Structure refl refl (cause.no_structure is offset cut fault) (not_structured x is offset cut fault);
  no_good = λ good points contours k. not_structured x is offset cut fault good;
}

-- what is found for a program of a setting, where it starts with these functions

-- the setting with the functions with which the program starts
abbrev pub started : Setting → Bor (List (ℕ × ℕ)) → Setting
started s start = record s { start = start }

pub starts : (x : Subject) (s : Setting) (start : Bor (List (ℕ × ℕ))) → IsProgramOf x s → IsSubjectOf (with_start x start.now) (started s start)
starts x s start p = record { cut = record { is_cut = p.cut.is_cut; structured = p.cut.structured }; setting = p.setting; functions = refl }

-- the finder's refusal, and that no family of a glyph program is good
refused_for : (x : Subject) (s : Setting) (f : Refusal) → IsSubjectOf x s → IsFaultOfProgram x f
    → ((points contours : ℕ) → (setting_of s).kind ≡ GlyphProgram points contours → NoneIsGoodFor x f) → IfRefused x.name f (IsRefusedFor x)
refused_for x s (fault.Exhausted e) subject refusal none = tt
refused_for x s (fault.Refused spot offset failed) subject refusal none = record {
  refusal = refusal;
  no_good = λ good points contours k.
      let same : good.instructions ≡ s.main.now = known_cut x s.main.now good.instructions subject.cut good.cut in
      let kind : (setting_of s).kind ≡ GlyphProgram points contours =
      sym (ap (λ (t : MachineSetting). t.kind) subject.setting) ∙ sym (ap (λ (is : List Instruction). (x.setting is).kind) same) ∙ k in
      none points contours kind good;
}

-- whatever else comes of the search
pub refused_by : (x : Subject) (s : Setting) (r : Result (Unit {0}) Refusal) → IsSubjectOf x s → IfErr r (IsFaultOfProgram x)
    → ((points contours : ℕ) → (setting_of s).kind ≡ GlyphProgram points contours → IfErr r (NoneIsGoodFor x)) → IfErr r (λ f. IfRefused x.name f (IsRefusedFor x))
refused_by x s (Ok v) subject refusal none = tt
refused_by x s (Err f) subject refusal none = refused_for x s f subject refusal none

-- what the machine's setting says of the program's kind
pub comes_with : (x : Subject) (s : Setting) → IsProgramOf x s → ComesToEnd (setting_of s).kind → ComesToEnd (x.setting s.main.now).kind
comes_with x s p comes = subst (λ (t : MachineSetting). ComesToEnd t.kind) (sym p.setting) comes

-- what is known at the end of a program that was found

-- the certificate that is lent is that of what was found
lent_found : (kept : Option Found) (found : Found) (lent : Contents) → kept ≡ Some found → option_map (λ (y : Found). y.certificate) kept ≡ Some lent → lent ≡ found.certificate
lent_found kept found lent is_kept is_lent =
    let (x, e, same) = mapped_from (λ (y : Found). y.certificate) kept lent is_lent in
    let one : Some x ≡ Some found = sym e ∙ is_kept in
    let x_is : x ≡ found = cc in
    sym same ∙ ap (λ (y : Found). y.certificate) x_is

pub known_in : (j : Finding) (x : Subject) (is : List Instruction) (lent : Contents) (n : ℕ) (o : Option (Bor (List (ℕ × ℕ)))) (functions : Bor (List (ℕ × ℕ))) (copy : List (ℕ × ℕ))
    → IsFoundIn j x is → ComesToEnd (x.setting is).kind → option_map (λ (y : Found). y.certificate) j.finder.found ≡ Some lent → n ≡ size is
    → IfSome o (λ fs. (end : State) × (family_of lent ([], n) ≡ Some end) × (fs.now ≡ end.functions)) → o ≡ Some functions → copy ≡ functions.now → IsFoundToEndIn j x is copy
known_in j x is lent n o functions copy accepted comes is_lent size_is some e copied =
    let here = accepted.found (inr comes) in
    let same : lent ≡ here.found.certificate = lent_found j.finder.found here.found lent here.is_kept is_lent in
    let S : Contents → Type 0 = λ v. IfSome o (λ fs. (end : State) × (family_of v ([], n) ≡ Some end) × (fs.now ≡ end.functions)) in
    let ends = subst S same some in
    record {
      known = known_of_accepted x is (family_of here.found.certificate) n o functions copy here.accepted size_is ends e copied;
      found = λ certificate. (here.found, here.is_kept, found_to_end x is here.found n o functions copy (here.for_certificate certificate) size_is ends e copied);
    }

pub end_is_found : (j : Finding) (x : Subject) (s : Setting) (lent : Contents) (n : ℕ) (o : Option (Bor (List (ℕ × ℕ)))) → IsFoundIn j x s.main.now → x.setting s.main.now ≡ setting_of s
    → ComesToEnd (setting_of s).kind → option_map (λ (y : Found). y.certificate) j.finder.found ≡ Some lent → n ≡ size s.main.now → (o ≡ None → family_of lent ([], n) ≡ None)
    → is_some o ≡ true
end_is_found j x s lent n o accepted same comes is_lent size_is none =
    let here = accepted.found (inr (subst (λ (t : MachineSetting). ComesToEnd t.kind) (sym same) comes)) in
    let one : lent ≡ here.found.certificate = lent_found j.finder.found here.found lent here.is_kept is_lent in
    let N : Contents → Type 0 = λ v. o ≡ None → family_of v ([], n) ≡ None in
    found_at_end x s.main.now (family_of here.found.certificate) (setting_of s) n o here.accepted same comes size_is (subst N one none)
