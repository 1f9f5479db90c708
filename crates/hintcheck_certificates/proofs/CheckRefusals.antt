-- Why a program that is checked by its section is refused.
use Rattle.std.proofs.Common.{◌≡◌, ◌⊎◌, inl, inr, ℕ, List, [], Option, Some, Bor, refl, sym, ap, subst, ◌∙◌, Result, Ok, Err}
use Rattle.std.specs.Prelude.{Result, Ok, Err, IfErr, IfSome}
use Rattle.tt_setting.specs.Refusals.{reason_of}
use Rattle.tt_abs.specs.declared.state.State.{State}
use Rattle.tt_code.specs.Cut.{CannotBeCut, Instruction, IsCut, size}
use Rattle.tt_code.specs.Grammar.{IsFault}
use Rattle.tt_code.specs.declared.reason.Reason.{Reason}
use Rattle.tt_code.specs.Settings.{Setting as MachineSetting}
use Rattle.tt_code.proofs.ProgramLemmas.{no_fault}
use Rattle.tt_setting.specs.declared.setting.Setting.{Setting}
use Rattle.tt_setting.specs.Settings.{setting_of}
use Rattle.tt_abs.specs.StateFlow.{Place}
use Rattle.tt_family.specs.Checks.{IsExhausted, Names}
use Rattle.tt_family.specs.Contents.{Contents, family_of}
use Rattle.tt_setting.specs.Spots.{spot_of}
use Rattle.tt_setting.specs.declared.refusal.Refusal.{Refusal}
use Rattle.tt_setting.specs.declared.refusal.Refusal.TheVariants as fault
use Rattle.tt_setting.specs.declared.spot.Spot.{Spot}
use Rattle.tt_cert.specs.declared.form.Form.{Form}
use Rattle.tt_cert.specs.declared.form.Form.TheVariants.{Two, Three, Four}
use Rattle.hintcheck_certificates.specs.Certificates.{IsBreak, IsCheckRefusal, IsGoodListing, IsListingBrokenFirst, Passes, not_good}
use Rattle.hintcheck_certificates.specs.CheckedFonts.{IsRefusedBy}
use Rattle.hintcheck_programs.specs.ProgramVerdicts.{IsSubjectOf, IsUncut, no_cut, no_structure}
use Rattle.hintcheck_report.specs.Places.{reported_at, program_at}
use Rattle.hintcheck_programs.specs.Programs.{Subject}
use Rattle.hintcheck_certificates.specs.Representation.SectionJudges.{IsPassedBy, IsPassedToEnd}
use Rattle.tt_setting.specs.Entries.{Ascends}
use Rattle.hintcheck_programs.proofs.FontEnds.{functions_rise}
use Rattle.hintcheck_programs.proofs.ProgramVerdictLemmas.{known_cut, of_subject}
use Rattle.tt_code.specs.declared.reason.Reason.TheVariants as reason
use Rattle.tt_setting.specs.declared.spot.Spot.TheVariants as spot
use Rattle.hintcheck_certificates.specs.Certificates as check
use Rattle.hintcheck_report.specs.declared.refused.Refused.{Refused}

pub check_refusal : (form : Form) (x : Subject) (family : Contents) (at : Place) (spot : Spot) (offset : ℕ) (r : Reason) → spot ≡ spot_of at.0
    → IsBreak form x family at offset r → ((instructions : List Instruction) → Passes form x instructions family → ⊥) → IsCheckRefusal form x family (reported_at x.name spot offset r)
check_refusal form x family at spot offset r es broken none = record {
  program = refl;
  at = at;
  spot = ap (program_at x.name) es;
  broken = broken;
  not_passed = none;
}

pub cannot_cut : (form : Form) (x : Subject) (family : Contents) (offset : ℕ) → CannotBeCut x.bytes offset → (instructions : List Instruction) → Passes form x instructions family → ⊥
cannot_cut form x family offset cannot instructions p = cannot.uncut instructions p.cut.is_cut

pub has_fault : (form : Form) (x : Subject) (family : Contents) (is : List Instruction) (offset : ℕ) → IsCut x.bytes is → IsFault is offset
    → (instructions : List Instruction) → Passes form x instructions family → ⊥
has_fault form x family is offset cut at instructions p = no_fault x.bytes is instructions offset cut p.cut.is_cut p.cut.structured at

-- the family isn't good for the program
pub broken_listing : (form : Form) (x : Subject) (s : Setting) (family : Contents) (f : Refusal) → IsSubjectOf x s
    → Names (IsListingBrokenFirst form (setting_of s) s.start.now family) f
    → (IsGoodListing form (setting_of s) s.start.now family → IsExhausted f) → IsRefusedBy form x family f
broken_listing form x s family (fault.Exhausted e) subject names exact = tt
broken_listing form x s family (fault.Refused spot offset failed) subject (at, es, eo, first) exact =
    let r = reason_of failed in
    let is = s.main.now in
    let B : MachineSetting → List (ℕ × ℕ) → Type 0 = λ t fs. IsListingBrokenFirst form t fs family at r in
    let broken = of_subject B x is (setting_of s) s.start.now subject.setting subject.functions first in
    let B' : ℕ → Type 0 = λ n. IsBreak form x family at n r in
    check_refusal form x family at spot offset r es (subst B' (sym eo) (not_good is at r subject.cut broken))
    (λ js p.
    let G : List Instruction → Type 0 = λ k. IsGoodListing form (x.setting k) x.functions family in
    let same : js ≡ is = known_cut x is js subject.cut p.cut in
    let good : IsGoodListing form (x.setting is) x.functions family = subst G same p.good in
    let F : List (ℕ × ℕ) → Type 0 = λ fs. IsGoodListing form (x.setting is) fs family in
    let S : MachineSetting → Type 0 = λ t. IsGoodListing form t s.start.now family in
    exact (subst S subject.setting (subst F subject.functions good)))

-- the same of what a check returns
pub broken_result : {T : Type 0} (form : Form) (x : Subject) (s : Setting) (family : Contents) (r : Result T Refusal) → IsSubjectOf x s
    → IfErr r (Names (IsListingBrokenFirst form (setting_of s) s.start.now family))
    → (IsGoodListing form (setting_of s) s.start.now family → IfErr r IsExhausted) → IfErr r (IsRefusedBy form x family)
broken_result form x s family (Ok y) subject names exact = tt
broken_result form x s family (Err f) subject names exact = broken_listing form x s family f subject names exact

-- what is known at the end of a program that passes
pub passed_to_end : (form : Form) (x : Subject) (is : List Instruction) (family : Contents) (n : ℕ) (found : Option (Bor (List (ℕ × ℕ)))) (functions : Bor (List (ℕ × ℕ))) (copy : List (ℕ × ℕ))
    → IsPassedBy form x is family → n ≡ size is → IfSome found (λ fs. (end : State) × (family_of family ([], n) ≡ Some end) × (fs.now ≡ end.functions)) → found ≡ Some functions
    → copy ≡ functions.now → IsPassedToEnd form x is family copy
passed_to_end form x is family n found functions copy passed size_is some e copied =
    let S : Option (Bor (List (ℕ × ℕ))) → Type 0 = λ o. IfSome o (λ fs. (end : State) × (family_of family ([], n) ≡ Some end) × (fs.now ≡ end.functions)) in
    let (end, at, same) = subst S e some in
    let there : family_of family ([], size is) ≡ Some end = ap (λ (k : ℕ). family_of family ([], k)) (sym size_is) ∙ at in
    let (filling, fills, good) = passed.filled in
    let kept : filling ([], size is) ≡ Some end = fills.keeps ([], size is) end there in
    record {
      passes = record { passes = passed.passes; end = end; at_end = there; functions_are = sym (copied ∙ same) };
      known = record {
        ends = record { cut = passed.passes.cut; family = filling; good = good; end = end; at_end = kept; functions_are = sym (copied ∙ same) };
        ascends = subst (λ (fs : List (ℕ × ℕ)). Ascends fs) (sym (copied ∙ same)) (functions_rise (x.setting is) x.functions filling ([], size is) end good kept);
      };
    }

-- what holds of each form except the first holds of such a form
pub of_sparse : (P : Form → Type 0) (form : Form) → (form ≡ Two) ⊎ ((form ≡ Three) ⊎ (form ≡ Four)) → P Two → P Three → P Four → P form
of_sparse P form (inl e) two three four = subst P (sym e) two
of_sparse P form (inr (inl e)) two three four = subst P (sym e) three
of_sparse P form (inr (inr e)) two three four = subst P (sym e) four

pub uncut_fails_check : (form : Form) (x : Subject) (family : Contents) (r : Refused) → IsUncut x.name x.bytes r → IsCheckRefusal form x family r
uncut_fails_check form x family r (no_cut offset cannot) =
    check_refusal form x family ([], offset) spot.Main offset reason.CannotCut refl (check.no_cut offset cannot) (cannot_cut form x family offset cannot)
uncut_fails_check form x family r (no_structure is offset cut fault) =
    check_refusal form x family ([], offset) spot.Main offset reason.Structure refl (check.no_structure is offset cut fault) (has_fault form x family is offset cut fault)
