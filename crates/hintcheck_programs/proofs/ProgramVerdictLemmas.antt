-- Why a program is accepted or refused.
use Rattle.std.proofs.Common.{◌≡◌, ◌⊎◌, inl, inr, ℕ, List, [], Option, Some, None, Result, Ok, Err, refl, sym, ◌∙◌, ap, subst}
use Rattle.std.specs.Prelude.{IfErr, IfSome, OnOk, option_map}
use Rattle.std.specs.Result.{IsErrAnd}
use Rattle.tt_code.specs.Cut.{Instruction, IsCut, CannotBeCut, size}
use Rattle.tt_code.specs.Grammar.{IsFault}
use Rattle.tt_code.specs.Settings.{Kind, FontProgram, CvtProgram, GlyphProgram, Setting}
use Rattle.tt_code.specs.declared.reason.Reason.{Reason}
use Rattle.tt_code.specs.declared.reason.Reason.TheVariants as reason
use Rattle.tt_code.proofs.CutLemmas.{one_cut}
use Rattle.tt_code.proofs.ProgramLemmas.{no_fault}
use Rattle.tt_setting.specs.Refusals.{reason_of}
use Rattle.tt_setting.specs.declared.failed.Failed.{Failed}
use Rattle.tt_setting.specs.declared.failed.Failed.TheVariants.{Only}
use Rattle.tt_setting.specs.declared.setting.Setting.{Setting as AnySetting}
use Rattle.tt_abs.specs.declared.state.State.{State}
use Rattle.tt_setting.specs.Entries.{Ascends}
use Rattle.tt_abs.specs.Families.{IsBelowFamily, IsGood}
use Rattle.tt_abs.proofs.FamilyLaws.{none_where_refused}
use Rattle.tt_setting.specs.Ranges.{IsSettingInRange, AreProgramsShort}
use Rattle.tt_setting.specs.Settings.{setting_of}
use Rattle.tt_abs.specs.Soundness.{IsSafe}
use Rattle.tt_abs.specs.StateFlow.{FitsLimits, FunctionsFit, Place, flow_of, height_of}
use Rattle.tt_abs.specs.States.{state_laws, state_order}
use Rattle.tt_abs.proofs.FlowOfStates.{state_flow_laws}
use Rattle.tt_abs.proofs.Soundness.{good_is_safe}
use Rattle.tt_family.specs.Checks.{IsExhausted}
use Rattle.tt_family.specs.Contents.{Contents, family_of}
use Rattle.tt_family.specs.Fillings.{IsFilling}
use Rattle.tt_family.specs.GoodFamilies.{EndsWell, IsGoodFamily}
use Rattle.tt_setting.specs.Spots.{spot_of}
use Rattle.tt_setting.specs.declared.refusal.Refusal.{Refusal}
use Rattle.tt_setting.specs.declared.refusal.Refusal.TheVariants as fault
use Rattle.tt_setting.specs.declared.spot.Spot.{Spot}
use Rattle.tt_find.specs.Found.{AreLeastContexts, HasLeastFilling, IsJustified, IsLeast, IsNeverEnding, LacksEnd, NamesPlace, NeedsAll, NoneIsGood, too_long, refused, apart, too_many, never_ends}
use Rattle.tt_find.specs.Finders.{HasFound}
use Rattle.tt_find.specs.FoundSubjects.{HasLeastContexts, HasOnlyNeeded, IsLeastFor}
use Rattle.tt_find.specs.declared.finder.Finder.{Finder}
use Rattle.tt_find.specs.declared.finder.Found.{Found}
use Rattle.hintcheck_programs.specs.FoundFamilies.{IsFoundFor}
use Rattle.hintcheck_programs.specs.Programs.{HasGoodFamily, HasLeastFamily, IsCause, IsCutInto, IsRefusal, Subject, no_family}
use Rattle.hintcheck_report.specs.Places.{program_at, reported_at}
use Rattle.hintcheck_programs.specs.ProgramVerdicts.{IfRefused, IsAccepted, IsFilledIn, IsForCertificate, IsSubjectOf}
use Rattle.hintcheck_programs.specs.Representation.Judges.{IsFoundHere}
use Rattle.tt_setting.specs.declared.name.Name.{Name}
use Rattle.hintcheck_programs.specs.declared.program.Search.{Search}
use Rattle.hintcheck_report.specs.declared.refused.Refused.{Refused as AnyRefused}

-- what holds of a setting and its functions holds of a subject that has them
pub of_subject : (P : Setting → List (ℕ × ℕ) → Type 0) (x : Subject) (is : List Instruction) (s : Setting) (fs : List (ℕ × ℕ)) → x.setting is ≡ s → x.functions ≡ fs
    → P s fs → P (x.setting is) x.functions
of_subject P x is s fs es ef h =
    let Q : List (ℕ × ℕ) → Type 0 = λ f. P (x.setting is) f in
    let R : Setting → Type 0 = λ t. P t fs in
    subst Q (sym ef) (subst R (sym es) h)

-- a program has one list of instructions
pub known_cut : (x : Subject) (is js : List Instruction) → IsCutInto x is → IsCutInto x js → js ≡ is
known_cut x is js c d = one_cut x.bytes js is d.is_cut c.is_cut

-- the good family of a program whose instructions are known
pub known_good : (x : Subject) (is : List Instruction) → IsCutInto x is → HasGoodFamily x
    → (family : Place → Option State) × IsGoodFamily (x.setting is) x.functions family
known_good x is c g =
    let P : List Instruction → Type 0 = λ t. IsGoodFamily (x.setting t) x.functions g.family in
    (g.family, subst P (known_cut x is g.instructions c g.cut) g.good)

-- and its least family
pub known_least : (x : Subject) (is : List Instruction) → IsCutInto x is → HasLeastFamily x
    → (family : Place → Option State) × IsGoodFamily (x.setting is) x.functions family × IsLeast (x.setting is) x.functions family
known_least x is c l =
    let P : List Instruction → Type 0 = λ t. IsGoodFamily (x.setting t) x.functions l.family in
    let Q : List Instruction → Type 0 = λ t. IsLeast (x.setting t) x.functions l.family in
    let e = known_cut x is l.instructions c l.cut in
    (l.family, subst P e l.good, subst Q e l.least)

-- what has the least family has a good one
pub good_of_least : (x : Subject) → HasLeastFamily x → HasGoodFamily x
good_of_least x l = record { instructions = l.instructions; cut = l.cut; family = l.family; good = l.good }

-- what is reported of a refusal
pub is_refusal : (x : Subject) (at : Place) (spot : Spot) (offset : ℕ) (r : Reason) → spot ≡ spot_of at.0 → offset ≡ at.1
    → IsCause x at r → (HasLeastFamily x → ⊥) → ((r ≡ reason.NeverEnds) ⊎ (HasGoodFamily x → ⊥)) → IsRefusal x (reported_at x.name spot offset r)
is_refusal x at spot offset r es eo cause no_least no_good = record {
  program = refl;
  at = at;
  spot = ap (program_at x.name) es;
  offset = eo;
  cause = cause;
  no_least = no_least;
  no_good = no_good;
}

-- the refusal of a program that has no good family
pub without_good : (x : Subject) (at : Place) (spot : Spot) (offset : ℕ) (r : Reason) → spot ≡ spot_of at.0 → offset ≡ at.1
    → IsCause x at r → (HasGoodFamily x → ⊥) → IsRefusal x (reported_at x.name spot offset r)
without_good x at spot offset r es eo cause none = is_refusal x at spot offset r es eo cause (λ l. none (good_of_least x l)) (inr none)

-- bytes that aren't cut

pub not_cut : (x : Subject) (offset : ℕ) → CannotBeCut x.bytes offset → HasGoodFamily x → ⊥
not_cut x offset cannot g = cannot.uncut g.instructions g.cut.is_cut

pub not_structured : (x : Subject) (is : List Instruction) (offset : ℕ) → IsCut x.bytes is → IsFault is offset → HasGoodFamily x → ⊥
not_structured x is offset cut fault g = no_fault x.bytes is g.instructions offset cut g.cut.is_cut g.cut.structured fault

-- programs that never end

-- what a program's flow asks of its setting and of its functions
pub record HasFlow (s : Setting) (functions : List (ℕ × ℕ)) : Type 0 where
  pub range : IsSettingInRange s
  pub short : AreProgramsShort s
  pub ascends : Ascends functions
  pub fits : FunctionsFit s functions

-- where a program has a good family, and is refused for never ending, a family lacks the end
pub lacks_end : (s : Setting) (fs : List (ℕ × ℕ)) → HasFlow s fs → (p : Place) (r : Reason) → IsJustified s fs p r → r ≡ reason.NeverEnds
    → (family : Place → Option State) → IsGood state_order (flow_of s fs) family → (other : Place → Option State) × LacksEnd s fs other
lacks_end s fs h p r (too_long long) e family good = absurd (cc)
lacks_end s fs h p r (refused q a r' d refuses) e family good =
    absurd (none_where_refused state_order (flow_of s fs) (height_of s) state_laws (state_flow_laws s h.range h.short fs h.ascends h.fits) q a r' d refuses family good)
lacks_end s fs h p r (apart q a b da db differ) e family good = absurd (cc)
lacks_end s fs h p r (too_many q enters) e family good = absurd (cc)
lacks_end s fs h p r (never_ends other lacks) e family good = (other, lacks)

-- the end that a family has, each family above it has
ends_above : (s : Setting) (k : Kind) (family other : Place → Option State) → IsBelowFamily state_order family other → EndsWell s k family → EndsWell s k other
ends_above s FontProgram family other below (a, at) = let (u, at', under) = below ([], size s.main) a at in (u, at')
ends_above s CvtProgram family other below (a, at) = let (u, at', under) = below ([], size s.main) a at in (u, at')
ends_above s (GlyphProgram points contours) family other below h = tt

-- the least family of a program comes to the end, if any does
pub least_ends : (s : Setting) (fs : List (ℕ × ℕ)) → HasFlow s fs → (p : Place) (r : Reason) → IsJustified s fs p r → r ≡ reason.NeverEnds
    → (family : Place → Option State) → IsGoodFamily s fs family → IsLeast s fs family → ⊥
least_ends s fs h p r justified e family good least =
    let (other, lacks) = lacks_end s fs h p r justified e family good.good in
    lacks.endless (ends_above s s.kind family other (least.below other lacks.good) good.ends)

-- a glyph program isn't asked for its end
pub glyph_ends : (s : Setting) (fs : List (ℕ × ℕ)) (points contours : ℕ) → s.kind ≡ GlyphProgram points contours → HasFlow s fs → (p : Place) (r : Reason)
    → IsJustified s fs p r → r ≡ reason.NeverEnds → (family : Place → Option State) → IsGoodFamily s fs family → ⊥
glyph_ends s fs points contours k h p r justified e family good =
    let (other, lacks) = lacks_end s fs h p r justified e family good.good in
    let P : Kind → Type 0 = λ t. EndsWell s t other in
    lacks.endless (subst P (sym k) tt)

-- what the finder tells of a refusal, besides its cause
abbrev pub IsNoFamily : Setting → List (ℕ × ℕ) → Reason → Type 0
IsNoFamily s fs r = (r ≡ reason.NeverEnds) ⊎ NoneIsGood s fs

none_known : (x : Subject) (is : List Instruction) → IsCutInto x is → NoneIsGood (x.setting is) x.functions → HasGoodFamily x → ⊥
none_known x is c none g = let (family, good) = known_good x is c g in none family good.short good.good good.few

-- a program for which no family is found has no least one
pub found_no_least : (x : Subject) (is : List Instruction) → IsCutInto x is → HasFlow (x.setting is) x.functions → (p : Place) (r : Reason)
    → IsJustified (x.setting is) x.functions p r → IsNoFamily (x.setting is) x.functions r → HasLeastFamily x → ⊥
found_no_least x is c h p r justified (inl e) l =
    let (family, good, least) = known_least x is c l in least_ends (x.setting is) x.functions h p r justified e family good least
found_no_least x is c h p r justified (inr none) l = none_known x is c none (good_of_least x l)

-- unless it never ends, it has no good one
pub found_no_good : (x : Subject) (is : List Instruction) → IsCutInto x is → (r : Reason) → IsNoFamily (x.setting is) x.functions r → (r ≡ reason.NeverEnds) ⊎ (HasGoodFamily x → ⊥)
found_no_good x is c r (inl e) = inl e
found_no_good x is c r (inr none) = inr (none_known x is c none)

-- and the same for a glyph program in any case
pub glyph_no_good : (x : Subject) (is : List Instruction) (points contours : ℕ) → (x.setting is).kind ≡ GlyphProgram points contours → IsCutInto x is
    → HasFlow (x.setting is) x.functions → (p : Place) (r : Reason) → IsJustified (x.setting is) x.functions p r → IsNoFamily (x.setting is) x.functions r → HasGoodFamily x → ⊥
glyph_no_good x is points contours k c h p r justified (inl e) g =
    let (family, good) = known_good x is c g in glyph_ends (x.setting is) x.functions points contours k h p r justified e family good
glyph_no_good x is points contours k c h p r justified (inr none) g = none_known x is c none g

-- the answers

-- a family that is found is accepted
pub accepted_found : (x : Subject) (is : List Instruction) (s : Setting) (fs : List (ℕ × ℕ)) (updates : ℕ) (found : Contents) → IsCutInto x is → x.setting is ≡ s
    → x.functions ≡ fs → HasFlow s fs → HasLeastFilling s fs updates (family_of found) → IsAccepted x is (family_of found)
accepted_found x is s fs updates found c es ef h least =
    record {
      cut = c;
      filling = least.filling;
      fills = of_subject (λ t f. IsFilling t (family_of found) least.filling) x is s fs es ef least.fills;
      good = of_subject (λ t f. IsGoodFamily t f least.filling) x is s fs es ef least.good;
      least = of_subject (λ t f. IsLeast t f least.filling) x is s fs es ef least.least;
      within = of_subject (λ t f. (p : Place) (b : State) → least.filling p ≡ Some b → FitsLimits t b) x is s fs es ef least.within;
      safe = of_subject (λ t f. IsSafe t f least.filling) x is s fs es ef (good_is_safe s h.range h.short fs h.ascends least.filling least.good.good);
    }

-- and the same for all that is found with it
pub found_for : (x : Subject) (is : List Instruction) (s : Setting) (fs : List (ℕ × ℕ)) (found : Found) → x.setting is ≡ s → x.functions ≡ fs
    → IsAccepted x is (family_of found.certificate) → HasLeastFilling s fs found.updates (family_of found.certificate) → AreLeastContexts s fs found.certificate.contexts
    → NeedsAll s fs (family_of found.certificate) → IsFoundFor x is found
found_for x is s fs found es ef accepted least contexts needed = record {
  listing = (accepted, of_subject (λ t f. NeedsAll t f (family_of found.certificate)) x is s fs es ef needed);
  filling = of_subject (λ t f. HasLeastFilling t f found.updates (family_of found.certificate)) x is s fs es ef least;
  contexts = of_subject (λ t f. AreLeastContexts t f found.certificate.contexts) x is s fs es ef contexts;
}

-- what the finder keeps is found for the program
pub found_here : (finder : Finder) (search : Search) (x : Subject) (s : AnySetting) (updates : ℕ) → IsSubjectOf x s → HasFlow (setting_of s) s.start.now → HasFound finder updates
    → IfSome finder.found (IsLeastFor s) → IfSome finder.found (HasLeastContexts s) → (IsForCertificate search → IfSome finder.found (HasOnlyNeeded s))
    → IsFoundHere finder search x s.main.now
found_here finder search x s updates subject h kept least contexts needed =
    let is = s.main.now in
    let t = setting_of s in
    let fs = s.start.now in
    let found = kept.found in
    let L : Option Found → Type 0 = λ o. IfSome o (IsLeastFor s) in
    let C : Option Found → Type 0 = λ o. IfSome o (HasLeastContexts s) in
    let N : Option Found → Type 0 = λ o. IfSome o (HasOnlyNeeded s) in
    let filling : IsLeastFor s found = subst L kept.is_kept least in
    let accepted = accepted_found x is t fs found.updates found.certificate subject.cut subject.setting subject.functions h filling in
    record {
      found = found;
      is_kept = kept.is_kept;
      accepted = accepted;
      for_certificate = λ certificate.
          found_for x is t fs found subject.setting subject.functions accepted filling (subst C kept.is_kept contexts) (subst N kept.is_kept (needed certificate));
    }

-- the family that the finder lends has a good filling
pub lent_filled : (kept : Option Found) (lent : Contents) (s : AnySetting) → IfSome kept (IsLeastFor s) → option_map (λ (y : Found). y.certificate) kept ≡ Some lent → IsFilledIn s lent
lent_filled None lent s least is_lent = absurd cc
lent_filled (Some found) lent s least is_lent =
    let same : found.certificate ≡ lent = cc in
    let F : Contents → Type 0 = λ v. IsFilledIn s v in
    subst F same (least.filling, least.fills, least.good)

-- so the check refuses nothing
pub only_memory : {T : Type 0} (r : Result T Refusal) (called : Name) (Is : AnyRefused → Type 0) → IfErr r IsExhausted → IfErr r (λ f. IfRefused called f Is)
only_memory (Ok x) called Is h = tt
only_memory (Err (fault.Exhausted e)) called Is h = tt
only_memory (Err (fault.Refused spot offset failed)) called Is h = absurd h

-- what holds of the finder holds whatever the check says
pub holds_anyway : {T E P : Type 0} (r : Result T E) → P → OnOk r P
holds_anyway (Ok x) h = h
holds_anyway (Err e) h = tt

-- a refusal that is reported
pub reported : (called : Name) (f : Refusal) (spot : Spot) (offset : ℕ) (r : Reason) (Is : AnyRefused → Type 0) → f ≡ fault.Refused spot offset (Only r) → Is (reported_at called spot offset r)
    → IfRefused called f Is
reported called f spot offset r Is e h = let P : Refusal → Type 0 = λ t. IfRefused called t Is in subst P (sym e) h

-- a fault that is passed on
pub passed_on : {T : Type 0} (r : Result T Refusal) (f : Refusal) (P : Refusal → Type 0) → IsErrAnd r (λ x. x ≡ f) → P f → IfErr r P
passed_on (Ok x) f P is h = absurd is
passed_on (Err x) f P is h = subst P (sym is) h

-- what the finder tells, in a subject's words

abbrev pub IsUnfound : Setting → List (ℕ × ℕ) → Refusal → Type 0
IsUnfound s fs f = IsExhausted f ⊎ (IsNeverEnding f ⊎ NoneIsGood s fs)

no_family_at : (s : Setting) (fs : List (ℕ × ℕ)) (spot : Spot) (offset : ℕ) (failed : Failed) → IsUnfound s fs (fault.Refused spot offset failed) → IsNoFamily s fs (reason_of failed)
no_family_at s fs spot offset failed (inl h) = absurd h
no_family_at s fs spot offset failed (inr none) = none

pub found_refusal : (x : Subject) (is : List Instruction) (s : Setting) (fs : List (ℕ × ℕ)) (f : Refusal) → IsCutInto x is → x.setting is ≡ s → x.functions ≡ fs → HasFlow s fs
    → NamesPlace (IsJustified s fs) f → IsUnfound s fs f → IfRefused x.name f (IsRefusal x)
found_refusal x is s fs (fault.Exhausted e) c es ef h names unfound = tt
found_refusal x is s fs (fault.Refused spot offset failed) c es ef h (p, at_spot, at_offset, justified) unfound =
    let r = reason_of failed in
    let h' = of_subject HasFlow x is s fs es ef h in
    let justified' = of_subject (λ t f. IsJustified t f p r) x is s fs es ef justified in
    let none' = of_subject (λ t f. IsNoFamily t f r) x is s fs es ef (no_family_at s fs spot offset failed unfound) in
    is_refusal x p spot offset r at_spot at_offset (no_family is p r c justified') (found_no_least x is c h' p r justified' none') (found_no_good x is c r none')

pub glyph_without_good : (x : Subject) (is : List Instruction) (s : Setting) (fs : List (ℕ × ℕ)) (points contours : ℕ) (f : Refusal) → IsCutInto x is → x.setting is ≡ s
    → x.functions ≡ fs → s.kind ≡ GlyphProgram points contours → HasFlow s fs → NamesPlace (IsJustified s fs) f → IsUnfound s fs f → IfRefused x.name f (λ _. HasGoodFamily x → ⊥)
glyph_without_good x is s fs points contours (fault.Exhausted e) c es ef k h names unfound = tt
glyph_without_good x is s fs points contours (fault.Refused spot offset failed) c es ef k h (p, at_spot, at_offset, justified) unfound =
    let r = reason_of failed in
    glyph_no_good x is points contours (ap (λ (t : Setting). t.kind) es ∙ k) c (of_subject HasFlow x is s fs es ef h) p r
    (of_subject (λ t f. IsJustified t f p r) x is s fs es ef justified) (of_subject (λ t f. IsNoFamily t f r) x is s fs es ef (no_family_at s fs spot offset failed unfound))
