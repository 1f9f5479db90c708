-- What is known at the ends of a font's programs, and what the next program starts with.
use Rattle.std.specs.Prelude.{IfSome, is_some}
use Rattle.std.proofs.Common.{◌≡◌, ℕ, List, [], Option, Some, None, refl, sym, ◌∙◌, ap, subst, true, Bor}
use Rattle.tt_code.specs.Cut.{Instruction, size}
use Rattle.tt_code.specs.Settings.{Kind, FontProgram, CvtProgram, GlyphProgram, Setting as MachineSetting}
use Rattle.tt_abs.specs.declared.state.State.{State}
use Rattle.tt_setting.specs.Entries.{Ascends}
use Rattle.tt_abs.specs.StateFlow.{FunctionsFit, Place}
use Rattle.tt_family.specs.Fillings.{IsFilling}
use Rattle.tt_family.specs.GoodFamilies.{EndsWell, HasEnd, IsGoodFamily}
use Rattle.tt_family.proofs.FillingLaws.{ends_listed}
use Rattle.tt_family.specs.Contents.{family_of}
use Rattle.tt_find.specs.declared.finder.Found.{Found}
use Rattle.hintcheck_programs.specs.FoundFamilies.{IsFoundFor, IsFoundToEnd}
use Rattle.hintcheck_programs.specs.Representation.FontVerdicts.{ComesToEnd, IsKnownAtEnd}
use Rattle.hintcheck_programs.specs.ProgramVerdicts.{IsAccepted}
use Rattle.hintcheck_programs.specs.Programs.{HasLeastFamily, Subject}

-- the functions of a good family's states ascend by number
pub functions_rise : (s : MachineSetting) (functions : List (ℕ × ℕ)) (family : Place → Option State) (p : Place) (a : State) → IsGoodFamily s functions family → family p ≡ Some a → Ascends a.functions
functions_rise s functions family p a good at = (good.good.in_range p a at).1.1.0.ascends

-- what an accepted program knows at its end
pub known_at_end : (x : Subject) (is : List Instruction) (family : Place → Option State) (end : State) (functions : List (ℕ × ℕ)) → IsAccepted x is family
    → family ([], size is) ≡ Some end → functions ≡ end.functions → IsKnownAtEnd x is functions
known_at_end x is family end functions a at e =
    let kept : a.filling ([], size is) ≡ Some end = a.fills.keeps ([], size is) end at in
    let R : List (ℕ × ℕ) → Type 0 = λ fs. Ascends fs in
    let F : List (ℕ × ℕ) → Type 0 = λ fs. FunctionsFit (x.setting is) fs in
    record {
      ends = record { cut = a.cut; family = a.filling; good = a.good; least = a.least; end = end; at_end = kept; functions_are = sym e };
      ascends = subst R (sym e) (functions_rise (x.setting is) x.functions a.filling ([], size is) end a.good kept);
      fits = subst F (sym e) (a.within ([], size is) end kept).functions;
    }

-- an accepted font program or CVT program has a state at its end

comes_there : (s : MachineSetting) (k : Kind) (family : Place → Option State) → EndsWell s k family → ComesToEnd k → HasEnd s family
comes_there s FontProgram family ends comes = ends
comes_there s CvtProgram family ends comes = ends
comes_there s (GlyphProgram points contours) family ends comes = absurd comes

pub listed_at_end : (s : MachineSetting) (functions : List (ℕ × ℕ)) (family filling : Place → Option State) (n : ℕ) (found : Option (Bor (List (ℕ × ℕ)))) → IsFilling s family filling
    → IsGoodFamily s functions filling → ComesToEnd s.kind → n ≡ size s.main → (found ≡ None → family ([], n) ≡ None) → is_some found ≡ true
listed_at_end s functions family filling n found fills good comes long none =
    let ends = ends_listed s family filling fills s.kind good.ends in
    let (end, at) = comes_there s s.kind family ends comes in
    go end (ap (λ (k : ℕ). family ([], k)) long ∙ at) found none
  where
    go : (end : State) → family ([], n) ≡ Some end → (o : Option (Bor (List (ℕ × ℕ)))) → (o ≡ None → family ([], n) ≡ None) → is_some o ≡ true
    go end at None none = absurd (let no_such : None ≡ Some end = sym (none refl) ∙ at in cc)
    go end at (Some fs) none = refl

pub found_at_end : (x : Subject) (is : List Instruction) (family : Place → Option State) (s : MachineSetting) (n : ℕ) (found : Option (Bor (List (ℕ × ℕ)))) → IsAccepted x is family → x.setting is ≡ s
    → ComesToEnd s.kind → n ≡ size s.main → (found ≡ None → family ([], n) ≡ None) → is_some found ≡ true
found_at_end x is family s n found a same comes long none =
    let F : MachineSetting → Type 0 = λ t. IsFilling t family a.filling in
    let G : MachineSetting → Type 0 = λ t. IsGoodFamily t x.functions a.filling in
    listed_at_end s x.functions family a.filling n found (subst F same a.fills) (subst G same a.good) comes long none

-- an accepted program has its least family
pub least_of : (x : Subject) (is : List Instruction) (family : Place → Option State) → IsAccepted x is family → HasLeastFamily x
least_of x is family a = record { instructions = is; cut = a.cut; family = a.filling; good = a.good; least = a.least }

-- the functions of an accepted program, as the code reads and copies them
pub known_of_accepted : (x : Subject) (is : List Instruction) (family : Place → Option State) (n : ℕ) (found : Option (Bor (List (ℕ × ℕ)))) (functions : Bor (List (ℕ × ℕ))) (copy : List (ℕ × ℕ))
    → IsAccepted x is family → n ≡ size is → IfSome found (λ fs. (end : State) × (family ([], n) ≡ Some end) × (fs.now ≡ end.functions)) → found ≡ Some functions
    → copy ≡ functions.now → IsKnownAtEnd x is copy
known_of_accepted x is family n found functions copy a size_is some e copied =
    let S : Option (Bor (List (ℕ × ℕ))) → Type 0 = λ o. IfSome o (λ fs. (end : State) × (family ([], n) ≡ Some end) × (fs.now ≡ end.functions)) in
    let (end, at, same) = subst S e some in
    known_at_end x is family end copy a (ap (λ (k : ℕ). family ([], k)) (sym size_is) ∙ at) (copied ∙ same)

-- the same for what is found with it
pub found_to_end : (x : Subject) (is : List Instruction) (found : Found) (n : ℕ) (o : Option (Bor (List (ℕ × ℕ)))) (functions : Bor (List (ℕ × ℕ))) (copy : List (ℕ × ℕ))
    → IsFoundFor x is found → n ≡ size is → IfSome o (λ fs. (end : State) × (family_of found.certificate ([], n) ≡ Some end) × (fs.now ≡ end.functions)) → o ≡ Some functions
    → copy ≡ functions.now → IsFoundToEnd x is found copy
found_to_end x is found n o functions copy is_found size_is some e copied =
    let family = family_of found.certificate in
    let S : Option (Bor (List (ℕ × ℕ))) → Type 0 = λ q. IfSome q (λ fs. (end : State) × (family ([], n) ≡ Some end) × (fs.now ≡ end.functions)) in
    let (end, at, same) = subst S e some in
    record { is_found = is_found; end = end; at_end = ap (λ (k : ℕ). family ([], k)) (sym size_is) ∙ at; functions_are = sym (copied ∙ same) }

-- what is found knows its functions at the program's end
pub known_of_found : (x : Subject) (is : List Instruction) (found : Found) (functions : List (ℕ × ℕ)) → IsFoundToEnd x is found functions → IsKnownAtEnd x is functions
known_of_found x is found functions ends =
    known_at_end x is (family_of found.certificate) ends.end functions ends.is_found.listing.0 ends.at_end (sym ends.functions_are)
