-- The functions that a family's state lists at a program's end are defined wherever a run ends.
use Rattle.std.proofs.Common.{◌≡◌, ℕ, List, [], ◌∷◌, Option, Some, true, sym, inl, inr, ◌∙◌, ap, subst}
use Rattle.std.proofs.lemmas.Bool.{eq-eqb, eqb-true}
use Rattle.tt_code.specs.Cut.{size}
use Rattle.tt_code.specs.Fonts.{Leaves}
use Rattle.tt_code.specs.Settings.{Setting, is_main_end}
use Rattle.tt_code.specs.States.{Machine}
use Rattle.tt_code.specs.declared.machine.Frame.{Frame}
use Rattle.tt_abs.specs.declared.state.State.{State}
use Rattle.tt_setting.specs.Functions.{CoversFunctions}
use Rattle.tt_abs.specs.Soundness.{IsSafe}
use Rattle.tt_setting.specs.Functions.{StartsWith}
use Rattle.tt_abs.specs.StateFlow.{Place}
use Rattle.tt_abs.proofs.Soundness.{good_is_safe}
use Rattle.tt_family.specs.Ends.{AreDefinedAtEnd, AreDefinedWhereFilled, FillingsKeepEnd}
use Rattle.tt_family.proofs.FillingLaws.{some_or_none}

-- machines that start so have these functions
abbrev pub AllStartWith : (Machine → Type 0) → List (ℕ × ℕ) → Type 0
AllStartWith Starts functions = (m : Machine) → Starts m → StartsWith functions m

-- the place of a machine at the main program's end
end_place : (s : Setting) (fs : List Frame) (o : ℕ) → is_main_end s fs o ≡ true → ◌≡◌ {A = Place} (fs, o) ([], size s.main)
end_place s [] o e = λ i. ([], eqb-true o (size s.main) e i)
end_place s (f ∷ fs) o e = absurd (cc)

-- the functions that the family's state at the end lists are those of every run that ends
pub end_functions_hold : (s : Setting) (functions : List (ℕ × ℕ)) (family : Place → Option State) (Starts : Machine → Type 0)
    → IsSafe s functions family → AllStartWith Starts functions → (end : State) → family ([], size s.main) ≡ Some end
    → (left : List (ℕ × ℕ)) → Leaves s Starts left → CoversFunctions end.functions left
end_functions_hold s functions family Starts safe starts end at left l =
    let (u, here, covers) = (safe l.first l.last (starts l.first l.starts) l.runs).0 in
    let place : ◌≡◌ {A = Place} (l.last.frames, l.last.offset) ([], size s.main) = end_place s l.last.frames l.last.offset l.ends in
    let same : Some u ≡ Some end = sym here ∙ ap family place ∙ at in
    let e : u ≡ end = cc in
    let C : State → Type 0 = λ t. CoversFunctions t.functions l.last.functions in
    let D : List (ℕ × ℕ) → Type 0 = λ fs. CoversFunctions end.functions fs in
    subst D l.left (subst C e covers.functions)

-- the same for a good family
pub defined_at_end : (family : Place → Option State) (length : ℕ) (functions : List (ℕ × ℕ)) (end : State) → family ([], length) ≡ Some end → functions ≡ end.functions
    → AreDefinedAtEnd family length functions
defined_at_end family length functions end at listed s start setting short ascends good long left leaves =
    let there : family ([], size s.main) ≡ Some end = ap (λ (o : ℕ). family ([], o)) long ∙ at in
    let C : List (ℕ × ℕ) → Type 0 = λ fs. CoversFunctions fs left in
    subst C (sym listed)
    (end_functions_hold s start family (StartsWith start) (good_is_safe s setting short start ascends family good) (λ m h. h) end there left leaves)

-- the same for a family with a good filling, which has the family's state at the end
pub defined_where_filled : (family : Place → Option State) (length : ℕ) (functions : List (ℕ × ℕ)) (end : State) → family ([], length) ≡ Some end → functions ≡ end.functions
    → AreDefinedWhereFilled family length functions
defined_where_filled family length functions end at listed s start setting short ascends (filling, fills, good) long left leaves =
    defined_at_end filling length functions end (fills.keeps ([], length) end at) listed s start setting short ascends good.good long left leaves

-- a filling adds no state at the end
pub fillings_keep_end : (family : Place → Option State) (length : ℕ) → FillingsKeepEnd family length
fillings_keep_end family length s filling fills long = elim (some_or_none (family ([], length))) [
  | inl (a, at) ↦ fills.keeps ([], length) a at ∙ sym at
  | inr none ↦ elim (some_or_none (filling ([], length))) [
    | inl (t, added) ↦
        let ended : is_main_end s [] length ≡ true = eq-eqb length (size s.main) (sym long) in
        let inside = (fills.added ([], length) t added none).just_before.inside in
        absurd (cc)
    | inr gone ↦ gone ∙ sym none
  ]
]
