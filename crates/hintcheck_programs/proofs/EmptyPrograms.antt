-- The least family of a glyph program without instructions: only the start.
use Rattle.std.proofs.Common.{◌≡◌, ℕ, zero, suc, List, [], ◌∷◌, Option, Some, None, true, false, length, refl, sym, ◌∙◌, ap, subst, arith}
use Rattle.tt_code.specs.Fonts.{Font, glyph_setting}
use Rattle.tt_code.specs.Cut.{size}
use Rattle.tt_code.specs.Grammar.{none as empty}
use Rattle.tt_code.specs.Settings.{CvtProgram, FontProgram, GlyphProgram, Kind, Setting as MachineSetting}
use Rattle.tt_code.proofs.CutLemmas.{one_cut, size_is}
use Rattle.tt_setting.specs.Settings.{programs_of, setting_of}
use Rattle.tt_setting.specs.declared.setting.Setting.{Setting}
use Rattle.std.proofs.lemmas.List.{nil_from_length}
use Rattle.tt_abs.specs.declared.state.State.{State}
use Rattle.tt_setting.specs.Entries.{Ascends}
use Rattle.tt_abs.specs.Families.{CoversAt, started}
use Rattle.tt_abs.specs.StateFlow.{GivesState, Place, RefusesState}
use Rattle.tt_abs.specs.States.{start_of, state_laws, state_order}
use Rattle.tt_abs.proofs.FlowOfStates.{start_range}
use Rattle.tt_family.specs.Contents.{HasContext}
use Rattle.tt_family.specs.GoodFamilies.{IsGoodFamily, IsStoredWithin}
use Rattle.tt_find.specs.Found.{IsDerived, IsLeast}
use Rattle.hintcheck_programs.specs.Programs.{HasLeastFamily, IsCutInto, Subject}
use Rattle.hintcheck_programs.specs.Representation.FontVerdicts.{ComesToEnd}

-- the start at its place, and nothing elsewhere
abbrev start_alone : List (ℕ × ℕ) → Place → Option State
start_alone functions ([], zero) = Some (start_of functions)
start_alone functions ([], suc offset) = None
start_alone functions (frame ∷ frames, offset) = None

-- what holds of the start holds of each of its states
each_is_start : (functions : List (ℕ × ℕ)) (P : Place → State → Type 0) → P ([], 0) (start_of functions) → (p : Place) (a : State) → start_alone functions p ≡ Some a → P p a
each_is_start functions P h ([], zero) a at = let same : start_of functions ≡ a = cc in subst (P ([], 0)) same h
each_is_start functions P h ([], suc offset) a at = absurd (cc)
each_is_start functions P h (frame ∷ frames, offset) a at = absurd (cc)

module _ (font : Font) (points contours : ℕ) (functions : List (ℕ × ℕ)) where
  -- at the start the program is at its end, where nothing is refused and nothing follows
  start_is_good : Ascends functions → IsGoodFamily (glyph_setting font points contours []) functions (start_alone functions)
  start_is_good ascends =
      let s = glyph_setting font points contours [] in
      record {
        short = omega arith;
        good = record {
          in_range = each_is_start functions (λ p a. state_order.InRange a) (start_range functions ascends);
          start = (start_of functions, refl, state_laws.reflexive (start_of functions));
          safe = λ p a r at. each_is_start functions (λ q b. RefusesState s q b r → ⊥) (λ x. let ends : true ≡ false = x.running in cc) p a at;
          closed = λ p a q t at. each_is_start functions (λ o b. GivesState s o b q t → CoversAt state_order (start_alone functions) q t)
              (λ g. let ends : true ≡ false = g.running in absurd (cc)) p a at;
        };
        ends = tt;
        storage = each_is_start functions (λ p a. IsStoredWithin s a) (λ i z e. absurd (cc));
        few = ([] ∷ [], omega arith, each_is_start functions (λ p a. HasContext ([] ∷ []) p.0) (omega arith));
      }

  -- it is derived, and each good family covers it
  start_is_least : IsLeast (glyph_setting font points contours []) functions (start_alone functions)
  start_is_least = record {
    derived = each_is_start functions (IsDerived (glyph_setting font points contours []) functions) started;
    below = λ other good. each_is_start functions (CoversAt state_order other) good.start;
  }

-- so a glyph program without instructions has its least family
pub least_without_instructions : (x : Subject) (s : Setting) → IsCutInto x s.main.now → x.setting s.main.now ≡ setting_of s → Ascends x.functions → size s.main.now ≡ 0
    → (ComesToEnd (setting_of s).kind → ⊥) → HasLeastFamily x
least_without_instructions x s cut is ascends none glyph =
    let bytes : x.bytes ≡ [] = nil_from_length x.bytes (ap length (sym cut.is_cut.joined) ∙ sym (size_is s.main.now) ∙ none) in
    let here : IsCutInto x [] = record { is_cut = record { joined = sym bytes; each = tt }; structured = empty } in
    let main : s.main.now ≡ [] = one_cut x.bytes s.main.now [] cut.is_cut here.is_cut in
    let (points, contours, kind) = glyph_kind (setting_of s).kind glyph in
    let same : x.setting [] ≡ glyph_setting (programs_of s) points contours [] =
    sym (ap x.setting main) ∙ is ∙ (λ i. record { limits = s.limits; cvt = s.cvt; kind = kind i; main = main i; font = s.font.now; prep = s.prep.now }) in
    let G : MachineSetting → Type 0 = λ t. IsGoodFamily t x.functions (start_alone x.functions) in
    let L : MachineSetting → Type 0 = λ t. IsLeast t x.functions (start_alone x.functions) in
    record {
      instructions = [];
      cut = here;
      family = start_alone x.functions;
      good = subst G (sym same) (start_is_good (programs_of s) points contours x.functions ascends);
      least = subst L (sym same) (start_is_least (programs_of s) points contours x.functions);
    }
  where
    glyph_kind : (k : Kind) → (ComesToEnd k → ⊥) → (points : ℕ) × (contours : ℕ) × (k ≡ GlyphProgram points contours)
    glyph_kind FontProgram never = absurd (never tt)
    glyph_kind CvtProgram never = absurd (never tt)
    glyph_kind (GlyphProgram points contours) never = (points, contours, refl)
