-- A verdict that refuses no program of a font makes it safe.
use Rattle.std.specs.Prelude.{◌^◌, slice_get}
use Rattle.std.specs.List.{AllByRecursion, concat}
use Rattle.std.proofs.Common.{◌≡◌, ℕ, zero, suc, ◌+◌, ◌<◌, ◌≤◌, List, [], ◌∷◌, ◌++◌, Option, Some, length, refl, sym, ◌∙◌, ap, subst, arith}
use Rattle.tt_code.specs.Cut.{Instruction, IsCut, size}
use Rattle.tt_code.specs.Fonts.{Font, font_setting, cvt_setting, glyph_setting, StartsFontProgram, StartsCvtProgram, StartsGlyphProgram}
use Rattle.tt_code.specs.Settings.{Setting}
use Rattle.tt_code.proofs.CutLemmas.{size_is}
use Rattle.tt_abs.specs.declared.state.State.{State}
use Rattle.tt_setting.specs.Entries.{Ascends}
use Rattle.tt_setting.specs.Ranges.{AreBytes}
use Rattle.tt_abs.specs.Soundness.{IsSafe}
use Rattle.tt_abs.specs.StateFlow.{Place}
use Rattle.tt_abs.proofs.Soundness.{good_is_safe}
use Rattle.tt_family.specs.GoodFamilies.{IsGoodFamily}
use Rattle.tt_font.proofs.RangeLemmas.{small_number}
use Rattle.tt_font.specs.Reading.{FontData, GlyphData}
use Rattle.hintcheck_programs.specs.FontPrograms.{AreFewBytes, AreRefused, IsFontInRange, IsSafeFont, IsSafeGlyph, IsVerdict, accepted, no_glyph_left, cvt_refused, cvt_subject, font_of, font_refused, font_subject, glyph_subject, none_ended, one_glyph_font, refused}
use Rattle.hintcheck_programs.specs.GoodPrograms.{EndsGood, HasGoodFamilies}
use Rattle.hintcheck_programs.specs.Programs.{EndsWith, HasGoodFamily, HasLeastFamily, Subject}
use Rattle.hintcheck_programs.specs.Verdicts.{Judgement}
use Rattle.hintcheck_report.specs.declared.refused.Refused.{Refused}
use Rattle.hintcheck_programs.proofs.FontEnds.{functions_rise}
use Rattle.tt_family.proofs.EndFunctions.{AllStartWith}
use Rattle.hintcheck_programs.proofs.FontRuns.{cvt_starts, font_starts, glyph_starts, never_faults_from}

-- programs of few bytes, cut

record AreInRange (is : List Instruction) : Type 0 where
  bytes : AllByRecursion AreBytes is
  short : size is < 2 ^ 31

front : (xs ys : List ℕ) → AreBytes (xs ++ ys) → AreBytes xs
front [] ys h = tt
front (x ∷ xs) ys h = (h.0, front xs ys h.1)

behind : (xs ys : List ℕ) → AreBytes (xs ++ ys) → AreBytes ys
behind [] ys h = h
behind (x ∷ xs) ys h = behind xs ys h.1

each_of_bytes : (is : List Instruction) → AreBytes (concat is) → AllByRecursion AreBytes is
each_of_bytes [] h = tt
each_of_bytes (i ∷ is) h = (front i (concat is) h, each_of_bytes is (behind i (concat is) h))

cut_in_range : (xs : List ℕ) (is : List Instruction) → AreFewBytes xs → IsCut xs is → AreInRange is
cut_in_range xs is h cut = record {
  bytes = each_of_bytes is (subst AreBytes (sym cut.joined) h.bytes);
  short = let e : size is ≡ length xs = size_is is ∙ ap length cut.joined in let few = h.few in omega arith;
}

-- a good family is safe

family_is_safe : (s : Setting) (functions : List (ℕ × ℕ)) (family : Place → Option State) → s.limits.stack < 2 ^ 16 → AreInRange s.main → AreInRange s.font → AreInRange s.prep
    → Ascends functions → IsGoodFamily s functions family → IsSafe s functions family
family_is_safe s functions family depth main font prep ascends good =
    good_is_safe s (record { depth = depth; main = main.bytes; font = font.bytes; prep = prep.bytes }) (record { main = main.short; font = font.short; prep = prep.short })
    functions ascends family good.good

-- an accepted glyph program

module _ (font : Font) (depth : font.limits.stack < 2 ^ 16) (font_range : AreInRange font.font_program) (prep_range : AreInRange font.cvt_program)
    (known : List (ℕ × ℕ)) (ascends : Ascends known) (starts : AllStartWith (StartsGlyphProgram font) known) where
  glyph_is_safe : (id : ℕ) (g : GlyphData) → AreFewBytes g.program → HasGoodFamily (glyph_subject font known id g) → IsSafeGlyph font g
  glyph_is_safe id g few h =
      let s : Setting = glyph_setting font g.points g.contours h.instructions in
      let e : size h.instructions ≡ length g.program = size_is h.instructions ∙ ap length h.cut.is_cut.joined in
      let short : size h.instructions ≤ font.limits.program_size = h.good.short in
      record {
        short = omega arith;
        instructions = h.instructions;
        is_cut = h.cut.is_cut;
        structured = h.cut.structured;
        never_faults = never_faults_from s known h.family (StartsGlyphProgram font)
            (family_is_safe s known h.family depth (cut_in_range g.program h.instructions few h.cut.is_cut) font_range prep_range ascends h.good) starts;
      }

-- where none of the glyph programs is refused, each has its least family
none_refused : (font : Font) (known : List (ℕ × ℕ)) (id : ℕ) (gs : List GlyphData) (rs : List Refused) → AreRefused font known id gs rs → rs ≡ []
    → (k : ℕ) (g : GlyphData) → slice_get gs k ≡ Some g → (n : ℕ) × HasLeastFamily (glyph_subject font known n g)
none_refused font known id gs rs (no_glyph_left n) e k g at = absurd (cc)
none_refused font known id gs rs (accepted n x xs qs least rest) e zero g at =
    let G : GlyphData → Type 0 = λ y. HasLeastFamily (glyph_subject font known n y) in
    let same : x ≡ g = cc in (n, subst G same least)
none_refused font known id gs rs (accepted n x xs qs least rest) e (suc k) g at = none_refused font known (n + 1) xs qs rest e k g at
none_refused font known id gs rs (refused n x xs r qs is rest) e k g at = absurd (cc)

-- the least family of a glyph program is a good one, whatever the glyph's number
good_of_least : (font : Font) (known : List (ℕ × ℕ)) (n id : ℕ) (g : GlyphData) → HasLeastFamily (glyph_subject font known n g) → HasGoodFamily (glyph_subject font known id g)
good_of_least font known n id g h = record {
  instructions = h.instructions;
  cut = record { is_cut = h.cut.is_cut; structured = h.cut.structured };
  family = h.family;
  good = h.good;
}

-- the font

-- the functions at the end of a good family
pub good_end : (x : Subject) (is : List Instruction) (functions : List (ℕ × ℕ)) → EndsWith x is functions → EndsGood x is functions
good_end x is functions ends = record {
  cut = ends.cut;
  family = ends.family;
  good = ends.good;
  end = ends.end;
  at_end = ends.at_end;
  functions_are = ends.functions_are;
}

pub good_families_are_safe : (d : FontData) → IsFontInRange d → HasGoodFamilies d → IsSafeFont d
good_families_are_safe d range h =
    let f : List Instruction = h.font_program in
    let p : List Instruction = h.cvt_program in
    let font = h.font in
    let cvt = h.cvt in
    let F : Font = font_of d f p in
    let f_range = cut_in_range d.fpgm f range.fpgm font.cut.is_cut in
    let p_range = cut_in_range d.prep p range.prep cvt.cut.is_cut in
    let font_safe : IsSafe (font_setting F) [] font.family = family_is_safe (font_setting F) [] font.family range.depth f_range f_range f_range tt font.good in
    let R : List (ℕ × ℕ) → Type 0 = λ fs. Ascends fs in
    let ascends : Ascends h.functions = subst R font.functions_are (functions_rise (font_setting F) [] font.family ([], size f) font.end font.good font.at_end) in
    let C : List (ℕ × ℕ) → Type 0 = λ fs. AllStartWith (StartsCvtProgram F) fs in
    let cvt_start : AllStartWith (StartsCvtProgram F) h.functions = subst C font.functions_are (cvt_starts F font.family font.end font_safe font.at_end) in
    let cvt_safe : IsSafe (cvt_setting F) h.functions cvt.family = family_is_safe (cvt_setting F) h.functions cvt.family range.depth p_range f_range p_range ascends cvt.good in
    let known_ascends : Ascends h.known = subst R cvt.functions_are (functions_rise (cvt_setting F) h.functions cvt.family ([], size p) cvt.end cvt.good cvt.at_end) in
    let G : List (ℕ × ℕ) → Type 0 = λ fs. AllStartWith (StartsGlyphProgram F) fs in
    let glyph_start : AllStartWith (StartsGlyphProgram F) h.known = subst G cvt.functions_are (glyph_starts F h.functions cvt.family cvt.end cvt_start cvt_safe cvt.at_end) in
    record {
      font_program = f;
      font_cut = font.cut.is_cut;
      font_structured = font.cut.structured;
      cvt_program = p;
      cvt_cut = cvt.cut.is_cut;
      cvt_structured = cvt.cut.structured;
      font_never_faults = never_faults_from (font_setting F) [] font.family (StartsFontProgram F) font_safe (font_starts F);
      cvt_never_faults = never_faults_from (cvt_setting F) h.functions cvt.family (StartsCvtProgram F) cvt_safe cvt_start;
      glyphs = λ id g at. glyph_is_safe F range.depth f_range p_range h.known known_ascends glyph_start id g (range.glyphs id g at) (h.glyphs id g at);
    }

none_is_refused : (d : FontData) (f p : List Instruction) (functions known : List (ℕ × ℕ)) → EndsWith (font_subject d) f functions
    → EndsWith (cvt_subject d f functions) p known → AreRefused (font_of d f p) known 0 d.glyphs [] → HasGoodFamilies d
none_is_refused d f p functions known font cvt glyphs = record {
  font_program = f;
  functions = functions;
  font = good_end (font_subject d) f functions font;
  cvt_program = p;
  known = known;
  cvt = good_end (cvt_subject d f functions) p known cvt;
  glyphs = λ id g at. let (n, least) = none_refused (font_of d f p) known 0 d.glyphs [] glyphs refl id g at in good_of_least (font_of d f p) known n id g least;
}

pub font_is_safe : (d : FontData) → IsFontInRange d → (v : Judgement) → IsVerdict d v → v.refused ≡ [] → IsSafeFont d
font_is_safe d range v (font_refused r is) e = absurd (cc)
font_is_safe d range v (cvt_refused f functions r ends is) e = absurd (cc)
font_is_safe d range v (none_ended f p functions known rs font cvt glyphs) e =
    let N : List Refused → Type 0 = λ rs. AreRefused (font_of d f p) known 0 d.glyphs rs in
    good_families_are_safe d range (none_is_refused d f p functions known font cvt (subst N e glyphs))

-- a single glyph

none_in_range : AreInRange []
none_in_range = record { bytes = tt; short = omega arith }

no_function_starts : (font : Font) → AllStartWith (StartsGlyphProgram font) []
no_function_starts font m start = record { fresh = start.0; defined = λ n body e. absurd (cc) }

pub only_glyph_is_safe : (maxp : List ℕ) (cvt : ℕ) (g : GlyphData) → AreBytes maxp → AreFewBytes g.program → HasLeastFamily (glyph_subject (font_of (one_glyph_font maxp cvt g) [] []) [] 0 g)
    → IsSafeGlyph (font_of (one_glyph_font maxp cvt g) [] []) g
only_glyph_is_safe maxp cvt g bytes few least =
    let font : Font = font_of (one_glyph_font maxp cvt g) [] [] in
    glyph_is_safe font (small_number 24 maxp bytes) none_in_range none_in_range [] tt (no_function_starts font) 0 g few (good_of_least font [] 0 0 g least)
