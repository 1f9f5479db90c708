-- What is run to draw a glyph that may be drawn with hints is safe.
use Rattle.std.specs.Prelude.{slice_get, slice_index}
use Rattle.std.specs.List.{AllByRecursion}
use Rattle.std.proofs.Common.{◌≡◌, ℕ, zero, suc, ◌+◌, ◌<◌, List, [], ◌∷◌, None, Some, refl, sym, ◌∙◌, ap, subst, arith}
use Rattle.tt_code.specs.Cut.{Instruction}
use Rattle.tt_code.specs.Fonts.{Font}
use Rattle.tt_code.specs.Settings.{Setting}
use Rattle.tt_setting.specs.declared.name.Name.{Name}
use Rattle.tt_setting.specs.declared.name.Name.TheVariants as name
use Rattle.hintcheck_c.proofs.Chains.{reaches_itself}
use Rattle.tt_font.specs.FileFaults.{font_fault, tables_fault}
use Rattle.tt_font.specs.Conditions.{Condition, first, glyphs_fault}
use Rattle.tt_font.specs.Files.{font_glyph_count, font_glyphs, font_outlines}
use Rattle.tt_font.specs.Ranges.{AreFewBytes, IsFontInRange}
use Rattle.tt_font.specs.Reading.{FontData, GlyphData, Reads}
use Rattle.tt_font.proofs.RangeLemmas.{font_in_range}
use Rattle.hintcheck_fonts.specs.CvtStarts.{GlyphPrograms}
use Rattle.hintcheck_programs.specs.FontPrograms.{AreRefused, IsSafeFont, IsVerdict, accepted, cvt_refused, cvt_subject, font_of, font_refused, font_subject, glyph_subject, no_glyph_left, none_ended, refused}
use Rattle.hintcheck_programs.specs.Programs.{EndsWith, HasGoodFamily, HasLeastFamily}
use Rattle.hintcheck_fonts.specs.SymbolicVerdicts.{AreOthersThan, IsGlyphSetting, IsSymbolicVerdict}
use Rattle.hintcheck_fonts.specs.SymbolicVerdicts as symbolic
use Rattle.hintcheck_programs.specs.Verdicts.{Judgement}
use Rattle.hintcheck_programs.proofs.FontSafety.{good_end, good_families_are_safe}
use Rattle.hintcheck_fonts.proofs.SymbolicAnswers.{refusal_named}
use Rattle.hintcheck_report.specs.declared.refused.Refused.{Refused}
use Rattle.hintcheck_c.specs.MayHint.{AreAccepted, HoldSafeGlyph, HoldSymbolicSafeGlyphs, IsAnothers, MayHint, with_only}

-- the first refused program of a list is another glyph's, and so are the others
first_is_anothers : (r : Refused) (rs : List Refused) (id : ℕ) → AreAccepted (r ∷ rs) id → IsAnothers r.program id
first_is_anothers r rs id fine = fine 0 r (omega arith)

others_are : (r : Refused) (rs : List Refused) (id : ℕ) → AreAccepted (r ∷ rs) id → AreAccepted rs id
others_are r rs id fine k d lt = fine (suc k) d (omega arith)

not_named : (r : Refused) (n : Name) (id : ℕ) → IsAnothers r.program id → r.program ≡ n → IsAnothers n id
not_named r n id is e = let A : Name → Type 0 = λ x. IsAnothers x id in subst A e is

-- ---- the strict profile

-- a glyph whose program isn't refused has its least family
has_least : (font : Font) (known : List (ℕ × ℕ)) (id : ℕ) (gs : List GlyphData) (rs : List Refused) → AreRefused font known id gs rs
    → (k : ℕ) (g : GlyphData) → slice_get gs k ≡ Some g → AreAccepted rs (id + k) → (n : ℕ) × HasLeastFamily (glyph_subject font known n g)
has_least font known id gs rs (no_glyph_left n) k g at fine = absurd (cc)
has_least font known id gs rs (accepted n x xs qs least rest) zero g at fine =
    let G : GlyphData → Type 0 = λ y. HasLeastFamily (glyph_subject font known n y) in
    let same : x ≡ g = cc in (n, subst G same least)
has_least font known id gs rs (accepted n x xs qs least rest) (suc k) g at fine =
    let A : ℕ → Type 0 = AreAccepted qs in
    let e : n + suc k ≡ (n + 1) + k = omega arith in
    has_least font known (n + 1) xs qs rest k g at (subst A e fine)
has_least font known id gs rs (refused n x xs r qs is rest) zero g at fine =
    let e : n + zero ≡ n = omega arith in
    absurd (not_named r (name.Glyph n) (n + zero) (first_is_anothers r qs (n + zero) fine) is.program (sym e))
has_least font known id gs rs (refused n x xs r qs is rest) (suc k) g at fine =
    let A : ℕ → Type 0 = AreAccepted qs in
    let e : n + suc k ≡ (n + 1) + k = omega arith in
    has_least font known (n + 1) xs qs rest k g at (subst A e (others_are r qs (n + suc k) fine))

-- the least family of a glyph program is a good one, whatever the glyph's number
good_of_least : (font : Font) (known : List (ℕ × ℕ)) (n id : ℕ) (g : GlyphData) → HasLeastFamily (glyph_subject font known n g) → HasGoodFamily (glyph_subject font known id g)
good_of_least font known n id g h = record {
  instructions = h.instructions;
  cut = record { is_cut = h.cut.is_cut; structured = h.cut.structured };
  family = h.family;
  good = h.good;
}

-- one glyph alone is in range, too
only_in_range : (d : FontData) (other : ℕ) (g : GlyphData) → slice_get d.glyphs other ≡ Some g → IsFontInRange d → IsFontInRange (with_only d g)
only_in_range d other g at range = record { depth = range.depth; fpgm = range.fpgm; prep = range.prep; glyphs = only }
  where
    only : (id : ℕ) (x : GlyphData) → slice_get (g ∷ []) id ≡ Some x → AreFewBytes x.program
    only zero x e = let same : g ≡ x = cc in range.glyphs other x (at ∙ ap (λ y. Some y) same)
    only (suc id) x e = absurd (cc)

only_safe : (d : FontData) (f p : List Instruction) (functions known : List (ℕ × ℕ)) (rs : List Refused) → IsFontInRange d → EndsWith (font_subject d) f functions
    → EndsWith (cvt_subject d f functions) p known → AreRefused (font_of d f p) known 0 d.glyphs rs
    → (other : ℕ) (g : GlyphData) → slice_get d.glyphs other ≡ Some g → AreAccepted rs other → IsSafeFont (with_only d g)
only_safe d f p functions known rs range font cvt glyphs other g at fine =
    good_families_are_safe (with_only d g) (only_in_range d other g at range) (record {
      font_program = f;
      functions = functions;
      font = good_end (font_subject d) f functions font;
      cvt_program = p;
      known = known;
      cvt = good_end (cvt_subject d f functions) p known cvt;
      glyphs = only;
    })
  where
    only : (id : ℕ) (x : GlyphData) → slice_get (g ∷ []) id ≡ Some x → HasGoodFamily (glyph_subject (font_of d f p) known id x)
    only zero x e =
        let same : g ≡ x = cc in
        let A : ℕ → Type 0 = AreAccepted rs in
        let zero_more : other ≡ 0 + other = omega arith in
        let (n, least) = has_least (font_of d f p) known 0 d.glyphs rs glyphs other x (at ∙ ap (λ y. Some y) same) (subst A zero_more fine) in
        good_of_least (font_of d f p) known n zero x least
    only (suc id) x e = absurd (cc)

by_verdict : (d : FontData) (v : Judgement) → IsFontInRange d → IsVerdict d v → (other : ℕ) (g : GlyphData) → slice_get d.glyphs other ≡ Some g → AreAccepted v.refused other → IsSafeFont (with_only d g)
by_verdict d v range (font_refused r is) other g at fine = absurd (not_named r name.Font other (first_is_anothers r [] other fine) is.program)
by_verdict d v range (cvt_refused f functions r ends is) other g at fine = absurd (not_named r name.Cvt other (first_is_anothers r [] other fine) is.program)
by_verdict d v range (none_ended f p functions known rs font cvt glyphs) other g at fine = only_safe d f p functions known rs range font cvt glyphs other g at fine

no_tables_fault : (bytes : List ℕ) → font_fault bytes ≡ None → tables_fault bytes ≡ None
unfolding font_fault
no_tables_fault bytes e = by_first (tables_fault bytes) (glyphs_fault (font_glyph_count bytes) (font_glyphs bytes) (font_outlines bytes) ∷ []) e
  where
    by_first : (c : Condition) (cs : List Condition) → first (c ∷ cs) ≡ None → c ≡ None
    by_first None cs e = refl
    by_first (Some x) cs e = absurd (cc)

pub glyph_is_safe : (bytes : List ℕ) (d : FontData) (v : Judgement) (id : ℕ) → AllByRecursion (λ b. b < 256) bytes → font_fault bytes ≡ None → Reads bytes d → IsVerdict d v
    → MayHint bytes v.refused id → HoldSafeGlyph bytes id
glyph_is_safe bytes d v id are_bytes none reads given may = record {
  font = d;
  reads = reads;
  inside = let lt = may.inside in let len = reads.glyphs.len in omega arith;
  safe = λ other g reached at. by_verdict d v (font_in_range bytes d are_bytes (no_tables_fault bytes none) reads) given other g at (may.accepted other reached);
}

-- ---- the symbolic profile

-- a glyph whose program isn't refused is one of those that may be run
record IsAmong (font : Font) (programs : GlyphPrograms) (id : ℕ) (g : GlyphData) : Type 0 where
  setting : Setting
  there : programs id ≡ Some setting
  is_setting : IsGlyphSetting font g setting

is_among : (font : Font) (programs : GlyphPrograms) (id : ℕ) (gs : List GlyphData) (rs : List Refused) → AreOthersThan font programs id gs rs
    → (k : ℕ) (g : GlyphData) → slice_get gs k ≡ Some g → AreAccepted rs (id + k) → IsAmong font programs (id + k) g
is_among font programs id gs rs (symbolic.no_glyph_left n none) k g at fine = absurd (cc)
is_among font programs id gs rs (symbolic.accepted n x xs qs s there is rest) zero g at fine =
    let G : GlyphData → Type 0 = λ y. IsGlyphSetting font y s in
    let same : x ≡ g = cc in
    let e : n + zero ≡ n = omega arith in
    record { setting = s; there = ap programs e ∙ there; is_setting = subst G same is }
is_among font programs id gs rs (symbolic.accepted n x xs qs s there is rest) (suc k) g at fine =
    let A : ℕ → Type 0 = AreAccepted qs in
    let I : ℕ → Type 0 = λ j. IsAmong font programs j g in
    let e : n + suc k ≡ (n + 1) + k = omega arith in
    subst I (sym e) (is_among font programs (n + 1) xs qs rest k g at (subst A e fine))
is_among font programs id gs rs (symbolic.refused n x xs r qs fs is none rest) zero g at fine =
    let e : n + zero ≡ n = omega arith in
    absurd (not_named r (name.Glyph n) (n + zero) (first_is_anothers r qs (n + zero) fine) (refusal_named (glyph_subject font fs n x) r is) (sym e))
is_among font programs id gs rs (symbolic.refused n x xs r qs fs is none rest) (suc k) g at fine =
    let A : ℕ → Type 0 = AreAccepted qs in
    let I : ℕ → Type 0 = λ j. IsAmong font programs j g in
    let e : n + suc k ≡ (n + 1) + k = omega arith in
    subst I (sym e) (is_among font programs (n + 1) xs qs rest k g at (subst A e (others_are r qs (n + suc k) fine)))

-- of which glyphs the entries are 1: of some that may be drawn with hints, and of this one
pub glyphs_are_safe_symbolic : (bytes : List ℕ) (d : FontData) (v : Judgement) (entries : List ℕ) (id : ℕ) → Reads bytes d → IsSymbolicVerdict d v
    → ((k : ℕ) → slice_index entries k ≡ 1 → MayHint bytes v.refused k) → slice_index entries id ≡ 1 → HoldSymbolicSafeGlyphs bytes entries
glyphs_are_safe_symbolic bytes d v entries id reads (symbolic.font_refused r is) may one =
    absurd (not_named r name.Font id (first_is_anothers r [] id ((may id one).accepted id (reaches_itself (font_outlines bytes) id))) (refusal_named (font_subject d) r is))
glyphs_are_safe_symbolic bytes d v entries id reads (symbolic.cvt_refused f ends r cut safe known is) may one =
    absurd (not_named r name.Cvt id (first_is_anothers r [] id ((may id one).accepted id (reaches_itself (font_outlines bytes) id))) (refusal_named (cvt_subject d f ends.functions) r is))
glyphs_are_safe_symbolic bytes d v entries id reads (symbolic.none_ended f p programs rs font cvt glyphs safe) may one = record {
  font = d;
  reads = reads;
  inside = λ k e. let lt = (may k e).inside in let len = reads.glyphs.len in omega arith;
  font_program = f;
  cvt_program = p;
  font_cut = font;
  cvt_cut = cvt;
  programs = programs;
  safe = safe;
  among = λ k other g e reached at.
      let A : ℕ → Type 0 = AreAccepted rs in
      let I : ℕ → Type 0 = λ j. IsAmong (font_of d f p) programs j g in
      let zero_more : 0 + other ≡ other = omega arith in
      let fine : AreAccepted rs other = (may k e).accepted other reached in
      let is = subst I zero_more (is_among (font_of d f p) programs 0 d.glyphs rs glyphs other g at (subst A (sym zero_more) fine)) in
      (is.setting, is.there, is.is_setting);
}
