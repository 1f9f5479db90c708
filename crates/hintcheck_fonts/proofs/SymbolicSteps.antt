-- A font's programs as they are checked by symbolic states, one by one.
use Rattle.std.proofs.Common.{◌≡◌, ◌∙◌, ℕ, zero, suc, ◌+◌, ◌-◌, ◌*◌, ◌<◌, ◌≤◌, List, [], ◌∷◌, ◌++◌, Option, None, Some, ap, append-nil, arith, drop, length, refl, subst, sym}
use Rattle.std.proofs.Math.Nat.{suc-mul}
use Rattle.tt_setting.specs.declared.name.Name.TheVariants as name
use Rattle.tt_code.proofs.CutLemmas.{size_is}
use Rattle.tt_code.specs.Cut.{Instruction, size}
use Rattle.tt_code.specs.Fonts.{Font, cvt_setting, font_setting, glyph_setting}
use Rattle.tt_code.specs.Settings.{Setting}
use Rattle.tt_font.specs.Reading.{FontData, GlyphData}
use Rattle.hintcheck_fonts.proofs.SymbolicFonts.{safe}
use Rattle.tt_symbolic_state.specs.CvtMachine.{CvtMachine}
use Rattle.hintcheck_fonts.specs.SymbolicEnds.{IsGlyphChecked, StartGlyphs, StartsKnowing}
use Rattle.hintcheck_fonts.specs.CvtStarts.{GlyphPrograms, StartsFontProgram}
use Rattle.hintcheck_fonts.specs.declared.ends.Ends.{Ends}
use Rattle.hintcheck_fonts.specs.declared.glyph_starts.GlyphStarts.{GlyphStarts}
use Rattle.hintcheck_programs.specs.FontPrograms.{cvt_subject, font_of, font_subject, glyph_subject, judgement_on}
use Rattle.hintcheck_programs.specs.Programs.{IsCutInto}
use Rattle.hintcheck_programs.specs.Representation.ProgramOrder.{CanGoOn, IsGlyphNext, IsJudgedBy, cvt_done, cvt_stops, font_done, font_stops, glyph_done, glyph_stops, next_program, skipped_to}
use Rattle.hintcheck_programs.specs.Representation.FontVerdicts.{ListsOutcome}
use Rattle.hintcheck_fonts.specs.Representation.SymbolicChecks.{AnswersBySymbols, AreBegun, IsCheckedBy, IsEnded, IsRunnable, MayWriteKept}
use Rattle.hintcheck_programs.specs.Stages.{Stage, after_font, at_glyph, at_start, over}
use Rattle.hintcheck_fonts.specs.SymbolicRefusals.{IsSymbolicRefusal}
use Rattle.hintcheck_fonts.specs.SymbolicVerdicts.{AreOthersThan, IsGlyphSetting, IsSafeAlone, IsSymbolicVerdict, cvt_refused, font_refused, none_ended, only_program}
use Rattle.hintcheck_fonts.specs.SymbolicVerdicts as told
use Rattle.hintcheck_report.specs.declared.refused.Refused.{Refused}
use Rattle.hintcheck_programs.specs.declared.report.Outcome.{Outcome}
use Rattle.hintcheck_fonts.specs.declared.symbolic_check.SymbolicCheck.{SymbolicCheck}
use Rattle.hintcheck_programs.proofs.ProgramSteps.{dropped, calls_left}
use Rattle.hintcheck_programs.proofs.VerdictSteps.{listed_first, none_dropped}

-- These are the refused ones of the glyph programs from a number on, in their order, and the others
-- were checked from these starts.
pub data AreUnchecked (font : Font) (starts : GlyphStarts) : ℕ → List GlyphData → List Refused → Type 0 where
  no_glyph_left : (id : ℕ) → AreUnchecked font starts id [] []
  accepted : (id : ℕ) (g : GlyphData) (gs : List GlyphData) (rs : List Refused) (s : Setting) → IsGlyphSetting font g s → IsGlyphChecked s starts
      → AreUnchecked font starts (id + 1) gs rs → AreUnchecked font starts id (g ∷ gs) rs
  refused : (id : ℕ) (g : GlyphData) (gs : List GlyphData) (r : Refused) (rs : List Refused) (functions : List (ℕ × ℕ)) → IsSymbolicRefusal (glyph_subject font functions id g) r
      → AreUnchecked font starts (id + 1) gs rs → AreUnchecked font starts id (g ∷ gs) (r ∷ rs)

-- with these refused ones so far, those from a number on complete the glyph programs
abbrev pub AreUncheckedTill : FontData → Font → GlyphStarts → ℕ → List Refused → Type 0
AreUncheckedTill d font starts id rs =
    (others : List Refused) → AreUnchecked font starts id (drop id d.glyphs) others → AreUnchecked font starts 0 d.glyphs (rs ++ others)

-- what the judge knows at a stage of the programs before it, of which these are refused
abbrev pub AreJudgedTill : FontData → SymbolicCheck → Stage → List Refused → Type 0
AreJudgedTill d j at_start rs = rs ≡ []
AreJudgedTill d j (after_font f known) rs = (rs ≡ []) × IsCutInto (font_subject d) f × IsEnded (font_setting (font_of d f [])) [] j.ends × (known ≡ j.ends.functions)
AreJudgedTill d j (at_glyph f p known id) rs =
    IsCutInto (font_subject d) f × IsCutInto (cvt_subject d f []) p × AreBegun (font_of d f p) j.ends j.starts × AreUncheckedTill d (font_of d f p) j.starts id rs
AreJudgedTill d j over rs = IsSymbolicVerdict d (judgement_on d rs)

pub none_judged_yet : (d : FontData) (j : SymbolicCheck) (s : Stage) (rs : List Refused) → s ≡ at_start → rs ≡ [] → AreJudgedTill d j s rs
none_judged_yet d j s rs start none = subst (λ (u : Stage). AreJudgedTill d j u rs) (sym start) none

-- one more program

knows_nothing : (m : CvtMachine) → StartsFontProgram m → StartsKnowing [] m
knows_nothing m h = record { fresh = h.fresh; controls = h.controls; known = λ n body e. absurd cc }

-- a glyph program that is accepted
checked_glyph : (d : FontData) (j : SymbolicCheck) (f p : List Instruction) (known : List (ℕ × ℕ)) (id : ℕ) (g : GlyphData) (is : List Instruction)
    → IsCheckedBy j (glyph_subject (font_of d f p) [] id g) known is → IsGlyphSetting (font_of d f p) g (glyph_setting (font_of d f p) g.points g.contours is)
checked_glyph d j f p known id g is checked =
    let run = checked.runnable (λ no. no) in
    let e : size is ≡ length g.program = size_is is ∙ ap length checked.cut.is_cut.joined in
    let short : size is ≤ d.limits.program_size = run.short in
    record { short = omega arith; instructions = is; is_cut = checked.cut.is_cut; structured = checked.cut.structured; setting = refl }

-- what is known stays so where the judge's ends and starts do
kept : (d : FontData) (j k : SymbolicCheck) (f p : List Instruction) (known : List (ℕ × ℕ)) (id : ℕ) (rs : List Refused) → (k.ends ≡ j.ends) × (k.starts ≡ j.starts)
    → AreJudgedTill d j (at_glyph f p known id) rs → AreJudgedTill d k (at_glyph f p known id) rs
kept d j k f p known id rs (ends, starts) (font_cut, cvt_cut, begun, till) =
    let F : Font = font_of d f p in (
      font_cut,
      cvt_cut,
      subst (λ (x : Ends). AreBegun F x k.starts) (sym ends) (subst (λ (g : GlyphStarts). AreBegun F j.ends g) (sym starts) begun),
      subst (λ (g : GlyphStarts). AreUncheckedTill d F g id rs) (sym starts) till,
    )

goes_on : (d : FontData) (j k : SymbolicCheck) (s t : Stage) (o : Outcome) (rs rs' : List Refused) → AnswersBySymbols d k s (Some o) t
    → (IsGlyphNext s → (k.ends ≡ j.ends) × (k.starts ≡ j.starts)) → ListsOutcome rs o.refused rs' → AreJudgedTill d j s rs → AreJudgedTill d k t rs'
goes_on d j k s t o rs rs' (font_done f known ends) keeps listed none = (listed ∙ none, ends.cut, ends.ended, ends.same)
goes_on d j k s t o rs rs' (font_stops r of) keeps listed none =
    let one : rs' ≡ r ∷ [] = listed ∙ ap (λ (l : List Refused). l ++ r ∷ []) none in
    subst (λ (l : List Refused). IsSymbolicVerdict d (judgement_on d l)) (sym one) (font_refused r of)
goes_on d j k s t o rs rs' (cvt_done f p start known ends) keeps listed (none, cut, font, same) =
    let F : Font = font_of d f p in
    let T : List Refused → Type 0 = λ l. AreUncheckedTill d F k.starts 0 l in (
      cut,
      ends.cut,
      record {
        first = j.ends;
        font_ended = record { safe = font.safe; shown = font.shown };
        cvt_ended = subst (λ (fs : List (ℕ × ℕ)). IsEnded (cvt_setting F) fs k.ends) same ends.ended;
        begun = ends.begun refl;
      },
      subst T (sym (listed ∙ none)) (λ others from. from),
    )
goes_on d j k s t o rs rs' (cvt_stops f start r of) keeps listed (none, cut, font, same) =
    let one : rs' ≡ r ∷ [] = listed ∙ ap (λ (l : List Refused). l ++ r ∷ []) none in
    let of_start = subst (λ (fs : List (ℕ × ℕ)). IsSymbolicRefusal (cvt_subject d f fs) r) same of in
    subst (λ (l : List Refused). IsSymbolicVerdict d (judgement_on d l)) (sym one)
    (cvt_refused f j.ends r cut (λ m n q starts. font.safe m n q (knows_nothing m starts)) font.shown of_start)
goes_on d j k s t o rs rs' (glyph_done f p known id g is there checked) keeps listed judged =
    let (font_cut, cvt_cut, begun, till) = kept d j k f p known id rs (keeps tt) judged in
    let F : Font = font_of d f p in
    let G : List Refused → List GlyphData → Type 0 = λ l gs. AreUnchecked F k.starts id gs l in
    let R : List Refused → Type 0 = λ l. AreUnchecked F k.starts 0 d.glyphs l in (
      font_cut,
      cvt_cut,
      begun,
      λ others from.
          let one = accepted id g (drop (id + 1) d.glyphs) others _ (checked_glyph d k f p known id g is checked) (checked.runnable (λ no. no)).checked from in
          subst R (listed_first rs rs' None others listed) (till others (subst (G others) (sym (dropped d.glyphs id g there)) one)),
    )
goes_on d j k s t o rs rs' (glyph_stops f p known id g r there of) keeps listed judged =
    let (font_cut, cvt_cut, begun, till) = kept d j k f p known id rs (keeps tt) judged in
    let F : Font = font_of d f p in
    let G : List Refused → List GlyphData → Type 0 = λ l gs. AreUnchecked F k.starts id gs l in
    let R : List Refused → Type 0 = λ l. AreUnchecked F k.starts 0 d.glyphs l in (
      font_cut,
      cvt_cut,
      begun,
      λ others from.
          let one = refused id g (drop (id + 1) d.glyphs) r others known of from in
          subst R (listed_first rs rs' (Some r) others listed) (till (r ∷ others) (subst (G (r ∷ others)) (sym (dropped d.glyphs id g there)) one)),
    )

pub one_more : (d : FontData) (j k : SymbolicCheck) (s t : Stage) (answer : Option Outcome) (o : Outcome) (rs rs' : List Refused) → answer ≡ Some o → AnswersBySymbols d k s answer t
    → (IsGlyphNext s → (k.ends ≡ j.ends) × (k.starts ≡ j.starts)) → ListsOutcome rs o.refused rs' → AreJudgedTill d j s rs → AreJudgedTill d k t rs'
one_more d j k s t answer o rs rs' is answers = goes_on d j k s t o rs rs' (subst (λ (a : Option Outcome). AnswersBySymbols d k s a t) is answers)

-- the glyph programs are taken up again, where one may write what they start with

pub can_take_up : (P : List (ℕ × ℕ) → Type 0) (s t : Stage) → CanGoOn P s → t ≡ skipped_to (name.Glyph 0) s → CanGoOn P t
can_take_up P at_start t can is = subst (λ (u : Stage). CanGoOn P u) (sym is) can
can_take_up P (after_font f known) t can is = subst (λ (u : Stage). CanGoOn P u) (sym is) can
can_take_up P (at_glyph f p known id) t can is = subst (λ (u : Stage). CanGoOn P u) (sym is) can
can_take_up P over t can is = subst (λ (u : Stage). CanGoOn P u) (sym is) can

glyph_outcome : (d : FontData) (k : SymbolicCheck) (s t : Stage) (o : Outcome) → AnswersBySymbols d k s (Some o) t → MayWriteKept o.program o.refused → IsGlyphNext t
glyph_outcome d k s t o (font_done f known ends) may = absurd may
glyph_outcome d k s t o (font_stops r of) may = absurd may
glyph_outcome d k s t o (cvt_done f p start known ends) may = tt
glyph_outcome d k s t o (cvt_stops f start r of) may = absurd may
glyph_outcome d k s t o (glyph_done f p known id g is there checked) may = tt
glyph_outcome d k s t o (glyph_stops f p known id g r there of) may = tt

pub glyph_after : (d : FontData) (k : SymbolicCheck) (s t : Stage) (answer : Option Outcome) (o : Outcome) → answer ≡ Some o → AnswersBySymbols d k s answer t → MayWriteKept o.program o.refused → IsGlyphNext t
glyph_after d k s t answer o is answers = glyph_outcome d k s t o (subst (λ (a : Option Outcome). AnswersBySymbols d k s a t) is answers)

some_list : (rs : List Refused) (o : Option Refused) → (rs' : List Refused) × ListsOutcome rs o rs'
some_list rs None = (rs, refl)
some_list rs (Some r) = (rs ++ r ∷ [], refl)

again_at : (d : FontData) (k l : SymbolicCheck) (t u : Stage) (rs rs' : List Refused) → IsGlyphNext t → AreJudgedTill d k t rs → l.ends ≡ k.ends → StartGlyphs l.ends l.starts
    → u ≡ skipped_to (name.Glyph 0) t → rs' ≡ [] → AreJudgedTill d l u rs'
again_at d k l at_start u rs rs' here judged same starts is none = absurd here
again_at d k l (after_font f known) u rs rs' here judged same starts is none = absurd here
again_at d k l over u rs rs' here judged same starts is none = absurd here
again_at d k l (at_glyph f p known id) u rs rs' here (font_cut, cvt_cut, begun, till) same starts is none =
    let F : Font = font_of d f p in
    let T : List Refused → Type 0 = λ q. AreUncheckedTill d F l.starts 0 q in
    let ended = subst (λ (x : Ends). IsEnded (cvt_setting F) begun.first.functions x) (sym same) begun.cvt_ended in
    subst (λ (v : Stage). AreJudgedTill d l v rs') (sym is)
    (font_cut, cvt_cut, record { first = begun.first; font_ended = begun.font_ended; cvt_ended = ended; begun = starts }, subst T (sym none) (λ others from. from))

pub taken_up : (d : FontData) (j k l : SymbolicCheck) (s t u : Stage) (answer : Option Outcome) (o : Outcome) (rs rs' : List Refused) → answer ≡ Some o → AnswersBySymbols d k s answer t
    → (IsGlyphNext s → (k.ends ≡ j.ends) × (k.starts ≡ j.starts)) → MayWriteKept o.program o.refused → AreJudgedTill d j s rs → l.ends ≡ k.ends → StartGlyphs l.ends l.starts
    → u ≡ skipped_to (name.Glyph 0) t → rs' ≡ [] → AreJudgedTill d l u rs'
taken_up d j k l s t u answer o rs rs' is answers keeps may judged same starts stage none =
    let (some, listed) = some_list rs o.refused in
    again_at d k l t u some rs' (glyph_after d k s t answer o is answers may) (one_more d j k s t answer o rs some is answers keeps listed judged) same starts stage none

-- all glyph programs

-- the settings of the accepted ones
abbrev settings_of : (font : Font) (starts : GlyphStarts) (id : ℕ) (gs : List GlyphData) (rs : List Refused) → AreUnchecked font starts id gs rs → List (Option Setting)
settings_of font starts id gs rs (no_glyph_left n) = []
settings_of font starts id gs rs (accepted n g gs' rs' s is checked rest) = Some s ∷ settings_of font starts (n + 1) gs' rs' rest
settings_of font starts id gs rs (refused n g gs' r rs' fs of rest) = None ∷ settings_of font starts (n + 1) gs' rs' rest

abbrev programs_in : List (Option Setting) → ℕ → Option Setting
programs_in [] n = None
programs_in (s ∷ ss) zero = s
programs_in (s ∷ ss) (suc n) = programs_in ss n

others : (font : Font) (starts : GlyphStarts) (id : ℕ) (gs : List GlyphData) (rs : List Refused) (all : AreUnchecked font starts id gs rs) (programs : GlyphPrograms)
    → ((k : ℕ) → programs (id + k) ≡ programs_in (settings_of font starts id gs rs all) k) → AreOthersThan font programs id gs rs
others font starts id gs rs (no_glyph_left n) programs same =
    told.no_glyph_left n (λ other le. let e : n + (other - n) ≡ other = omega arith in subst (λ (k : ℕ). programs k ≡ None) e (same (other - n)))
others font starts id gs rs (accepted n g gs' rs' s is checked rest) programs same =
    let e : n + 0 ≡ n = omega arith in
    told.accepted n g gs' rs' s (subst (λ (k : ℕ). programs k ≡ Some s) e (same 0)) is
    (others font starts (n + 1) gs' rs' rest programs (λ k. let q : n + suc k ≡ n + 1 + k = omega arith in subst (λ (i : ℕ). programs i ≡ programs_in (settings_of font starts (n + 1) gs' rs' rest) k) q (same (suc k))))
others font starts id gs rs (refused n g gs' r rs' fs of rest) programs same =
    let e : n + 0 ≡ n = omega arith in
    told.refused n g gs' r rs' fs of (subst (λ (k : ℕ). programs k ≡ None) e (same 0))
    (others font starts (n + 1) gs' rs' rest programs (λ k. let q : n + suc k ≡ n + 1 + k = omega arith in subst (λ (i : ℕ). programs i ≡ programs_in (settings_of font starts (n + 1) gs' rs' rest) k) q (same (suc k))))

checked_in : (font : Font) (starts : GlyphStarts) (id : ℕ) (gs : List GlyphData) (rs : List Refused) (all : AreUnchecked font starts id gs rs) (k : ℕ) (s : Setting)
    → programs_in (settings_of font starts id gs rs all) k ≡ Some s → IsGlyphChecked s starts
checked_in font starts id gs rs (no_glyph_left n) k s e = absurd cc
checked_in font starts id gs rs (accepted n g gs' rs' s' is checked rest) zero s e = let same : s' ≡ s = cc in subst (λ (x : Setting). IsGlyphChecked x starts) same checked
checked_in font starts id gs rs (accepted n g gs' rs' s' is checked rest) (suc k) s e = checked_in font starts (n + 1) gs' rs' rest k s e
checked_in font starts id gs rs (refused n g gs' r rs' fs of rest) zero s e = absurd cc
checked_in font starts id gs rs (refused n g gs' r rs' fs of rest) (suc k) s e = checked_in font starts (n + 1) gs' rs' rest k s e

checked_font : (d : FontData) (f p : List Instruction) (ends : Ends) (starts : GlyphStarts) (rs : List Refused) → IsCutInto (font_subject d) f → IsCutInto (cvt_subject d f []) p
    → AreBegun (font_of d f p) ends starts → AreUnchecked (font_of d f p) starts 0 d.glyphs rs → IsSymbolicVerdict d (judgement_on d rs)
checked_font d f p ends starts rs font_cut cvt_cut begun all =
    let F : Font = font_of d f p in
    let programs : GlyphPrograms = programs_in (settings_of F starts 0 d.glyphs rs all) in
    none_ended f p programs rs font_cut cvt_cut (others F starts 0 d.glyphs rs all programs (λ k. let e : 0 + k ≡ k = omega arith in ap programs e)) (safe F programs begun.first ends starts (record {
      font_safe = begun.font_ended.safe;
      font_ends = begun.font_ended.shown;
      cvt_safe = begun.cvt_ended.safe;
      cvt_ends = begun.cvt_ended.shown;
      glyph_starts = begun.begun;
      glyphs = λ glyph s may. checked_in F starts 0 d.glyphs rs all glyph s may;
    }))

all_at : (d : FontData) (j : SymbolicCheck) (s : Stage) (rs : List Refused) → next_program d s ≡ None → AreJudgedTill d j s rs → IsSymbolicVerdict d (judgement_on d rs)
all_at d j at_start rs none judged = absurd cc
all_at d j (after_font f known) rs none judged = absurd cc
all_at d j over rs none judged = judged
all_at d j (at_glyph f p known id) rs none (font_cut, cvt_cut, begun, till) =
    let F : Font = font_of d f p in
    let G : List GlyphData → Type 0 = λ gs. AreUnchecked F j.starts id gs [] in
    let last = subst G (sym (none_dropped (λ g. glyph_subject F [] id g) d.glyphs id none)) (no_glyph_left id) in
    checked_font d f p j.ends j.starts rs font_cut cvt_cut begun (subst (λ (l : List Refused). AreUnchecked F j.starts 0 d.glyphs l) (append-nil rs) (till [] last))

pub all_judged : (d : FontData) (j k : SymbolicCheck) (s t : Stage) (answer : Option Outcome) (rs : List Refused) → answer ≡ None → AnswersBySymbols d k s answer t → AreJudgedTill d j s rs
    → IsSymbolicVerdict d (judgement_on d rs)
all_judged d j k s t answer rs is answers = all_at d j s rs (subst (λ (a : Option Outcome). AnswersBySymbols d k s a t) is answers).0

-- how often the glyph programs can be taken up, and how many can follow
unfoldable pub takings_left : FontData → ℕ → Stage → ℕ
takings_left d again s = (40 - again) * (length d.glyphs + 4) + calls_left d s

taking_less : (n l c : ℕ) → n * (l + 4) + (l + 1 - 0) < suc n * (l + 4) + c
taking_less n l c = omega (arith, suc-mul n (l + 4))

pub fewer_takings : (d : FontData) (again : ℕ) (s t u : Stage) → again < 40 → IsGlyphNext t → u ≡ skipped_to (name.Glyph 0) t → takings_left d (again + 1) u < takings_left d again s
unfolding takings_left calls_left
fewer_takings d again s at_start u lt here is = absurd here
fewer_takings d again s (after_font f known) u lt here is = absurd here
fewer_takings d again s over u lt here is = absurd here
fewer_takings d again s (at_glyph f p known id) u lt here is =
    let e : suc (40 - (again + 1)) ≡ 40 - again = omega arith in
    subst (λ (v : Stage). takings_left d (again + 1) v < takings_left d again s) (sym is)
    (subst (λ (n : ℕ). (40 - (again + 1)) * (length d.glyphs + 4) + (length d.glyphs + 1 - 0) < n * (length d.glyphs + 4) + calls_left d s) e (taking_less (40 - (again + 1)) (length d.glyphs) (calls_left d s)))

pub fewer_to_come : (d : FontData) (again : ℕ) (s t : Stage) → calls_left d t < calls_left d s → takings_left d again t < takings_left d again s
unfolding takings_left
fewer_to_come d again s t less = omega arith

-- a font of one glyph

only_checked : (s t : Setting) (starts : GlyphStarts) (id : ℕ) → IsGlyphChecked s starts → only_program s id ≡ Some t → IsGlyphChecked t starts
only_checked s t starts zero checked e = let same : s ≡ t = cc in subst (λ (x : Setting). IsGlyphChecked x starts) same checked
only_checked s t starts (suc id) checked e = absurd cc

pub safe_alone : (font : Font) (g : GlyphData) (j : SymbolicCheck) (ends : Ends) (starts : GlyphStarts) (Refuses : Refused → Type 0) (rs : List Refused) → AreBegun font ends starts → j.starts ≡ starts
    → IsJudgedBy (λ is. IsCheckedBy j (glyph_subject font [] 0 g) [] is) Refuses rs → rs ≡ [] → IsSafeAlone font g
safe_alone font g j ends starts Refuses (r ∷ rs) h same judged none = absurd cc
safe_alone font g j ends starts Refuses [] h same (is, checked) none =
    let s : Setting = glyph_setting font g.points g.contours is in
    let run : IsRunnable s starts = subst (λ (t : GlyphStarts). IsRunnable s t) same (checked.runnable (λ no. no)) in
    let e : size is ≡ length g.program = size_is is ∙ ap length checked.cut.is_cut.joined in
    let short : size is ≤ font.limits.program_size = run.short in
    record {
      setting = s;
      is_setting = record { short = omega arith; instructions = is; is_cut = checked.cut.is_cut; structured = checked.cut.structured; setting = refl };
      safe = safe font (only_program s) h.first ends starts (record {
        font_safe = h.font_ended.safe;
        font_ends = h.font_ended.shown;
        cvt_safe = h.cvt_ended.safe;
        cvt_ends = h.cvt_ended.shown;
        glyph_starts = h.begun;
        glyphs = λ id t may. only_checked s t starts id run.checked may;
      });
    }

-- the two empty programs of such a font, as they were checked
pub begun_empty : (font : Font) (s t : Setting) (first second ends : Ends) (functions : List (ℕ × ℕ)) (starts : GlyphStarts) → IsEnded s [] first → IsEnded t functions second → ends ≡ second
    → functions ≡ first.functions → StartGlyphs ends starts → s ≡ font_setting font → t ≡ cvt_setting font → AreBegun font ends starts
begun_empty font s t first second ends functions starts one two is same begun for_font for_cvt = record {
  first = first;
  font_ended = subst (λ (x : Setting). IsEnded x [] first) for_font one;
  cvt_ended = subst (λ (x : Setting). IsEnded x first.functions ends) for_cvt
      (subst (λ (fs : List (ℕ × ℕ)). IsEnded t fs ends) same (subst (λ (x : Ends). IsEnded t functions x) (sym is) two));
  begun = begun;
}
