-- Why a program isn't accepted by symbolic states, from where it is told to what is reported.
use Rattle.std.proofs.Common.{◌≡◌, ◌≤◌, ℕ, List, [], ◌∷◌, arith, length, refl, subst, sym}
use Rattle.std.specs.List.{All}
use Rattle.std.specs.Prelude.{Ok}
use Rattle.std.proofs.lemmas.List.Elements.{All-cons, All-nil}
use Rattle.hintcheck_programs.specs.declared.report.Outcome.{Outcome}
use Rattle.hintcheck_programs.specs.Representation.ProgramOrder.{TellsOutcome, IsJudgedBy}
use Rattle.hintcheck_programs.specs.Representation.FontVerdicts.{ListsOutcome}
use Rattle.hintcheck_programs.specs.Stages.{refused_as}
use Rattle.tt_code.specs.Cut.{Instruction}
use Rattle.tt_code.specs.Fonts.{Font}
use Rattle.tt_code.specs.declared.reason.Reason.TheVariants.{NeverEnds, ProgramTooLong}
use Rattle.tt_setting.specs.Settings.{setting_of}
use Rattle.tt_setting.specs.declared.exhausted.Exhausted.TheVariants.{Memory}
use Rattle.tt_setting.specs.declared.failed.Failed.TheVariants.{Only}
use Rattle.tt_setting.specs.declared.refusal.Refusal.{Refusal}
use Rattle.tt_setting.specs.declared.refusal.Refusal.TheVariants.{Refused, Exhausted}
use Rattle.tt_setting.specs.declared.setting.Setting.{Setting}
use Rattle.tt_setting.specs.declared.spot.Spot.TheVariants.{Main}
use Rattle.tt_setting.specs.declared.name.Name.{Name}
use Rattle.tt_setting.specs.declared.name.Name.TheVariants as name
use Rattle.tt_family.specs.GoodFamilies.{IsShortEnough}
use Rattle.tt_font.specs.Reading.{GlyphData}
use Rattle.tt_symbolic_check.specs.Answers.{IsAnswerBySymbols}
use Rattle.hintcheck_fonts.specs.SymbolicEnds.{NeverComesToEnd}
use Rattle.hintcheck_programs.specs.FontPrograms.{glyph_subject}
use Rattle.hintcheck_report.specs.Places.{reported_at}
use Rattle.tt_setting.specs.Refusals.{reason_of}
use Rattle.hintcheck_programs.specs.ProgramVerdicts.{IfRefused, IsProgramOf, IsUncut, no_cut, no_structure, with_start}
use Rattle.hintcheck_programs.specs.Programs.{Subject}
use Rattle.hintcheck_fonts.specs.SymbolicRefusals.{IsRefusedAlone, IsSymbolicAnswer, IsSymbolicRefusal, IsToldInTurn, answered, judged, never_ends, out_of_memory, told_in_turn, too_long, uncut, uncut_alone}
use Rattle.hintcheck_report.specs.declared.refused.Refused.{Refused as AnyRefused}

pub memory_answers : (s : Setting) (functions : List (ℕ × ℕ)) (refusal : Refusal) → refusal ≡ Exhausted Memory → IsSymbolicAnswer s functions refusal
memory_answers s functions refusal is = subst (λ (r : Refusal). IsSymbolicAnswer s functions r) (sym is) out_of_memory

pub symbols_answer : (s : Setting) (functions : List (ℕ × ℕ)) (refusal : Refusal) → IsAnswerBySymbols s refusal → IsSymbolicAnswer s functions refusal
symbols_answer s functions refusal answer = answered refusal answer

pub end_answers : (s : Setting) (functions : List (ℕ × ℕ)) (refusal : Refusal) → NeverComesToEnd (setting_of s) functions → refusal ≡ Refused Main 0 (Only NeverEnds)
    → IsSymbolicAnswer s functions refusal
end_answers s functions refusal never is = subst (λ (r : Refusal). IsSymbolicAnswer s functions r) (sym is) (never_ends never)

pub length_answers : (s : Setting) (functions : List (ℕ × ℕ)) (refusal : Refusal) (most : ℕ) → (IsShortEnough (setting_of s) (setting_of s).kind → ⊥) → most ≡ s.limits.program_size
    → refusal ≡ Refused Main most (Only ProgramTooLong) → IsSymbolicAnswer s functions refusal
length_answers s functions refusal most long is told =
    let same : refusal ≡ Refused Main s.limits.program_size (Only ProgramTooLong) = cc in
    subst (λ (r : Refusal). IsSymbolicAnswer s functions r) (sym same) (too_long long)

-- what a judge's answer is that says why the program isn't accepted
pub answer_refuses : (x : Subject) (s : Setting) (start : List (ℕ × ℕ)) (refusal : Refusal) → IsProgramOf x s → IsSymbolicAnswer s start refusal
    → IfRefused x.name refusal (IsSymbolicRefusal (with_start x start))
answer_refuses x s start (Refused at offset failed) is answer =
    judged s at offset failed (record { cut = record { is_cut = is.cut.is_cut; structured = is.cut.structured }; setting = is.setting }) answer
answer_refuses x s start (Exhausted by) is answer = tt

-- what is reported is reported of the program

uncut_named : (called : Name) (bytes : List ℕ) (r : AnyRefused) → IsUncut called bytes r → r.program ≡ called
uncut_named called bytes r (no_cut offset cannot) = refl
uncut_named called bytes r (no_structure is offset cut fault) = refl

pub refusal_named : (x : Subject) (r : AnyRefused) → IsSymbolicRefusal x r → r.program ≡ x.name
refusal_named x r (uncut q is) = uncut_named x.name x.bytes q is
refusal_named x r (judged s at offset failed is answer) = refl

-- one program by itself

pub answer_in_turn : (s : Setting) (functions : List (ℕ × ℕ)) (refusal : Refusal) → IsSymbolicAnswer s functions refusal → IsToldInTurn refusal
answer_in_turn s functions (Refused at offset failed) answer = (s, functions, answer)
answer_in_turn s functions (Exhausted by) answer = tt

pub memory_in_turn : (refusal : Refusal) → refusal ≡ Exhausted Memory → IsToldInTurn refusal
memory_in_turn refusal is = subst (λ (r : Refusal). IsToldInTurn r) (sym is) tt

pub turn_refuses : (glyph : GlyphData) (refusal : Refusal) → IsToldInTurn refusal → IfRefused (name.Glyph 0) refusal (IsRefusedAlone glyph)
turn_refuses glyph (Refused at offset failed) told = told_in_turn at offset failed told
turn_refuses glyph (Exhausted by) told = tt

-- a judge's refusal of the only glyph's program
refused_alone : (x : Subject) (g : GlyphData) (r : AnyRefused) → x.name ≡ name.Glyph 0 → x.bytes ≡ g.program → IsSymbolicRefusal x r → IsRefusedAlone g r
refused_alone x g r named bytes (uncut q is) = uncut_alone q (subst (λ (l : List ℕ). IsUncut (name.Glyph 0) l q) bytes (subst (λ (n : Name). IsUncut n x.bytes q) named is))
refused_alone x g r named bytes (judged s at offset failed is answer) =
    subst (λ (n : Name). IsRefusedAlone g (reported_at n at offset (reason_of failed))) (sym named) (told_in_turn at offset failed (s, x.functions, answer))

pub told_alone : (font : Font) (g : GlyphData) (Accepts : List Instruction → Type 0) (rs : List AnyRefused)
    → IsJudgedBy Accepts (λ r. IsSymbolicRefusal (glyph_subject font [] 0 g) r) rs → All (IsRefusedAlone g) rs
told_alone font g Accepts [] none = All-nil (IsRefusedAlone g)
told_alone font g Accepts (r ∷ []) is = All-cons (IsRefusedAlone g) r [] (refused_alone (glyph_subject font [] 0 g) g r refl refl is) (All-nil (IsRefusedAlone g))
told_alone font g Accepts (r ∷ q ∷ rs) never = absurd never

pub one_alone : (Accepts : List Instruction → Type 0) (Refuses : AnyRefused → Type 0) (rs : List AnyRefused) → IsJudgedBy Accepts Refuses rs → length rs ≤ 1
one_alone Accepts Refuses [] none = omega arith
one_alone Accepts Refuses (r ∷ []) is = omega arith
one_alone Accepts Refuses (r ∷ q ∷ rs) never = absurd never

-- the list of the only glyph, where this is told of it
pub listed_alone : (g : GlyphData) (fault : Refusal) (o : Outcome) (old new : List AnyRefused) → IsToldInTurn fault → TellsOutcome (name.Glyph 0) fault (Ok o) → old ≡ []
    → ListsOutcome old o.refused new → All (IsRefusedAlone g) new
listed_alone g (Refused at offset failed) o old new told is none listed =
    let r : AnyRefused = reported_at (name.Glyph 0) at offset (reason_of failed) in
    let same : o ≡ refused_as (name.Glyph 0) r = cc in
    let one : new ≡ r ∷ [] = subst (λ (p : Outcome). ListsOutcome [] p.refused new) same (subst (λ (l : List AnyRefused). ListsOutcome l o.refused new) none listed) in
    subst (λ (l : List AnyRefused). All (IsRefusedAlone g) l) (sym one) (All-cons (IsRefusedAlone g) r [] (told_in_turn at offset failed told) (All-nil (IsRefusedAlone g)))
listed_alone g (Exhausted by) o old new told is none listed = absurd (cc)

-- and it is one at most
pub listed_one : (fault : Refusal) (o : Outcome) (old new : List AnyRefused) → TellsOutcome (name.Glyph 0) fault (Ok o) → old ≡ [] → ListsOutcome old o.refused new → length new ≤ 1
listed_one (Refused at offset failed) o old new is none listed =
    let r : AnyRefused = reported_at (name.Glyph 0) at offset (reason_of failed) in
    let same : o ≡ refused_as (name.Glyph 0) r = cc in
    let one : new ≡ r ∷ [] = subst (λ (p : Outcome). ListsOutcome [] p.refused new) same (subst (λ (l : List AnyRefused). ListsOutcome l o.refused new) none listed) in
    subst (λ (l : List AnyRefused). length l ≤ 1) (sym one) (omega arith)
listed_one (Exhausted by) o old new is none listed = absurd (cc)
