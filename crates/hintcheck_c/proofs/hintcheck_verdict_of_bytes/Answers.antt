use Rattle.std.proofs.Common.{◌≡◌, ◌≤◌, ℕ, List, subst, sym, ◌∙◌, ap, arith}
use Rattle.std.specs.Prelude.{slice_index}
use Rattle.hintcheck_c.specs.Answers.{AnswersVerdict}
use Rattle.hintcheck_c.specs.FontFiles.{font_file}
use Rattle.hintcheck_c.specs.declared.answer.HintcheckAnswer.{HintcheckAnswer}
use Rattle.hintcheck_c.specs.declared.refusal.HintcheckRefusal.{HintcheckRefusal}
use Rattle.hintcheck_c.proofs.HintedGlyphs.{none_is_zeros}
use Rattle.hintcheck_c.proofs.HintingAnswers.{answers_verdict, no_entry, told_is_safe}
use Rattle.hintcheck_c.proofs.hintcheck_verdict_of_bytes.Goals as goal
use Rattle.hintcheck_c.proofs.hintcheck_verdict_of_bytes.Goals.{in-Ok, in-Err}

pub returns-clause-hinted : goal.returns-clause-hinted
returns-clause-hinted c = λ id one. elim c.match-judge_hinting.branch [
  | in-Ok w ↦ (
      let told : slice_index w.answer_hinting.new.may_hint id ≡ 1 = ap (λ (es : List ℕ). slice_index es id) (sym w.may_hint-is) ∙ one in
      told_is_safe c.args.face c.args.font.now w.in-Ok.hinting.verdict w.in-Ok.hinting.glyphs.items w.answer_hinting.new.may_hint id
      w.in-Ok.ensures.whole w.in-Ok.ensures.given w.in-Ok.ensures.glyphs w.answer_hinting.ensures.tell told)
  | in-Err w ↦ (
      let told : slice_index w.answer_no_hinting.new.may_hint id ≡ 1 = ap (λ (es : List ℕ). slice_index es id) (sym w.may_hint-is) ∙ one in
      absurd (no_entry w.answer_no_hinting.new.may_hint id w.answer_no_hinting.ensures.tell told))
]

pub returns-clause-verdict : goal.returns-clause-verdict
returns-clause-verdict c = λ few. elim c.match-judge_hinting.branch [
  | in-Ok w ↦ (
      let file : List ℕ = font_file c.args.face c.args.font.now in
      let old : List HintcheckRefusal = c.args.refusals.now in
      let H : HintcheckAnswer → Type 0 = λ a. AnswersVerdict file a old c.match-judge_hinting.refusals c.match-judge_hinting.may_hint in
      let R : List HintcheckRefusal → Type 0 = λ rs. AnswersVerdict file w.answer_hinting.result old rs c.match-judge_hinting.may_hint in
      let E : List ℕ → Type 0 = λ es. AnswersVerdict file w.answer_hinting.result old w.answer_hinting.new.refusals es in
      subst H (sym w.answer-is) (subst R (sym w.refusals-is) (subst E (sym w.may_hint-is) (answers_verdict file w.in-Ok.hinting.verdict w.in-Ok.hinting.glyphs.items
      w.answer_hinting.result old w.answer_hinting.new.refusals w.answer_hinting.new.may_hint w.in-Ok.ensures.given w.answer_hinting.ensures.answers w.in-Ok.ensures.glyphs w.answer_hinting.ensures.tell))))
  | in-Err w ↦ (
      let many : 2 ≤ w.answer_no_hinting.result.status = w.answer_no_hinting.ensures.none in
      let is : c.match-judge_hinting.answer.status ≡ w.answer_no_hinting.result.status = ap (λ (a : HintcheckAnswer). a.status) w.answer-is in
      absurd (omega arith))
]

pub returns-clause-none : goal.returns-clause-none
returns-clause-none c = λ many. elim c.match-judge_hinting.branch [
  | in-Ok w ↦ (
      let few : w.answer_hinting.result.status ≤ 1 = w.answer_hinting.ensures.status in
      let is : c.match-judge_hinting.answer.status ≡ w.answer_hinting.result.status = ap (λ (a : HintcheckAnswer). a.status) w.answer-is in
      absurd (omega arith))
  | in-Err w ↦ w.may_hint-is ∙ none_is_zeros c.args.may_hint.now w.answer_no_hinting.new.may_hint w.answer_no_hinting.ensures.len w.answer_no_hinting.ensures.tell
]
