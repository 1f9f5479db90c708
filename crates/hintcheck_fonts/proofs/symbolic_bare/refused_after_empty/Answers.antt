use Rattle.std.proofs.Common.{[]}
use Rattle.std.proofs.lemmas.Result.{IfOk-weaker}
use Rattle.hintcheck_programs.specs.FontPrograms.{font_of}
use Rattle.hintcheck_fonts.proofs.SymbolicAnswers.{listed_alone, listed_one, one_alone, told_alone}
use Rattle.hintcheck_fonts.proofs.SymbolicSteps.{safe_alone}
use Rattle.hintcheck_fonts.proofs.symbolic_bare.refused_after_empty.Goals as goal

pub returns-in-Err-clause-told : goal.returns-in-Err-clause-told
returns-in-Err-clause-told c = λ g at.
    listed_alone g c.in-Err.fault c.in_ok-outcome.outcome c.new-refused.result.items c.list_outcome.new.refused.items c.in-Err.ensures.told c.in_ok-outcome.ensures c.new-refused.ensures.items
    c.in_ok-list_outcome.ensures

pub returns-in-Err-clause-one : goal.returns-in-Err-clause-one
returns-in-Err-clause-one c = λ g at.
    listed_one c.in-Err.fault c.in_ok-outcome.outcome c.new-refused.result.items c.list_outcome.new.refused.items c.in_ok-outcome.ensures c.new-refused.ensures.items c.in_ok-list_outcome.ensures

pub returns-clause-safe : goal.returns-clause-safe
returns-clause-safe c = λ g at.
    IfOk-weaker c.refused_glyph.result _ _
    (λ v judged. safe_alone (font_of c.args.font.now [] []) g c.refused_glyph.new.judge c.pass_empty.new.self.ends c.pass_empty.new.self.starts _ v.items c.in_default.ensures.begun c.refused_glyph.ensures.keeps.1 judged)
    (c.refused_glyph.ensures.judged g at)

pub returns-clause-one : goal.returns-clause-one
returns-clause-one c = λ g at. IfOk-weaker c.refused_glyph.result _ _ (λ v judged. one_alone _ _ v.items judged) (c.refused_glyph.ensures.judged g at)

pub returns-clause-told : goal.returns-clause-told
returns-clause-told c = λ g at.
    IfOk-weaker c.refused_glyph.result _ _ (λ v judged. told_alone (font_of c.args.font.now [] []) g _ v.items judged) (c.refused_glyph.ensures.judged g at)
