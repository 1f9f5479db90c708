use Rattle.std.proofs.Common.{◌≡◌, Bool, true, false}
use Rattle.hintcheck_fonts.proofs.SymbolicAnswers.{length_answers}
use Rattle.hintcheck_fonts.proofs.glyph_starts.check_glyph.Goals as goal

both : (b : Bool) → b ≡ false → b ≡ true → ⊥
both b other is = cc

pub returns-then-not-is_short-clause-answer : goal.returns-then-not-is_short-clause-answer
returns-then-not-is_short-clause-answer c = λ functions.
    length_answers c.args.setting.now functions c.in_main.result c.from-most.result (λ short. both c.is_short.result c.if-not-is_short.true (c.is_short.ensures.1 short)) c.from-most.ensures c.in_main.ensures
