use Rattle.std.proofs.Common.{◌≡◌, ◌+◌, ◌∙◌, length, subst, sym}
use Rattle.hintcheck_programs.specs.FontPrograms.{judgement_on}
use Rattle.hintcheck_fonts.specs.SymbolicVerdicts.{IsSymbolicVerdict}
use Rattle.hintcheck_programs.specs.Verdicts.{Judgement}
use Rattle.hintcheck_fonts.proofs.symbolic_verdict.verdict_symbolic_by.Goals as goal

pub returns-in-Ok-clause-exact : goal.returns-in-Ok-clause-exact
returns-in-Ok-clause-exact c =
    let d = c.in_ok-read.read in
    let count : c.from.result ≡ length d.glyphs = c.from.ensures ∙ c.glyph_count.ensures in
    let same : c.new.result ≡ judgement_on d c.in-Ok.refused.items = c.new.ensures ∙ (λ i. record { programs = count i + 2; refused = c.in-Ok.refused.items }) in
    (d, c.in_ok-read.ensures.reads, subst (λ (v : Judgement). IsSymbolicVerdict d v) (sym same) c.in-Ok.ensures)
