use Rattle.std.proofs.Common.{◌≡◌, ◌+◌, sym, ◌∙◌, subst, length}
use Rattle.hintcheck_programs.specs.FontPrograms.{IsFontInRange, IsVerdict, judgement_on}
use Rattle.hintcheck_programs.specs.Verdicts.{Judgement}
use Rattle.hintcheck_programs.proofs.FontSafety.{font_is_safe}
use Rattle.hintcheck_programs.proofs.font.verdict_within.Goals as goal

pub returns-clause-exact : goal.returns-clause-exact
returns-clause-exact c =
    let d = c.in_ok-read.read in
    let range : IsFontInRange d = c.in_ok-read.ensures.range in
    let count : c.from.result ≡ length d.glyphs = c.from.ensures ∙ c.glyph_count.ensures in
    let same : c.new.result ≡ judgement_on d c.in_ok-refused.refused.items = c.new.ensures ∙ (λ i. record { programs = count i + 2; refused = c.in_ok-refused.refused.items }) in
    let V : Judgement → Type 0 = λ v. IsVerdict d v in
    let is : IsVerdict d c.new.result = subst V (sym same) c.in_ok-refused.ensures.refused in
    (d, c.in_ok-read.ensures.reads, is, font_is_safe d range c.new.result is)
