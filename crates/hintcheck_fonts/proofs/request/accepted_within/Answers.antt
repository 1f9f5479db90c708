use Rattle.std.proofs.Common.{◌≡◌, ◌+◌, sym, ◌∙◌, subst, length}
use Rattle.std.proofs.lemmas.Option.{IfSome_then}
use Rattle.hintcheck_programs.specs.FontPrograms.{IsFontInRange, IsVerdict, judgement_on}
use Rattle.hintcheck_programs.specs.Verdicts.{Judgement}
use Rattle.hintcheck_programs.proofs.FontSafety.{font_is_safe}
use Rattle.hintcheck_fonts.specs.FontAnswers.{IsVerdictOn}
use Rattle.hintcheck_fonts.proofs.request.accepted_within.Goals as goal

pub returns-in-Ok-clause-given : goal.returns-in-Ok-clause-given
returns-in-Ok-clause-given c =
    let d = c.in_ok-read.read in
    let range : IsFontInRange d = c.in_ok-read.ensures.range in
    let count : c.from-programs.result ≡ length d.glyphs = c.from-programs.ensures ∙ c.glyph_count.ensures in
    let same : c.new.result ≡ judgement_on d c.in-Ok.refused.items = c.new.ensures ∙ (λ i. record { programs = count i + 2; refused = c.in-Ok.refused.items }) in
    let V : Judgement → Type 0 = λ v. IsVerdict d v in
    let is : IsVerdict d c.new.result = subst V (sym same) c.in-Ok.ensures.refused in
    let on : IsVerdictOn c.args.font.now c.new.result = record { font = d; reads = c.in_ok-read.ensures.reads; given = is; safe = font_is_safe d range c.new.result is } in
    let O : Judgement → Type 0 = λ v. IsVerdictOn c.args.font.now v in
    IfSome_then c.if_accepted.result c.if_accepted.ensures.given (λ v found. (subst O (sym found.0) on, found.1))
