use Rattle.std.proofs.Common.{[]}
use Rattle.tt_code.specs.Settings.{CvtProgram, FontProgram}
use Rattle.hintcheck_programs.specs.FontPrograms.{font_of}
use Rattle.hintcheck_fonts.proofs.SymbolicSteps.{begun_empty}
use Rattle.hintcheck_fonts.proofs.symbolic_check.SymbolicCheck.pass_empty.Goals as goal

pub returns-clause-begun : goal.returns-clause-begun
returns-clause-begun c =
    let limits = c.limits.ensures in
    let count = c.cvt_count.ensures in
    let empty = c.in_ok-empty.ensures in
    let started = c.in_ok-start_glyphs.ensures in
    begun_empty (font_of c.args.font.now [] []) _ _ c.in_ok-first.first c.in_ok-self.field-0 _ _ _ c.in_ok-first.ensures.ended c.in_ok-self.ensures.ended
    started.ends c.as_slice-functions.ensures.value started.starts
    (λ i. record { limits = limits i; cvt = count i; kind = FontProgram; main = empty i; font = empty i; prep = empty i })
    (λ i. record { limits = limits i; cvt = count i; kind = CvtProgram; main = empty i; font = empty i; prep = empty i })
