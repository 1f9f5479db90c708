use Rattle.std.proofs.Common.{◌∙◌}
use Rattle.tt_code.proofs.ByteLemmas.{cut_fits}
use Rattle.tt_code.proofs.CutLemmas.{kept_size}
use Rattle.tt_code.proofs.program.Program.len.Goals as goal

pub returns-clause-value : goal.returns-clause-value
returns-clause-value c = c.byte_count.ensures.value ∙ kept_size _ _ _ c.self.invariant.is_laid c.self.view_is

pub returns-clause-bytes : goal.returns-clause-bytes
returns-clause-bytes c = cut_fits _ _ _ c.self.invariant.is_laid.is_cut c.self.view_is c.byte_count.ensures.bytes
