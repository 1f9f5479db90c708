use Rattle.tt_code.proofs.StructureLaws.{each_bytes, opener_leads}
use Rattle.tt_code.proofs.laws.partners_are_there.Goals as goal

pub returns-clause-of_if : goal.returns-clause-of_if
returns-clause-of_if c = λ is at i structured each stands opens. opener_leads structured (each_bytes is each) tt stands opens

pub returns-clause-of_else : goal.returns-clause-of_else
returns-clause-of_else c = λ is at i structured each stands opens. opener_leads structured (each_bytes is each) tt stands opens

pub returns-clause-of_fdef : goal.returns-clause-of_fdef
returns-clause-of_fdef c = λ is at i structured each stands opens. opener_leads structured (each_bytes is each) tt stands opens

pub returns-clause-of_idef : goal.returns-clause-of_idef
returns-clause-of_idef c = λ is at i structured each stands opens. opener_leads structured (each_bytes is each) tt stands opens
