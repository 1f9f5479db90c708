use Rattle.tt_code.proofs.ProgramLemmas.{kept_each, kept_structured}
use Rattle.tt_code.proofs.StructureLaws.{leads_value}
use Rattle.tt_code.proofs.program.Program.goes.Goals as goal

pub returns-clause-value : goal.returns-clause-value
returns-clause-value c =
    let each = kept_each _ _ _ c.self.invariant c.self.view_is in
    let structured = kept_structured _ _ _ c.self.invariant c.self.view_is in
    leads_value c.args.opener c.args.self.now c.args.offset c.look_up.result structured each c.requires c.look_up.ensures.found c.look_up.ensures.only
