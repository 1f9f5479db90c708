use Rattle.std.proofs.Common.{sym, ◌∙◌}
use Rattle.tt_symbolic.proofs.Keepings.{keeps_changed, keeps_paired, keeps_written}
use Rattle.tt_symbolic.proofs.kept.keeps_controls.Goals as goal

pub returns-in-WritesControl : goal.returns-in-WritesControl
returns-in-WritesControl c = λ e. keeps_written c.args.numbers.now c.args.code c.args.state.now (sym c.refinement.ensures ∙ c.in-WritesControl.is) (c.is_second_none_of.ensures e)

pub returns-in-ChangesControl : goal.returns-in-ChangesControl
returns-in-ChangesControl c = λ e. keeps_changed c.args.numbers.now c.args.code c.args.state.now (sym c.refinement.ensures ∙ c.in-ChangesControl.is) (c.is_second_none_of-in-ChangesControl.ensures e)

pub returns-in-ChangesControls : goal.returns-in-ChangesControls
returns-in-ChangesControls c = λ e. keeps_paired c.args.numbers.now c.args.code c.args.state.now (sym c.refinement.ensures ∙ c.in-ChangesControls.is) (c.are_all_pairs_none_of.ensures e)
