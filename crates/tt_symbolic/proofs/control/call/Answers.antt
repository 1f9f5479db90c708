use Rattle.std.proofs.Common.{rules, refl}
use Rattle.std.specs.Prelude.{FitsSigned}
use Rattle.std.specs.Int.{w32}
use Rattle.std.proofs.lemmas.Int.{to_z-of_z}
use Rattle.tt_symbolic.proofs.AreaFacts.{fits_there}
use Rattle.tt_symbolic.proofs.Results.{on_ok}
use Rattle.tt_symbolic.proofs.Controls.{call_leads}
use Rattle.tt_symbolic.proofs.control.call.Goals as goal

pub returns : goal.returns
returns c =
    let z : FitsSigned w32 c.in_ok-function.function = search rules in
    on_ok c.enter.result _ _ (λ o. call_leads c.args.setting.now c.args.state.now c.pop.new.state c.enter.new.state c.in_ok-top.top c.in_ok-function.function (record { body = c.in_ok-body.body; call = c.pop.new.state.offset; left = c.known.result }) c.in_ok-top.ensures (λ v fits. c.in_ok-function.ensures v (fits_there _ _ v c.as_slice.ensures.value fits)) (simp to_z-of_z at c.in_ok-body.ensures) refl c.known.ensures o) c.enter.ensures
