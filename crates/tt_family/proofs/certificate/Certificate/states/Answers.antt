use Rattle.std.proofs.Common.{◌≡◌, ℕ, Some, subst}
use Rattle.std.specs.List.{All}
use Rattle.tt_abs.specs.declared.state.State.{State}
use Rattle.tt_family.specs.Contents.{Contents}
use Rattle.tt_family.specs.Places.{states_of}
use Rattle.tt_family.proofs.certificate.Certificate.states.Goals as goal

pub returns-clause-found : goal.returns-clause-found
returns-clause-found c =
    let F : Contents → Type 0 = λ x. All (λ (e : (ℕ × ℕ) × State). states_of x.states e.0 ≡ Some e.1) x.states in
    subst F c.self.view_is c.states.ensures.found
