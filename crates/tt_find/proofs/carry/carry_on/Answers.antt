use Rattle.std.proofs.Common.{◌∙◌, ℕ, arith, refl, sym, subst}
use Rattle.tt_setting.specs.Settings.{setting_of}
use Rattle.tt_family.specs.Puts.{place_of}
use Rattle.tt_find.specs.Representation.Solvers.{IsOnWay}
use Rattle.tt_find.proofs.Steps.{way_begins}
use Rattle.tt_find.proofs.carry.carry_on.Goals as goal

pub loop-next-init : goal.loop-next-init
loop-next-init c =
    let s = setting_of c.args.setting.now in
    let fs = c.args.setting.now.start.now in
    let solver = c.args.solver.now in
    let W : ℕ → Type 0 = λ x. IsOnWay s fs solver (place_of solver.builder x c.args.offset) c.take.new.self.state in
    record {
      way = subst W (sym (c.in_ok-take.ensures.context ∙ c.in_ok-go_to.ensures.context))
          (way_begins s fs c.requires.laws solver c.args.context c.args.offset c.take.new.self.state c.requires.popped (c.in_ok-take.ensures.some c.if-not-branch.false));
      walk = c.in_ok-take.ensures.walk;
      risen = record { worklist = omega arith; changes = omega arith };
      few = omega arith;
      spends = (refl, omega arith);
      alike = refl;
      everywhere = refl;
    }
