use Rattle.std.proofs.Common.{arith, refl, ◌≡◌, ◌+◌, ◌≤◌, ℕ, Option, length, sym, ◌∙◌, ap, subst, inl, inr}
use Rattle.std.specs.Borrow.{Bor}
use Rattle.tt_setting.specs.Settings.{setting_of}
use Rattle.tt_abs.specs.declared.state.State.{State}
use Rattle.tt_family.specs.Puts.{place_of}
use Rattle.tt_family.specs.Representation.Cursors.{AreToCome, IsAtNext, MayLeaveOut, to_come}
use Rattle.tt_family.proofs.FillingLaws.{filled_in_range}
use Rattle.tt_family.proofs.Spending.{spends_on, tells_on}
use Rattle.tt_family.proofs.Walking.{first_on_way, line_of, nothing_walked, on_way, told_at, unlisted_after, way_shorter}
use Rattle.tt_family.proofs.checker.check_points.Goals as goal

pub loop-offset-init : goal.loop-offset-init
loop-offset-init c = record {
  walk = c.requires.walk;
  to_come = c.requires.to_come;
  spends = (refl, omega arith);
  alike = refl;
  counted = let all = ap length c.requires.all in omega arith;
  way = nothing_walked (setting_of c.args.setting.now) c.args.listing c.args.certificate.now c.order_facts.ensures.0 c.args.walk.now c.args.states c.requires.all c.requires.carried;
}

pub go_on-requires-clause-walk : goal.go_on-requires-clause-walk
go_on-requires-clause-walk c = c.loop-offset.invariant.walk

pub go_on-requires-clause-to_come : goal.go_on-requires-clause-to_come
go_on-requires-clause-to_come c = c.loop-offset.invariant.to_come

pub check_point-requires-clause-fit : goal.check_point-requires-clause-fit
check_point-requires-clause-fit c =
    let S = setting_of c.args.setting.now in
    let v = c.args.certificate.now in
    let point = subst (IsAtNext S c.args.listing v c.go_on.new.self c.go_on.new.states) c.in-Some.is (c.in_ok-offset.ensures.point S c.args.listing c.loop-offset.invariant.way) in
    told_at v c.requires.to_come.ascends (to_come c.go_on.new.self.next c.go_on.new.states) c.go_on.new.self.context (c.in-Some.offset + 1) point.read

pub check_point-requires-clause-in_range : goal.check_point-requires-clause-in_range
check_point-requires-clause-in_range c =
    let S = setting_of c.args.setting.now in
    let v = c.args.certificate.now in
    let point = subst (IsAtNext S c.args.listing v c.go_on.new.self c.go_on.new.states) c.in-Some.is (c.in_ok-offset.ensures.point S c.args.listing c.loop-offset.invariant.way) in
    filled_in_range S (MayLeaveOut c.args.listing S) (line_of S c.args.listing) v point.filled _ c.order_facts.ensures.0 point.walked.filled_by
    (place_of v c.go_on.new.self.context c.in-Some.offset) c.go_on.new.self.made point.here

pub check_point-requires-clause-unlisted : goal.check_point-requires-clause-unlisted
check_point-requires-clause-unlisted c = λ after lt.
    let S = setting_of c.args.setting.now in
    let v = c.args.certificate.now in
    let point = subst (IsAtNext S c.args.listing v c.go_on.new.self c.go_on.new.states) c.in-Some.is (c.in_ok-offset.ensures.point S c.args.listing c.loop-offset.invariant.way) in
    unlisted_after v c.requires.to_come.ascends c.go_on.new.self.next c.go_on.new.states c.go_on.new.self.context c.in-Some.offset after point.read lt

pub returns-in-Err-clause-broken : goal.returns-in-Err-clause-broken
returns-in-Err-clause-broken c =
    let S = setting_of c.args.setting.now in
    let v = c.args.certificate.now in
    let point = subst (IsAtNext S c.args.listing v c.go_on.new.self c.go_on.new.states) c.in-Some.is (c.in_ok-offset.ensures.point S c.args.listing c.loop-offset.invariant.way) in
    first_on_way S c.args.listing v c.order_facts.ensures.0 c.go_on.new.self c.go_on.new.states c.in-Some.offset point c.in_ok-offset.ensures.walk.there c.in-Err.fault
    c.in-Err.ensures.broken

pub returns-in-Err-clause-budget : goal.returns-in-Err-clause-budget
returns-in-Err-clause-budget c = tells_on c.args.budget.now c.loop-offset.budget c.check_point.new.budget c.loop-offset.invariant.alike c.in-Err.fault c.in-Err.ensures.budget

pub loop-offset-smaller : goal.loop-offset-smaller
loop-offset-smaller c =
    let S = setting_of c.args.setting.now in
    let v = c.args.certificate.now in
    let shorter = rw c.in-Some.is at c.in_ok-offset.ensures.shorter in
    let next : length (to_come c.check_point.new.walk.next c.go_on.new.states) ≡ length (to_come c.go_on.new.self.next c.go_on.new.states) =
    ap (λ n. length (to_come n c.go_on.new.states)) c.check_point.ensures.next in
    way_shorter (length (to_come c.loop-offset.walk.next c.loop-offset.states)) (length (to_come c.check_point.new.walk.next c.go_on.new.states)) c.loop-offset.walk.carried
    c.check_point.new.walk.carried c.in-Some.offset (elim shorter [ inl lt ↦ inl (omega (arith, next)) | inr (same, is) ↦ inr (next ∙ same, is) ])
    (λ o is. (line_of S c.args.listing (place_of v c.go_on.new.self.context c.in-Some.offset) (place_of v c.go_on.new.self.context o)
    (c.in_default-check_point.ensures.passed.added o is).may).ends.forward)
    c.in_default-check_point.ensures.within

pub loop-offset-preserved : goal.loop-offset-preserved
loop-offset-preserved c =
    let S = setting_of c.args.setting.now in
    let v = c.args.certificate.now in
    let point = subst (IsAtNext S c.args.listing v c.go_on.new.self c.go_on.new.states) c.in-Some.is (c.in_ok-offset.ensures.point S c.args.listing c.loop-offset.invariant.way) in
    let C : Option (ℕ × ℕ × Bor State) → Type 0 = λ n. AreToCome v n c.go_on.new.states in
    record {
      walk = c.in_default-check_point.ensures.walk;
      to_come = subst C (sym c.check_point.ensures.next) c.in_ok-offset.ensures.to_come;
      counted =
          let one : length (to_come c.loop-offset.walk.next c.loop-offset.states) ≤ length (to_come c.go_on.new.self.next c.go_on.new.states) + 1 = rw c.in-Some.is at c.in_ok-offset.ensures.one in
          let next : length (to_come c.check_point.new.walk.next c.go_on.new.states) ≡ length (to_come c.go_on.new.self.next c.go_on.new.states) =
          ap (λ n. length (to_come n c.go_on.new.states)) c.check_point.ensures.next in
          let before = c.loop-offset.invariant.counted in
          let left = c.in_default-check_point.ensures.counted.0 in
          let most = c.loop-offset.invariant.spends.1 in
          omega arith;
      spends = spends_on c.args.budget.now c.loop-offset.budget c.check_point.new.budget c.loop-offset.invariant.spends c.check_point.ensures.spends;
      alike = c.in_default-check_point.ensures.budget ∙ c.loop-offset.invariant.alike;
      way = on_way S c.args.listing v c.order_facts.ensures.0 c.go_on.new.self c.go_on.new.states c.in-Some.offset point c.in_ok-offset.ensures.walk.there
          c.check_point.new.walk c.check_point.ensures.context c.check_point.ensures.next c.in_default-check_point.ensures.passed;
    }

pub returns-clause-sound : goal.returns-clause-sound
returns-clause-sound c =
    let S = setting_of c.args.setting.now in
    subst (IsAtNext S c.args.listing c.args.certificate.now c.go_on.new.self c.go_on.new.states) c.in_default.is (c.in_ok-offset.ensures.point S c.args.listing c.loop-offset.invariant.way)

pub returns-clause-counted : goal.returns-clause-counted
returns-clause-counted c =
    let none : length (to_come c.loop-offset.walk.next c.loop-offset.states) ≡ 0 = rw c.in_default.is at c.in_ok-offset.ensures.one in
    let before = c.loop-offset.invariant.counted in
    omega arith
