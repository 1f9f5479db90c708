use Rattle.std.proofs.Common.{arith, ◌≡◌, ◌++◌, ◌∷◌, ◌<◌, ℕ, None, Some, [], true, false, length, reverse, append_assoc, sym, ◌∙◌, ap, subst}
use Rattle.std.specs.Borrow.{Bor}
use Rattle.tt_abs.specs.declared.state.State.{State}
use Rattle.tt_family.specs.Contents.{frames_at}
use Rattle.tt_family.specs.Representation.Cursors.{Entry, IsComingAfter, to_come}
use Rattle.tt_family.proofs.Moves.{entry_found}
use Rattle.tt_family.proofs.Walking.{at_carried, at_listed, read_behind, taken, walked_through}
use Rattle.tt_family.proofs.cursor.Cursor.go_on.Goals.{in-Some+else-is_coming_after, in_default}
use Rattle.tt_family.proofs.cursor.Cursor.go_on.Goals as goal

pub returns-then-is_coming_after-clause-point : goal.returns-then-is_coming_after-clause-point
returns-then-is_coming_after-clause-point c = λ s listing way.
    at_carried s listing c.args.certificate.now c.order_facts.ensures.0 c.requires.to_come.ascends c.args.self.now c.args.states.now way c.in-Some.offset c.requires.walk.there c.in-Some.is
    (c.is_coming_after.ensures.0 c.if-is_coming_after.true)

pub returns-in_default-next-clause-point : goal.returns-in_default-next-clause-point
returns-in_default-next-clause-point c = λ s listing way.
    walked_through s listing c.args.certificate.now c.order_facts.ensures.0 c.requires.to_come.ascends c.args.self.now c.args.states.now way c.in_default-next.is
    (elim c.match-self.branch [
      | in-Some+else-is_coming_after w ↦
          let after : IsComingAfter c.args.self.now.next (c.args.self.now.context, w.in-Some.offset) = subst (λ n. IsComingAfter n (c.args.self.now.context, w.in-Some.offset)) (sym c.in_default-next.is) tt in
          let no_such : true ≡ false = sym (w.is_coming_after.ensures.1 after) ∙ w.if-is_coming_after.false in absurd (cc)
      | in_default w ↦ w.in_default.is
    ])

pub go_to-requires-clause-walk : goal.go_to-requires-clause-walk
go_to-requires-clause-walk c =
    let v = c.args.certificate.now in
    let (before, split) = c.requires.to_come.rest in
    let x : Entry = ((c.in-Some-next.context, c.in-Some-next.offset), c.in-Some-next.state.now) in
    record {
      there = let W : ℕ → Type 0 = λ k. k < length v.contexts in subst W (sym c.in_ok-take.ensures.context) c.requires.walk.there;
      frames = ap (λ fs. fs.items) c.in_ok-take.ensures.frames ∙ c.requires.walk.frames ∙ ap (λ k. reverse (frames_at v.contexts k)) (sym c.in_ok-take.ensures.context);
      next = read_behind v before x c.args.states.now c.take_first-self.new.self c.take_first-self.result (split ∙ ap (λ n. before ++ to_come n c.args.states.now) c.in-Some-next.is)
          (taken c.take_first-self.result c.args.states.now c.take_first-self.new.self c.take_first-self.ensures.none c.take_first-self.ensures.some) c.requires.to_come.found;
      made = λ t. let no_such : true ≡ false = sym t ∙ c.in_ok-take.ensures.not_next in absurd (cc);
    }

pub go_to-requires-clause-there : goal.go_to-requires-clause-there
go_to-requires-clause-there c =
    let v = c.args.certificate.now in
    let (before, split) = c.requires.to_come.rest in
    let x : Entry = ((c.in-Some-next.context, c.in-Some-next.offset), c.in-Some-next.state.now) in
    c.order_facts.ensures.0.held c.in-Some-next.context c.in-Some-next.offset c.in-Some-next.state.now
    (entry_found v before c.args.states.now x (split ∙ ap (λ n. before ++ to_come n c.args.states.now) c.in-Some-next.is) c.requires.to_come.found)

pub returns-clause-to_come : goal.returns-clause-to_come
returns-clause-to_come c =
    let (before, split) = c.requires.to_come.rest in
    let x : Entry = ((c.in-Some-next.context, c.in-Some-next.offset), c.in-Some-next.state.now) in
    let here : c.args.certificate.now.states ≡ before ++ x ∷ c.args.states.now = split ∙ ap (λ n. before ++ to_come n c.args.states.now) c.in-Some-next.is in
    let rest : c.args.states.now ≡ to_come c.go_to.new.self.next c.take_first-self.new.self =
    taken c.take_first-self.result c.args.states.now c.take_first-self.new.self c.take_first-self.ensures.none c.take_first-self.ensures.some
    ∙ ap (λ n. to_come n c.take_first-self.new.self) (sym c.in_ok-go_to.ensures.next) in
    record {
      rest = (before ++ x ∷ [], here ∙ ap (λ l. before ++ x ∷ l) rest ∙ sym (append_assoc before (x ∷ []) (to_come c.go_to.new.self.next c.take_first-self.new.self)));
      ascends = c.requires.to_come.ascends;
      found = c.requires.to_come.found;
    }

pub returns-clause-point : goal.returns-clause-point
returns-clause-point c = λ s listing way.
    let x : ℕ × ℕ × Bor State = (c.in-Some-next.context, c.in-Some-next.offset, c.in-Some-next.state) in
    let rest : c.args.states.now ≡ to_come c.go_to.new.self.next c.take_first-self.new.self =
    taken c.take_first-self.result c.args.states.now c.take_first-self.new.self c.take_first-self.ensures.none c.take_first-self.ensures.some
    ∙ ap (λ n. to_come n c.take_first-self.new.self) (sym c.in_ok-go_to.ensures.next) in
    at_listed s listing c.args.certificate.now c.order_facts.ensures.0 c.requires.to_come.ascends c.args.self.now c.args.states.now way x c.take_first-self.new.self c.in-Some-next.is
    c.requires.to_come.found c.requires.walk.there (omega (arith, c.if-prove.false)) not_carried c.go_to.new.self c.in_ok-go_to.ensures.context (c.in_ok-go_to.ensures.made ∙ c.in_ok-take.ensures.made) rest
  where
    not_carried : (o : ℕ) → c.args.self.now.carried ≡ Some o → IsComingAfter c.args.self.now.next (c.args.self.now.context, o) → ⊥
    not_carried o is after = elim c.match-self.branch [
      | in-Some+else-is_coming_after w ↦
          let both : Some w.in-Some.offset ≡ Some o = sym w.in-Some.is ∙ is in
          let same : w.in-Some.offset ≡ o = cc in
          let after' : IsComingAfter c.args.self.now.next (c.args.self.now.context, w.in-Some.offset) = subst (λ k. IsComingAfter c.args.self.now.next (c.args.self.now.context, k)) (sym same) after in
          let no_such : true ≡ false = sym (w.is_coming_after.ensures.1 after') ∙ w.if-is_coming_after.false in cc
      | in_default w ↦ let no_such : None ≡ Some o = sym w.in_default.is ∙ is in cc
    ]

pub returns-in_default-next-clause-one : goal.returns-in_default-next-clause-one
returns-in_default-next-clause-one c = ap (λ n. length (to_come n c.args.states.now)) c.in_default-next.is

pub returns-clause-one : goal.returns-clause-one
returns-clause-one c =
    let rest : c.args.states.now ≡ to_come c.go_to.new.self.next c.take_first-self.new.self =
    taken c.take_first-self.result c.args.states.now c.take_first-self.new.self c.take_first-self.ensures.none c.take_first-self.ensures.some
    ∙ ap (λ n. to_come n c.take_first-self.new.self) (sym c.in_ok-go_to.ensures.next) in
    let here = ap (λ n. length (to_come n c.args.states.now)) c.in-Some-next.is in
    let long = ap length rest in
    omega arith
