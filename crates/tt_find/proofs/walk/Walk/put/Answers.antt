use Rattle.std.proofs.Common.{◌≡◌, ◌≢◌, ◌∙◌, ◌<◌, ℕ, List, ap, length, reverse, subst, sym, false, true}
use Rattle.std.specs.Prelude.{Some}
use Rattle.tt_code.specs.declared.machine.Frame.{Frame}
use Rattle.tt_abs.specs.States.{state_order}
use Rattle.tt_family.specs.Contents.{frames_at}
use Rattle.tt_setting.specs.Spots.{spot_of}
use Rattle.tt_find.proofs.Placed.{put_elsewhere}
use Rattle.tt_find.proofs.walk.Walk.put.Goals as goal

pub returns-else-is_at-clause-walk : goal.returns-else-is_at-clause-walk
returns-else-is_at-clause-walk c =
    let put = c.in-Ok.ensures.put in
    let at = c.args.self.now.context in
    let T : List (List Frame) → Type 0 = λ x. at < length x in
    record {
      there = subst T (sym put.contexts) c.requires.walk.there;
      calls = c.requires.walk.calls ∙ ap (λ (x : List (List Frame)). reverse (frames_at x at)) (sym put.contexts);
      spot = c.requires.walk.spot ∙ ap (λ (x : List (List Frame)). spot_of (frames_at x at)) (sym put.contexts);
      known = λ a b is.
          let apart : ◌≢◌ {A = ℕ × ℕ} (a, b) (c.args.context, c.args.offset) =
          λ e.
          let there : c.args.self.now.known ≡ Some (c.args.context, c.args.offset) = is ∙ ap Some e in
          let no_such : true ≡ false = sym (c.is_at.ensures.1 there) ∙ c.if-is_at.false in
          cc in
          put_elsewhere state_order c.args.solver.now.builder c.put.new.self.builder c.args.context c.args.offset c.args.self.now.state put.changed c.requires.there put.put put.contexts put.family
          c.family_facts.ensures a b c.args.self.now.state apart (c.requires.walk.known a b is);
    }
