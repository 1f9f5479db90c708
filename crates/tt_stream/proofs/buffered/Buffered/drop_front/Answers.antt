use Rattle.std.proofs.Common.{◌≡◌, ◌≤◌, length, slice_range, drop, ap, ◌∙◌, subst, sym}
use Rattle.tt_stream.proofs.Ahead.{slice_range-skip}
use Rattle.tt_stream.proofs.buffered.Buffered.drop_front.Goals as goal

pub returns-clause-ahead : goal.returns-clause-ahead
returns-clause-ahead g c =
    let inside = c.self.inside in
    let is : slice_range inside.bytes.items inside.at inside.end ≡ c.args.self.now.ahead = ap (λ b. b.ahead) c.self.view_is in
    let few = subst (λ l. c.args.count ≤ length l) (sym is) c.requires in
    slice_range-skip inside.bytes.items inside.at inside.end c.args.count few ∙ ap (drop c.args.count) is
