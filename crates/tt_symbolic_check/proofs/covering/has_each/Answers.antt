use Rattle.std.proofs.Common.{◌∙◌, ap, ℕ, sym, subst, ◌≡◌, Some}
use Rattle.std.proofs.lemmas.List.Elements.{All-more}
use Rattle.std.specs.List.{All}
use Rattle.std.proofs.lemmas.List.{take_all}
use Rattle.tt_setting.specs.Entries.{listed}
use Rattle.tt_symbolic_check.proofs.Listings.{functions_within}
use Rattle.tt_symbolic_check.proofs.covering.has_each.Goals as goal

pub loop-i-preserved : goal.loop-i-preserved
loop-i-preserved c = All-more (λ (e : ℕ × ℕ). listed c.args.mine.now e.0 ≡ Some e.1) c.args.theirs.now c.loop-i.i (0, 0) c.loop-i-test.true c.loop-i.invariant (sym c.listed_near.ensures ∙ c.in-Some.is ∙ ap Some c.if-body-entry.false)

pub returns : goal.returns
returns c = λ e. functions_within c.args.mine.now c.args.theirs.now (subst (All (λ (e : ℕ × ℕ). listed c.args.mine.now e.0 ≡ Some e.1)) (take_all c.loop-i.i c.args.theirs.now c.loop-i-test.false) c.loop-i.invariant)
