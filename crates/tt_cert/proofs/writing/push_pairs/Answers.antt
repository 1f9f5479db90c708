use Rattle.std.proofs.Common.{ℕ, List, [], ◌++◌, ◌∙◌, ap, subst}
use Rattle.std.specs.List.{AllByRecursion, flat_map}
use Rattle.std.proofs.lemmas.List.{take_all}
use Rattle.tt_cert.specs.Text.{pair_text}
use Rattle.tt_cert.proofs.Fields.{PairFits}
use Rattle.tt_cert.proofs.Pushed.{all_next, at_default, next_written}
use Rattle.tt_cert.proofs.writing.push_pairs.Goals as goal

pub loop-function-preserved : goal.loop-function-preserved
loop-function-preserved c =
    let fs = c.args.functions.now in
    let k = c.loop-function.function-index in
    let at = at_default fs k (0, 0) c.loop-function-test.true in (
      next_written pair_text c.args.out.now.items [] c.loop-function.out.items _ fs k _ at c.loop-function.invariant.0 c.in_ok-push_pair.ensures.written,
      all_next PairFits fs k _ at c.loop-function.invariant.1 c.in_ok-push_pair.ensures.fits,
    )

pub returns : goal.returns
returns c =
    let all = take_all c.loop-function.function-index c.args.functions.now c.loop-function-test.false in
    record {
      written = c.loop-function.invariant.0 ∙ ap (λ (l : List (ℕ × ℕ)). c.args.out.now.items ++ flat_map pair_text l) all;
      numbers = subst (λ (l : List (ℕ × ℕ)). AllByRecursion PairFits l) all c.loop-function.invariant.1;
    }
