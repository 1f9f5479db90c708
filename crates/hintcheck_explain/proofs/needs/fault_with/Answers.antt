use Rattle.std.proofs.Common.{rules}
use Rattle.hintcheck_explain.proofs.NeedLemmas.{IsRaise, still_fits}
use Rattle.hintcheck_explain.proofs.needs.fault_with.Goals as goal

pub explore-requires-clause-fits : goal.explore-requires-clause-fits
explore-requires-clause-fits c =
    let raise : IsRaise c.args.setting.now c.args.limit c.max-number.result = search rules in
    rw c.limits_with.ensures (still_fits c.args.setting.now c.args.limit c.max-number.result raise c.requires.fits)
