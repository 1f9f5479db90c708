use Rattle.std.proofs.Common.{◌≡◌, arith, rules, take}
use Rattle.tt_stream.proofs.Ahead.{starts_part}
use Rattle.tt_cert.proofs.lists.is_ahead.Goals as goal

pub returns-clause-same : goal.returns-clause-same
returns-clause-same g c =
    let shown = c.ahead-ahead.result.now in
    let same : take c.args.width (g.S.Source.read_ahead c.args.source.now) ≡ take c.args.width shown = starts_part _ shown c.args.width c.ahead-ahead.ensures.value (omega arith) in
    search rules
