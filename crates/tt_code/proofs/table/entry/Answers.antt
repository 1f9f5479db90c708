use Rattle.std.proofs.Common.{◌<◌, arith, zero-add, ap, ◌∙◌}
use Rattle.tt_code.proofs.TableLemmas.{agrees_at}
use Rattle.tt_code.specs.Entries.{view}
use Rattle.tt_code.specs.Table.{effect_of}
use Rattle.tt_code.proofs.table.entry.Goals as goal

pub returns : goal.returns
returns c =
    let low : c.args.code < 256 = omega arith in
    agrees_at 256 0 c.args.code c.effects.result.now view effect_of _ low c.effects.ensures ∙ ap effect_of (zero-add c.args.code)
