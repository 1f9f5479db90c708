use Rattle.std.proofs.Common.{arith}
use Rattle.tt_cert.proofs.CutCells.{are_bytes}
use Rattle.tt_cert.proofs.Fronts.{long_front}
use Rattle.tt_cert.proofs.units.take_long.Goals as goal

pub returns : goal.returns
returns c =
    let cases = c.in_ok-unit.ensures.cases in
    long_front c.args.bytes.now c.in_ok-unit.unit.now c.in_ok-unit.rest.now _ (are_bytes c.args.bytes.now c.type_inv.bytes) (omega (arith, cases.2)) cases.0 cases.1 c.from_be_bytes.ensures
