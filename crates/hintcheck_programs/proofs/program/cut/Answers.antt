use Rattle.std.proofs.Common.{Err, ap}
use Rattle.tt_setting.specs.declared.spot.Spot.TheVariants as spot
use Rattle.tt_code.specs.declared.reason.Reason.TheVariants as reason
use Rattle.hintcheck_programs.specs.ProgramVerdicts.{IsUncut, no_cut, no_structure}
use Rattle.hintcheck_programs.proofs.ProgramVerdictLemmas.{reported}
use Rattle.hintcheck_programs.proofs.program.cut.Goals as goal

pub returns-in-Err-CannotCut-clause-uncut : goal.returns-in-Err-CannotCut-clause-uncut
returns-in-Err-CannotCut-clause-uncut c = λ called.
    let offset = c.in-Err-CannotCut.offset in
    reported called c.in_main.result spot.Main offset reason.CannotCut (IsUncut called c.args.bytes.now) c.in_main.ensures
    (no_cut offset (c.in-Err-CannotCut.ensures.refused offset (ap Err c.in-Err-CannotCut.field-0-is)))

pub returns-in-Err-Structure-clause-uncut : goal.returns-in-Err-Structure-clause-uncut
returns-in-Err-Structure-clause-uncut c = λ called.
    let offset = c.in-Err-Structure.offset in
    let (is, cut, fault) = c.in-Err-Structure.ensures.unstructured offset (ap Err c.in-Err-Structure.field-0-is) in
    reported called c.in_main-in-Err-Structure.result spot.Main offset reason.Structure (IsUncut called c.args.bytes.now) c.in_main-in-Err-Structure.ensures (no_structure is offset cut fault)
