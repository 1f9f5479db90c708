use Rattle.tt_setting.specs.Settings.{frames_of, setting_of}
use Rattle.tt_abs.specs.States.{abstract_of}
use Rattle.tt_abs.proofs.StepLemmas.{none_at}
use Rattle.tt_abs.proofs.instruction.step.Goals as goal

pub returns-in_default-clause-refused : goal.returns-in_default-clause-refused
returns-in_default-clause-refused c =
    none_at (setting_of c.args.setting.now) (frames_of c.args.point.now) c.args.point.now.offset (abstract_of c.args.state.now) c.program-program.result.now c.program-program.ensures c.requires c.in_default.ensures.value
