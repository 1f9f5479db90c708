use Rattle.std.proofs.Common.{rules}
use Rattle.std.specs.Prelude.{FitsSigned}
use Rattle.std.specs.Int.{w64}
use Rattle.std.proofs.lemmas.Int.{to_z-of_z}
use Rattle.tt_setting.specs.Settings.{setting_of, frames_of}
use Rattle.tt_setting.proofs.TargetLemmas.{negative_target}
use Rattle.tt_setting.proofs.setting.Setting.is_target.Goals as goal

pub returns-in-Err : goal.returns-in-Err
returns-in-Err c =
    let fits : FitsSigned w64 c.args.target = search rules in
    negative_target (setting_of c.args.self.now) (frames_of c.args.point.now) c.args.target (simp to_z-of_z at c.in-Err.ensures) c.requires
