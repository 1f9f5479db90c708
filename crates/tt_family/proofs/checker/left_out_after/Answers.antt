use Rattle.tt_setting.specs.Settings.{frames_of, setting_of}
use Rattle.tt_family.proofs.Walking.{left_out_by}
use Rattle.tt_family.proofs.checker.left_out_after.Goals as goal

pub returns-in-Sparse : goal.returns-in-Sparse
returns-in-Sparse c =
    left_out_by (setting_of c.args.setting.now) c.args.listing (frames_of c.args.point.now, c.args.point.now.offset) c.in-Sparse.is c.added_after.result c.added_after.ensures
