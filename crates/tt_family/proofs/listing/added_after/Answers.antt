use Rattle.std.proofs.Common.{sym, ◌∙◌}
use Rattle.tt_setting.specs.Settings.{frames_of, setting_of}
use Rattle.tt_family.proofs.Walking.{added_there, nothing_added}
use Rattle.tt_family.proofs.listing.added_after.Goals as goal

pub returns-then-is_end : goal.returns-then-is_end
returns-then-is_end c =
    nothing_added (setting_of c.args.setting.now) (frames_of c.args.point.now, c.args.point.now.offset) c.args.end c.requires (sym c.is_end.ensures ∙ c.if-is_end.true)

pub returns-else-is_end : goal.returns-else-is_end
returns-else-is_end c =
    added_there (setting_of c.args.setting.now) (frames_of c.args.point.now, c.args.point.now.offset) c.args.end c.requires (sym c.is_end.ensures ∙ c.if-is_end.false)
