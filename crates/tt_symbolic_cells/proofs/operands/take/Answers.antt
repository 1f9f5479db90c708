use Rattle.std.proofs.Common.{ℕ, subst}
use Rattle.tt_code.specs.Operands.{take_operand}
use Rattle.tt_code.specs.declared.reason.Reason.TheVariants as reason
use Rattle.tt_setting.specs.Settings.{setting_of}
use Rattle.tt_symbolic_state.specs.Values.{Fits, Valuation}
use Rattle.tt_symbolic_state.specs.Shows.{graphics_of, values}
use Rattle.tt_symbolic_cells.specs.Taking.{Takes, below_bound}
use Rattle.tt_symbolic_cells.proofs.Takings.{if_ok, point_taken, contour_taken, points_taken, pairs_taken}
use Rattle.tt_symbolic_cells.proofs.operands.take.Goals as goal

pub returns-in-Point : goal.returns-in-Point
returns-in-Point c = if_ok c.take_below.result _ (λ n. (v : Valuation) → Fits c.args.ranges.now v → Takes (take_operand (setting_of c.args.setting.now) (graphics_of v c.args.graphics.now) c.args.operand) (values v c.args.stack.now) c.args.taken n)
    (λ n h v fits. rw c.in-Point.is (point_taken (setting_of c.args.setting.now) (graphics_of v c.args.graphics.now) (values v c.args.stack.now) c.args.taken n c.in-Point.within c.points-bound.result.0 (c.points-bound.ensures v) (h v fits))) c.take_below.ensures

pub returns-in-Cvt : goal.returns-in-Cvt
returns-in-Cvt c = if_ok c.take_below-in-Cvt.result _ (λ n. (v : Valuation) → Fits c.args.ranges.now v → Takes (take_operand (setting_of c.args.setting.now) (graphics_of v c.args.graphics.now) c.args.operand) (values v c.args.stack.now) c.args.taken n)
    (λ n h v fits. rw c.in-Cvt.is (h v fits reason.Cvt)) c.take_below-in-Cvt.ensures

pub returns-in-Storage : goal.returns-in-Storage
returns-in-Storage c = if_ok c.take_below-in-Storage.result _ (λ n. (v : Valuation) → Fits c.args.ranges.now v → Takes (take_operand (setting_of c.args.setting.now) (graphics_of v c.args.graphics.now) c.args.operand) (values v c.args.stack.now) c.args.taken n)
    (λ n h v fits. rw c.in-Storage.is (subst (λ (b : ℕ). Takes (below_bound b reason.Storage) (values v c.args.stack.now) c.args.taken n) c.from-bound.ensures (h v fits reason.Storage))) c.take_below-in-Storage.ensures

pub returns-in-Contour : goal.returns-in-Contour
returns-in-Contour c = if_ok c.take_below-in-Contour.result _ (λ n. (v : Valuation) → Fits c.args.ranges.now v → Takes (take_operand (setting_of c.args.setting.now) (graphics_of v c.args.graphics.now) c.args.operand) (values v c.args.stack.now) c.args.taken n)
    (λ n h v fits. rw c.in-Contour.is (contour_taken (setting_of c.args.setting.now) (graphics_of v c.args.graphics.now) (values v c.args.stack.now) c.args.taken n c.contours-bound.result c.contours-bound.ensures (h v fits))) c.take_below-in-Contour.ensures

pub returns-in_ok-n-in-LoopPoints : goal.returns-in_ok-n-in-LoopPoints
returns-in_ok-n-in-LoopPoints c = if_ok c.take_many.result _ (λ n. (v : Valuation) → Fits c.args.ranges.now v → Takes (take_operand (setting_of c.args.setting.now) (graphics_of v c.args.graphics.now) c.args.operand) (values v c.args.stack.now) c.args.taken n)
    (λ n h v fits. rw c.in-LoopPoints.is (points_taken (setting_of c.args.setting.now) (graphics_of v c.args.graphics.now) (values v c.args.stack.now) c.args.taken n c.in-LoopPoints.within c.points-bound-in-LoopPoints.result.0 c.in_ok-n-in-LoopPoints.n (c.points-bound-in-LoopPoints.ensures v) (c.in_ok-n-in-LoopPoints.ensures v fits) (h v fits))) c.take_many.ensures

pub returns-in-PointPairs : goal.returns-in-PointPairs
returns-in-PointPairs c = if_ok c.take_pairs.result _ (λ n. (v : Valuation) → Fits c.args.ranges.now v → Takes (take_operand (setting_of c.args.setting.now) (graphics_of v c.args.graphics.now) c.args.operand) (values v c.args.stack.now) c.args.taken n)
    (λ n h v fits. rw c.in-PointPairs.is (pairs_taken (setting_of c.args.setting.now) (graphics_of v c.args.graphics.now) (values v c.args.stack.now) c.args.taken n c.in-PointPairs.within c.points-bound-in-PointPairs.result.0 (c.points-bound-in-PointPairs.ensures v) (h v fits))) c.take_pairs.ensures

pub returns-in-CvtPairs : goal.returns-in-CvtPairs
returns-in-CvtPairs c = if_ok c.take_pairs-in-CvtPairs.result _ (λ n. (v : Valuation) → Fits c.args.ranges.now v → Takes (take_operand (setting_of c.args.setting.now) (graphics_of v c.args.graphics.now) c.args.operand) (values v c.args.stack.now) c.args.taken n)
    (λ n h v fits. rw c.in-CvtPairs.is (h v fits reason.Cvt)) c.take_pairs-in-CvtPairs.ensures
