use Rattle.std.specs.Prelude.{cond}
use Rattle.std.specs.Option.{is_some}
use Rattle.std.proofs.Common.{◌≡◌, ◌+◌, ◌-◌, ◌≤◌}
use Rattle.tt_setting.specs.Settings.{setting_of}
use Rattle.tt_find.specs.Representation.Solvers.{HasRisen, IsLeadingOn, updates_of}
use Rattle.tt_find.proofs.carry.store_successors.Given as goal

abbrev pub invariant-loop-way : goal.invariant-loop-way
invariant-loop-way l = record {
  on : IsLeadingOn (setting_of l.setting) l.setting.start.now l.solver l.walk l.offset l.after l.ways l.index l.over;
  here : l.walk.context ≡ l.here;
  risen : HasRisen l.initial.solver l.solver;
  few : updates_of l.solver + cond (is_some l.over) 1 0 ≤ updates_of l.initial.solver + l.index;
  within : l.index ≤ 2;
  everywhere : l.solver.marks.everywhere ≡ l.initial.solver.marks.everywhere;
}

abbrev pub decreases-loop-way : goal.decreases-loop-way
decreases-loop-way l = 2 - l.index
