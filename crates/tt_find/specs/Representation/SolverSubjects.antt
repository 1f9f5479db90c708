-- What the finder keeps on the way for a subject: a setting, with the functions that are known
-- where its program starts.
use Rattle.std.specs.Prelude.{ℕ, Bool, Option, [], ◌∷◌}
use Rattle.tt_abs.specs.declared.instruction.Stepped.{Stepped}
use Rattle.tt_abs.specs.declared.moves.Moves.{Moves}
use Rattle.tt_setting.specs.declared.setting.Setting.{Setting as Subject}
use Rattle.tt_abs.specs.Lines.{Precedes}
use Rattle.tt_setting.specs.Settings.{setting_of}
use Rattle.tt_family.specs.Contents.{Contents}
use Rattle.tt_family.specs.Fillings.{IsJustAfter}
use Rattle.tt_setting.specs.declared.refusal.Refusal.{Refusal}
use Rattle.tt_find.specs.Found.{IsJustified, NamesPlace, NamesStop}
use Rattle.tt_find.specs.Representation.Solvers.{GoesOn, HasLaws, IsCarried, IsFound, IsLeadingAt, IsOnWay, IsPopped, IsRefusedAt, IsWhole, calls_of, here_of, places_from}
use Rattle.tt_find.specs.declared.solver.Solver.{Solver}
use Rattle.tt_find.specs.declared.stop.Stop.{Stop}
use Rattle.tt_find.specs.declared.walk.Walk.{Walk}

-- the laws of the program's flow hold
abbrev pub HasLawsFor : Subject → Type 0
HasLawsFor x = HasLaws (setting_of x) x.start.now

-- the finder stops with a fault that is right, or starts again, which it doesn't where states are
-- kept everywhere
abbrev pub StopsFor : Subject → Bool → Stop → Type 0
StopsFor x everywhere = NamesStop (IsJustified (setting_of x) x.start.now) everywhere

-- no point is being carried on
abbrev pub IsWholeFor : Subject → Solver → Type 0
IsWholeFor x solver = IsWhole (setting_of x) x.start.now solver

-- no point is being carried on and none waits, and this many updates were made
abbrev pub IsFoundFor : Subject → Solver → ℕ → Type 0
IsFoundFor x solver updates = IsFound (setting_of x) x.start.now solver updates

-- the point was taken from those that wait
abbrev pub IsPoppedFor : Subject → Solver → ℕ → ℕ → Type 0
IsPoppedFor x solver context offset = IsPopped (setting_of x) x.start.now solver context offset

-- the walk's state is being carried on at an offset
abbrev pub IsOnWayFor : Subject → Solver → Walk → ℕ → Type 0
IsOnWayFor x solver walk offset =
    IsOnWay (setting_of x) x.start.now solver (here_of solver.builder walk offset) walk.state

-- the same at this offset, if there is one; otherwise no point is being carried on
abbrev pub GoesOnFor : Subject → Solver → Walk → Option ℕ → Type 0
GoesOnFor x solver walk onward = GoesOn (setting_of x) x.start.now solver walk onward

-- the old walk's state was carried on at an offset, and the new walk has the state that was left
abbrev pub IsSteppedAt : Subject → Contents → Walk → Walk → ℕ → Option Stepped → Type 0
IsSteppedAt x contents old new offset step =
    IsCarried (setting_of x) (here_of contents old offset) old.state step new.state

-- the fault names an offset at which the walk's state is refused
abbrev pub NamesRefusalAt : Subject → Contents → Walk → ℕ → Refusal → Type 0
NamesRefusalAt x contents walk offset =
    NamesPlace (IsRefusedAt (setting_of x) (here_of contents walk offset) walk.state)

-- the second offset of the walk's context is just after the instruction at the first one
abbrev pub IsNextAfter : Subject → Contents → Walk → ℕ → ℕ → Type 0
IsNextAfter x contents walk offset next =
    Precedes (setting_of x) (here_of contents walk offset) (here_of contents walk next)

-- the offset of the place just after the one at an offset of the walk's context; none where no
-- place is just after that one
abbrev pub EndsJustBefore : Subject → Contents → Walk → ℕ → Option ℕ → Type 0
EndsJustBefore x contents walk offset after =
    IsJustAfter (setting_of x) (here_of contents walk offset) after

-- the walk's state is still to be led to the offset just after
abbrev pub LeadsOver : Subject → Solver → Walk → ℕ → ℕ → Type 0
LeadsOver x solver walk offset next =
    IsLeadingAt (setting_of x) x.start.now solver walk offset
    (here_of solver.builder walk next ∷ [])

-- the walk's state is still to be led to where all these ways lead
abbrev pub LeadsAlong : Subject → Solver → Walk → ℕ → Moves → Type 0
LeadsAlong x solver walk offset ways =
    IsLeadingAt (setting_of x) x.start.now solver walk offset
    (places_from (calls_of solver walk) ways 0)
