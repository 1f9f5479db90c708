-- What a finder's solver is before it is filled: it may have memory and marks, but no states; and
-- that a finder keeps what it found.
use Rattle.std.specs.Prelude.{◌≡◌, ℕ, Some, [], ◌∷◌}
use Rattle.tt_family.specs.Contents.{IsFamily}
use Rattle.tt_find.specs.declared.finder.Finder.{Finder}
use Rattle.tt_find.specs.declared.finder.Found.{Found}
use Rattle.tt_find.specs.declared.solver.Solver.{Solver}

-- nothing is found: there is only the empty context, without a state, no point waits or could be
-- left out, and no update is counted
pub record IsEmptySolver (solver : Solver) : Type 0 where
  pub contexts : solver.builder.contexts ≡ [] ∷ []
  pub states : solver.builder.states ≡ []
  pub family : IsFamily solver.builder
  pub worklist : solver.worklist ≡ []
  pub spare : solver.spare.keys ≡ []
  pub changes : solver.changes ≡ 0
  pub passes : solver.passes ≡ 0

-- the finder keeps what it found, which took this many updates
pub record HasFound (finder : Finder) (updates : ℕ) : Type 0 where
  pub found : Found
  pub is_kept : finder.found ≡ Some found
  pub updates_are : found.updates ≡ updates
