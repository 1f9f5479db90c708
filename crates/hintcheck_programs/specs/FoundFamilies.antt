-- What is found for a program: its least family, without the states that can be left out.
use Rattle.std.specs.Prelude.{◌≡◌, ℕ, List, [], Some}
use Rattle.tt_code.specs.Cut.{Instruction, size}
use Rattle.tt_abs.specs.declared.state.State.{State}
use Rattle.tt_family.specs.Contents.{Contents, family_of}
use Rattle.tt_find.specs.Found.{NeedsAll, AreLeastContexts, HasLeastFilling}
use Rattle.hintcheck_programs.specs.ProgramVerdicts.{IsAccepted}
use Rattle.hintcheck_programs.specs.Programs.{Subject}
use Rattle.tt_find.specs.declared.finder.Found.{Found}

-- The family is the least one that is good, and lists no state that could be left out.
abbrev pub IsLeastListing : Subject → List Instruction → Contents → Type 0
IsLeastListing x instructions family =
    IsAccepted x instructions (family_of family)
    × NeedsAll (x.setting instructions) x.functions (family_of family)

-- What is found for a program with these instructions: its least family, which lists no state that
-- could be left out, with the contexts that it comes to, and a count of updates within the bounds
-- that `find` promises.
pub record IsFoundFor (x : Subject) (instructions : List Instruction) (found : Found) : Type 0 where
  pub listing : IsLeastListing x instructions found.certificate
  pub filling : HasLeastFilling (x.setting instructions) x.functions found.updates
      (family_of found.certificate)
  pub contexts : AreLeastContexts (x.setting instructions) x.functions found.certificate.contexts

-- this is found for the program, and these functions are known where it ends
pub record IsFoundToEnd (x : Subject) (instructions : List Instruction) (found : Found)
    (functions : List (ℕ × ℕ)) : Type 0 where
  pub is_found : IsFoundFor x instructions found
  pub end : State
  pub at_end : family_of found.certificate ([], size instructions) ≡ Some end
  pub functions_are : end.functions ≡ functions
