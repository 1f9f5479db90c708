-- What a section of a certificate file tells: a program's name and its family, as the file lists
-- it.
use Rattle.std.specs.Prelude.{ℕ, List, [], ◌∷◌, map, drop}
use Rattle.tt_code.specs.declared.machine.Frame.{Frame}
use Rattle.tt_abs.specs.declared.state.State.{State}
use Rattle.tt_family.specs.Contents.{Contents, number_of}
use Rattle.tt_setting.specs.declared.name.Name.{Name}

-- A context other than the main one: the number of its parent, and its last call, the innermost.
-- The parent has its other calls.
abbrev pub Context : Type 0
Context = ℕ × Frame

-- a state with its context's number and its offset
abbrev pub Entry : Type 0
Entry = (ℕ × ℕ) × State

-- the contexts are numbered from 1, in the order of the list; the main one has the number 0
pub record Section : Type 0 where
  pub name : Name
  pub contexts : List Context
  pub states : List Entry

-- no call
abbrev pub no_frame : Frame
no_frame = record { body = 0; call = 0; turn = 0; count = 0 }

-- the context with these calls, the innermost first, and with its parent's number among the
-- contexts of a family
abbrev pub context_of : List (List Frame) → List Frame → Context
context_of contexts [] = (0, no_frame)
context_of contexts (f ∷ fs) = (number_of contexts fs, f)

-- the contexts of a family except for the main one
abbrev pub contexts_in : List (List Frame) → List Context
contexts_in contexts = map (context_of contexts) (drop 1 contexts)

-- the section of a program with this name and this family
abbrev pub section_of : Name → Contents → Section
section_of name contents = record {
  name = name;
  contexts = contexts_in contents.contexts;
  states = contents.states;
}
