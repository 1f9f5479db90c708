-- The structure of programs: how IF, ELSE and EIF, FDEF, IDEF and ENDF nest, which of them belong
-- together, and the bodies that they make. (Apple TrueType Reference Manual, "Managing the flow of
-- control", IF, ELSE and EIF; "Defining and using functions and instructions", FDEF, IDEF and
-- ENDF.) A program is given as the list of its instructions, and an offset is the size of the
-- instructions before it.
use Rattle.std.specs.Prelude.{◌≡◌, ◌⊎◌, ◌↔◌, ℕ, ◌+◌, ◌<◌, List, [], ◌∷◌, ◌++◌, Option, Some, Bool, true, false, length}
use Rattle.std.specs.List.{AllByRecursion}
use Rattle.tt_code.specs.Cut.{Instruction, IsCut, IsInstruction, size}
use Rattle.tt_code.specs.Structure.{keyword}
use Rattle.tt_code.specs.declared.block_keyword.BlockKeyword.{BlockKeyword}
use Rattle.tt_code.specs.declared.block_keyword.BlockKeyword.TheVariants.{If, Else, Eif, Fdef, Idef, Endf, Other}
use Rattle.tt_code.specs.declared.machine.Body.{Body}
use Rattle.tt_code.specs.declared.machine.Body.TheVariants as body

-- FDEF and IDEF begin definitions
abbrev pub IsDefinition : BlockKeyword → Type 0
IsDefinition Fdef = Unit {0}
IsDefinition Idef = Unit {0}
IsDefinition _ = ⊥

-- The grammar of nesting. A list is a sequence of items: an instruction of keyword `Other`; IF, a
-- list and EIF; IF, a list, ELSE, a list and EIF; and, outside all definitions, FDEF or IDEF, a
-- list inside the definition, and ENDF. `inside` says whether the list is inside a definition.
pub data IsList : (inside : Bool) → List Instruction → Type 0 where
  none : {inside : Bool} → IsList inside []
  plain : {inside : Bool} {i : Instruction} {rest : List Instruction} →
      keyword i ≡ Other → IsList inside rest → IsList inside (i ∷ rest)
  if_eif : {inside : Bool} {i : Instruction} {yes : List Instruction} (e : Instruction)
      {rest : List Instruction} →
      keyword i ≡ If → IsList inside yes → keyword e ≡ Eif → IsList inside rest →
      IsList inside (i ∷ (yes ++ (e ∷ rest)))
  if_else_eif : {inside : Bool} {i : Instruction} {yes : List Instruction} (l : Instruction)
      {otherwise : List Instruction} (e : Instruction) {rest : List Instruction} →
      keyword i ≡ If → IsList inside yes → keyword l ≡ Else → IsList inside otherwise →
      keyword e ≡ Eif → IsList inside rest →
      IsList inside (i ∷ (yes ++ (l ∷ (otherwise ++ (e ∷ rest)))))
  definition : {d : Instruction} {defined : List Instruction} (e : Instruction)
      {rest : List Instruction} →
      IsDefinition (keyword d) → IsList true defined → keyword e ≡ Endf → IsList false rest →
      IsList false (d ∷ (defined ++ (e ∷ rest)))

-- a program is structured if it is a list outside all definitions
abbrev pub IsStructured : List Instruction → Type 0
IsStructured is = IsList false is

-- some list of the grammar begins with these
abbrev pub CanGoOn : List Instruction → Type 0
CanGoOn is =
    (rest : List Instruction) × AllByRecursion IsInstruction rest × IsStructured (is ++ rest)

-- The fault of a program that isn't structured: the first instruction such that no list of the
-- grammar begins with the program up to and including it; or, if there is none, the program's end,
-- where something is left open. (Own: the fault's place.)

-- the fault is at an instruction: the ones before it can go on, with it they cannot
pub record BreaksAt (is : List Instruction) (at : ℕ) : Type 0 where
  pub before : List Instruction
  pub i : Instruction
  pub after : List Instruction
  pub whole : is ≡ before ++ (i ∷ after)
  pub can_go_on : CanGoOn before
  pub cannot : CanGoOn (before ++ (i ∷ [])) → ⊥
  pub offset : size before ≡ at

-- the fault is at the program's end: more instructions could follow, and something is open
pub record OpenAtEnd (is : List Instruction) (at : ℕ) : Type 0 where
  pub can_go_on : CanGoOn is
  pub cannot : IsStructured is → ⊥
  pub offset : size is ≡ at

-- the fault is one of the two
abbrev pub IsFault : List Instruction → ℕ → Type 0
IsFault is at = BreaksAt is at ⊎ OpenAtEnd is at

-- the bytes can be cut, and this is the fault of their structure
abbrev pub HasFault : List ℕ → ℕ → Type 0
HasFault bytes at = (is : List Instruction) × IsCut bytes is × IsFault is at

-- the instruction at an offset
pub record IsInstructionAt (is : List Instruction) (at : ℕ) (i : Instruction) : Type 0 where
  pub before : List Instruction
  pub after : List Instruction
  pub whole : is ≡ before ++ (i ∷ after)
  pub offset : size before ≡ at

-- no instruction starts at the offset
abbrev pub NoInstructionAt : List Instruction → ℕ → Type 0
NoInstructionAt is at = (i : Instruction) → IsInstructionAt is at i → ⊥

-- no instruction with this keyword starts at the offset
abbrev pub NoKeywordAt : BlockKeyword → List Instruction → ℕ → Type 0
NoKeywordAt opener is at = (i : Instruction) → IsInstructionAt is at i → keyword i ≡ opener → ⊥

-- at the offset there is an instruction, or the program ends
abbrev pub IsStartOrEnd : List Instruction → ℕ → Type 0
IsStartOrEnd is at = ((i : Instruction) × IsInstructionAt is at i) ⊎ (at ≡ size is)

-- Partners. An opening instruction is followed by a list, and then by the one that ends it: an IF
-- by its ELSE or its EIF, an ELSE by its EIF, an FDEF or IDEF by its ENDF. The opening instruction
-- leads to just after that one (an IF where it takes 0).

-- which keyword ends what a keyword begins
abbrev pub Ends : BlockKeyword → BlockKeyword → Type 0
Ends If w = (w ≡ Else) ⊎ (w ≡ Eif)
Ends Else w = w ≡ Eif
Ends Fdef w = w ≡ Endf
Ends Idef w = w ≡ Endf
Ends Eif w = ⊥
Ends Endf w = ⊥
Ends Other w = ⊥

-- Whether what follows an opening keyword is inside a definition. For IF and ELSE, `false` will do
-- everywhere: a list inside a definition is a list outside too.
abbrev pub begins_definition : BlockKeyword → Bool
begins_definition Fdef = true
begins_definition Idef = true
begins_definition _ = false

-- the opening instruction at an offset leads to another offset: to just after the one that ends it
pub record GoesTo (opener : BlockKeyword) (is : List Instruction) (at to : ℕ) : Type 0 where
  pub before : List Instruction
  pub i : Instruction
  pub inner : List Instruction
  pub e : Instruction
  pub after : List Instruction
  pub whole : is ≡ before ++ (i ∷ (inner ++ (e ∷ after)))
  pub opens : keyword i ≡ opener
  pub nested : IsList (begins_definition opener) inner
  pub ends : Ends opener (keyword e)
  pub from : size before ≡ at
  pub target : size before + (length i + (size inner + length e)) ≡ to

-- in structured programs a function finds where each instruction with this keyword goes, and
-- nothing else
abbrev pub FindsTargets : BlockKeyword → (List Instruction → ℕ → Option ℕ) → Type 0
FindsTargets opener find =
    (is : List Instruction) (at to : ℕ) → IsStructured is → AllByRecursion IsInstruction is →
    ((find is at ≡ Some to) ↔ GoesTo opener is at to)

-- in structured programs a function finds a target for each instruction with this keyword
abbrev pub FindsEachTarget : BlockKeyword → (List Instruction → ℕ → Option ℕ) → Type 0
FindsEachTarget opener find =
    (is : List Instruction) (at : ℕ) (i : Instruction) → IsStructured is →
    AllByRecursion IsInstruction is → IsInstructionAt is at i → keyword i ≡ opener →
    (to : ℕ) × (find is at ≡ Some to)

-- Bodies. What follows an FDEF, up to and including its ENDF, is the body of a function. What
-- follows an IDEF, up to and including its ENDF, is a body that no function has. All else is the
-- main program's.

-- the offset is in the definition that begins at another
abbrev pub InDefinition : BlockKeyword → List Instruction → ℕ → ℕ → Type 0
InDefinition opener is from at = (to : ℕ) × GoesTo opener is from to × (from < at) × (at < to)

-- the body to which the instruction at an offset belongs
abbrev pub IsBodyAt : List Instruction → ℕ → Body → Type 0
IsBodyAt is at (body.Function first) =
    (from : ℕ) × (first ≡ from + 1) × InDefinition Fdef is from at
IsBodyAt is at (body.Instruction first) =
    (from : ℕ) × (first ≡ from + 1) × InDefinition Idef is from at
IsBodyAt is at body.Main =
    ((from : ℕ) → InDefinition Fdef is from at → ⊥)
    × ((from : ℕ) → InDefinition Idef is from at → ⊥)
