-- The one pass that the code makes through a program, from its first instruction on: what is open
-- after an instruction, and the body of the next one. (Representation: no public clause cites it.)
use Rattle.std.specs.Prelude.{◌≡◌, ℕ, ◌+◌, List, [], ◌∷◌, ◌++◌, length, Bool, true, false, Option, Some, None, if◌then◌else◌}
use Rattle.tt_code.specs.declared.block_keyword.BlockKeyword.{BlockKeyword}
use Rattle.tt_code.specs.declared.block_keyword.BlockKeyword.TheVariants.{If, Else, Eif, Fdef, Idef, Endf, Other}
use Rattle.tt_code.specs.declared.nest.Open.{Open}
use Rattle.tt_code.specs.declared.nest.Open.TheVariants.{InIf, InElse, InFunction, InInstruction}
use Rattle.tt_code.specs.declared.machine.Body.{Body}
use Rattle.tt_code.specs.declared.machine.Body.TheVariants as body
use Rattle.tt_code.specs.declared.nest.Nesting.{Nesting}
use Rattle.tt_code.specs.declared.nest.Nesting.TheVariants.{Refused, Passed, Closed}
use Rattle.tt_code.specs.Cut.{Instruction, size}
use Rattle.tt_code.specs.Grammar.{IsList}
use Rattle.tt_code.specs.Structure.{keyword}

-- whether what follows an opening is inside a definition, by whether the opening itself is
abbrev pub inside_of : Open → Bool → Bool
inside_of (InIf k) b = b
inside_of (InElse k) b = b
inside_of (InFunction k) b = true
inside_of (InInstruction k) b = true

-- whether some definition is open
abbrev pub within : List Open → Bool
within [] = false
within (o ∷ s) = inside_of o (within s)

-- what is open after a keyword at offset k, the innermost first; None where the keyword isn't
-- allowed there
abbrev pub step : BlockKeyword → ℕ → List Open → Option (List Open)
step Other k s = Some s
step If k s = Some (InIf k ∷ s)
step Else k (InIf j ∷ s) = Some (InElse k ∷ s)
step Else k _ = None
step Eif k (InIf j ∷ s) = Some s
step Eif k (InElse j ∷ s) = Some s
step Eif k _ = None
step Fdef k s = if within s then None else Some (InFunction k ∷ s)
step Idef k s = if within s then None else Some (InInstruction k ∷ s)
step Endf k (InFunction j ∷ s) = Some s
step Endf k (InInstruction j ∷ s) = Some s
step Endf k _ = None

-- a further step, where there is something to go on from
abbrev pub follow : Option (List Open) → (List Open → Option (List Open)) → Option (List Open)
follow (Some s) f = f s
follow None f = None

-- what is open after instructions, the first of them at an offset, where this was open before
abbrev pub steps : List Instruction → ℕ → List Open → Option (List Open)
steps [] k s = Some s
steps (i ∷ is) k s = follow (step (keyword i) k s) (λ t. steps is (k + length i) t)

-- the offset that an opening keeps
abbrev pub place : Open → ℕ
place (InIf k) = k
place (InElse k) = k
place (InFunction k) = k
place (InInstruction k) = k

-- the offset of the instruction that leads to just after this keyword, where there is one
abbrev pub closed : BlockKeyword → List Open → Option ℕ
closed Else (o ∷ s) = Some (place o)
closed Eif (o ∷ s) = Some (place o)
closed Endf (o ∷ s) = Some (place o)
closed _ _ = None

-- what an instruction does to the things that are open, and what is open then
abbrev pub Applies : Nesting → BlockKeyword → ℕ → List Open → List Open → Type 0
Applies Refused w k s t = step w k s ≡ None
Applies Passed w k s t = (step w k s ≡ Some t) × (closed w s ≡ None)
Applies (Closed at) w k s t = (step w k s ≡ Some t) × (closed w s ≡ Some at)

-- the body of the next instruction, by what is open
abbrev pub body_of : List Open → Body
body_of [] = body.Main
body_of (InIf k ∷ s) = body_of s
body_of (InElse k ∷ s) = body_of s
body_of (InFunction k ∷ s) = body.Function (k + 1)
body_of (InInstruction k ∷ s) = body.Instruction (k + 1)

-- the body after an instruction at an offset, by its keyword
abbrev pub body_after : Body → BlockKeyword → ℕ → Body
body_after b Fdef k = body.Function (k + 1)
body_after b Idef k = body.Instruction (k + 1)
body_after b Endf k = body.Main
body_after b _ k = b

-- the instructions of an opening, from the first one at this offset to the one whose offset o
-- keeps: an IF, an FDEF or an IDEF alone, or an IF, a list and an ELSE
abbrev pub Head : Open → Bool → ℕ → List Instruction → Type 0
Head (InIf k) inside at head = (i : Instruction) × (keyword i ≡ If) × (k ≡ at) × (head ≡ i ∷ [])
Head (InElse k) inside at head =
    (i : Instruction) × (a : List Instruction) × (l : Instruction) ×
    (keyword i ≡ If) × IsList inside a × (keyword l ≡ Else)
    × (k ≡ (at + length i) + size a) × (head ≡ i ∷ (a ++ (l ∷ [])))
Head (InFunction k) inside at head =
    (d : Instruction) × (keyword d ≡ Fdef) × (inside ≡ false) × (k ≡ at) × (head ≡ d ∷ [])
Head (InInstruction k) inside at head =
    (d : Instruction) × (keyword d ≡ Idef) × (inside ≡ false) × (k ≡ at) × (head ≡ d ∷ [])

-- p is lists, with the instructions of an opening between each two
abbrev pub Opened : List Open → List Instruction → Type 0
Opened [] p = IsList false p
Opened (o ∷ s) p =
    (outer head inner : List Instruction) × Opened s outer
    × Head o (within s) (size outer) head × IsList (inside_of o (within s)) inner
    × (p ≡ outer ++ (head ++ inner))

-- p leaves s open
pub record Leaves (p : List Instruction) (s : List Open) : Type 0 where
  pub opened : Opened s p
  pub stepped : steps p 0 [] ≡ Some s
