-- How the code keeps a program: a slot for each byte, at the first byte of an instruction the
-- instruction's. And what the slots say of the instructions read so far and of what they leave
-- open. (Representation: no public clause cites it.)
use Rattle.std.specs.Prelude.{reverse, ◌≡◌, ◌⊎◌, ℕ, zero, suc, List, [], ◌∷◌, ◌++◌, map, length, Option, Some, None, slice_index_or, nat_eq, if◌then◌else◌}
use Rattle.std.specs.List.{AllByRecursion}
use Rattle.tt_code.specs.declared.block_keyword.BlockKeyword.{BlockKeyword}
use Rattle.tt_code.specs.declared.block_keyword.BlockKeyword.TheVariants.{If, Else, Eif, Fdef, Idef, Endf, Other}
use Rattle.tt_code.specs.declared.machine.Body.{Body}
use Rattle.tt_code.specs.declared.machine.Body.TheVariants as body
use Rattle.tt_code.specs.declared.nest.Open.{Open}
use Rattle.tt_code.specs.declared.slot.BodyKind.{BodyKind}
use Rattle.tt_code.specs.declared.slot.BodyKind.TheVariants as kind
use Rattle.tt_code.specs.declared.slot.Slot.{Slot}
use Rattle.tt_code.specs.declared.reading.Reading.{Reading}
use Rattle.tt_code.specs.Cut.{Instruction, IsInstruction, size}
use Rattle.tt_code.specs.Grammar.{GoesTo, IsStructured}
use Rattle.tt_code.specs.Structure.{keyword}
use Rattle.tt_code.specs.Representation.Laid.{IsLaid, laid, pieces}
use Rattle.tt_code.specs.Representation.Pass.{steps, body_of, place, Leaves}

-- the slot of a byte inside an instruction
abbrev pub inside : Slot
inside = record { target = 0; first = 0; length = 0; kind = kind.Main }

-- the body that a kind and an offset name
abbrev pub named : BodyKind → ℕ → Body
named kind.Main first = body.Main
named kind.Function first = body.Function first
named kind.Instruction first = body.Instruction first

-- the body of the instruction that starts at a slot, if one does
abbrev pub body_in : Slot → Option Body
body_in slot = if nat_eq slot.length 0 then None else Some (named slot.kind slot.first)

-- a target, where 0 stands for none
abbrev pub target_of : ℕ → Option ℕ
target_of zero = None
target_of (suc n) = Some (suc n)

-- the target that a slot keeps, if it keeps one
abbrev pub target_in : Slot → Option ℕ
target_in slot = target_of slot.target

-- the lengths that slots keep
abbrev pub lengths : List Slot → List ℕ
lengths slots = map (λ slot. slot.length) slots

-- the bodies that slots keep
abbrev pub bodies : List Slot → List (Option Body)
bodies slots = map body_in slots

-- the targets that slots keep
abbrev pub targets : List Slot → List (Option ℕ)
targets slots = map target_in slots

-- the body that is kept for an offset
abbrev pub body_found : List (Option Body) → ℕ → Option Body
body_found found k = slice_index_or found k None

-- the target that is kept for an offset
abbrev pub target_found : List (Option ℕ) → ℕ → Option ℕ
target_found found k = slice_index_or found k None

-- a keyword that opens something
abbrev pub Opens : BlockKeyword → Type 0
Opens If = Unit {0}
Opens Else = Unit {0}
Opens Fdef = Unit {0}
Opens Idef = Unit {0}
Opens Eif = ⊥
Opens Endf = ⊥
Opens Other = ⊥

-- what the instruction at an offset opened is open
abbrev pub IsOpenAt : ℕ → List Open → Type 0
IsOpenAt k [] = ⊥
IsOpenAt k (o ∷ s) = (place o ≡ k) ⊎ IsOpenAt k s

-- The bodies and the targets that are kept by offset for instructions that leave these open: each
-- instruction has its body, and none is kept elsewhere; each target is where an opening instruction
-- leads; each opening instruction has a target or is still open.
pub record IsTable (p : List Instruction) (s : List Open) (in_body : List (Option Body))
    (goes : List (Option ℕ)) : Type 0 where
  pub bodies_long : length in_body ≡ size p
  pub targets_long : length goes ≡ size p
  pub rows : (a : List Instruction) (i : Instruction) (b : List Instruction) → p ≡ a ++ (i ∷ b) →
      (t : List Open) × (steps a 0 [] ≡ Some t) × (body_found in_body (size a) ≡ Some (body_of t))
  pub starts : (k : ℕ) (b : Body) → body_found in_body k ≡ Some b →
      (a : List Instruction) × (i : Instruction) × (b : List Instruction)
      × (p ≡ a ++ (i ∷ b)) × (size a ≡ k)
  pub target_right : (k t : ℕ) → target_found goes k ≡ Some t → (w : BlockKeyword) × GoesTo w p k t
  pub target_there : (a : List Instruction) (i : Instruction) (b : List Instruction) →
      p ≡ a ++ (i ∷ b) → Opens (keyword i) →
      ((t : ℕ) × (target_found goes (size a) ≡ Some t)) ⊎ IsOpenAt (size a) s

-- what is kept of the instructions that were read; of what is open the innermost is first
pub record IsRead
    (p : List Instruction) (stack : List Open) (b : Body) (slots : List Slot) : Type 0 where
  pub each : AllByRecursion IsInstruction p
  pub leaves : Leaves p stack
  pub body : b ≡ body_of stack
  pub each_length : laid p ≡ lengths slots
  pub table : IsTable p stack (bodies slots) (targets slots)

-- the same of what is kept while a program is read
abbrev pub IsReading : List Instruction → Reading → Type 0
IsReading p r = IsRead p (reverse r.stack.items) r.body r.slots.items

-- the instructions that slots keep of bytes
abbrev pub kept : List Slot → List ℕ → List Instruction
kept slots bytes = pieces (lengths slots) bytes

-- the slots of a whole program say what the program is
pub record IsKept (slots : List Slot) (bytes : List ℕ) : Type 0 where
  pub is_laid : IsLaid (lengths slots) bytes
  pub structured : IsStructured (kept slots bytes)
  pub table : IsTable (kept slots bytes) [] (bodies slots) (targets slots)
