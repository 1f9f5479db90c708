-- Where IF, ELSE and FDEF lead, and to which body an instruction belongs, as functions on a cut.
-- (Apple TrueType Reference Manual, "Managing the flow of control", IF, ELSE and EIF, and "Defining
-- and using functions and instructions", FDEF, IDEF and ENDF.)
use Rattle.std.specs.Prelude.{ℕ, zero, suc, ◌+◌, List, [], ◌∷◌, Option, None, Some, Bool, true, false, length, nat_eq, if◌then◌else◌}
use Rattle.tt_code.specs.Cut.{Instruction}
use Rattle.tt_code.specs.declared.block_keyword.BlockKeyword.{BlockKeyword}
use Rattle.tt_code.specs.declared.block_keyword.BlockKeyword.TheVariants.{If, Else, Eif, Fdef, Idef, Endf, Other}
use Rattle.tt_code.specs.declared.machine.Body.{Body}
use Rattle.tt_code.specs.declared.machine.Body.TheVariants as body

-- what an instruction is for a program's structure, by its code
abbrev pub keyword_of : ℕ → BlockKeyword
keyword_of code =
    if nat_eq code 0x58 then If
    else if nat_eq code 0x1b then Else
    else if nat_eq code 0x59 then Eif
    else if nat_eq code 0x2c then Fdef
    else if nat_eq code 0x89 then Idef
    else if nat_eq code 0x2d then Endf
    else Other

-- an instruction's keyword, by its code
unfoldable pub keyword : Instruction → BlockKeyword
keyword [] = Other
keyword (code ∷ rest) = keyword_of code

-- whether two keywords are the same
abbrev pub is_keyword : BlockKeyword → BlockKeyword → Bool
is_keyword If If = true
is_keyword Else Else = true
is_keyword Eif Eif = true
is_keyword Fdef Fdef = true
is_keyword Idef Idef = true
is_keyword Endf Endf = true
is_keyword Other Other = true
is_keyword _ _ = false

-- Looking for the end of what an opening instruction began, by that instruction's keyword and the
-- keyword of a later one: None if the later one is the end, otherwise how many IFs are open inside
-- after it, where `inside` of them were open before it. (Inside a definition IFs aren't counted.)
-- An IF ends at its ELSE or EIF, an ELSE at its EIF, a definition at its ENDF.
abbrev pub still_open : BlockKeyword → BlockKeyword → ℕ → Option ℕ
still_open If If inside = Some (suc inside)
still_open If Else zero = None
still_open If Else (suc inside) = Some (suc inside)
still_open If Eif zero = None
still_open If Eif (suc inside) = Some inside
still_open If _ inside = Some inside
still_open Else If inside = Some (suc inside)
still_open Else Eif zero = None
still_open Else Eif (suc inside) = Some inside
still_open Else _ inside = Some inside
still_open _ Endf inside = None
still_open _ _ inside = Some inside

-- the offset after the end of what the opening instruction began, in the instructions from an
-- offset on
abbrev pub after_end : BlockKeyword → List Instruction → ℕ → ℕ → Option ℕ
after_end opener [] offset inside = None
after_end opener (i ∷ is) offset inside = elim (still_open opener (keyword i) inside) [
  | None ↦ Some (offset + length i)
  | Some more ↦ after_end opener is (offset + length i) more
]

-- where the opening instruction at an offset leads, in the instructions from another offset on
abbrev pub leads_from : ℕ → BlockKeyword → List Instruction → ℕ → Option ℕ
leads_from start opener [] offset = None
leads_from start opener (i ∷ is) offset =
    if nat_eq start offset
    then (if is_keyword opener (keyword i) then after_end opener is (start + length i) 0 else None)
    else leads_from (start + length i) opener is offset

-- where the opening instruction at an offset leads, in a whole program
abbrev pub leads : BlockKeyword → List Instruction → ℕ → Option ℕ
leads opener is offset = leads_from 0 opener is offset

-- where an IF goes that takes 0: to just after its ELSE, or without one just after its EIF
abbrev pub after_if : List Instruction → ℕ → Option ℕ
after_if = leads If

-- where an ELSE that is reached goes: to just after its EIF
abbrev pub after_else : List Instruction → ℕ → Option ℕ
after_else = leads Else

-- where an FDEF goes: to just after its ENDF
abbrev pub after_fdef : List Instruction → ℕ → Option ℕ
after_fdef = leads Fdef

-- the body of what follows an instruction, by the instruction's body, its keyword and the offset at
-- which it ends
abbrev pub following_body : Body → BlockKeyword → ℕ → Body
following_body here Fdef next = body.Function next
following_body here Idef next = body.Instruction next
following_body here Endf next = body.Main
following_body here _ next = here

-- the body of the instruction at an offset, in the instructions from `start` on, the first of which
-- is in the body `here`
abbrev pub body_from : Body → ℕ → List Instruction → ℕ → Option Body
body_from here start [] offset = None
body_from here start (i ∷ is) offset =
    if nat_eq start offset then Some here
    else body_from (following_body here (keyword i) (start + length i)) (start + length i) is offset

-- the body of the instruction that starts at the offset
abbrev pub body_at : List Instruction → ℕ → Option Body
body_at is offset = body_from body.Main 0 is offset
