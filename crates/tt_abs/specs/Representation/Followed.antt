-- The instructions that stay in their body: all but CALL, LOOPCALL and ENDF.
use Rattle.std.specs.Prelude.{[], ◌∷◌, Option, None, Some, Bool, true, false}
use Rattle.tt_code.specs.Cut.{Instruction}
use Rattle.tt_code.specs.Table.{Meaning, Controls, effect_of}
use Rattle.tt_code.specs.declared.kinds.Control.TheVariants.{Call, LoopCall, EndFunction}

-- whether what the code stands for stays in its body
abbrev pub is_followed : Meaning → Bool
is_followed (Controls Call) = false
is_followed (Controls LoopCall) = false
is_followed (Controls EndFunction) = false
is_followed _ = true

-- whether the instruction does, if there is one
abbrev pub is_followed_instruction : Option Instruction → Bool
is_followed_instruction None = true
is_followed_instruction (Some []) = true
is_followed_instruction (Some (code ∷ rest)) = is_followed (effect_of code)
