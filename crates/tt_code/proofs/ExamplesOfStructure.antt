-- Where IF, ELSE and FDEF lead in worked programs, and to which body an instruction belongs.
use Rattle.std.proofs.Common.{[], ◌∷◌, None, Some, refl}
use Rattle.tt_code.specs.declared.machine.Body.TheVariants as body
use Rattle.tt_code.specs.declared.reason.Reason.TheVariants as reason
use Rattle.tt_code.proofs.Running.{structure, if_leads, else_leads, definition_leads, body_of_offset, instruction_of_offset, fault_at}
use Rattle.tt_code.proofs.ExamplesAsCases.{◌⇒◌, all_hold}

-- Where an IF, an ELSE and a definition lead. Pushed data aren't instructions.
cases_of_leading : all_hold (
    -- An IF leads past its EIF.
    if_leads (0x58 ∷ 0x2c ∷ 0x2d ∷ 0x59 ∷ []) 0 ⇒ Some 4
    -- A definition leads past its ENDF.
    ∷ definition_leads (0x58 ∷ 0x2c ∷ 0x2d ∷ 0x59 ∷ []) 1 ⇒ Some 3
    -- An IF leads past its ELSE.
    ∷ if_leads (0x58 ∷ 0x40 ∷ 0x01 ∷ 0x1b ∷ 0x1b ∷ 0x59 ∷ []) 0 ⇒ Some 5
    -- An ELSE leads past its EIF.
    ∷ else_leads (0x58 ∷ 0x40 ∷ 0x01 ∷ 0x1b ∷ 0x1b ∷ 0x59 ∷ []) 4 ⇒ Some 6
    -- Pushed data lead nowhere.
    ∷ else_leads (0x58 ∷ 0x40 ∷ 0x01 ∷ 0x1b ∷ 0x1b ∷ 0x59 ∷ []) 3 ⇒ None
    -- An outer IF leads past its own ELSE.
    ∷ if_leads (0x58 ∷ 0x58 ∷ 0x1b ∷ 0x59 ∷ 0x1b ∷ 0x58 ∷ 0x59 ∷ 0x59 ∷ []) 0 ⇒ Some 5
    -- An inner IF leads past its own ELSE.
    ∷ if_leads (0x58 ∷ 0x58 ∷ 0x1b ∷ 0x59 ∷ 0x1b ∷ 0x58 ∷ 0x59 ∷ 0x59 ∷ []) 1 ⇒ Some 3
    -- An inner ELSE leads past its own EIF.
    ∷ else_leads (0x58 ∷ 0x58 ∷ 0x1b ∷ 0x59 ∷ 0x1b ∷ 0x58 ∷ 0x59 ∷ 0x59 ∷ []) 2 ⇒ Some 4
    -- An outer ELSE leads past its own EIF.
    ∷ else_leads (0x58 ∷ 0x58 ∷ 0x1b ∷ 0x59 ∷ 0x1b ∷ 0x58 ∷ 0x59 ∷ 0x59 ∷ []) 4 ⇒ Some 8
    -- An IF in an ELSE leads past its own EIF.
    ∷ if_leads (0x58 ∷ 0x58 ∷ 0x1b ∷ 0x59 ∷ 0x1b ∷ 0x58 ∷ 0x59 ∷ 0x59 ∷ []) 5 ⇒ Some 7
    -- An IF without an ELSE leads past its EIF.
    ∷ if_leads (0x58 ∷ 0x58 ∷ 0x59 ∷ 0x59 ∷ 0x1b ∷ []) 0 ⇒ Some 4
    -- No IF leads from an ELSE.
    ∷ if_leads (0x58 ∷ 0x1b ∷ 0x59 ∷ []) 1 ⇒ None
    -- No ELSE leads from an IF.
    ∷ else_leads (0x58 ∷ 0x1b ∷ 0x59 ∷ []) 0 ⇒ None
    -- No definition leads from an IF.
    ∷ definition_leads (0x58 ∷ 0x1b ∷ 0x59 ∷ []) 0 ⇒ None
    -- An EIF leads nowhere.
    ∷ if_leads (0x58 ∷ 0x1b ∷ 0x59 ∷ []) 2 ⇒ None
    -- A definition leads past the IFs of its body.
    ∷ definition_leads (0xb0 ∷ 0x00 ∷ 0x2c ∷ 0x58 ∷ 0x1b ∷ 0x59 ∷ 0x2d ∷ 0x18 ∷ []) 2 ⇒ Some 7
    -- An IF of a function leads within it.
    ∷ if_leads (0xb0 ∷ 0x00 ∷ 0x2c ∷ 0x58 ∷ 0x1b ∷ 0x59 ∷ 0x2d ∷ 0x18 ∷ []) 3 ⇒ Some 5
    -- An instruction definition is no function definition.
    ∷ definition_leads (0x89 ∷ 0x18 ∷ 0x2d ∷ 0x18 ∷ []) 0 ⇒ None
    ∷ [])
unfolding structure
cases_of_leading = refl

-- The body to which the instruction at an offset belongs; a function is named by its first instruction.
cases_of_bodies : all_hold (
    -- A definition belongs to the main program.
    body_of_offset (0x58 ∷ 0x2c ∷ 0x2d ∷ 0x59 ∷ []) 1 ⇒ Some body.Main
    -- An ENDF belongs to its function.
    ∷ body_of_offset (0x58 ∷ 0x2c ∷ 0x2d ∷ 0x59 ∷ []) 2 ⇒ Some (body.Function 2)
    -- The main program goes on after an ENDF.
    ∷ body_of_offset (0x58 ∷ 0x2c ∷ 0x2d ∷ 0x59 ∷ []) 3 ⇒ Some body.Main
    -- Pushed data belong to no body.
    ∷ body_of_offset (0x58 ∷ 0x40 ∷ 0x01 ∷ 0x1b ∷ 0x1b ∷ 0x59 ∷ []) 3 ⇒ None
    -- The end belongs to no body.
    ∷ body_of_offset (0x58 ∷ 0x40 ∷ 0x01 ∷ 0x1b ∷ 0x1b ∷ 0x59 ∷ []) 6 ⇒ None
    -- What stands before a definition is the main program.
    ∷ body_of_offset (0xb0 ∷ 0x00 ∷ 0x2c ∷ 0x58 ∷ 0x1b ∷ 0x59 ∷ 0x2d ∷ 0x18 ∷ []) 0 ⇒ Some body.Main
    -- A function is named by its first instruction.
    ∷ body_of_offset (0xb0 ∷ 0x00 ∷ 0x2c ∷ 0x58 ∷ 0x1b ∷ 0x59 ∷ 0x2d ∷ 0x18 ∷ []) 3 ⇒ Some (body.Function 3)
    -- An IF of a function belongs to it.
    ∷ body_of_offset (0xb0 ∷ 0x00 ∷ 0x2c ∷ 0x58 ∷ 0x1b ∷ 0x59 ∷ 0x2d ∷ 0x18 ∷ []) 5 ⇒ Some (body.Function 3)
    -- A second function has a name of its own.
    ∷ body_of_offset (0x2c ∷ 0x2d ∷ 0x2c ∷ 0x18 ∷ 0x2d ∷ []) 4 ⇒ Some (body.Function 3)
    -- An instruction definition belongs to the main program.
    ∷ body_of_offset (0x89 ∷ 0x18 ∷ 0x2d ∷ 0x18 ∷ []) 0 ⇒ Some body.Main
    -- The body of an instruction definition is no function.
    ∷ body_of_offset (0x89 ∷ 0x18 ∷ 0x2d ∷ 0x18 ∷ []) 1 ⇒ Some (body.Instruction 1)
    -- The ENDF of an instruction definition is no function.
    ∷ body_of_offset (0x89 ∷ 0x18 ∷ 0x2d ∷ 0x18 ∷ []) 2 ⇒ Some (body.Instruction 1)
    -- The main program goes on after an instruction definition.
    ∷ body_of_offset (0x89 ∷ 0x18 ∷ 0x2d ∷ 0x18 ∷ []) 3 ⇒ Some body.Main
    ∷ [])
unfolding structure
cases_of_bodies = refl

-- The instruction at an offset.
cases_of_instructions : all_hold (
    -- No instruction stands in pushed data.
    instruction_of_offset (0x58 ∷ 0x40 ∷ 0x01 ∷ 0x1b ∷ 0x1b ∷ 0x59 ∷ []) 3 ⇒ None
    -- A push stands with its data.
    ∷ instruction_of_offset (0x58 ∷ 0x40 ∷ 0x01 ∷ 0x1b ∷ 0x1b ∷ 0x59 ∷ []) 1 ⇒ Some (0x40 ∷ 0x01 ∷ 0x1b ∷ [])
    -- The end is no instruction.
    ∷ instruction_of_offset (0x58 ∷ 0x40 ∷ 0x01 ∷ 0x1b ∷ 0x1b ∷ 0x59 ∷ []) 6 ⇒ None
    ∷ [])
unfolding structure
cases_of_instructions = refl

-- Where a machine may be: at an instruction of its body.
cases_of_places : all_hold (
    -- A machine may stand at an instruction.
    fault_at (0xb0 ∷ 0x00 ∷ 0x2c ∷ 0x18 ∷ 0x2d ∷ 0x18 ∷ []) [] 5 ⇒ None
    -- No machine may stand in pushed data.
    ∷ fault_at (0xb0 ∷ 0x00 ∷ 0x2c ∷ 0x18 ∷ 0x2d ∷ 0x18 ∷ []) [] 1 ⇒ Some reason.Target
    -- No machine may stand in a function that was not called.
    ∷ fault_at (0xb0 ∷ 0x00 ∷ 0x2c ∷ 0x18 ∷ 0x2d ∷ 0x18 ∷ []) [] 3 ⇒ Some reason.Target
    -- A machine may stand in a function that was called.
    ∷ fault_at (0xb0 ∷ 0x00 ∷ 0x2c ∷ 0x18 ∷ 0x2d ∷ 0x18 ∷ []) (record { body = 3; call = 9; turn = 1; count = 1 } ∷ []) 3 ⇒ None
    -- No machine may leave its function without its end.
    ∷ fault_at (0xb0 ∷ 0x00 ∷ 0x2c ∷ 0x18 ∷ 0x2d ∷ 0x18 ∷ []) (record { body = 3; call = 9; turn = 1; count = 1 } ∷ []) 5
    ⇒ Some reason.Target
    -- No machine may stand in another function.
    ∷ fault_at (0x2c ∷ 0x18 ∷ 0x2d ∷ 0x2c ∷ 0x18 ∷ 0x2d ∷ []) (record { body = 1; call = 9; turn = 1; count = 1 } ∷ []) 4
    ⇒ Some reason.Target
    -- No machine may be after the end.
    ∷ fault_at (0x18 ∷ []) [] 2 ⇒ Some reason.Target
    ∷ [])
unfolding structure
cases_of_places = refl
