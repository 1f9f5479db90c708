-- What the machine does with the programs of worked fonts, one after the other: the font program, the CVT program, a glyph program.
use Rattle.std.proofs.Common.{[], ◌∷◌, refl}
use Rattle.tt_code.specs.declared.reason.Reason.TheVariants as reason
use Rattle.tt_code.proofs.Running.{Accepted, Refused, Endless, InFont, InCvt, InGlyph, answer}
use Rattle.tt_code.proofs.ExamplesAsCases.{all_hold, font_answers, font_answers_to_any}

-- Calls of a function of the font program.
cases_of_calls : all_hold (
    -- A function pops what the glyph program pushed.
    font_answers (0xb0 ∷ 0x00 ∷ 0x2c ∷ 0x21 ∷ 0x2d ∷ []) [] (0xb1 ∷ 0x07 ∷ 0x00 ∷ 0x2b ∷ []) Accepted
    -- A fault in a function stands in the font program.
    ∷ font_answers (0xb0 ∷ 0x00 ∷ 0x2c ∷ 0x21 ∷ 0x2d ∷ []) [] (0xb0 ∷ 0x00 ∷ 0x2b ∷ []) (Refused InGlyph InFont 3 reason.Underflow)
    -- A LOOPCALL pops once in each turn.
    ∷ font_answers (0xb0 ∷ 0x00 ∷ 0x2c ∷ 0x21 ∷ 0x2d ∷ []) [] (0xb4 ∷ 0x01 ∷ 0x02 ∷ 0x03 ∷ 0x03 ∷ 0x00 ∷ 0x2a ∷ []) Accepted
    -- A LOOPCALL has one turn too many.
    ∷ font_answers (0xb0 ∷ 0x00 ∷ 0x2c ∷ 0x21 ∷ 0x2d ∷ []) [] (0xb4 ∷ 0x01 ∷ 0x02 ∷ 0x03 ∷ 0x04 ∷ 0x00 ∷ 0x2a ∷ [])
    (Refused InGlyph InFont 3 reason.Underflow)
    -- A LOOPCALL by zero calls nothing.
    ∷ font_answers (0xb0 ∷ 0x00 ∷ 0x2c ∷ 0x21 ∷ 0x2d ∷ []) [] (0xb4 ∷ 0x01 ∷ 0x02 ∷ 0x03 ∷ 0x00 ∷ 0x00 ∷ 0x2a ∷ []) Accepted
    -- A LOOPCALL by zero calls nothing on an empty stack.
    ∷ font_answers (0xb0 ∷ 0x00 ∷ 0x2c ∷ 0x21 ∷ 0x2d ∷ []) [] (0xb1 ∷ 0x00 ∷ 0x00 ∷ 0x2a ∷ []) Accepted
    -- A LOOPCALL by a negative count calls nothing.
    ∷ font_answers (0xb0 ∷ 0x00 ∷ 0x2c ∷ 0x21 ∷ 0x2d ∷ []) [] (0xb9 ∷ 0xff ∷ 0xff ∷ 0x00 ∷ 0x00 ∷ 0x2a ∷ []) Accepted
    -- A LOOPCALL by zero takes its two numbers.
    ∷ font_answers (0xb0 ∷ 0x00 ∷ 0x2c ∷ 0x21 ∷ 0x2d ∷ []) [] (0xb1 ∷ 0x00 ∷ 0x00 ∷ 0x2a ∷ 0x21 ∷ [])
    (Refused InGlyph InGlyph 4 reason.Underflow)
    -- A LOOPCALL by a negative count takes its two numbers.
    ∷ font_answers (0xb0 ∷ 0x00 ∷ 0x2c ∷ 0x21 ∷ 0x2d ∷ []) [] (0xb9 ∷ 0xff ∷ 0xff ∷ 0x00 ∷ 0x00 ∷ 0x2a ∷ 0x21 ∷ [])
    (Refused InGlyph InGlyph 6 reason.Underflow)
    -- A LOOPCALL leaves the stack below its two numbers.
    ∷ font_answers (0xb0 ∷ 0x00 ∷ 0x2c ∷ 0x21 ∷ 0x2d ∷ []) [] (0xb2 ∷ 0x05 ∷ 0x00 ∷ 0x00 ∷ 0x2a ∷ 0x21 ∷ []) Accepted
    -- A LOOPCALL needs a count.
    ∷ font_answers (0xb0 ∷ 0x00 ∷ 0x2c ∷ 0x21 ∷ 0x2d ∷ []) [] (0xb0 ∷ 0x00 ∷ 0x2a ∷ []) (Refused InGlyph InGlyph 2 reason.Underflow)
    -- A LOOPCALL tests an undefined function before its count.
    ∷ font_answers (0xb0 ∷ 0x00 ∷ 0x2c ∷ 0x21 ∷ 0x2d ∷ []) [] (0xb0 ∷ 0x01 ∷ 0x2a ∷ []) (Refused InGlyph InGlyph 2 reason.Function)
    -- Turns of an empty function do nothing.
    ∷ font_answers (0xb0 ∷ 0x00 ∷ 0x2c ∷ 0x2d ∷ []) [] (0xb1 ∷ 0x14 ∷ 0x00 ∷ 0x2a ∷ 0x21 ∷ []) (Refused InGlyph InGlyph 4 reason.Underflow)
    -- Control goes on after a call.
    ∷ font_answers (0xb0 ∷ 0x00 ∷ 0x2c ∷ 0x2d ∷ []) [] (0xb0 ∷ 0x00 ∷ 0x2b ∷ 0x28 ∷ []) (Refused InGlyph InGlyph 3 reason.Opcode)
    -- Control goes on after a LOOPCALL.
    ∷ font_answers (0xb0 ∷ 0x00 ∷ 0x2c ∷ 0x2d ∷ []) [] (0xb1 ∷ 0x02 ∷ 0x00 ∷ 0x2a ∷ 0x28 ∷ []) (Refused InGlyph InGlyph 4 reason.Opcode)
    ∷ [])
unfolding answer
cases_of_calls = refl

-- What is in the body of a function, and what it leaves behind.
cases_of_bodies : all_hold (
    -- A recursion has no fault of its own.
    font_answers (0xb0 ∷ 0x00 ∷ 0x2c ∷ 0xb0 ∷ 0x00 ∷ 0x2b ∷ 0x2d ∷ []) [] (0xb0 ∷ 0x00 ∷ 0x2b ∷ []) (Endless InGlyph)
    -- A function calls another.
    ∷ font_answers (0xb0 ∷ 0x00 ∷ 0x2c ∷ 0x21 ∷ 0x2d ∷ 0xb0 ∷ 0x01 ∷ 0x2c ∷ 0xb0 ∷ 0x00 ∷ 0x2b ∷ 0x21 ∷ 0x2d ∷ []) []
    (0xb2 ∷ 0x05 ∷ 0x06 ∷ 0x01 ∷ 0x2b ∷ []) Accepted
    -- A fault after an inner call.
    ∷ font_answers (0xb0 ∷ 0x00 ∷ 0x2c ∷ 0x21 ∷ 0x2d ∷ 0xb0 ∷ 0x01 ∷ 0x2c ∷ 0xb0 ∷ 0x00 ∷ 0x2b ∷ 0x21 ∷ 0x2d ∷ []) []
    (0xb1 ∷ 0x06 ∷ 0x01 ∷ 0x2b ∷ []) (Refused InGlyph InFont 11 reason.Underflow)
    -- A function leaves reference points behind.
    ∷ font_answers (0xb0 ∷ 0x00 ∷ 0x2c ∷ 0xb0 ∷ 0x03 ∷ 0x10 ∷ 0x2d ∷ []) [] (0xb0 ∷ 0x00 ∷ 0x2b ∷ 0xb0 ∷ 0x00 ∷ 0xc0 ∷ []) Accepted
    -- A function leaves a bad reference point behind.
    ∷ font_answers (0xb0 ∷ 0x00 ∷ 0x2c ∷ 0xb0 ∷ 0x09 ∷ 0x10 ∷ 0x2d ∷ []) [] (0xb0 ∷ 0x00 ∷ 0x2b ∷ 0xb0 ∷ 0x00 ∷ 0xc0 ∷ [])
    (Refused InGlyph InGlyph 5 reason.Point)
    -- A function leaves a stored number behind.
    ∷ font_answers (0xb0 ∷ 0x00 ∷ 0x2c ∷ 0xb1 ∷ 0x01 ∷ 0x03 ∷ 0x42 ∷ 0x2d ∷ []) [] (0xb0 ∷ 0x00 ∷ 0x2b ∷ 0xb0 ∷ 0x01 ∷ 0x43 ∷ 0x2e ∷ [])
    Accepted
    -- A body may hold an IF.
    ∷ font_answers (0xb0 ∷ 0x00 ∷ 0x2c ∷ 0x58 ∷ 0x21 ∷ 0x1b ∷ 0x28 ∷ 0x59 ∷ 0x2d ∷ []) [] (0xb2 ∷ 0x05 ∷ 0x01 ∷ 0x00 ∷ 0x2b ∷ []) Accepted
    -- A body may hold an ELSE.
    ∷ font_answers (0xb0 ∷ 0x00 ∷ 0x2c ∷ 0x58 ∷ 0x28 ∷ 0x1b ∷ 0x21 ∷ 0x59 ∷ 0x2d ∷ []) [] (0xb2 ∷ 0x05 ∷ 0x00 ∷ 0x00 ∷ 0x2b ∷ []) Accepted
    ∷ [])
unfolding answer
cases_of_bodies = refl

-- Jumps stay in their body.
cases_of_jumps : all_hold (
    -- A jump inside a function.
    font_answers (0xb0 ∷ 0x00 ∷ 0x2c ∷ 0xb0 ∷ 0x02 ∷ 0x1c ∷ 0x28 ∷ 0x2d ∷ []) [] (0xb0 ∷ 0x00 ∷ 0x2b ∷ []) Accepted
    -- A jump to the end of a function is refused there.
    ∷ font_answers (0xb0 ∷ 0x00 ∷ 0x2c ∷ 0xb0 ∷ 0x02 ∷ 0x1c ∷ 0x2d ∷ []) [] (0xb0 ∷ 0x00 ∷ 0x2b ∷ [])
    (Refused InGlyph InFont 5 reason.Target)
    -- A jump from a function to its definition.
    ∷ font_answers (0xb0 ∷ 0x00 ∷ 0x2c ∷ 0xb8 ∷ 0xff ∷ 0xfc ∷ 0x1c ∷ 0x2d ∷ []) [] (0xb0 ∷ 0x00 ∷ 0x2b ∷ [])
    (Refused InGlyph InFont 6 reason.Target)
    -- A jump from a function into another.
    ∷ font_answers (0xb0 ∷ 0x00 ∷ 0x2c ∷ 0xb0 ∷ 0x05 ∷ 0x1c ∷ 0x2d ∷ 0xb0 ∷ 0x01 ∷ 0x2c ∷ 0x2d ∷ []) [] (0xb0 ∷ 0x00 ∷ 0x2b ∷ [])
    (Refused InGlyph InFont 5 reason.Target)
    -- A jump from the main program into a function.
    ∷ font_answers (0xb0 ∷ 0x04 ∷ 0x1c ∷ 0xb0 ∷ 0x00 ∷ 0x2c ∷ 0x18 ∷ 0x2d ∷ []) [] [] (Refused InFont InFont 2 reason.Target)
    -- A jump from the main program to the end of a function.
    ∷ font_answers (0xb0 ∷ 0x05 ∷ 0x1c ∷ 0xb0 ∷ 0x00 ∷ 0x2c ∷ 0x18 ∷ 0x2d ∷ []) [] [] (Refused InFont InFont 2 reason.Target)
    -- A jump from the main program to a definition.
    ∷ font_answers (0xb1 ∷ 0x00 ∷ 0x03 ∷ 0x1c ∷ 0x28 ∷ 0x28 ∷ 0x2c ∷ 0x2d ∷ []) [] (0xb0 ∷ 0x00 ∷ 0x2b ∷ []) Accepted
    -- A jump over a definition.
    ∷ font_answers (0xb0 ∷ 0x05 ∷ 0x1c ∷ 0xb0 ∷ 0x00 ∷ 0x2c ∷ 0x2d ∷ []) [] (0xb0 ∷ 0x00 ∷ 0x2b ∷ [])
    (Refused InGlyph InGlyph 2 reason.Function)
    ∷ [])
unfolding answer
cases_of_jumps = refl

-- Where functions are defined.
cases_of_definitions : all_hold (
    -- A function of the CVT program is called.
    font_answers [] (0xb0 ∷ 0x00 ∷ 0x2c ∷ 0x21 ∷ 0x2d ∷ []) (0xb1 ∷ 0x07 ∷ 0x00 ∷ 0x2b ∷ []) Accepted
    -- A fault in a function of the CVT program stands there.
    ∷ font_answers [] (0xb0 ∷ 0x00 ∷ 0x2c ∷ 0x21 ∷ 0x2d ∷ []) (0xb0 ∷ 0x00 ∷ 0x2b ∷ []) (Refused InGlyph InCvt 3 reason.Underflow)
    -- The CVT program replaces a function.
    ∷ font_answers (0xb0 ∷ 0x00 ∷ 0x2c ∷ 0x21 ∷ 0x2d ∷ []) (0xb0 ∷ 0x00 ∷ 0x2c ∷ 0x2d ∷ []) (0xb0 ∷ 0x00 ∷ 0x2b ∷ []) Accepted
    -- The CVT program keeps other functions.
    ∷ font_answers (0xb0 ∷ 0x00 ∷ 0x2c ∷ 0x21 ∷ 0x2d ∷ []) (0xb0 ∷ 0x01 ∷ 0x2c ∷ 0x2d ∷ []) (0xb0 ∷ 0x00 ∷ 0x2b ∷ [])
    (Refused InGlyph InFont 3 reason.Underflow)
    -- The CVT program may replace a function.
    ∷ font_answers_to_any (0xb0 ∷ 0x00 ∷ 0x2c ∷ 0x21 ∷ 0x2d ∷ []) (0x4b ∷ 0x58 ∷ 0xb0 ∷ 0x00 ∷ 0x2c ∷ 0x2d ∷ 0x59 ∷ [])
    (0xb0 ∷ 0x00 ∷ 0x2b ∷ []) (Refused InGlyph InFont 3 reason.Underflow) Accepted Accepted Accepted
    -- A second definition replaces the first.
    ∷ font_answers (0xb0 ∷ 0x00 ∷ 0x2c ∷ 0x21 ∷ 0x2d ∷ 0xb0 ∷ 0x00 ∷ 0x2c ∷ 0x2d ∷ []) [] (0xb0 ∷ 0x00 ∷ 0x2b ∷ []) Accepted
    -- The second definition counts.
    ∷ font_answers (0xb0 ∷ 0x00 ∷ 0x2c ∷ 0x2d ∷ 0xb0 ∷ 0x00 ∷ 0x2c ∷ 0x21 ∷ 0x2d ∷ []) [] (0xb0 ∷ 0x00 ∷ 0x2b ∷ [])
    (Refused InGlyph InFont 7 reason.Underflow)
    -- A definition in an IF that is not taken.
    ∷ font_answers (0xb0 ∷ 0x00 ∷ 0x58 ∷ 0xb0 ∷ 0x00 ∷ 0x2c ∷ 0x2d ∷ 0x59 ∷ []) [] (0xb0 ∷ 0x00 ∷ 0x2b ∷ [])
    (Refused InGlyph InGlyph 2 reason.Function)
    -- A definition in an IF that is taken.
    ∷ font_answers (0xb0 ∷ 0x01 ∷ 0x58 ∷ 0xb0 ∷ 0x00 ∷ 0x2c ∷ 0x2d ∷ 0x59 ∷ []) [] (0xb0 ∷ 0x00 ∷ 0x2b ∷ []) Accepted
    -- A definition goes past its body.
    ∷ font_answers (0xb0 ∷ 0x00 ∷ 0x2c ∷ 0x28 ∷ 0x2d ∷ 0x21 ∷ []) [] [] (Refused InFont InFont 5 reason.Underflow)
    -- A definition needs a number.
    ∷ font_answers (0x2c ∷ 0x2d ∷ []) [] [] (Refused InFont InFont 0 reason.Underflow)
    -- A definition of the last number.
    ∷ font_answers (0xb0 ∷ 0x01 ∷ 0x2c ∷ 0x2d ∷ []) [] (0xb0 ∷ 0x01 ∷ 0x2b ∷ []) Accepted
    -- A definition of a number after the last.
    ∷ font_answers (0xb0 ∷ 0x02 ∷ 0x2c ∷ 0x2d ∷ []) [] [] (Refused InFont InFont 2 reason.Function)
    -- A definition of a negative number.
    ∷ font_answers [] (0xb8 ∷ 0xff ∷ 0xff ∷ 0x2c ∷ 0x2d ∷ []) [] (Refused InCvt InCvt 3 reason.Function)
    -- The font program calls its own function.
    ∷ font_answers (0xb0 ∷ 0x00 ∷ 0x2c ∷ 0x21 ∷ 0x2d ∷ 0xb0 ∷ 0x00 ∷ 0x2b ∷ []) [] [] (Refused InFont InFont 3 reason.Underflow)
    -- The CVT program calls a function of the font program.
    ∷ font_answers (0xb0 ∷ 0x00 ∷ 0x2c ∷ 0x21 ∷ 0x2d ∷ []) (0xb1 ∷ 0x05 ∷ 0x00 ∷ 0x2b ∷ 0xb0 ∷ 0x00 ∷ 0x2b ∷ []) []
    (Refused InCvt InFont 3 reason.Underflow)
    -- A function of the CVT program calls one of the font program.
    ∷ font_answers (0xb0 ∷ 0x00 ∷ 0x2c ∷ 0x21 ∷ 0x2d ∷ []) (0xb0 ∷ 0x01 ∷ 0x2c ∷ 0xb0 ∷ 0x00 ∷ 0x2b ∷ 0x28 ∷ 0x2d ∷ [])
    (0xb1 ∷ 0x05 ∷ 0x01 ∷ 0x2b ∷ []) (Refused InGlyph InCvt 6 reason.Opcode)
    -- A function of the font program calls one of the CVT program.
    ∷ font_answers (0xb0 ∷ 0x00 ∷ 0x2c ∷ 0xb0 ∷ 0x01 ∷ 0x2b ∷ 0x28 ∷ 0x2d ∷ []) (0x18 ∷ 0xb0 ∷ 0x01 ∷ 0x2c ∷ 0x2d ∷ [])
    (0xb0 ∷ 0x00 ∷ 0x2b ∷ []) (Refused InGlyph InFont 6 reason.Opcode)
    -- A loop of calls through both programs.
    ∷ font_answers (0xb0 ∷ 0x00 ∷ 0x2c ∷ 0xb0 ∷ 0x01 ∷ 0x2b ∷ 0x21 ∷ 0x2d ∷ []) (0xb0 ∷ 0x01 ∷ 0x2c ∷ 0x21 ∷ 0x2d ∷ [])
    (0xb4 ∷ 0x01 ∷ 0x02 ∷ 0x03 ∷ 0x02 ∷ 0x00 ∷ 0x2a ∷ []) (Refused InGlyph InFont 6 reason.Underflow)
    -- An instruction definition in the font program.
    ∷ font_answers (0xb0 ∷ 0x91 ∷ 0x89 ∷ 0x2d ∷ []) [] [] (Refused InFont InFont 2 reason.InstructionDefinition)
    ∷ [])
unfolding answer
cases_of_definitions = refl

-- The font program and the CVT program have their own zones, and come before the glyph program.
cases_of_one_program_after_another : all_hold (
    -- A font program without an end.
    font_answers (0xb8 ∷ 0xff ∷ 0xfd ∷ 0x1c ∷ []) [] [] (Endless InFont)
    -- A font program that faults.
    ∷ font_answers (0x21 ∷ []) [] [] (Refused InFont InFont 0 reason.Underflow)
    -- A CVT program without an end.
    ∷ font_answers [] (0xb8 ∷ 0xff ∷ 0xfd ∷ 0x1c ∷ []) [] (Endless InCvt)
    -- A CVT program that faults.
    ∷ font_answers [] (0x21 ∷ []) (0x18 ∷ []) (Refused InCvt InCvt 0 reason.Underflow)
    -- A font program has no point in the glyph zone.
    ∷ font_answers (0xb0 ∷ 0x00 ∷ 0x2e ∷ []) [] [] (Refused InFont InFont 2 reason.Point)
    -- A CVT program has no point in the glyph zone.
    ∷ font_answers [] (0xb0 ∷ 0x00 ∷ 0x2e ∷ []) [] (Refused InCvt InCvt 2 reason.Point)
    -- A font program has no contour in the glyph zone.
    ∷ font_answers (0xb0 ∷ 0x00 ∷ 0x35 ∷ []) [] [] (Refused InFont InFont 2 reason.Contour)
    -- A CVT program has no contour in the glyph zone.
    ∷ font_answers [] (0xb0 ∷ 0x00 ∷ 0x35 ∷ []) [] (Refused InCvt InCvt 2 reason.Contour)
    -- A CVT program has twilight points.
    ∷ font_answers [] (0xb0 ∷ 0x00 ∷ 0x16 ∷ 0xb0 ∷ 0x03 ∷ 0x2e ∷ []) [] Accepted
    -- A CVT program has one contour in the twilight zone.
    ∷ font_answers [] (0xb0 ∷ 0x00 ∷ 0x16 ∷ 0xb0 ∷ 0x00 ∷ 0x35 ∷ []) [] Accepted
    -- Control values are written in the CVT program.
    ∷ font_answers [] (0xb1 ∷ 0x09 ∷ 0x05 ∷ 0x44 ∷ []) [] Accepted
    -- Storage is not kept for the glyph program.
    ∷ font_answers [] (0xb1 ∷ 0x01 ∷ 0x00 ∷ 0x42 ∷ []) (0xb0 ∷ 0x01 ∷ 0x43 ∷ 0x2e ∷ []) (Refused InGlyph InGlyph 3 reason.Point)
    -- Reference points are not kept for the glyph program.
    ∷ font_answers [] (0xb0 ∷ 0x09 ∷ 0x10 ∷ []) (0xb0 ∷ 0x00 ∷ 0xc0 ∷ []) Accepted
    -- Zone pointers are not kept for the glyph program.
    ∷ font_answers [] (0xb0 ∷ 0x00 ∷ 0x16 ∷ []) (0xb0 ∷ 0x07 ∷ 0x2e ∷ []) Accepted
    -- The loop number is not kept for the glyph program.
    ∷ font_answers [] (0xb0 ∷ 0x02 ∷ 0x17 ∷ []) (0xb0 ∷ 0x00 ∷ 0x33 ∷ []) Accepted
    -- The stack is not kept for the glyph program.
    ∷ font_answers (0xb0 ∷ 0x01 ∷ []) (0xb0 ∷ 0x01 ∷ []) (0x21 ∷ []) (Refused InGlyph InGlyph 0 reason.Underflow)
    ∷ [])
unfolding answer
cases_of_one_program_after_another = refl
