-- Worked examples as lists of cases, so that one `refl` proves a whole list. A case is what is computed and what it is to be; the words
-- here make one of a program, or of codes and stacks. Where a list doesn't hold, the prover says which values differ; to see in which
-- case, drop cases from the end until the list holds.
use Rattle.std.specs.Prelude.{◌≡◌, ℕ, ℤ, pos, List, [], ◌∷◌, Option, Some, Err, map, option_map}
use Rattle.tt_code.specs.Refusals.{Tested}
use Rattle.tt_code.specs.Settings.{ZoneNumber, One}
use Rattle.tt_code.specs.declared.limits.Limits.{Limits}
use Rattle.tt_code.specs.declared.machine.Graphics.{Graphics}
use Rattle.tt_code.specs.declared.reason.Reason.{Reason}
use Rattle.tt_code.proofs.Running.{Answer, Accepted, Refused, Endless, InGlyph, Seen, answer, goes_on_with, highest, lowest, performed, seen_at_end, untouched, usual_limits, wide_twilight, zones}

abbrev pub Case : Type 0 → Type 0
Case A = A × A

-- this is computed, and is to be that
infix 70 ◌⇒◌
abbrev pub ◌⇒◌ : {A : Type 0} → A → A → Case A
x ⇒ y = (x, y)

-- each case of a list comes out as it says
abbrev pub all_hold : {A : Type 0} → List (Case A) → Type 0
all_hold cases = map (λ c. c.0) cases ≡ map (λ c. c.1) cases

-- The answers of a font program, a CVT program and a glyph program.

abbrev pub Answered : Type 0
Answered = Case (List Answer)

abbrev pub font_answers : List ℕ → List ℕ → List ℕ → Answer → Answered
font_answers f p glyph a = (answer (pos 7) usual_limits f p glyph ∷ []) ⇒ (a ∷ [])

-- where 0, 7, the lowest number or the highest is taken for any number
abbrev pub font_answers_to_any : List ℕ → List ℕ → List ℕ → Answer → Answer → Answer → Answer → Answered
font_answers_to_any f p glyph a b c d =
    map (λ (any : ℤ). answer any usual_limits f p glyph) (pos 0 ∷ pos 7 ∷ lowest ∷ highest ∷ []) ⇒ (a ∷ b ∷ c ∷ d ∷ [])

-- a glyph program alone
abbrev pub answers_by : Limits → List ℕ → Answer → Answered
answers_by limits glyph a = (answer (pos 7) limits [] [] glyph ∷ []) ⇒ (a ∷ [])

abbrev pub accepted : List ℕ → Answered
accepted glyph = answers_by usual_limits glyph Accepted

abbrev pub refused_at : ℕ → Reason → List ℕ → Answered
refused_at offset r glyph = answers_by usual_limits glyph (Refused InGlyph InGlyph offset r)

abbrev pub endless : List ℕ → Answered
endless glyph = answers_by usual_limits glyph (Endless InGlyph)

abbrev pub answers_to_any : List ℕ → Answer → Answer → Answer → Answer → Answered
answers_to_any = font_answers_to_any [] []

abbrev pub accepted_whatever_is_measured : List ℕ → Answered
accepted_whatever_is_measured glyph = answers_to_any glyph Accepted Accepted Accepted Accepted

-- the stack at the end of a glyph program alone, the top first
abbrev pub ends_with : List ℕ → List ℤ → Case (Option (List ℤ))
ends_with glyph stack = option_map (λ (m : Seen). m.stack) (seen_at_end glyph) ⇒ Some stack

-- What each of some codes does by itself, on a graphics state and a stack.

abbrev pub Performed : Type 0
Performed = Case (List (List (Tested Seen)))

abbrev does_by : Limits → List ℕ → Graphics ℤ ZoneNumber → List ℤ → Tested Seen → Performed
does_by limits codes g stack result = (map (performed limits g stack) codes ∷ []) ⇒ (map (λ (code : ℕ). result) codes ∷ [])

abbrev pub does : List ℕ → Graphics ℤ ZoneNumber → List ℤ → Tested Seen → Performed
does = does_by wide_twilight

-- it leaves this stack and this graphics state
abbrev pub leaves_by : Limits → List ℕ → Graphics ℤ ZoneNumber → List ℤ → List ℤ → Graphics ℤ ZoneNumber → Performed
leaves_by limits codes g stack left h = does_by limits codes g stack (goes_on_with left h untouched)

abbrev pub leaves : List ℕ → Graphics ℤ ZoneNumber → List ℤ → List ℤ → Graphics ℤ ZoneNumber → Performed
leaves = leaves_by wide_twilight

-- it leaves this stack, and all else as it was
abbrev pub takes : List ℕ → Graphics ℤ ZoneNumber → List ℤ → List ℤ → Performed
takes codes g stack left = leaves codes g stack left g

-- on each of these stacks it is refused for this reason
abbrev pub faults_by : Limits → List ℕ → Graphics ℤ ZoneNumber → List (List ℤ) → Reason → Performed
faults_by limits codes g stacks r =
    map (λ (stack : List ℤ). map (performed limits g stack) codes) stacks ⇒ map (λ (stack : List ℤ). map (λ (code : ℕ). Err r) codes) stacks

abbrev pub faults : List ℕ → Graphics ℤ ZoneNumber → List (List ℤ) → Reason → Performed
faults = faults_by wide_twilight

-- what one code makes of each of these stacks
abbrev pub makes : ℕ → List (List ℤ × List ℤ) → Performed
makes code runs =
    (map (λ (r : List ℤ × List ℤ). performed wide_twilight (zones One One One) r.0 code) runs ∷ [])
    ⇒ (map (λ (r : List ℤ × List ℤ). goes_on_with r.1 (zones One One One) untouched) runs ∷ [])
