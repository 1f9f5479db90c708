-- Running programs on the machine's definitions, so that worked examples can be computed. Where any
-- number may be pushed one number is taken, usually 7, and cell i of the storage area holds 100 + i
-- at the start.
use Rattle.std.proofs.Common.{◌≡◌, ℕ, zero, suc, ◌+◌, List, [], ◌∷◌, Option, None, Some, Ok, Err, take, drop}
use Rattle.std.specs.Prelude.{ℤ, pos, negsuc, true, false, map, nat_lt, if◌then◌else◌}
use Rattle.tt_code.specs.Refusals.{Tested}
use Rattle.tt_code.specs.Table.{effect_of, name_of}
use Rattle.tt_code.specs.Cut.{Instruction, data_length, instruction_at}
use Rattle.tt_code.specs.Structure.{keyword, after_if, after_else, after_fdef, body_at}
use Rattle.tt_code.specs.Settings.{Setting, Kind, FontProgram, CvtProgram, GlyphProgram, ZoneNumber, CVT_BODIES}
use Rattle.tt_code.specs.States.{Machine, default_graphics}
use Rattle.tt_code.specs.Runs.{outcome, is_at_end, left_by}
use Rattle.tt_code.specs.Fonts.{Font, font_setting, cvt_setting, glyph_setting}
use Rattle.tt_code.specs.declared.limits.Limits.{Limits}
use Rattle.tt_code.specs.declared.machine.Body.{Body}
use Rattle.tt_code.specs.declared.machine.Frame.{Frame}
use Rattle.tt_code.specs.declared.machine.Graphics.{Graphics}
use Rattle.tt_code.specs.declared.reason.Reason.{Reason}

-- Runs.

abbrev pub storage_at_start : ℕ → ℤ
storage_at_start i = pos (100 + i)

-- the machine with which a program starts, where the program may call these functions
abbrev pub start : List (ℕ × ℕ) → Machine
start functions = record {
  frames = [];
  offset = 0;
  stack = [];
  registers = record { graphics = default_graphics; storage = storage_at_start };
  functions = functions;
}

pub data Ending : Type 0 where
  Ended : Machine → Ending
  Faulted : Machine → Reason → Ending
  Running : Machine → Ending

-- where a run comes to after at most so many steps, with this number taken where any may be pushed
unfoldable pub run : ℤ → ℕ → Setting → Machine → Ending
unfolding outcome effect_of keyword
run any zero s m = Running m
run any (suc n) s m =
    let more = run any n s in
    elim (is_at_end s m) [
      | true ↦ Ended m
      | false ↦ elim (outcome s m) [ Ok o ↦ more (left_by o (λ i. any)) | Err r ↦ Faulted m r ]
    ]

-- Fonts. Every program of an example is shorter than 100 bytes, and ends within 60 steps or never.

unfoldable pub cut_within : ℕ → List ℕ → List Instruction
unfolding effect_of
cut_within zero bytes = []
cut_within (suc n) [] = []
cut_within (suc n) (code ∷ rest) =
    let more = cut_within n in
    elim (data_length (effect_of code) rest) [ None ↦ [] | Some k ↦ (code ∷ take k rest) ∷ more (drop k rest) ]

abbrev pub cut_of : List ℕ → List Instruction
cut_of bytes = cut_within 100 bytes

abbrev pub usual_limits : Limits
usual_limits = record { storage = 4; functions = 2; stack = 8; program_size = 64; zones = 2; twilight = 4 }

abbrev pub font_of : Limits → List ℕ → List ℕ → Font
font_of limits f p = record { limits = limits; cvt = 10; font_program = cut_of f; cvt_program = cut_of p }

-- the three kinds of program
pub data Part : Type 0 where
  InFont : Part
  InCvt : Part
  InGlyph : Part

-- how a font's programs end: the program that runs at a fault, the one to which the faulting
-- instruction belongs, and the offset there
pub data Answer : Type 0 where
  Accepted : Answer
  Refused : Part → Part → ℕ → Reason → Answer
  Endless : Part → Answer

abbrev pub part_of : Kind → Part
part_of FontProgram = InFont
part_of CvtProgram = InCvt
part_of (GlyphProgram points contours) = InGlyph

abbrev pub place_in : Part → List Frame → Part
place_in part [] = part
place_in part (f ∷ fs) = if nat_lt f.body CVT_BODIES then InFont else InCvt

-- the answer of a program, and what follows where it ends
abbrev pub and_then : ℤ → Setting → List (ℕ × ℕ) → (Machine → Answer) → Answer
and_then any s functions next = elim (run any 60 s (start functions)) [
  | Ended m ↦ next m
  | Faulted m r ↦ Refused (part_of s.kind) (place_in (part_of s.kind) m.frames) m.offset r
  | Running m ↦ Endless (part_of s.kind)
]

-- of a font program, a CVT program and the program of a glyph with 4 points and 1 contour
unfoldable pub answer : ℤ → Limits → List ℕ → List ℕ → List ℕ → Answer
unfolding run cut_within
answer any limits f p glyph =
    let font = font_of limits f p in
    and_then any (font_setting font) [] (λ (a : Machine).
    and_then any (cvt_setting font) a.functions (λ (b : Machine).
    and_then any (glyph_setting font 4 1 (cut_of glyph)) b.functions (λ (c : Machine). Accepted)))

-- The ends of the numbers' range.

abbrev pub lowest : ℤ
lowest = negsuc 2147483647

abbrev pub highest : ℤ
highest = pos 2147483647

-- What is observed of a machine: the storage area is observed up to the usual maxStorage.

pub record Seen : Type 0 where
  pub offset : ℕ
  pub stack : List ℤ
  pub graphics : Graphics ℤ ZoneNumber
  pub cells : List ℤ

abbrev pub first_cells : (ℕ → ℤ) → List ℤ
first_cells storage = map storage (0 ∷ 1 ∷ 2 ∷ 3 ∷ [])

abbrev pub seen : Machine → Seen
seen m = record { offset = m.offset; stack = m.stack; graphics = m.registers.graphics; cells = first_cells m.registers.storage }

-- the machine at the end of a glyph program that runs alone
unfoldable pub seen_at_end : List ℕ → Option Seen
unfolding run cut_within
seen_at_end glyph = elim (run (pos 7) 60 (glyph_setting (font_of usual_limits [] []) 4 1 (cut_of glyph)) (start [])) [
  | Ended m ↦ Some (seen m)
  | Faulted m r ↦ None
  | Running m ↦ None
]

-- One instruction of one byte by itself, at the start of a program of a glyph with 4 points and 2
-- contours.

abbrev pub alone : Limits → ℕ → Setting
alone limits code = glyph_setting (font_of limits [] []) 4 2 ((code ∷ []) ∷ [])

abbrev pub before : Graphics ℤ ZoneNumber → List ℤ → Machine
before g stack = record (start []) { stack = stack; registers = record (start []).registers { graphics = g } }

unfoldable pub performed : Limits → Graphics ℤ ZoneNumber → List ℤ → ℕ → Tested Seen
unfolding outcome effect_of keyword
performed limits g stack code = elim (outcome (alone limits code) (before g stack)) [
  | Ok o ↦ Ok (seen (left_by o (λ i. pos 7)))
  | Err r ↦ Err r
]

-- The glyph zone has 8 points, the twilight zone 12.
abbrev pub wide_twilight : Limits
wide_twilight = record usual_limits { twilight = 12 }

-- Reference points that no zone has, all different, and the loop number 2: what isn't used isn't
-- tested, and what changes is observed.
abbrev pub zones : ZoneNumber → ZoneNumber → ZoneNumber → Graphics ℤ ZoneNumber
zones a b c = record { rp0 = pos 20; rp1 = pos 21; rp2 = pos 22; zp0 = a; zp1 = b; zp2 = c; loop_number = pos 2 }

abbrev pub untouched : List ℤ
untouched = map pos (100 ∷ 101 ∷ 102 ∷ 103 ∷ [])

-- it goes on, with this stack, graphics state and storage area
abbrev pub goes_on_with : List ℤ → Graphics ℤ ZoneNumber → List ℤ → Tested Seen
goes_on_with stack g cells = Ok (record { offset = 1; stack = stack; graphics = g; cells = cells })

-- Calls: a font program, a CVT program, the functions that they define, and a glyph program.

unfoldable pub frames_at_fault : List ℕ → List ℕ → List (ℕ × ℕ) → List ℕ → Option (List Frame)
unfolding run cut_within
frames_at_fault f p functions glyph =
    elim (run (pos 7) 60 (glyph_setting (font_of usual_limits f p) 4 1 (cut_of glyph)) (start functions)) [
      | Ended m ↦ None
      | Faulted m r ↦ Some m.frames
      | Running m ↦ None
    ]

abbrev pub functions_at_end : Ending → Option (List (ℕ × ℕ))
functions_at_end (Ended m) = Some m.functions
functions_at_end (Faulted m r) = None
functions_at_end (Running m) = None

-- the functions with which glyph programs start
unfoldable pub functions_left : List ℕ → List ℕ → Option (List (ℕ × ℕ))
unfolding run cut_within
functions_left f p =
    let font = font_of usual_limits f p in
    elim (functions_at_end (run (pos 7) 60 (font_setting font) (start []))) [
      | None ↦ None
      | Some functions ↦ functions_at_end (run (pos 7) 60 (cvt_setting font) (start functions))
    ]

-- what the proofs about pushes, calculations and calls unfold
unfoldable pub computed : Unit {0}
unfolding seen_at_end performed frames_at_fault functions_left
computed = tt

-- Names.

abbrev pub each_is_named : List (List ℕ × List ℕ) → Type 0
each_is_named names =
    map (λ (n : List ℕ × List ℕ). map name_of n.0) names
    ≡ map (λ (n : List ℕ × List ℕ). map (λ (code : ℕ). Some n.1) n.0) names

-- Structure, by offsets.

unfoldable pub if_leads : List ℕ → ℕ → Option ℕ
unfolding cut_within keyword
if_leads bytes offset = after_if (cut_of bytes) offset

unfoldable pub else_leads : List ℕ → ℕ → Option ℕ
unfolding cut_within keyword
else_leads bytes offset = after_else (cut_of bytes) offset

unfoldable pub definition_leads : List ℕ → ℕ → Option ℕ
unfolding cut_within keyword
definition_leads bytes offset = after_fdef (cut_of bytes) offset

unfoldable pub body_of_offset : List ℕ → ℕ → Option Body
unfolding cut_within keyword
body_of_offset bytes offset = body_at (cut_of bytes) offset

unfoldable pub instruction_of_offset : List ℕ → ℕ → Option Instruction
unfolding cut_within
instruction_of_offset bytes offset = instruction_at (cut_of bytes) offset

-- the fault of a font program that is at an offset, with the empty stack
unfoldable pub fault_at : List ℕ → List Frame → ℕ → Option Reason
unfolding outcome cut_within keyword
fault_at bytes frames offset =
    elim (outcome (font_setting (font_of usual_limits bytes [])) (record (start []) { frames = frames; offset = offset })) [
      | Ok o ↦ None
      | Err r ↦ Some r
    ]

-- what the proofs about structure unfold
unfoldable pub structure : Unit {0}
unfolding if_leads else_leads definition_leads body_of_offset instruction_of_offset fault_at
structure = tt
