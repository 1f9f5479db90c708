-- The lines of a program's instructions, one after the other.
use Rattle.std.specs.Prelude.{◌/◌, ◌%◌, codes}
use Rattle.std.specs.Fmt.{decimal, digit_glyph}
use Rattle.std.specs.Io.KnownBytes.{Appends}
use Rattle.std.specs.List.{AllByRecursion}
use Rattle.std.proofs.Common.{◌≡◌, ◌∙◌, ℕ, ◌+◌, ◌<◌, ◌≤◌, List, [], ◌∷◌, ◌++◌, Option, Some, false, length, take, get_or, refl, sym, ap, subst, arith, append_assoc}
use Rattle.std.proofs.KnownBytes.{Appends-nil, Appends-trans}
use Rattle.std.proofs.lemmas.List.{append-nil, flat_map_more, take_more}
use Rattle.tt_code.specs.Cut.{Instruction, IsInstruction, instruction_at, size}
use Rattle.tt_code.specs.Grammar.{IsInstructionAt}
use Rattle.tt_code.specs.declared.reason.Reason.{Reason}
use Rattle.tt_abs.specs.StateFlow.{Place}
use Rattle.tt_setting.specs.declared.name.Name.{Name}
use Rattle.tt_code.proofs.CutLemmas.{found_is, size-append, some_bytes}
use Rattle.tt_code.proofs.StructureLaws.{found_iff_stands}
use Rattle.hintcheck_words.specs.declared.words.Detail.{Detail}
use Rattle.hintcheck.specs.Listing.{CannotBeListed, IsListedBefore, IsUnlistedAt, TellsUnlisted, hex_digits, line_of, lines_of, no_cut, no_structure, refused_in, shown_name, shown_numbers}
use Rattle.hintcheck_programs.specs.Programs.{IsCause, IsRefusal, Subject}
use Rattle.hintcheck_programs.specs.Programs as cause
use Rattle.hintcheck_report.specs.Texts.{refused_text}
use Rattle.hintcheck_report.specs.declared.refused.Refused.{Refused as AnyRefused}

-- a byte's digits

abbrev pub digits_of_byte : ℕ → List ℕ
digits_of_byte b = digit_glyph false (b / 16) ∷ digit_glyph false (b % 16) ∷ []

pub digits_more : (bytes : List ℕ) (i : ℕ) → i < length bytes → hex_digits (take i bytes) ++ digits_of_byte (get_or bytes i 0) ≡ hex_digits (take (i + 1) bytes)
digits_more bytes i h = rw (take_more bytes i 0 h) (flat_map_more digits_of_byte [] (take i bytes) (get_or bytes i 0))

-- a line, which is written in three parts

grouped : (d c h s n m e : List ℕ) → ((d ++ (c ++ (h ++ (s ++ n)))) ++ m) ++ e ≡ d ++ (c ++ (h ++ (s ++ (n ++ (m ++ e)))))
grouped d c h s n m e = simp append_assoc

pub line_joined : (detail : Detail) (offset : ℕ) (i : Instruction) (old named numbered new : Option (List ℕ))
    → Appends old named (decimal offset ++ (codes ": " ++ (hex_digits i ++ (codes " " ++ shown_name i)))) → Appends named numbered (shown_numbers detail i) → Appends numbered new (codes "\n")
    → Appends old new (line_of detail offset i)
unfolding line_of
line_joined detail offset i old named numbered new head numbers end =
    let front : List ℕ = decimal offset ++ (codes ": " ++ (hex_digits i ++ (codes " " ++ shown_name i))) in
    let numbered_is = Appends-trans old named numbered front (shown_numbers detail i) head numbers in
    let all = Appends-trans old numbered new (front ++ shown_numbers detail i) (codes "\n") numbered_is end in
    subst (Appends old new) (grouped (decimal offset) (codes ": ") (hex_digits i) (codes " ") (shown_name i) (shown_numbers detail i) (codes "\n")) all

-- one more line

lines_of-append : (detail : Detail) (offset : ℕ) (is : List Instruction) (i : Instruction) → lines_of detail offset (is ++ i ∷ []) ≡ lines_of detail offset is ++ line_of detail (offset + size is) i
lines_of-append detail offset [] i =
    let here : offset ≡ offset + 0 = omega arith in append-nil (line_of detail offset i) ∙ ap (λ k. line_of detail k i) here
lines_of-append detail offset (j ∷ is) i =
    let behind : offset + length j + size is ≡ offset + (length j + size is) = omega arith in
    ap (λ t. line_of detail offset j ++ t) (lines_of-append detail (offset + length j) is i ∙ ap (λ k. lines_of detail (offset + length j) is ++ line_of detail k i) behind)
    ∙ sym (append_assoc (line_of detail offset j) (lines_of detail (offset + length j) is) (line_of detail (offset + (length j + size is)) i))

-- nothing is listed first, then one instruction more, and at last all of them

pub none_listed : (detail : Detail) (is : List Instruction) (old : Option (List ℕ)) → IsListedBefore detail is 0 old old
none_listed detail is old = record { before = []; after = is; whole = refl; reached = refl; written = Appends-nil old }

one_more : (detail : Detail) (is : List Instruction) (offset : ℕ) (old mid new : Option (List ℕ)) (i : Instruction) (before after : List Instruction) → is ≡ before ++ (i ∷ after) → size before ≡ offset
    → Appends old mid (lines_of detail 0 before) → Appends mid new (line_of detail offset i) → IsListedBefore detail is (offset + length i) old new
one_more detail is offset old mid new i before after whole reached written line = record {
  before = before ++ i ∷ [];
  after = after;
  whole = whole ∙ sym (append_assoc before (i ∷ []) after);
  reached = size-append before (i ∷ []) ∙ omega arith;
  written =
      let at : 0 + size before ≡ offset = omega arith in
      let all = Appends-trans old mid new (lines_of detail 0 before) (line_of detail offset i) written line in
      let same : lines_of detail 0 (before ++ i ∷ []) ≡ lines_of detail 0 before ++ line_of detail offset i = lines_of-append detail 0 before i ∙ ap (λ k. lines_of detail 0 before ++ line_of detail k i) at in
      subst (Appends old new) (sym same) all;
}

pub next_listed : (detail : Detail) (is : List Instruction) (offset : ℕ) (i : Instruction) (old mid new : Option (List ℕ)) → AllByRecursion IsInstruction is → IsListedBefore detail is offset old mid
    → instruction_at is offset ≡ Some i → offset + length i ≤ size is → Appends mid new (line_of detail offset i) → IsListedBefore detail is (offset + length i) old new
next_listed detail is offset i old mid new each listed found within line = go listed.after listed.whole
  where
    go : (after : List Instruction) → is ≡ listed.before ++ after → IsListedBefore detail is (offset + length i) old new
    go [] whole =
        let all : size is ≡ size listed.before = ap size (whole ∙ append-nil listed.before) in
        let some : 0 < length i = some_bytes i (found_is is each offset i found) in
        let reached = listed.reached in absurd (omega arith)
    go (j ∷ after) whole =
        let stands : IsInstructionAt is offset j = record { before = listed.before; after = after; whole = whole; offset = listed.reached } in
        let there : instruction_at is offset ≡ Some j = (found_iff_stands is offset j each).1 stands in
        let same : j ≡ i = cc in
        one_more detail is offset old mid new i listed.before after (whole ∙ ap (λ x. listed.before ++ (x ∷ after)) same) listed.reached listed.written line

pub all_listed : (detail : Detail) (is : List Instruction) (offset : ℕ) (old new : Option (List ℕ)) → IsListedBefore detail is offset old new → ((i : Instruction) → IsInstructionAt is offset i → ⊥)
    → Appends old new (lines_of detail 0 is)
all_listed detail is offset old new listed none = go listed.after listed.whole
  where
    go : (after : List Instruction) → is ≡ listed.before ++ after → Appends old new (lines_of detail 0 is)
    go [] whole = subst (λ x. Appends old new (lines_of detail 0 x)) (sym (whole ∙ append-nil listed.before)) listed.written
    go (j ∷ after) whole = absurd (none j (record { before = listed.before; after = after; whole = whole; offset = listed.reached }))

-- why a program that is refused isn't listed

pub why_unlisted : (x : Subject) (at : Place) (r : Reason) → IsCause x at r → CannotBeListed x.bytes → IsUnlistedAt x.bytes at.1 r
why_unlisted x _ _ (cause.no_cut offset h) none = no_cut offset h
why_unlisted x _ _ (cause.no_structure is offset cut fault) none = no_structure is offset cut fault
why_unlisted x _ _ (cause.no_family is p r cut justified) none = absurd (none is cut.is_cut cut.structured)

pub tells_unlisted : (x : Subject) (called : Name) (r : AnyRefused) (old new : Option (List ℕ)) → IsRefusal x r → CannotBeListed x.bytes
    → Appends old new (refused_text (refused_in called r.place.offset r.reason) ++ codes "\n") → TellsUnlisted called x.bytes old new
tells_unlisted x called r old new refusal none written = record {
  offset = r.place.offset;
  reason = r.reason;
  why = subst (λ k. IsUnlistedAt x.bytes k r.reason) (sym refusal.offset) (why_unlisted x refusal.at r.reason refusal.cause none);
  written = written;
}
