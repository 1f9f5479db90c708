-- Cells that are read many at a time.
use Rattle.std.proofs.Common.{◌≡◌, ℕ, suc, ◌+◌, ◌-◌, ◌<◌, ◌≤◌, true, false, eqb, List, [], ◌∷◌, ◌++◌, length, take, drop, Option, Some, None, is_some, Result, Ok, Err, inl, inr, refl, sym, ap, subst, ◌∙◌, arith, append_assoc, append-nil}
use Rattle.std.proofs.lemmas.Bool.{cases_lt}
use Rattle.std.proofs.lemmas.List.{length-append, length-drop, length-take, drop-drop, take-append-le, take-append-drop, take_all}
use Rattle.std.specs.Int.{w32, from_be_bytes, cast_signed}
use Rattle.std.proofs.Math.Seq.{take-add}
use Rattle.std.specs.Prelude.{IfErr}
use Rattle.std.specs.Io.KnownBytes.{Consumes, IsAtEnd, Keeps}
use Rattle.std.proofs.KnownBytes.{Consumes-kept, Consumes-nil, Consumes-trans}
use Rattle.tt_abs.specs.declared.cells.Cell.{Cell}
use Rattle.tt_abs.specs.declared.cells.Cell.TheVariants.{Known, Unknown}
use Rattle.tt_stream.specs.Reads.{ConsumesBeginning, ConsumesFewer}
use Rattle.tt_stream.proofs.Beginnings.{consumes_then}
use Rattle.tt_setting.specs.declared.cert_fault.CertFault.{CertFault}
use Rattle.tt_setting.specs.declared.cert_fault.CertFault.TheVariants as fault
use Rattle.tt_cert.specs.Answers.{Fails, IsReadFault, StopsAtEnd, input_at}
use Rattle.tt_cert.specs.Representation.Blocks.{AreCellsTaken, FillsOn, FillsRest, IsBegun, IsTakingCells, ReadsCells, ReadsFurther, ReadsMoreCells, ReadsRest, TakesCells, cells_at, input_begun, input_held, input_of}
use Rattle.tt_cert.specs.Readers.{Answer, Input, list_at, place_after}
use Rattle.tt_cert.specs.Reading.{cell_at}
use Rattle.tt_cert.proofs.Codecs.{here}
use Rattle.tt_cert.proofs.SteadyUnits.{cell_steady}
use Rattle.tt_cert.proofs.Stops.{Reached, reached_known, reached_part, reached_then, stops_there}
use Rattle.tt_cert.proofs.Blocks.{held_in, held_left, held_long, held_on, held_slice, none_left, suffix_fits, suffix_on, unit_short, unit_whole}

-- the number of a known cell
abbrev pub number_of : List ℕ → Cell
number_of bytes = Known (cast_signed w32 (from_be_bytes w32 bytes))

cell_unknown : (place : ℕ) (rest tail : List ℕ) → cell_at (input_of place (0 ∷ rest) tail) ≡ Ok (Unknown, input_of (place_after place 1) rest tail)
unfolding cell_at
cell_unknown place rest tail = rw (unit_whole 1 place (0 ∷ rest) tail (omega arith)) refl

pub cell_known : (place : ℕ) (rest tail : List ℕ) → 4 ≤ length rest
    → cell_at (input_of place (1 ∷ rest) tail) ≡ Ok (number_of (take 4 rest), input_of (place_after place 5) (drop 4 rest) tail)
unfolding cell_at
cell_known place rest tail le =
    let p : place_after (place_after place 1) 4 ≡ place_after place 5 = omega arith in
    rw (unit_whole 1 place (1 ∷ rest) tail (omega arith), unit_whole 4 (place_after place 1) rest tail le, p) refl

cell_broken : (place tag : ℕ) (rest tail : List ℕ) → eqb tag 0 ≡ false → eqb tag 1 ≡ false → cell_at (input_of place (tag ∷ rest) tail) ≡ Err place
unfolding cell_at
cell_broken place tag rest tail zero one = rw (unit_whole 1 place (tag ∷ rest) tail (omega arith), zero, one) refl

cell_none : (place : ℕ) → cell_at (input_of place [] []) ≡ Err (place_after place 0)
unfolding cell_at
cell_none place = refl

cell_begun : (place : ℕ) (number : List ℕ) → length number < 4 → cell_at (input_of place (1 ∷ number) []) ≡ Err (place_after place (1 + length number))
unfolding cell_at
cell_begun place number short =
    let p : place_after (place_after place 1) (length number) ≡ place_after place (1 + length number) = omega arith in
    rw (unit_whole 1 place (1 ∷ number) [] (omega arith), unit_short 4 (place_after place 1) number short, p) refl

-- one more cell
next_cell : (xs : List Cell) (n place after : ℕ) (bytes rest tail : List ℕ) (x : Cell) → cell_at (input_of place bytes tail) ≡ Ok (x, input_of after rest tail)
    → cells_at xs (suc n) (input_of place bytes tail) ≡ cells_at (xs ++ x ∷ []) n (input_of after rest tail)
unfolding list_at
next_cell xs n place after bytes rest tail x one = rw one refl

no_cell : (xs : List Cell) (n place broken : ℕ) (bytes tail : List ℕ) → cell_at (input_of place bytes tail) ≡ Err broken
    → cells_at xs (suc n) (input_of place bytes tail) ≡ Err broken
unfolding list_at
no_cell xs n place broken bytes tail one = rw one refl

cells_more : (old now next : List Cell) (place at after : ℕ) (bytes left rest : List ℕ) (x : Cell) (width : ℕ) → IsTakingCells old now place at bytes left
    → length left ≡ width + length rest → 0 < width → ((tail : List ℕ) → cell_at (input_of at left tail) ≡ Ok (x, input_of (place_after at width) rest tail))
    → next ≡ now ++ x ∷ [] → after ≡ place_after at width → length left ≤ length bytes → IsTakingCells old next place after bytes rest
cells_more old now next place at after bytes left rest x width taking long wide one pushed after_is le = record {
  taken = taking.taken + 1;
  grown = rw pushed (omega (arith, length-append now (x ∷ []), taking.grown));
  few = omega (arith, taking.few, long, wide);
  some = λ lt. omega arith;
  at_is = omega (arith, taking.at_is, after_is, long, le);
  reads = λ n tail.
      let count : (taking.taken + 1) + n ≡ taking.taken + suc n = omega arith in
      rw (count, pushed, after_is) (taking.reads (suc n) tail ∙ next_cell now n at (place_after at width) left rest tail x (one tail));
}

-- what is taken, and that the bytes that are left are the last ones
abbrev pub IsTakingOn : List Cell → List Cell → ℕ → ℕ → List ℕ → List ℕ → Type 0
IsTakingOn old now place at bytes left = IsTakingCells old now place at bytes left × (left ≡ drop (length bytes - length left) bytes)

pub cells_unknown : (old now next : List Cell) (place at after : ℕ) (bytes left rest : List ℕ) → IsTakingOn old now place at bytes left
    → left ≡ 0 ∷ rest → next ≡ now ++ Unknown ∷ [] → after ≡ place_after at 1 → IsTakingOn old next place after bytes rest
cells_unknown old now next place at after bytes left rest taking left_is pushed after_is =
    let long : length left ≡ 1 + length rest = omega (arith, ap length left_is) in
    let one : (tail : List ℕ) → cell_at (input_of at left tail) ≡ Ok (Unknown, input_of (place_after at 1) rest tail) =
    λ tail. subst (λ (l : List ℕ). cell_at (input_of at l tail) ≡ Ok (Unknown, input_of (place_after at 1) rest tail)) (sym left_is) (cell_unknown at rest tail) in (
      cells_more old now next place at after bytes left rest Unknown 1 taking.0 long (omega arith) one pushed after_is (suffix_fits bytes left taking.1),
      suffix_on bytes left rest 1 taking.1 (ap (drop 1) (sym left_is)) long,
    )

pub cells_known : (old now next : List Cell) (place at after : ℕ) (bytes left rest number over : List ℕ) (x : Cell) → IsTakingOn old now place at bytes left
    → left ≡ 1 ∷ rest → 4 ≤ length rest → number ≡ take 4 rest → over ≡ drop 4 rest → x ≡ number_of number → next ≡ now ++ x ∷ [] → after ≡ place_after at 5
    → IsTakingOn old next place after bytes over
cells_known old now next place at after bytes left rest number over x taking left_is four number_is over_is x_is pushed after_is =
    let long : length left ≡ 5 + length over = omega (arith, ap length left_is, ap length over_is, length-drop 4 rest) in
    let x_here : number_of (take 4 rest) ≡ x = sym (x_is ∙ ap number_of number_is) in
    let F : List ℕ → Cell → List ℕ → List ℕ → Type 0 = λ l y o tail. cell_at (input_of at l tail) ≡ Ok (y, input_of (place_after at 5) o tail) in
    let one : (tail : List ℕ) → F left x over tail =
    λ tail. subst (λ (l : List ℕ). F l x over tail) (sym left_is) (subst (λ (y : Cell). F (1 ∷ rest) y over tail) x_here
    (subst (λ (o : List ℕ). F (1 ∷ rest) (number_of (take 4 rest)) o tail) (sym over_is) (cell_known at rest tail four))) in (
      cells_more old now next place at after bytes left over x 5 taking.0 long (omega arith) one pushed after_is (suffix_fits bytes left taking.1),
      suffix_on bytes left over 5 taking.1 (over_is ∙ ap (drop 5) (sym left_is)) long,
    )

-- the next byte is no tag
pub cells_broken : (old now : List Cell) (place at tag : ℕ) (bytes left rest : List ℕ) → IsTakingCells old now place at bytes left → left ≡ tag ∷ rest
    → eqb tag 0 ≡ false → eqb tag 1 ≡ false → (n : ℕ) (tail : List ℕ) → length bytes ≤ n → cells_at old n (input_of place bytes tail) ≡ Err at
cells_broken old now place at tag bytes left rest taking left_is zero one n tail few =
    let m = n - (taking.taken + 1) in
    let long : length left ≡ suc (length rest) = ap length left_is in
    let count : n ≡ taking.taken + suc m = omega (arith, taking.few, long) in
    let here : cells_at now (suc m) (input_of at left tail) ≡ Err at = rw left_is (no_cell now m at at (tag ∷ rest) tail (cell_broken at tag rest tail zero one)) in
    rw count (taking.reads (suc m) tail ∙ here)

-- the next byte is no tag, and more cells are wanted
pub cells_broken_in : (old now : List Cell) (place at tag count : ℕ) (bytes left rest : List ℕ) → IsTakingCells old now place at bytes left → left ≡ tag ∷ rest
    → eqb tag 0 ≡ false → eqb tag 1 ≡ false → length now < count → (tail : List ℕ) → cells_at old (count - length old) (input_of place bytes tail) ≡ Err at
cells_broken_in old now place at tag count bytes left rest taking left_is zero one lt tail =
    let m = count - (length now + 1) in
    let all : count - length old ≡ taking.taken + suc m = omega (arith, taking.grown) in
    let here : cells_at now (suc m) (input_of at left tail) ≡ Err at = rw left_is (no_cell now m at at (tag ∷ rest) tail (cell_broken at tag rest tail zero one)) in
    rw all (taking.reads (suc m) tail ∙ here)

-- what is left begins a cell, or is nothing, and nothing follows
cells_cut : (now : List Cell) (m at : ℕ) (left : List ℕ) → (0 < length left → IsBegun left) → cells_at now (suc m) (input_of at left []) ≡ Err (place_after at (length left))
cells_cut now m at [] begun = no_cell now m at (place_after at 0) [] [] (cell_none at)
cells_cut now m at (x ∷ xs) begun =
    let b = begun (omega arith) in
    let p : place_after at (1 + length b.number) ≡ place_after at (length (1 ∷ b.number)) = omega arith in
    let here : cells_at now (suc m) (input_of at (1 ∷ b.number) []) ≡ Err (place_after at (length (1 ∷ b.number))) =
    no_cell now m at _ (1 ∷ b.number) [] (cell_begun at b.number b.short ∙ ap (λ (q : ℕ). Err q) p) in
    subst (λ (l : List ℕ). cells_at now (suc m) (input_of at l []) ≡ Err (place_after at (length l))) (sym b.left_is) here

-- a copy at the front of a buffer
pub copied_front : (begun copied zeros : List ℕ) → copied ≡ begun → take (length begun) (copied ++ drop (length begun) zeros) ≡ begun
copied_front begun copied zeros same =
    let front = take-append-le (length begun) begun (drop (length begun) zeros) (omega arith) ∙ take_all (length begun) begun (omega arith) in
    rw same front

pub copied_long : (begun copied zeros : List ℕ) → copied ≡ begun → length begun ≤ length zeros → length (copied ++ drop (length begun) zeros) ≡ length zeros
copied_long begun copied zeros same le = omega (arith, length-append copied (drop (length begun) zeros), length-drop (length begun) zeros, ap length same)

-- a known cell that was begun was read whole
pub rest_whole : (old new : Option (List ℕ)) (before now : List Cell) (place after held more : ℕ) (begun was number : List ℕ) (x : Cell)
    → FillsRest old new held more was number → length number ≡ 4 → take held was ≡ begun → 4 ≤ held + more → x ≡ number_of number
    → now ≡ before ++ x ∷ [] → after ≡ place_after place (1 + held + more) → ReadsRest (Ok after) old new begun before now place
rest_whole old new before now place after held more begun was number x fills long begun_is whole x_is pushed after_is =
    (rw pushed (length-append before (x ∷ [])), known old new fills.consumed)
  where
    parts : number ≡ begun ++ take more (drop held number)
    parts =
        let rest_long = length-drop held number in
        let all : take more (drop held number) ≡ drop held number = take_all more (drop held number) (omega (arith, rest_long, fills.few, long)) in
        let front : take held number ≡ begun = fills.held_is ∙ begun_is in
        sym (take-append-drop held number) ∙ ap (λ (l : List ℕ). l ++ drop held number) front ∙ ap (λ (l : List ℕ). begun ++ l) (sym all)

    known : (a b : Option (List ℕ)) → Consumes a b (take more (drop held number)) → is_some a ≡ true
        → (is_some b ≡ true) × ((n : ℕ) → cells_at before (1 + n) (input_begun place begun a) ≡ cells_at now n (input_at after b))
    known None b consumed e = absurd cc
    known (Some xs) None consumed e = absurd consumed
    known (Some xs) (Some ys) consumed e = (
      refl,
      λ n.
          let count : 1 + n ≡ suc n = omega arith in
          let bytes : begun ++ xs ≡ number ++ ys =
          ap (λ (l : List ℕ). begun ++ l) consumed ∙ sym (append_assoc begun (take more (drop held number)) ys) ∙ ap (λ (l : List ℕ). l ++ ys) (sym parts) in
          let four : take 4 number ≡ number = take_all 4 number (omega (arith, long)) in
          let none : drop 4 number ≡ [] = none_left (drop 4 number) (omega (arith, length-drop 4 number, long)) in
          let after_here : after ≡ place_after place 5 = omega (arith, after_is, whole, fills.few, long) in
          rw (bytes, count, pushed, x_is, after_here) (next_cell before n place (place_after place 5) (1 ∷ number) [] ys (number_of number)
          (cell_known place number ys (omega (arith, long)) ∙ rw (four, none) refl)),
    )

-- a known cell that was begun is cut short
pub rest_cut : (old new : Option (List ℕ)) (before now : List Cell) (place after held more : ℕ) (begun was number : List ℕ)
    → FillsRest old new held more was number → length number ≡ 4 → take held was ≡ begun → length begun ≡ held → held + more < 4
    → after ≡ place_after place (1 + held + more) → ReadsRest (Err (fault.Form after)) old new begun before now place
rest_cut None new before now place after held more begun was number fills long begun_is begun_long few after_is known n = absurd cc
rest_cut (Some xs) None before now place after held more begun was number fills long begun_is begun_long few after_is known n = absurd fills.consumed
rest_cut (Some xs) (Some ys) before now place after held more begun was number fills long begun_is begun_long few after_is known n =
    let end : ys ≡ [] = fills.at_end (omega (arith, long)) in
    let part = take more (drop held number) in
    let part_long : length part ≡ more = omega (arith, length-take more (drop held number), length-drop held number, fills.few) in
    let bytes : begun ++ xs ≡ (begun ++ part) ++ [] =
    ap (λ (l : List ℕ). begun ++ l) (fills.consumed ∙ ap (λ (l : List ℕ). part ++ l) end) ∙ sym (append_assoc begun part []) in
    let count : 1 + n ≡ suc n = omega arith in
    let all : length (begun ++ part) ≡ held + more = omega (arith, length-append begun part, part_long, begun_long) in
    let after_here : after ≡ place_after place (1 + length (begun ++ part)) = omega (arith, after_is, all) in
    rw (bytes, count, after_here) (no_cell before n place _ (1 ∷ (begun ++ part)) [] (cell_begun place (begun ++ part) (omega (arith, all))))

-- what the filling of a block keeps: this many bytes are filled, of which this many are taken, as cells
pub record IsCellBlock (old now : Option (List ℕ)) (before xs : List Cell) (place count wanted filled taken : ℕ) (buf : List ℕ) (failures failures_now : ℕ) : Type 0 where
  pub few : length xs ≤ length before + taken
  pub least : length before ≤ length xs
  pub some : 0 < taken → length before < length xs
  pub order : taken ≤ filled
  pub within : filled ≤ wanted
  pub begun : taken < filled → IsBegun (held_in taken filled buf)
  pub long : length buf ≡ 64
  pub consumed : Consumes old now (take filled buf)
  pub reads : (n : ℕ) (rest : List ℕ) → cells_at before ((length xs - length before) + n) (here place (take filled buf ++ rest))
      ≡ cells_at xs n (input_of (place_after place taken) (held_in taken filled buf) rest)
  pub beginning : ConsumesBeginning old now
  pub failures_are : failures_now ≡ failures

-- all that is wanted of a block fits the cells that are left
abbrev pub IsWanted : List Cell → ℕ → ℕ → Type 0
IsWanted before count wanted = (0 < wanted) × (wanted ≤ count - length before) × (wanted ≤ 64)

-- the same of a source that tells its bytes
block_known : (old now : Option (List ℕ)) (before xs : List Cell) (place count wanted filled taken : ℕ) (buf : List ℕ) (f g : ℕ)
    → IsCellBlock old now before xs place count wanted filled taken buf f g → is_some old ≡ true → (is_some now ≡ true) × ((n : ℕ)
    → cells_at before ((length xs - length before) + n) (input_at place old) ≡ cells_at xs n (input_held (place_after place taken) (held_in taken filled buf) now))
block_known None now before xs place count wanted filled taken buf f g inv known = absurd cc
block_known (Some a) None before xs place count wanted filled taken buf f g inv known = absurd inv.consumed
block_known (Some a) (Some b) before xs place count wanted filled taken buf f g inv known =
    (refl, λ n. ap (λ (l : List ℕ). cells_at before ((length xs - length before) + n) (here place l)) inv.consumed ∙ inv.reads n b)

-- the same of as many cells as there are in all
block_so_far : (old now : Option (List ℕ)) (before xs : List Cell) (place count wanted filled taken : ℕ) (buf : List ℕ) (f g : ℕ)
    → IsCellBlock old now before xs place count wanted filled taken buf f g → IsWanted before count wanted → is_some old ≡ true → (is_some now ≡ true)
    × (cells_at before (count - length before) (input_at place old) ≡ cells_at xs (count - length xs) (input_held (place_after place taken) (held_in taken filled buf) now))
block_so_far old now before xs place count wanted filled taken buf f g inv fit known =
    let was = block_known old now before xs place count wanted filled taken buf f g inv known in
    let all : count - length before ≡ (length xs - length before) + (count - length xs) = omega (arith, inv.few, inv.least, inv.order, inv.within, fit.0, fit.1) in
    (was.0, ap (λ (k : ℕ). cells_at before k (input_at place old)) all ∙ was.1 (count - length xs))

pub block_on : (old now next : Option (List ℕ)) (before xs ys : List Cell) (place count wanted filled taken more over after : ℕ) (was buf : List ℕ) (f g h : ℕ)
    → IsCellBlock old now before xs place count wanted filled taken was f g → IsWanted before count wanted → FillsOn now next filled wanted more was buf
    → AreCellsTaken over xs ys (place_after place taken) (held_in taken (filled + more) buf) → ConsumesBeginning now next → h ≡ g → after ≡ (filled + more) - over
    → IsCellBlock old next before ys place count wanted (filled + more) after buf f h
block_on old now next before xs ys place count wanted filled taken more over after was buf f g h inv fit fills took some same after_is = record {
  few = omega (arith, t.grown, t.few, long, took.over_is, inv.few, inv.order, after_is);
  least = omega (arith, inv.least, t.grown);
  some = λ lt. elim (cases_lt (length took.left) (length slice)) [
    | inl less ↦ omega (arith, t.some less, t.grown, inv.least)
    | inr all ↦ omega (arith, inv.some (omega (arith, all, long, took.over_is, after_is, lt, inv.order)), t.grown)
  ];
  order = omega (arith, after_is);
  within = fills.few;
  begun = λ lt. subst IsBegun left_is (took.begun (omega (arith, lt, after_is)));
  long = fills.long ∙ inv.long;
  consumed = subst (Consumes old next) (sym filled_is) (Consumes-trans old now next (take filled was) chunk inv.consumed fills.consumed);
  reads = reads;
  beginning = consumes_then _ _ _ inv.beginning some;
  failures_are = same ∙ inv.failures_are;
}
  where
    slice : List ℕ
    slice = held_in taken (filled + more) buf

    t : IsTakingCells xs ys (place_after place taken) took.at slice took.left
    t = took.taking

    room : filled + more ≤ length buf
    room = omega (arith, fills.few, fills.room)

    long : length slice ≡ (filled + more) - taken
    long = held_long taken (filled + more) buf room

    left_is : took.left ≡ held_in after (filled + more) buf
    left_is = held_left taken (filled + more) over after buf took.left room (omega (arith, inv.order)) (omega (arith, t.few, long, took.over_is)) after_is took.suffix

    at_is : took.at ≡ place_after place after
    at_is = omega (arith, t.at_is, t.few, long, took.over_is, inv.order, after_is)

    chunk : List ℕ
    chunk = take more (drop filled buf)

    filled_is : take (filled + more) buf ≡ take filled was ++ chunk
    filled_is = take-add filled more buf ∙ ap (λ (l : List ℕ). l ++ chunk) fills.held_is

    reads : (n : ℕ) (rest : List ℕ) → cells_at before ((length ys - length before) + n) (here place (take (filled + more) buf ++ rest))
        ≡ cells_at ys n (input_of (place_after place after) (held_in after (filled + more) buf) rest)
    reads n rest =
        let front : take (filled + more) buf ++ rest ≡ take filled was ++ (chunk ++ rest) = ap (λ (l : List ℕ). l ++ rest) filled_is ∙ append_assoc (take filled was) chunk rest in
        let bytes : held_in taken filled was ++ (chunk ++ rest) ≡ slice ++ rest =
        sym (append_assoc (held_in taken filled was) chunk rest) ∙ ap (λ (l : List ℕ). l ++ rest) (sym (held_on now next taken filled wanted more was buf fills inv.order)) in
        let count_is : (length ys - length before) + n ≡ (length xs - length before) + (t.taken + n) = omega (arith, t.grown, inv.least) in
        let there : cells_at ys n (input_of took.at took.left rest) ≡ cells_at ys n (input_of (place_after place after) (held_in after (filled + more) buf) rest) =
        ap (λ (p : ℕ). cells_at ys n (input_of p took.left rest)) at_is ∙ ap (λ (l : List ℕ). cells_at ys n (input_of (place_after place after) l rest)) left_is in
        ap (λ (l : List ℕ). cells_at before ((length ys - length before) + n) (here place l)) front
        ∙ ap (λ (k : ℕ). cells_at before k (here place (take filled was ++ (chunk ++ rest)))) count_is ∙ inv.reads (t.taken + n) (chunk ++ rest) ∙ rw bytes (t.reads n rest) ∙ there

-- the input ends within the block
pub block_end : (old now next : Option (List ℕ)) (before xs : List Cell) (place count wanted filled taken more after : ℕ) (was buf : List ℕ) (f g : ℕ)
    → IsCellBlock old now before xs place count wanted filled taken was f g → IsWanted before count wanted → FillsOn now next filled wanted more was buf → more ≡ 0
    → filled < wanted → after ≡ place_after place (filled + more) → ReadsCells (Err (fault.Form after)) old next before xs place count
block_end old now next before xs place count wanted filled taken more after was buf f g inv fit fills none short after_is e =
    let so_far = block_so_far old now before xs place count wanted filled taken was f g inv fit e in
    so_far.1 ∙ ends now next fills.consumed (fills.at_end none) so_far.0
  where
    held : List ℕ
    held = held_in taken filled was

    long : length held ≡ filled - taken
    long = held_long taken filled was (omega (arith, inv.long, inv.within, fit.2))

    ends : (b c : Option (List ℕ)) → Consumes b c (take more (drop filled buf)) → IsAtEnd c → is_some b ≡ true
        → cells_at xs (count - length xs) (input_held (place_after place taken) held b) ≡ Err after
    ends None c consumed end known = absurd cc
    ends (Some nb) None consumed end known = absurd consumed
    ends (Some nb) (Some yb) consumed end known =
        let m = count - (length xs + 1) in
        let count_is : count - length xs ≡ suc m = omega (arith, inv.few, inv.order, short, fit.0, fit.1) in
        let empty : take more (drop filled buf) ≡ [] = none_left (take more (drop filled buf)) (omega (arith, length-take more (drop filled buf), none)) in
        let nothing : nb ≡ [] = consumed ∙ ap (λ (l : List ℕ). l ++ yb) empty ∙ end in
        let there : place_after (place_after place taken) (length held) ≡ after = omega (arith, long, inv.order, none, after_is) in
        rw (count_is, nothing) (cells_cut xs m (place_after place taken) held (λ lt. inv.begun (omega (arith, long, lt))) ∙ ap (λ (p : ℕ). Err p) there)

-- a cell of the block is refused
pub block_refused : (e : CertFault) (old now next : Option (List ℕ)) (before xs ys : List Cell) (place count wanted filled taken more : ℕ) (was buf : List ℕ) (f g : ℕ)
    → IsCellBlock old now before xs place count wanted filled taken was f g → IsWanted before count wanted → FillsOn now next filled wanted more was buf
    → TakesCells (Err e) xs ys (place_after place taken) (held_in taken (filled + more) buf) → ReadsCells (Err e) old next before ys place count
block_refused fault.Read old now next before xs ys place count wanted filled taken more was buf f g inv fit fills breaks = absurd breaks
block_refused fault.Write old now next before xs ys place count wanted filled taken more was buf f g inv fit fills breaks = absurd breaks
block_refused (fault.OutOfMemory error) old now next before xs ys place count wanted filled taken more was buf f g inv fit fills breaks = λ known. tt
block_refused (fault.Form broken) old now next before xs ys place count wanted filled taken more was buf f g inv fit fills breaks =
    λ e.
    let so_far = block_so_far old now before xs place count wanted filled taken was f g inv fit e in
    so_far.1 ∙ refused now next fills.consumed so_far.0
  where
    slice : List ℕ
    slice = held_in taken (filled + more) buf

    long : length slice ≡ (filled + more) - taken
    long = held_long taken (filled + more) buf (omega (arith, fills.few, fills.room))

    refused : (b c : Option (List ℕ)) → Consumes b c (take more (drop filled buf)) → is_some b ≡ true
        → cells_at xs (count - length xs) (input_held (place_after place taken) (held_in taken filled was) b) ≡ Err broken
    refused None c consumed known = absurd cc
    refused (Some nb) None consumed known = absurd consumed
    refused (Some nb) (Some yb) consumed known =
        let bytes : held_in taken filled was ++ nb ≡ slice ++ yb =
        ap (λ (l : List ℕ). held_in taken filled was ++ l) consumed ∙ sym (append_assoc (held_in taken filled was) (take more (drop filled buf)) yb)
        ∙ ap (λ (l : List ℕ). l ++ yb) (sym (held_on now next taken filled wanted more was buf fills inv.order)) in
        rw bytes (breaks (count - length xs) yb (omega (arith, long, inv.few, inv.order, fills.few, fit.0, fit.1)))

-- of a cell that was begun fewer than four bytes of its number are held
pub rest_short : (old now : Option (List ℕ)) (before xs : List Cell) (place count wanted filled taken : ℕ) (buf : List ℕ) (f g : ℕ)
    → IsCellBlock old now before xs place count wanted filled taken buf f g → wanted ≤ 64 → taken < filled
    → length (take (filled - (taken + 1)) (drop (taken + 1) buf)) ≤ 4
rest_short old now before xs place count wanted filled taken buf f g inv few some =
    let b = inv.begun some in
    omega (arith, ap length b.left_is, b.short, held_long taken filled buf (omega (arith, inv.long, inv.within)), length-take (filled - (taken + 1)) (drop (taken + 1) buf))

-- the bytes that are held are a known cell's tag and those of its number
held_begun : (taken filled : ℕ) (buf number : List ℕ) → IsBegun (held_in taken filled buf) → taken < filled → number ≡ take (filled - (taken + 1)) (drop (taken + 1) buf)
    → held_in taken filled buf ≡ 1 ∷ number
held_begun taken filled buf number b some number_is =
    let begun_is : b.number ≡ number =
    ap (drop 1) (sym b.left_is) ∙ drop-drop 1 taken (take filled buf) ∙ sym (held_slice (taken + 1) filled buf (omega (arith, some))) ∙ sym number_is in
    b.left_is ∙ ap (λ (l : List ℕ). 1 ∷ l) begun_is

-- a block, and what reading the rest of its last cell comes to
pub block_rest : (r : Result ℕ CertFault) (old now next : Option (List ℕ)) (before xs ys : List Cell) (place count wanted filled taken at : ℕ) (buf number : List ℕ) (f g : ℕ)
    → IsCellBlock old now before xs place count wanted filled taken buf f g → IsWanted before count wanted → taken < filled → at ≡ place_after place taken
    → number ≡ take (filled - (taken + 1)) (drop (taken + 1) buf) → ReadsRest r now next number xs ys at → ReadsCells r old next before ys place count
block_rest r old now next before xs ys place count wanted filled taken at buf number f g inv fit some at_is number_is rest = from r rest
  where
    held_is : held_in taken filled buf ≡ 1 ∷ number
    held_is = held_begun taken filled buf number (inv.begun some) some number_is

    so_far : is_some old ≡ true → (is_some now ≡ true) × ((n : ℕ) → cells_at before ((length xs - length before) + n) (input_at place old)
        ≡ cells_at xs n (input_begun at number now))
    so_far e =
        let was = block_known old now before xs place count wanted filled taken buf f g inv e in
        (was.0, λ n. was.1 n ∙ rw (held_is, at_is) refl)

    from : (r : Result ℕ CertFault) → ReadsRest r now next number xs ys at → ReadsCells r old next before ys place count
    from (Ok after) rest = (
      omega (arith, rest.0, inv.least),
      omega (arith, rest.0, inv.few, some, inv.within, fit.0, fit.1),
      λ e.
          let was = so_far e in
          let is = rest.1 was.0 in (
            is.0,
            λ n.
                let count_is : (length ys - length before) + n ≡ (length xs - length before) + (1 + n) = omega (arith, rest.0, inv.least) in
                ap (λ (k : ℕ). cells_at before k (input_at place old)) count_is ∙ was.1 (1 + n) ∙ is.1 n,
          ),
    )
    from (Err e) rest = λ known.
        let was = so_far known in
        let m = count - (length xs + 1) in
        let count_is : count - length before ≡ (length xs - length before) + (1 + m) = omega (arith, inv.few, inv.least, some, inv.within, fit.0, fit.1) in
        let here : cells_at before (count - length before) (input_at place old) ≡ cells_at xs (1 + m) (input_begun at number now) =
        ap (λ (k : ℕ). cells_at before k (input_at place old)) count_is ∙ was.1 (1 + m) in
        subst (λ (x : Answer (List Cell)). Fails e x) (sym here) (rest was.0 m)

-- a read failed within the block, when these bytes of one more cell were held
block_cut : (old now next : Option (List ℕ)) (before xs : List Cell) (place count wanted filled taken : ℕ) (buf over : List ℕ) (f g : ℕ)
    → IsCellBlock old now before xs place count wanted filled taken buf f g → IsWanted before count wanted → length xs < count → Consumes now next over
    → (0 < length (held_in taken filled buf ++ over) → IsBegun (held_in taken filled buf ++ over)) → StopsAtEnd place old next (cells_at before (count - length before)) fault.Read
block_cut old now next before xs place count wanted filled taken buf over f g inv fit lt consumed begun = λ known.
    let n = count - length xs in
    let m = count - (length xs + 1) in
    let front = take filled buf ++ over in
    let held = held_in taken filled buf ++ over in
    let p = place_after place taken in
    let all : count - length before ≡ (length xs - length before) + n = omega (arith, inv.least, lt) in
    let n_is : n ≡ suc m = omega (arith, lt) in
    let long = held_long taken filled buf (omega (arith, inv.within, inv.long, fit.2)) in
    let there : place_after p (length held) ≡ place_after place (length front) =
    omega (arith, long, length-append (held_in taken filled buf) over, length-append (take filled buf) over, length-take filled buf, inv.order, inv.within, inv.long, fit.2) in
    let cut : cells_at xs n (here p held) ≡ Err (place_after p (length held)) =
    ap (λ (k : ℕ). cells_at xs k (here p held)) n_is ∙ ap (λ (l : List ℕ). cells_at xs (suc m) (here p l)) (sym (append-nil held)) ∙ cells_cut xs m p held begun in
    record {
      front = front;
      consumed = Consumes-trans old now next (take filled buf) over inv.consumed consumed;
      refused = ap (λ (k : ℕ). cells_at before k (here place front)) all ∙ inv.reads n over ∙ cut ∙ ap (λ (q : ℕ). Err q) there;
    }

-- a read of more of the block failed
pub block_stops : (old now next : Option (List ℕ)) (before xs : List Cell) (place count wanted filled taken : ℕ) (buf : List ℕ) (f g : ℕ)
    → IsCellBlock old now before xs place count wanted filled taken buf f g → IsWanted before count wanted → filled < wanted → Keeps now next
    → StopsAtEnd place old next (cells_at before (count - length before)) fault.Read
block_stops old now next before xs place count wanted filled taken buf f g inv fit short kept =
    let held = held_in taken filled buf in
    let long = held_long taken filled buf (omega (arith, inv.within, inv.long, fit.2)) in
    block_cut old now next before xs place count wanted filled taken buf [] f g inv fit (omega (arith, inv.few, inv.order, short, fit.0, fit.1)) (Consumes-kept now now next [] (Consumes-nil now) kept)
    (rw (append-nil held) (λ some. inv.begun (omega (arith, long, some))))

-- a read of the rest of a cell failed
pub rest_stops : (e : CertFault) (old now next : Option (List ℕ)) (before xs : List Cell) (place count wanted filled taken : ℕ) (buf number : List ℕ) (f g : ℕ)
    → IsCellBlock old now before xs place count wanted filled taken buf f g → IsWanted before count wanted → taken < filled
    → number ≡ take (filled - (taken + 1)) (drop (taken + 1) buf) → (IsReadFault e → ConsumesFewer (4 - length number) now next)
    → StopsAtEnd place old next (cells_at before (count - length before)) e
rest_stops (fault.Form p) old now next before xs place count wanted filled taken buf number f g inv fit some number_is fewer = tt
rest_stops (fault.OutOfMemory error) old now next before xs place count wanted filled taken buf number f g inv fit some number_is fewer = tt
rest_stops fault.Write old now next before xs place count wanted filled taken buf number f g inv fit some number_is fewer = tt
rest_stops fault.Read old now next before xs place count wanted filled taken buf number f g inv fit some number_is fewer =
    let part = fewer tt in
    let held_is = held_begun taken filled buf number (inv.begun some) some number_is in
    block_cut old now next before xs place count wanted filled taken buf part.bytes f g inv fit (omega (arith, inv.few, some, inv.within, fit.0, fit.1)) part.consumed
    (λ more. record {
      number = number ++ part.bytes;
      left_is = ap (λ (l : List ℕ). l ++ part.bytes) held_is;
      short = omega (arith, part.few, length-append number part.bytes);
    })

-- the same of what reading the rest of a cell returns
pub rest_stopped : (r : Result ℕ CertFault) (old now next : Option (List ℕ)) (before xs : List Cell) (place count wanted filled taken : ℕ) (buf number : List ℕ) (f g : ℕ)
    → IsCellBlock old now before xs place count wanted filled taken buf f g → IsWanted before count wanted → taken < filled
    → number ≡ take (filled - (taken + 1)) (drop (taken + 1) buf) → IfErr r (λ e. IsReadFault e → ConsumesFewer (4 - length number) now next)
    → IfErr r (StopsAtEnd place old next (cells_at before (count - length before)))
rest_stopped (Ok after) old now next before xs place count wanted filled taken buf number f g inv fit some number_is fewer = tt
rest_stopped (Err e) old now next before xs place count wanted filled taken buf number f g inv fit some number_is fewer =
    rest_stops e old now next before xs place count wanted filled taken buf number f g inv fit some number_is fewer

-- no read fails where cells are taken
pub cells_stops : {Y : Type 0} (e : CertFault) (xs ys : List Cell) (at : ℕ) (bytes : List ℕ) (place : ℕ) (old new : Option (List ℕ)) (read : Input → Answer Y) → TakesCells (Err e) xs ys at bytes
    → StopsAtEnd place old new read e
cells_stops fault.Read xs ys at bytes place old new read takes = absurd takes
cells_stops fault.Write xs ys at bytes place old new read takes = absurd takes
cells_stops (fault.Form p) xs ys at bytes place old new read takes = tt
cells_stops (fault.OutOfMemory error) xs ys at bytes place old new read takes = tt

-- what a loop over blocks keeps
pub record IsReadingCells (old now : Option (List ℕ)) (start : ℕ) (xs : List Cell) (count place failures failures_now : ℕ) : Type 0 where
  pub reached : is_some old ≡ true → Reached start place old now (cells_at [] count) (cells_at xs (count - length xs))
  pub few : length xs ≤ count
  pub beginning : ConsumesBeginning old now
  pub failures_are : failures_now ≡ failures

pub none_of : (xs : List Cell) (i : Input) → cells_at xs 0 i ≡ Ok (xs, i)
unfolding list_at
none_of xs i = refl

-- what is left of a list after more of its cells
pub further_reached : (xs ys : List Cell) (count place after : ℕ) (old now : Option (List ℕ)) → length xs ≤ length ys → length ys ≤ count → ReadsFurther after old now xs ys place
    → is_some old ≡ true → Reached place after old now (cells_at xs (count - length xs)) (cells_at ys (count - length ys))
further_reached xs ys count place after old now least few further known =
    let is = further known in
    let more = length ys - length xs in
    let whole : cells_at xs more (input_at place old) ≡ Ok (ys, input_at after now) =
    ap (λ (n : ℕ). cells_at xs n (input_at place old)) {y = more + 0} (omega arith) ∙ is.1 0 ∙ none_of ys (input_at after now) in
    let left_is : (count - length xs) - more ≡ count - length ys = omega (arith, least, few) in
    subst (λ (n : ℕ). Reached place after old now (cells_at xs (count - length xs)) (cells_at ys n)) left_is
    (reached_part (λ _. cell_at) xs ys (count - length xs) more place after old now (λ _. cell_steady) (omega (arith, least, few)) known (is.0, whole))

-- a read failed after more of the cells
pub more_stops : (r : Result ℕ CertFault) (old mid new : Option (List ℕ)) (before now : List Cell) (place at count : ℕ) → ReadsMoreCells (Ok at) old mid before now place count
    → IfErr r (StopsAtEnd at mid new (cells_at now (count - length now))) → IfErr r (StopsAtEnd place old new (cells_at before (count - length before)))
more_stops (Ok after) old mid new before now place at count more stops = tt
more_stops (Err e) old mid new before now place at count more stops =
    stops_there place at old mid new (cells_at before (count - length before)) (cells_at now (count - length now)) e
    (λ known. further_reached before now count place at old mid more.0 more.1 more.2 known) stops

-- the first cells are read before the loop
pub cells_begun : (old now : Option (List ℕ)) (start : ℕ) (xs : List Cell) (count place f g : ℕ) → ReadsMoreCells (Ok place) old now [] xs start count → ConsumesBeginning old now → g ≡ f
    → IsReadingCells old now start xs count place f g
cells_begun old now start xs count place f g reads some same = record {
  reached = λ known.
      let all : count - 0 ≡ count = omega arith in
      subst (λ (n : ℕ). Reached start place old now (cells_at [] n) (cells_at xs (count - length xs))) all
      (further_reached [] xs count start place old now reads.0 reads.1 reads.2 known);
  few = reads.1;
  beginning = some;
  failures_are = same;
}

pub cells_on : (old now next : Option (List ℕ)) (start : ℕ) (xs ys : List Cell) (count place after f g h : ℕ)
    → IsReadingCells old now start xs count place f g → ReadsCells (Ok after) now next xs ys place count
    → ConsumesBeginning now next → h ≡ g → IsReadingCells old next start ys count after f h
cells_on old now next start xs ys count place after f g h inv reads some same = record {
  reached = λ known.
      let r = inv.reached known in
      reached_then start place after old now next (cells_at [] count) (cells_at xs (count - length xs)) (cells_at ys (count - length ys)) r
      (further_reached xs ys count place after now next (omega (arith, reads.0)) reads.1 reads.2 r.told);
  few = reads.1;
  beginning = consumes_then _ _ _ inv.beginning some;
  failures_are = same ∙ inv.failures_are;
}

pub cells_fail : (e : CertFault) (old now next : Option (List ℕ)) (start : ℕ) (xs ys : List Cell) (count place f g : ℕ)
    → IsReadingCells old now start xs count place f g → ReadsCells (Err e) now next xs ys place count → is_some old ≡ true → Fails e (cells_at [] count (input_at start old))
cells_fail e old now next start xs ys count place f g inv reads known =
    let r = inv.reached known in
    subst (λ (x : Answer (List Cell)). Fails e x) (sym (reached_known start place old now (cells_at [] count) (cells_at xs (count - length xs)) r known)) (reads r.told)

-- a read failed in the next block
pub cells_stop : (e : CertFault) (old now next : Option (List ℕ)) (start : ℕ) (xs : List Cell) (count place f g : ℕ)
    → IsReadingCells old now start xs count place f g → StopsAtEnd place now next (cells_at xs (count - length xs)) e → StopsAtEnd start old next (cells_at [] count) e
cells_stop e old now next start xs count place f g inv stops =
    stops_there start place old now next (cells_at [] count) (cells_at xs (count - length xs)) e inv.reached stops

pub cells_all : (old now : Option (List ℕ)) (start : ℕ) (xs : List Cell) (count place f g : ℕ)
    → IsReadingCells old now start xs count place f g → count ≤ length xs → is_some old ≡ true
    → (is_some now ≡ true) × (cells_at [] count (input_at start old) ≡ Ok (xs, input_at place now))
cells_all old now start xs count place f g inv le known =
    let r = inv.reached known in
    let none : count - length xs ≡ 0 = omega arith in (
      r.told,
      reached_known start place old now (cells_at [] count) (cells_at xs (count - length xs)) r known
          ∙ ap (λ (n : ℕ). cells_at xs n (input_at place now)) none ∙ none_of xs (input_at place now),
    )
