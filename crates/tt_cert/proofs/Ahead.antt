-- Functions and cells that are read from bytes that are read ahead.
use Rattle.std.proofs.Common.{◌≡◌, ℕ, suc, ◌+◌, ◌-◌, ◌*◌, ◌^◌, ◌<◌, ◌≤◌, true, List, [], ◌∷◌, ◌++◌, length, take, drop, Option, Some, None, is_some, Result, Ok, Err, refl, sym, ap, subst, ◌∙◌, arith, append_assoc, take-append-drop}
use Rattle.std.specs.Prelude.{IfSome}
use Rattle.std.specs.Io.{StartsWith}
use Rattle.std.specs.Io.KnownBytes.{Consumes}
use Rattle.std.proofs.lemmas.List.{drop-append-le, drop_at, length-append, length-take}
use Rattle.tt_abs.specs.declared.cells.Cell.{Cell}
use Rattle.tt_setting.specs.declared.cert_fault.CertFault.{CertFault}
use Rattle.tt_setting.specs.declared.cert_fault.CertFault.TheVariants as fault
use Rattle.tt_cert.specs.Answers.{Fails, Gives, input_at}
use Rattle.tt_cert.specs.Representation.Blocks.{AreSomeCellsTaken, AreSpelled, AreTaken, IsTaking, ReadsBlock, ReadsCells, ReadsMoreCells, Takes, TakesSomeCells, cells_at, input_of}
use Rattle.tt_cert.specs.Readers.{Answer, list_at, place_after}
use Rattle.tt_cert.specs.Reading.{cell_at, function_at}
use Rattle.tt_cert.proofs.Blocks.{none_left}
use Rattle.tt_cert.proofs.Codecs.{here}

-- the bytes of which this many are taken, and those after them
ahead_parts : (bytes ahead : List ℕ) (n : ℕ) → StartsWith bytes ahead → bytes ≡ take n ahead ++ (drop n ahead ++ drop (length ahead) bytes)
ahead_parts bytes ahead n starts =
    let tail = drop (length ahead) bytes in
    sym (take-append-drop (length ahead) bytes) ∙ ap (λ (l : List ℕ). l ++ tail) (starts ∙ sym (take-append-drop n ahead)) ∙ append_assoc (take n ahead) (drop n ahead) tail

-- a function that is read ahead is refused
pub ahead_refused : (e : CertFault) (known : Option (List ℕ)) (ahead : List ℕ) (before now : List (ℕ × ℕ)) (place count : ℕ)
    → IfSome known (λ bytes. StartsWith bytes ahead) → Takes (Err e) before now place (take (6 * count) ahead) → ReadsBlock (Err e) known known before now place count
ahead_refused fault.Read known ahead before now place count starts breaks = absurd breaks
ahead_refused fault.Write known ahead before now place count starts breaks = absurd breaks
ahead_refused (fault.OutOfMemory error) known ahead before now place count starts breaks = λ e n. tt
ahead_refused (fault.Form broken) None ahead before now place count starts breaks = λ e n. absurd cc
ahead_refused (fault.Form broken) (Some bytes) ahead before now place count starts breaks = λ e n.
    let width = 6 * count in
    let few : length (take width ahead) ≤ 6 * (count + n) = omega (arith, length-take width ahead) in
    subst (λ (l : List ℕ). list_at function_at before (count + n) (here place l) ≡ Err broken) (sym (ahead_parts bytes ahead width starts))
    (breaks (count + n) (drop width ahead ++ drop (length ahead) bytes) few)

-- this many functions that are read ahead are taken
pub ahead_taken : (old new : Option (List ℕ)) (ahead : List ℕ) (before now : List (ℕ × ℕ)) (place after count over : ℕ) → 6 * count ≤ length ahead
    → AreTaken over before now place (take (6 * count) ahead) → Consumes old new (take (6 * count) ahead) → after ≡ place_after place (6 * count)
    → ReadsBlock (Ok after) old new before now place count
ahead_taken None new ahead before now place after count over le took consumed after_is = λ e. absurd cc
ahead_taken (Some xs) None ahead before now place after count over le took consumed after_is = absurd consumed
ahead_taken (Some xs) (Some ys) ahead before now place after count over le took consumed after_is = λ e. (
  refl,
  λ n.
      let t = took.taking in
      let bytes = take (6 * count) ahead in
      let long : length bytes ≡ 6 * count = omega (arith, length-take (6 * count) ahead) in
      let all : t.taken ≡ count = omega (arith, t.long, took.over_is, took.short, long) in
      let none : took.left ≡ [] = none_left took.left (omega (arith, t.long, all, long)) in
      let at_is : took.at ≡ after = omega (arith, t.at_is, all, after_is) in
      let read : list_at function_at before (count + n) (input_of place bytes ys) ≡ list_at function_at now n (input_of took.at took.left ys) =
      subst (λ (k : ℕ). list_at function_at before (k + n) (input_of place bytes ys) ≡ list_at function_at now n (input_of took.at took.left ys)) all (t.reads n ys) in
      ap (λ (l : List ℕ). list_at function_at before (count + n) (here place l)) consumed ∙ read
      ∙ ap (λ (p : ℕ). list_at function_at now n (input_of p took.left ys)) at_is ∙ ap (λ (l : List ℕ). list_at function_at now n (input_of after l ys)) none,
)

-- one more cell is read
pub one_cell : (old new : Option (List ℕ)) (before now : List Cell) (place after count : ℕ) (x : Cell) → length before < count
    → Gives (λ y. y) old new (Ok (x, after)) (cell_at (input_at place old)) → now ≡ before ++ x ∷ [] → ReadsCells (Ok after) old new before now place count
unfolding list_at
one_cell old new before now place after count x lt gives pushed =
    let long : length now ≡ length before + 1 = omega (arith, ap length pushed, length-append before (x ∷ [])) in (
      omega (arith, long),
      omega (arith, long),
      λ e.
          let was = gives e in (
            was.0,
            λ n.
                let count_is : (length now - length before) + n ≡ suc n = omega (arith, long) in
                let step : cells_at before (suc n) (input_at place old) ≡ cells_at (before ++ x ∷ []) n (input_at after new) = rw was.1 refl in
                ap (λ (k : ℕ). cells_at before k (input_at place old)) count_is ∙ step ∙ ap (λ (l : List Cell). cells_at l n (input_at after new)) (sym pushed),
          ),
    )

-- the next cell isn't read
pub cell_fails : (e : CertFault) (old new : Option (List ℕ)) (before now : List Cell) (place count : ℕ) → length before < count
    → (is_some old ≡ true → Fails e (cell_at (input_at place old))) → ReadsCells (Err e) old new before now place count
unfolding list_at
cell_fails fault.Read old new before now place count lt fails = λ e. tt
cell_fails fault.Write old new before now place count lt fails = fails
cell_fails (fault.OutOfMemory error) old new before now place count lt fails = λ e. tt
cell_fails (fault.Form p) old new before now place count lt fails = λ e.
    let left : count - length before ≡ suc (count - (length before + 1)) = omega arith in
    rw (left, fails e) refl

-- the bytes that are read ahead, and those after them
ahead_first : (bytes ahead : List ℕ) → StartsWith bytes ahead → bytes ≡ ahead ++ drop (length ahead) bytes
ahead_first bytes ahead starts = sym (take-append-drop (length ahead) bytes) ∙ ap (λ (l : List ℕ). l ++ drop (length ahead) bytes) starts

-- a cell that is read ahead is refused
pub ahead_cell_refused : (e : CertFault) (known : Option (List ℕ)) (ahead : List ℕ) (before now : List Cell) (place count : ℕ)
    → IfSome known (λ bytes. StartsWith bytes ahead) → TakesSomeCells (Err e) before now place ahead count → ReadsMoreCells (Err e) known known before now place count
ahead_cell_refused fault.Read known ahead before now place count starts breaks = absurd breaks
ahead_cell_refused fault.Write known ahead before now place count starts breaks = absurd breaks
ahead_cell_refused (fault.OutOfMemory error) known ahead before now place count starts breaks = λ e. tt
ahead_cell_refused (fault.Form broken) None ahead before now place count starts breaks = λ e. absurd cc
ahead_cell_refused (fault.Form broken) (Some bytes) ahead before now place count starts breaks = λ e.
    subst (λ (l : List ℕ). cells_at before (count - length before) (here place l) ≡ Err broken) (sym (ahead_first bytes ahead starts)) (breaks (drop (length ahead) bytes))

-- what is left after the bytes that are taken
left_after : (xs ys ahead left : List ℕ) (used : ℕ) → used ≤ length ahead → left ≡ drop used ahead → StartsWith xs ahead → xs ≡ take used ahead ++ ys
    → ys ≡ left ++ drop (length ahead) xs
left_after xs ys ahead left used le left_is starts consumed =
    let tail = drop (length ahead) xs in
    let whole : length (take used ahead) ≡ used = omega (arith, length-take used ahead) in
    sym (drop_at (take used ahead) ys used whole) ∙ ap (drop used) (sym consumed ∙ ahead_first xs ahead starts) ∙ drop-append-le used ahead tail le
    ∙ ap (λ (l : List ℕ). l ++ tail) (sym left_is)

-- some cells that are read ahead are taken
pub ahead_cells_taken : (old new : Option (List ℕ)) (ahead : List ℕ) (before now : List Cell) (place after count used : ℕ) → IfSome old (λ bytes. StartsWith bytes ahead)
    → AreSomeCellsTaken used before now place ahead count → Consumes old new (take used ahead) → after ≡ place_after place used
    → ReadsMoreCells (Ok after) old new before now place count
ahead_cells_taken old new ahead before now place after count used starts took consumed after_is =
    (omega (arith, took.taking.grown), took.few, known old new starts consumed)
  where
    known : (a b : Option (List ℕ)) → IfSome a (λ bytes. StartsWith bytes ahead) → Consumes a b (take used ahead)
        → is_some a ≡ true → (is_some b ≡ true) × ((n : ℕ) → cells_at before ((length now - length before) + n) (input_at place a) ≡ cells_at now n (input_at after b))
    known None b starts consumed e = absurd cc
    known (Some xs) None starts consumed e = absurd consumed
    known (Some xs) (Some ys) starts consumed e =
        let t = took.taking in
        let tail = drop (length ahead) xs in
        let le : used ≤ length ahead = omega (arith, took.used_is) in
        let left_is : took.left ≡ drop used ahead = took.suffix ∙ ap (λ (k : ℕ). drop k ahead) (sym took.used_is) in
        let ys_is : ys ≡ took.left ++ tail = left_after xs ys ahead took.left used le left_is starts consumed in
        let at_is : took.at ≡ after = omega (arith, t.at_is, took.used_is, after_is) in (
          refl,
          λ n.
              let all : (length now - length before) + n ≡ t.taken + n = omega (arith, t.grown) in
              ap (λ (k : ℕ). cells_at before k (here place xs)) all ∙ ap (λ (l : List ℕ). cells_at before (t.taken + n) (here place l)) (ahead_first xs ahead starts)
              ∙ t.reads n tail ∙ ap (λ (p : ℕ). cells_at now n (here p (took.left ++ tail))) at_is ∙ ap (λ (l : List ℕ). cells_at now n (here after l)) (sym ys_is),
        )

-- some cells were read ahead
pub more_some : (old new : Option (List ℕ)) (before now : List Cell) (place at count : ℕ) → ReadsMoreCells (Ok at) old new before now place count → length before < length now
    → ReadsCells (Ok at) old new before now place count
more_some old new before now place at count more some = (some, more.1, more.2)

-- other cells are read after those that are read ahead
pub more_then : (r : Result ℕ CertFault) (old mid new : Option (List ℕ)) (before now next : List Cell) (place at count : ℕ) → ReadsMoreCells (Ok at) old mid before now place count
    → ReadsCells r mid new now next at count → ReadsCells r old new before next place count
more_then (Ok after) old mid new before now next place at count one more = (
  omega (arith, one.0, more.0),
  more.1,
  λ e.
      let was = one.2 e in
      let is = more.2 was.0 in (
        is.0,
        λ n.
            let all : (length next - length before) + n ≡ (length now - length before) + ((length next - length now) + n) = omega (arith, one.0, more.0) in
            ap (λ (k : ℕ). cells_at before k (input_at place old)) all ∙ was.1 ((length next - length now) + n) ∙ is.1 n,
      ),
)
more_then (Err e) old mid new before now next place at count one more = λ known.
    let was = one.2 known in
    let all : (length now - length before) + (count - length now) ≡ count - length before = omega (arith, one.0, one.1) in
    let same : cells_at now (count - length now) (input_at at mid) ≡ cells_at before (count - length before) (input_at place old) =
    sym (was.1 (count - length now)) ∙ ap (λ (k : ℕ). cells_at before k (input_at place old)) all in
    subst (λ (x : Answer (List Cell)). Fails e x) same (more was.0)

-- a list of functions is whole
pub listed_all : (old new : Option (List ℕ)) (now : List (ℕ × ℕ)) (place after count : ℕ) → ReadsBlock (Ok after) old new [] now place count
    → is_some old ≡ true → (is_some new ≡ true) × (list_at function_at [] count (input_at place old) ≡ Ok (now, input_at after new))
unfolding list_at
listed_all old new now place after count reads e =
    let is = reads e in
    let all : count ≡ count + 0 = omega arith in
    (is.0, ap (λ (k : ℕ). list_at function_at [] k (input_at place old)) all ∙ is.1 0)

-- one of its functions is refused
pub listed_fails : (e : CertFault) (known new : Option (List ℕ)) (now : List (ℕ × ℕ)) (place count : ℕ) → ReadsBlock (Err e) known new [] now place count
    → is_some known ≡ true → Fails e (list_at function_at [] count (input_at place known))
listed_fails e known new now place count reads told =
    let all : count + 0 ≡ count = omega arith in
    subst (λ (k : ℕ). Fails e (list_at function_at [] k (input_at place known))) all (reads told 0)

-- the text of functions that were taken
pub listed_text : (ahead text : List ℕ) (now : List (ℕ × ℕ)) (place count over : ℕ) → 6 * count ≤ length ahead
    → AreTaken over [] now place (take (6 * count) ahead) → text ≡ take (6 * count) ahead → AreSpelled text now
listed_text ahead text now place count over le took text_is = record {
  count = count;
  long = omega (arith, ap length text_is, long);
  reads = λ p n rest lt.
      let there = t.anywhere p n rest lt in
      ap (λ (l : List ℕ). list_at function_at [] (count + n) (input_of p l rest)) text_is
      ∙ ap (λ (k : ℕ). list_at function_at [] (k + n) (input_of p (take (6 * count) ahead) rest)) (sym all) ∙ there
      ∙ ap (λ (k : ℕ). list_at function_at now n (input_of (place_after p (6 * k)) took.left rest)) all
      ∙ ap (λ (l : List ℕ). list_at function_at now n (input_of (place_after p (6 * count)) l rest)) none;
}
  where
    t : IsTaking [] now place took.at (take (6 * count) ahead) took.left
    t = took.taking

    long : length (take (6 * count) ahead) ≡ 6 * count
    long = omega (arith, length-take (6 * count) ahead)

    all : t.taken ≡ count
    all = omega (arith, t.long, took.over_is, took.short, long)

    none : took.left ≡ []
    none = none_left took.left (omega (arith, t.long, all, long))

-- the same text is read as the same functions
pub listed_again : (old new : Option (List ℕ)) (text ahead : List ℕ) (functions : List (ℕ × ℕ)) (place after count : ℕ) → AreSpelled text functions
    → length text ≡ 6 * count → take (6 * count) ahead ≡ text → Consumes old new (take (6 * count) ahead) → place < 2 ^ 64 → after ≡ place_after place (6 * count)
    → is_some old ≡ true → (is_some new ≡ true) × (list_at function_at [] count (input_at place old) ≡ Ok (functions, input_at after new))
unfolding list_at
listed_again None new text ahead functions place after count spelled long text_is consumed lt after_is e = absurd cc
listed_again (Some xs) None text ahead functions place after count spelled long text_is consumed lt after_is e = absurd consumed
listed_again (Some xs) (Some ys) text ahead functions place after count spelled long text_is consumed lt after_is e =
    let bytes : xs ≡ text ++ ys = consumed ∙ ap (λ (l : List ℕ). l ++ ys) text_is in
    let all : count ≡ spelled.count + 0 = omega (arith, spelled.long) in
    let there : place_after place (6 * spelled.count) ≡ after = omega (arith, all, after_is) in (
      refl,
      ap (λ (l : List ℕ). list_at function_at [] count (here place l)) bytes ∙ ap (λ (k : ℕ). list_at function_at [] k (here place (text ++ ys))) all
          ∙ spelled.reads place 0 ys lt ∙ ap (λ (q : ℕ). list_at function_at functions 0 (here q ys)) there,
    )
