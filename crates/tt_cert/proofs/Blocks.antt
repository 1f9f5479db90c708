-- Functions that are read many at a time.
use Rattle.std.proofs.Common.{◌≡◌, ℕ, suc, ◌+◌, ◌-◌, ◌*◌, ◌^◌, ◌<◌, ◌≤◌, true, false, ltb, List, [], ◌∷◌, ◌++◌, length, take, drop, Option, Some, None, is_some, Ok, Err, refl, sym, ap, subst, ◌∙◌, arith, append-nil, append_assoc}
use Rattle.std.proofs.lemmas.Bool.{le-ltb, lt-ltb}
use Rattle.std.proofs.lemmas.List.{take-append-le, drop-append-le, drop-drop, drop-take, length-append, length-drop, length-take}
use Rattle.std.proofs.Math.Seq.{take-add}
use Rattle.std.specs.Io.KnownBytes.{Consumes, IsAtEnd, Keeps}
use Rattle.std.proofs.KnownBytes.{Consumes-kept, Consumes-trans}
use Rattle.tt_stream.specs.Reads.{ConsumesBeginning}
use Rattle.tt_stream.proofs.Beginnings.{consumes_then}
use Rattle.tt_setting.specs.declared.cert_fault.CertFault.{CertFault}
use Rattle.tt_setting.specs.declared.cert_fault.CertFault.TheVariants as fault
use Rattle.tt_cert.specs.Answers.{Fails, StopsAtEnd, input_at}
use Rattle.tt_cert.specs.Representation.Blocks.{AreTaken, BreaksAt, FillsOn, IsTaking, ReadsBlock, Takes, input_held, input_of}
use Rattle.tt_cert.specs.Readers.{Answer, Input, list_at, place_after, unit}
use Rattle.tt_cert.specs.Reading.{function_at, pair_at, pair_from}
use Rattle.tt_cert.specs.Rules.{is_above, last_of}
use Rattle.tt_cert.proofs.Codecs.{here}
use Rattle.tt_cert.proofs.SteadyUnits.{function_steady}
use Rattle.tt_cert.proofs.Stops.{Reached, reached_known, reached_part, reached_then, stops_part, stops_there}

pub unit_whole : (n place : ℕ) (bytes rest : List ℕ) → n ≤ length bytes
    → unit n (input_of place bytes rest) ≡ Ok (take n bytes, input_of (place_after place n) (drop n bytes) rest)
unit_whole n place bytes rest le =
    let no : ltb (length (bytes ++ rest)) n ≡ false = le-ltb _ _ (omega (arith, length-append bytes rest)) in
    rw (no, take-append-le n bytes rest le, drop-append-le n bytes rest le) refl

pub unit_short : (n place : ℕ) (bytes : List ℕ) → length bytes < n → unit n (input_of place bytes []) ≡ Err (place_after place (length bytes))
unit_short n place bytes lt =
    let yes : ltb (length bytes) n ≡ true = lt-ltb _ _ lt in
    rw (append-nil bytes, yes) refl

-- the function at the front of the bytes
abbrev pub front : List ℕ → ℕ × ℕ
front bytes = pair_from (take 6 bytes)

function_next : (xs : List (ℕ × ℕ)) (place : ℕ) (bytes rest : List ℕ) → 6 ≤ length bytes → is_above (last_of xs) (front bytes) ≡ true
    → function_at xs (input_of place bytes rest) ≡ Ok (front bytes, input_of (place_after place 6) (drop 6 bytes) rest)
unfolding function_at pair_at
function_next xs place bytes rest le above = rw (unit_whole 6 place bytes rest le, above) refl

function_breaks : (xs : List (ℕ × ℕ)) (place : ℕ) (bytes rest : List ℕ) → 6 ≤ length bytes → is_above (last_of xs) (front bytes) ≡ false
    → function_at xs (input_of place bytes rest) ≡ Err place
unfolding function_at pair_at
function_breaks xs place bytes rest le below = rw (unit_whole 6 place bytes rest le, below) refl

function_cut : (xs : List (ℕ × ℕ)) (place : ℕ) (bytes : List ℕ) → length bytes < 6
    → function_at xs (input_of place bytes []) ≡ Err (place_after place (length bytes))
unfolding function_at pair_at
function_cut xs place bytes lt = rw (unit_short 6 place bytes lt) refl

one_more : (xs : List (ℕ × ℕ)) (n place : ℕ) (bytes rest : List ℕ) → 6 ≤ length bytes → is_above (last_of xs) (front bytes) ≡ true
    → list_at function_at xs (suc n) (input_of place bytes rest) ≡ list_at function_at (xs ++ front bytes ∷ []) n (input_of (place_after place 6) (drop 6 bytes) rest)
unfolding list_at
one_more xs n place bytes rest le above = rw (function_next xs place bytes rest le above) refl

none_more : (xs : List (ℕ × ℕ)) (n place : ℕ) (bytes rest : List ℕ) → 6 ≤ length bytes → is_above (last_of xs) (front bytes) ≡ false
    → list_at function_at xs (suc n) (input_of place bytes rest) ≡ Err place
unfolding list_at
none_more xs n place bytes rest le below = rw (function_breaks xs place bytes rest le below) refl

cut_short : (xs : List (ℕ × ℕ)) (n place : ℕ) (bytes : List ℕ) → length bytes < 6
    → list_at function_at xs (suc n) (input_of place bytes []) ≡ Err (place_after place (length bytes))
unfolding list_at
cut_short xs n place bytes lt = rw (function_cut xs place bytes lt) refl

-- one more was taken
pub taking_more : (old now next : List (ℕ × ℕ)) (place at after : ℕ) (bytes left rest unit : List ℕ) (x : ℕ × ℕ) → IsTaking old now place at bytes left
    → 6 ≤ length left → unit ≡ take 6 left → rest ≡ drop 6 left → x ≡ pair_from unit → is_above (last_of now) x ≡ true
    → next ≡ now ++ x ∷ [] → after ≡ place_after at 6 → IsTaking old next place after bytes rest
taking_more old now next place at after bytes left rest unit x taking le unit_is rest_is x_is above pushed after_is =
    let first : x ≡ front left = x_is ∙ ap pair_from unit_is in
    let over : is_above (last_of now) (front left) ≡ true = subst (λ y. is_above (last_of now) y ≡ true) first above in
    record {
      taken = taking.taken + 1;
      long = rw rest_is (omega (arith, taking.long, length-drop 6 left));
      at_is = omega (arith, taking.at_is, after_is);
      reads = λ n tail.
          let count : (taking.taken + 1) + n ≡ taking.taken + suc n = omega arith in
          rw (count, pushed, first, rest_is, after_is) (taking.reads (suc n) tail ∙ one_more now n at left tail le over);
      anywhere = λ p n tail lt.
          let count : (taking.taken + 1) + n ≡ taking.taken + suc n = omega arith in
          let there : place_after (place_after p (6 * taking.taken)) 6 ≡ place_after p (6 * (taking.taken + 1)) = omega arith in
          rw (count, pushed, first, rest_is) (taking.anywhere p (suc n) tail lt ∙ one_more now n (place_after p (6 * taking.taken)) left tail le over
          ∙ ap (λ (q : ℕ). list_at function_at (now ++ front left ∷ []) n (input_of q (drop 6 left) tail)) there);
    }

-- none was taken
pub taking_none : (old : List (ℕ × ℕ)) (place : ℕ) (bytes : List ℕ) → place < 2 ^ 64 → IsTaking old old place place bytes bytes
taking_none old place bytes lt = record {
  taken = 0;
  long = omega arith;
  at_is = omega arith;
  reads = λ n rest. ap (λ (k : ℕ). list_at function_at old k (input_of place bytes rest)) {y = n} (omega arith);
  anywhere = λ p n rest within.
      let count : 0 + n ≡ n = omega arith in
      let there : p ≡ place_after p (6 * 0) = omega arith in
      ap (λ (k : ℕ). list_at function_at old k (input_of p bytes rest)) count ∙ ap (λ (q : ℕ). list_at function_at old n (input_of q bytes rest)) there;
}

-- the next one breaks the rule
pub taking_breaks : (old now : List (ℕ × ℕ)) (place at : ℕ) (bytes left unit : List ℕ) (x : ℕ × ℕ) → IsTaking old now place at bytes left
    → 6 ≤ length left → unit ≡ take 6 left → x ≡ pair_from unit → is_above (last_of now) x ≡ false → BreaksAt old place bytes at
taking_breaks old now place at bytes left unit x taking le unit_is x_is below n rest few =
    let first : x ≡ front left = x_is ∙ ap pair_from unit_is in
    let under : is_above (last_of now) (front left) ≡ false = subst (λ y. is_above (last_of now) y ≡ false) first below in
    let m = n - (taking.taken + 1) in
    let count : n ≡ taking.taken + suc m = omega (arith, taking.long) in
    rw count (taking.reads (suc m) rest ∙ none_more now m at left rest le under)

pub none_left : (bytes : List ℕ) → length bytes ≡ 0 → bytes ≡ []
none_left [] none = refl
none_left (x ∷ xs) none = absurd (omega (arith, none))

-- what is left after this many more bytes
pub suffix_on : (bytes left rest : List ℕ) (width : ℕ) → left ≡ drop (length bytes - length left) bytes → rest ≡ drop width left → length left ≡ width + length rest
    → rest ≡ drop (length bytes - length rest) bytes
suffix_on bytes left rest width left_is rest_is long =
    let k = length bytes - length left in
    let left_long : length left ≡ length bytes - k = ap length left_is ∙ length-drop k bytes in
    let all : k + width ≡ length bytes - length rest = omega (arith, left_long, long) in
    rest_is ∙ ap (drop width) left_is ∙ drop-drop width k bytes ∙ ap (λ (n : ℕ). drop n bytes) all

pub suffix_fits : (bytes left : List ℕ) → left ≡ drop (length bytes - length left) bytes → length left ≤ length bytes
suffix_fits bytes left left_is = omega (arith, ap length left_is, length-drop (length bytes - length left) bytes)

-- the bytes of a buffer that are held: those up to the filled ones, without the taken ones
abbrev pub held_in : ℕ → ℕ → List ℕ → List ℕ
held_in taken filled buf = drop taken (take filled buf)

pub held_slice : (taken filled : ℕ) (buf : List ℕ) → taken ≤ filled → take (filled - taken) (drop taken buf) ≡ held_in taken filled buf
held_slice taken filled buf le =
    let all : taken + (filled - taken) ≡ filled = omega arith in
    sym (drop-take taken (filled - taken) buf) ∙ ap (λ (n : ℕ). drop taken (take n buf)) all

-- what holds of such a slice holds of the held bytes
pub at_held : (P : ℕ → List ℕ → Type 0) (place taken at filled : ℕ) (buf : List ℕ) → taken ≤ filled → at ≡ place_after place taken
    → P at (take (filled - taken) (drop taken buf)) → P (place_after place taken) (held_in taken filled buf)
at_held P place taken at filled buf le at_is holds =
    subst (P (place_after place taken)) (held_slice taken filled buf le) (subst (λ (p : ℕ). P p (take (filled - taken) (drop taken buf))) at_is holds)

pub held_long : (taken filled : ℕ) (buf : List ℕ) → filled ≤ length buf → length (held_in taken filled buf) ≡ filled - taken
held_long taken filled buf le = omega (arith, length-drop taken (take filled buf), length-take filled buf)

-- more was read into the buffer
pub held_on : (old new : Option (List ℕ)) (taken filled wanted more : ℕ) (was buf : List ℕ) → FillsOn old new filled wanted more was buf → taken ≤ filled
    → held_in taken (filled + more) buf ≡ held_in taken filled was ++ take more (drop filled buf)
held_on old new taken filled wanted more was buf fills le =
    let front : take filled buf ≡ take filled was = fills.held_is in
    let long : length (take filled buf) ≡ filled = omega (arith, length-take filled buf, fills.few, fills.room) in
    ap (drop taken) (take-add filled more buf) ∙ drop-append-le taken (take filled buf) (take more (drop filled buf)) (omega (arith, long))
    ∙ ap (λ (l : List ℕ). drop taken l ++ take more (drop filled buf)) front

-- what was left of the held bytes is held
pub held_left : (taken filled over after : ℕ) (buf left : List ℕ) → filled ≤ length buf → taken ≤ filled → over ≤ filled - taken → after ≡ filled - over
    → left ≡ drop (length (held_in taken filled buf) - over) (held_in taken filled buf) → left ≡ held_in after filled buf
held_left taken filled over after buf left le order few after_is left_is =
    let long = held_long taken filled buf le in
    let all : taken + (length (held_in taken filled buf) - over) ≡ after = omega (arith, long, after_is) in
    left_is ∙ drop-drop (length (held_in taken filled buf) - over) taken (take filled buf) ∙ ap (λ (n : ℕ). drop n (take filled buf)) all

-- what the filling of a block keeps: this many bytes are filled, of which this many are taken, as functions
pub record IsBlock (old now : Option (List ℕ)) (before xs : List (ℕ × ℕ)) (place count filled taken : ℕ) (buf : List ℕ) (failures failures_now : ℕ) : Type 0 where
  pub done : ℕ
  pub all : taken ≡ 6 * done
  pub short : filled < taken + 6
  pub order : taken ≤ filled
  pub within : filled ≤ 6 * count
  pub long : length buf ≡ 384
  pub consumed : Consumes old now (take filled buf)
  pub reads : (n : ℕ) (rest : List ℕ) → list_at function_at before (count + n) (here place (take filled buf ++ rest))
      ≡ list_at function_at xs ((count + n) - done) (input_of (place_after place taken) (held_in taken filled buf) rest)
  pub beginning : ConsumesBeginning old now
  pub failures_are : failures_now ≡ failures

block_known : (old now : Option (List ℕ)) (before xs : List (ℕ × ℕ)) (place count filled taken : ℕ) (buf : List ℕ) (f g : ℕ) (inv : IsBlock old now before xs place count filled taken buf f g)
    → is_some old ≡ true → (is_some now ≡ true) × ((n : ℕ) → list_at function_at before (count + n) (input_at place old)
    ≡ list_at function_at xs ((count + n) - inv.done) (input_held (place_after place taken) (held_in taken filled buf) now))
block_known None now before xs place count filled taken buf f g inv known = absurd cc
block_known (Some a) None before xs place count filled taken buf f g inv known = absurd inv.consumed
block_known (Some a) (Some b) before xs place count filled taken buf f g inv known =
    (refl, λ n. ap (λ (l : List ℕ). list_at function_at before (count + n) (here place l)) inv.consumed ∙ inv.reads n b)

pub fill_on : (old now next : Option (List ℕ)) (before xs ys : List (ℕ × ℕ)) (place count filled taken more over after : ℕ) (was buf : List ℕ) (f g h : ℕ)
    → IsBlock old now before xs place count filled taken was f g → FillsOn now next filled (6 * count) more was buf
    → AreTaken over xs ys (place_after place taken) (held_in taken (filled + more) buf) → ConsumesBeginning now next → h ≡ g → after ≡ (filled + more) - over
    → IsBlock old next before ys place count (filled + more) after buf f h
fill_on old now next before xs ys place count filled taken more over after was buf f g h inv fills took some same after_is = record {
  done = inv.done + t.taken;
  all = omega (arith, t.long, long, took.over_is, inv.all, inv.order, after_is);
  short = omega (arith, t.long, long, took.over_is, took.short, after_is);
  order = omega (arith, after_is);
  within = omega (arith, fills.few);
  long = fills.long ∙ inv.long;
  consumed = subst (Consumes old next) (sym filled_is) (Consumes-trans old now next (take filled was) chunk inv.consumed fills.consumed);
  reads = reads;
  beginning = consumes_then _ _ _ inv.beginning some;
  failures_are = same ∙ inv.failures_are;
}
  where
    slice : List ℕ
    slice = held_in taken (filled + more) buf

    t : IsTaking xs ys (place_after place taken) took.at slice took.left
    t = took.taking

    room : filled + more ≤ length buf
    room = omega (arith, fills.few, fills.room)

    long : length slice ≡ (filled + more) - taken
    long = held_long taken (filled + more) buf room

    left_is : took.left ≡ held_in after (filled + more) buf
    left_is = held_left taken (filled + more) over after buf took.left room (omega (arith, inv.order)) (omega (arith, t.long, long, took.over_is)) after_is took.suffix

    at_is : took.at ≡ place_after place after
    at_is = omega (arith, t.at_is, t.long, long, took.over_is, inv.order, after_is)

    chunk : List ℕ
    chunk = take more (drop filled buf)

    filled_is : take (filled + more) buf ≡ take filled was ++ chunk
    filled_is = take-add filled more buf ∙ ap (λ (l : List ℕ). l ++ chunk) fills.held_is

    reads : (n : ℕ) (rest : List ℕ) → list_at function_at before (count + n) (here place (take (filled + more) buf ++ rest))
        ≡ list_at function_at ys ((count + n) - (inv.done + t.taken)) (input_of (place_after place after) (held_in after (filled + more) buf) rest)
    reads n rest =
        let m = (count + n) - (inv.done + t.taken) in
        let front : take (filled + more) buf ++ rest ≡ take filled was ++ (chunk ++ rest) = ap (λ (l : List ℕ). l ++ rest) filled_is ∙ append_assoc (take filled was) chunk rest in
        let bytes : held_in taken filled was ++ (chunk ++ rest) ≡ slice ++ rest =
        sym (append_assoc (held_in taken filled was) chunk rest) ∙ ap (λ (l : List ℕ). l ++ rest) (sym (held_on now next taken filled (6 * count) more was buf fills inv.order)) in
        let count_is : (count + n) - inv.done ≡ t.taken + m = omega (arith, t.long, long, inv.all, inv.order, fills.few) in
        let there : list_at function_at ys m (input_of took.at took.left rest) ≡ list_at function_at ys m (input_of (place_after place after) (held_in after (filled + more) buf) rest) =
        ap (λ (p : ℕ). list_at function_at ys m (input_of p took.left rest)) at_is
        ∙ ap (λ (l : List ℕ). list_at function_at ys m (input_of (place_after place after) l rest)) left_is in
        ap (λ (l : List ℕ). list_at function_at before (count + n) (here place l)) front ∙ inv.reads n (chunk ++ rest) ∙ rw (bytes, count_is) (t.reads m rest) ∙ there

-- the input ends within the block
pub fill_end : (old now next : Option (List ℕ)) (before xs : List (ℕ × ℕ)) (place count filled taken more after : ℕ) (was buf : List ℕ) (f g : ℕ)
    → IsBlock old now before xs place count filled taken was f g → FillsOn now next filled (6 * count) more was buf → more ≡ 0 → filled < 6 * count → 6 * count ≤ 384
    → after ≡ place_after place (filled + more) → ReadsBlock (Err (fault.Form after)) old next before xs place count
fill_end old now next before xs place count filled taken more after was buf f g inv fills none few room after_is e n =
    (so_far.1 n) ∙ ends now next fills.consumed (fills.at_end none) so_far.0
  where
    so_far : (is_some now ≡ true) × ((n : ℕ) → list_at function_at before (count + n) (input_at place old)
        ≡ list_at function_at xs ((count + n) - inv.done) (input_held (place_after place taken) (held_in taken filled was) now))
    so_far = block_known old now before xs place count filled taken was f g inv e

    held : List ℕ
    held = held_in taken filled was

    long : length held ≡ filled - taken
    long = held_long taken filled was (omega (arith, inv.long))

    ends : (b c : Option (List ℕ)) → Consumes b c (take more (drop filled buf)) → IsAtEnd c → is_some b ≡ true
        → list_at function_at xs ((count + n) - inv.done) (input_held (place_after place taken) held b) ≡ Err after
    ends None c consumed end known = absurd cc
    ends (Some nb) None consumed end known = absurd consumed
    ends (Some nb) (Some yb) consumed end known =
        let m = (count + n) - (inv.done + 1) in
        let count_is : (count + n) - inv.done ≡ suc m = omega (arith, inv.all, inv.order, few) in
        let empty : take more (drop filled buf) ≡ [] = none_left (take more (drop filled buf)) (omega (arith, length-take more (drop filled buf), none)) in
        let nothing : nb ≡ [] = consumed ∙ ap (λ (l : List ℕ). l ++ yb) empty ∙ end in
        let there : place_after (place_after place taken) (length held) ≡ after = omega (arith, long, inv.order, none, after_is) in
        rw (count_is, nothing) (cut_short xs m (place_after place taken) held (omega (arith, long, inv.short)) ∙ ap (λ (p : ℕ). Err p) there)

-- a function of the block is refused
pub fill_refused : (e : CertFault) (old now next : Option (List ℕ)) (before xs ys : List (ℕ × ℕ)) (place count filled taken more : ℕ) (was buf : List ℕ) (f g : ℕ)
    → IsBlock old now before xs place count filled taken was f g → FillsOn now next filled (6 * count) more was buf
    → Takes (Err e) xs ys (place_after place taken) (held_in taken (filled + more) buf) → ReadsBlock (Err e) old next before ys place count
fill_refused fault.Read old now next before xs ys place count filled taken more was buf f g inv fills breaks = absurd breaks
fill_refused fault.Write old now next before xs ys place count filled taken more was buf f g inv fills breaks = absurd breaks
fill_refused (fault.OutOfMemory error) old now next before xs ys place count filled taken more was buf f g inv fills breaks = λ known n. tt
fill_refused (fault.Form broken) old now next before xs ys place count filled taken more was buf f g inv fills breaks =
    λ e n.
    let so_far = block_known old now before xs place count filled taken was f g inv e in
    so_far.1 n ∙ refused now next fills.consumed so_far.0 n
  where
    slice : List ℕ
    slice = held_in taken (filled + more) buf

    long : length slice ≡ (filled + more) - taken
    long = held_long taken (filled + more) buf (omega (arith, fills.few, fills.room))

    refused : (b c : Option (List ℕ)) → Consumes b c (take more (drop filled buf)) → is_some b ≡ true
        → (n : ℕ) → list_at function_at xs ((count + n) - inv.done) (input_held (place_after place taken) (held_in taken filled was) b) ≡ Err broken
    refused None c consumed known n = absurd cc
    refused (Some nb) None consumed known n = absurd consumed
    refused (Some nb) (Some yb) consumed known n =
        let bytes : held_in taken filled was ++ nb ≡ slice ++ yb =
        ap (λ (l : List ℕ). held_in taken filled was ++ l) consumed ∙ sym (append_assoc (held_in taken filled was) (take more (drop filled buf)) yb)
        ∙ ap (λ (l : List ℕ). l ++ yb) (sym (held_on now next taken filled (6 * count) more was buf fills inv.order)) in
        rw bytes (breaks ((count + n) - inv.done) yb (omega (arith, long, inv.all, inv.order, fills.few)))

-- a read failed within the block
pub fill_stops : (old now next : Option (List ℕ)) (before xs : List (ℕ × ℕ)) (place count filled taken : ℕ) (buf : List ℕ) (f g : ℕ) → IsBlock old now before xs place count filled taken buf f g
    → filled < 6 * count → 6 * count ≤ 384 → Keeps now next → StopsAtEnd place old next (list_at function_at before count) fault.Read
fill_stops old now next before xs place count filled taken buf f g inv lt few kept = λ known.
    let front = take filled buf in
    let held = held_in taken filled buf in
    let m = count - (inv.done + 1) in
    let long : length held ≡ filled - taken = held_long taken filled buf (omega (arith, inv.long)) in
    let all : count ≡ count + 0 = omega arith in
    let count_is : (count + 0) - inv.done ≡ suc m = omega (arith, inv.all, inv.order, lt) in
    let there : place_after (place_after place taken) (length held) ≡ place_after place (length front) = omega (arith, long, inv.order, length-take filled buf, inv.long) in
    let cut : list_at function_at xs ((count + 0) - inv.done) (input_of (place_after place taken) held []) ≡ Err (place_after (place_after place taken) (length held)) =
    rw count_is (cut_short xs m (place_after place taken) held (omega (arith, long, inv.short))) in
    record {
      front = front;
      consumed = Consumes-kept old now next front inv.consumed kept;
      refused = ap (λ (l : List ℕ). list_at function_at before count (here place l)) (sym (append-nil front)) ∙ ap (λ (k : ℕ). list_at function_at before k (here place (front ++ []))) all
          ∙ inv.reads 0 [] ∙ cut ∙ ap (λ (p : ℕ). Err p) there;
    }

-- no read fails where functions are taken
pub takes_stops : {Y : Type 0} (e : CertFault) (xs ys : List (ℕ × ℕ)) (at : ℕ) (bytes : List ℕ) (place : ℕ) (old new : Option (List ℕ)) (read : Input → Answer Y) → Takes (Err e) xs ys at bytes
    → StopsAtEnd place old new read e
takes_stops fault.Read xs ys at bytes place old new read takes = absurd takes
takes_stops fault.Write xs ys at bytes place old new read takes = absurd takes
takes_stops (fault.Form p) xs ys at bytes place old new read takes = tt
takes_stops (fault.OutOfMemory error) xs ys at bytes place old new read takes = tt

-- what a loop over blocks keeps
pub record IsReadingBlocks (old now : Option (List ℕ)) (start count : ℕ) (xs : List (ℕ × ℕ)) (left place failures failures_now : ℕ) : Type 0 where
  pub reached : is_some old ≡ true → Reached start place old now (list_at function_at [] count) (list_at function_at xs left)
  pub beginning : ConsumesBeginning old now
  pub failures_are : failures_now ≡ failures

none_of : (xs : List (ℕ × ℕ)) (i : Input) → list_at function_at xs 0 i ≡ Ok (xs, i)
unfolding list_at
none_of xs i = refl

pub blocks_on : (old now next : Option (List ℕ)) (start count : ℕ) (xs ys : List (ℕ × ℕ)) (left fewer place after block f g h : ℕ)
    → IsReadingBlocks old now start count xs left place f g → block ≤ left → fewer ≡ left - block → ReadsBlock (Ok after) now next xs ys place block
    → ConsumesBeginning now next → h ≡ g → IsReadingBlocks old next start count ys fewer after f h
blocks_on old now next start count xs ys left fewer place after block f g h inv le fewer_is reads some same = record {
  reached = λ known.
      let r = inv.reached known in
      let is = reads r.told in
      let all : block ≡ block + 0 = omega arith in
      let whole : list_at function_at xs block (input_at place now) ≡ Ok (ys, input_at after next) =
      ap (λ (n : ℕ). list_at function_at xs n (input_at place now)) all ∙ is.1 0 ∙ none_of ys (input_at after next) in
      reached_then start place after old now next (list_at function_at [] count) (list_at function_at xs left) (list_at function_at ys fewer) r
      (rw fewer_is (reached_part function_at xs ys left block place after now next function_steady le r.told (is.0, whole)));
  beginning = consumes_then _ _ _ inv.beginning some;
  failures_are = same ∙ inv.failures_are;
}

pub blocks_fail : (old now next : Option (List ℕ)) (start count : ℕ) (xs ys : List (ℕ × ℕ)) (left place block f g : ℕ) (e : CertFault)
    → IsReadingBlocks old now start count xs left place f g → block ≤ left → ReadsBlock (Err e) now next xs ys place block
    → is_some old ≡ true → Fails e (list_at function_at [] count (input_at start old))
blocks_fail old now next start count xs ys left place block f g e inv le reads known =
    let r = inv.reached known in
    let all : block + (left - block) ≡ left = omega arith in
    let so_far : list_at function_at xs (block + (left - block)) (input_at place now) ≡ list_at function_at [] count (input_at start old) =
    ap (λ (n : ℕ). list_at function_at xs n (input_at place now)) all
    ∙ sym (reached_known start place old now (list_at function_at [] count) (list_at function_at xs left) r known) in
    subst (λ (r : Answer (List (ℕ × ℕ))). Fails e r) so_far (reads r.told (left - block))

-- a read failed in the next block
pub blocks_stop : (old now next : Option (List ℕ)) (start count : ℕ) (xs : List (ℕ × ℕ)) (left place block f g : ℕ) (e : CertFault)
    → IsReadingBlocks old now start count xs left place f g → block ≤ left → StopsAtEnd place now next (list_at function_at xs block) e
    → StopsAtEnd start old next (list_at function_at [] count) e
blocks_stop old now next start count xs left place block f g e inv le stops =
    stops_there start place old now next (list_at function_at [] count) (list_at function_at xs left) e inv.reached
    (stops_part function_at xs left block place now next e le stops)

pub blocks_all : (old now : Option (List ℕ)) (start count : ℕ) (xs : List (ℕ × ℕ)) (left place f g : ℕ)
    → IsReadingBlocks old now start count xs left place f g → left ≡ 0 → is_some old ≡ true
    → (is_some now ≡ true) × (list_at function_at [] count (input_at start old) ≡ Ok (xs, input_at place now))
unfolding list_at
blocks_all old now start count xs left place f g inv none known =
    let r = inv.reached known in
    let here : list_at function_at xs left (input_at place now) ≡ Ok (xs, input_at place now) = rw none refl in
    (r.told, reached_known start place old now (list_at function_at [] count) (list_at function_at xs left) r known ∙ here)
