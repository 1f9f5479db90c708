-- Stacks of which each has the lowest cells of the one before.
use Rattle.std.proofs.Common.{◌≡◌, ℕ, ℤ, zero, suc, ◌+◌, ◌-◌, ◌^◌, ◌<◌, ◌≤◌, true, List, [], ◌∷◌, ◌++◌, length, take, drop, Option, Some, None, is_some, Ok, Err, refl, sym, ap, subst, ◌∙◌, arith, append_assoc, append-nil}
use Rattle.std.specs.Prelude.{reverse}
use Rattle.std.specs.List.{flat_map}
use Rattle.std.specs.Io.KnownBytes.{Consumes}
use Rattle.std.proofs.lemmas.List.{length-append, length-reverse, length-take, reverse-reverse}
use Rattle.tt_abs.specs.declared.cells.Cell.{Cell}
use Rattle.tt_abs.specs.declared.state.State.{State}
use Rattle.tt_abs.specs.Cells.{Cells}
use Rattle.tt_abs.specs.States.{state_order}
use Rattle.tt_abs.specs.Transfers.{cells_on}
use Rattle.tt_abs.proofs.CodedCells.{cells_on_reversed}
use Rattle.tt_setting.proofs.Reversed.{reverse-drop}
use Rattle.tt_abs.proofs.StackOrders.{StackInRange-reverse}
use Rattle.tt_setting.specs.declared.cert_fault.CertFault.{CertFault}
use Rattle.tt_setting.specs.declared.cert_fault.CertFault.TheVariants as fault
use Rattle.tt_cert.specs.declared.form.Form.{Form}
use Rattle.tt_cert.specs.Answers.{Fails, StopsAtEnd, input_at}
use Rattle.tt_cert.specs.Representation.Blocks.{ReadsCells, ReadsFurther, ReadsMoreCells, cells_at, cells_up_to}
use Rattle.tt_cert.specs.Readers.{Answer, Input, list_at, place_after, ◌>>=◌}
use Rattle.tt_cert.specs.Reading.{cell_at, functions_at, graphics_at, stack_at, state_at, storage_at}
use Rattle.tt_cert.specs.Rules.{CellFits, EachAfter}
use Rattle.tt_cert.specs.declared.stack_text.StackText.{StackText}
use Rattle.tt_cert.specs.Representation.KeptTexts.{AreCellsKept, IsStackText, end_of}
use Rattle.tt_cert.specs.Representation.SharedCells.{AreAhead, IsStackKept}
use Rattle.tt_cert.specs.Text.{cell_text}
use Rattle.tt_cert.proofs.Codecs.{here, list_again}
use Rattle.tt_cert.proofs.Fields.{cell_codec}
use Rattle.tt_cert.proofs.Fitting.{each_cell}
use Rattle.tt_cert.proofs.KeptTexts.{front_text}
use Rattle.tt_cert.proofs.Stops.{list_split}

-- cells that are kept are read where their text is
read_kept : (cells : List Cell) (n place : ℕ) (rest : List ℕ) → EachAfter (λ _ c. CellFits c) [] cells → place < 2 ^ 64
    → cells_at [] (length cells + n) (here place (flat_map cell_text cells ++ rest)) ≡ cells_at cells n (here (place_after place (length (flat_map cell_text cells))) rest)
read_kept cells n place rest fits lt =
    let i = here place (flat_map cell_text cells ++ rest) in
    list_split (λ _. cell_at) (length cells) n [] i ∙ ap (then n) (list_again (λ _. cell_at) cell_text (λ _ c. CellFits c) (λ _. cell_codec) cells [] place rest fits lt)
  where
    then : ℕ → Answer (List Cell) → Answer (List Cell)
    then n r = r >>= (λ x. cells_at x.0 n x.1)

-- the lowest cells, whose text is ahead, are taken
pub shared_read : (old new : Option (List ℕ)) (text ends ahead : List ℕ) (cells : List Cell) (place after most count : ℕ) → AreCellsKept text ends cells
    → EachAfter (λ _ c. CellFits c) [] (take count cells) → AreAhead text ends ahead most count → Consumes old new (take (end_of ends count) ahead)
    → place < 2 ^ 64 → after ≡ place_after place (end_of ends count) → ReadsMoreCells (Ok after) old new [] (take count cells) place most
shared_read old new text ends ahead cells place after most count kept fits shared consumed lt after_is =
    (omega arith, omega (arith, length-take count cells, shared.few), known old new consumed)
  where
    le : count ≤ length cells
    le = omega (arith, shared.kept, kept.long)

    front : List ℕ
    front = flat_map cell_text (take count cells)

    front_is : take (end_of ends count) ahead ≡ front
    front_is = shared.same ∙ front_text text ends cells count kept le

    there : place_after place (length front) ≡ after
    there = omega (arith, after_is, kept.end_is count le)

    known : (a b : Option (List ℕ)) → Consumes a b (take (end_of ends count) ahead) → is_some a ≡ true
        → (is_some b ≡ true) × ((n : ℕ) → cells_at [] ((length (take count cells) - 0) + n) (input_at place a) ≡ cells_at (take count cells) n (input_at after b))
    known None b consumed e = absurd cc
    known (Some xs) None consumed e = absurd consumed
    known (Some xs) (Some ys) consumed e = (
      refl,
      λ n.
          let all : (length (take count cells) - 0) + n ≡ length (take count cells) + n = omega arith in
          ap (λ (k : ℕ). cells_at [] k (here place xs)) all
          ∙ ap (λ (l : List ℕ). cells_at [] (length (take count cells) + n) (here place l)) (consumed ∙ ap (λ (l : List ℕ). l ++ ys) front_is)
          ∙ read_kept (take count cells) n place ys fits lt ∙ ap (λ (p : ℕ). cells_at (take count cells) n (here p ys)) there,
    )

-- what is left of a stack that is cut down to so many cells
cut_down : (stack left : List Cell) (k : ℕ) → k ≤ length stack → left ≡ drop (length stack - k) stack → reverse left ≡ take k (reverse stack)
cut_down stack left k le left_is = ap reverse left_is ∙ reverse-drop stack (length stack - k) k (omega arith)

-- the cells of a state in range fit
cells_fit : (s : State) → state_order.InRange s → EachAfter (λ _ c. CellFits c) [] (reverse s.stack)
cells_fit s range = each_cell [] (reverse s.stack) (StackInRange-reverse s.stack range.0)

-- the lowest cells of a state are taken
pub shared_taken : (old new : Option (List ℕ)) (text : StackText) (ahead : List ℕ) (was now : State) (place after most count : ℕ) → IsStackKept text was
    → AreAhead text.cells.items text.ends.items ahead most count → now.stack ≡ drop (length was.stack - count) was.stack → state_order.InRange now
    → Consumes old new (take (end_of text.ends.items count) ahead) → place < 2 ^ 64 → after ≡ place_after place (end_of text.ends.items count)
    → ReadsMoreCells (Ok after) old new [] (reverse now.stack) place most
shared_taken old new text ahead was now place after most count kept shared cut range consumed lt after_is =
    let cells = reverse was.stack in
    let left : reverse now.stack ≡ take count cells = cut_down was.stack now.stack count (omega (arith, shared.kept, kept.cells.long, length-reverse was.stack)) cut in
    let fits : EachAfter (λ _ c. CellFits c) [] (take count cells) = subst (EachAfter (λ _ c. CellFits c) []) left (cells_fit now range) in
    subst (λ (l : List Cell). ReadsMoreCells (Ok after) old new [] l place most) (sym left)
    (shared_read old new text.cells.items text.ends.items ahead cells place after most count kept.cells fits shared consumed lt after_is)

pub shared_kept : (text left : StackText) (ahead : List ℕ) (was now : State) (most count : ℕ) → IsStackKept text was
    → AreAhead text.cells.items text.ends.items ahead most count → now.stack ≡ drop (length was.stack - count) was.stack → state_order.InRange now
    → ((cells : List Cell) → IsStackText text cells → IsStackText left (take count cells)) → IsStackKept left now
shared_kept text left ahead was now most count kept shared cut range cuts =
    let long : length (reverse was.stack) ≡ length was.stack = length-reverse was.stack in
    record {
      cells = subst (IsStackText left) (sym (cut_down was.stack now.stack count (omega (arith, shared.kept, kept.cells.long, long)) cut))
          (cuts (reverse was.stack) kept.cells);
      in_range = range;
    }

-- the answer of reading a list, with other values before it
abbrev pub onto : List Cell → Answer (List Cell) → Answer (List Cell)
onto front (Ok x) = Ok (front ++ x.0, x.1)
onto front (Err p) = Err p

onto_next : (front xs : List Cell) (n : ℕ) (r : Answer Cell) → ((y : Cell) (j : Input) → cells_at (front ++ (xs ++ y ∷ [])) n j ≡ onto front (cells_at (xs ++ y ∷ []) n j))
    → (r >>= (λ x. cells_at ((front ++ xs) ++ x.0 ∷ []) n x.1)) ≡ onto front (r >>= (λ x. cells_at (xs ++ x.0 ∷ []) n x.1))
onto_next front xs n (Err p) more = refl
onto_next front xs n (Ok x) more = ap (λ (l : List Cell). cells_at l n x.1) (append_assoc front xs (x.0 ∷ [])) ∙ more x.0 x.1

-- cells are read the same after other ones
cells_onto : (front xs : List Cell) (n : ℕ) (i : Input) → cells_at (front ++ xs) n i ≡ onto front (cells_at xs n i)
unfolding list_at
cells_onto front xs zero i = refl
cells_onto front xs (suc n) i = onto_next front xs n (cell_at i) (λ y j. cells_onto front (xs ++ y ∷ []) n j)

cells_from : (front : List Cell) (n : ℕ) (i : Input) → cells_at front n i ≡ onto front (cells_at [] n i)
cells_from front n i = ap (λ (l : List Cell). cells_at l n i) (sym (append-nil front)) ∙ cells_onto front [] n i

-- the cells of a stack onto which others were pushed
pub stacked : (below stack cells : List Cell) → stack ≡ cells_on cells below → reverse stack ≡ reverse below ++ cells
stacked below stack cells e =
    ap reverse (e ∙ ap (cells_on cells) (sym (reverse-reverse below)) ∙ sym (cells_on_reversed (reverse below) cells)) ∙ reverse-reverse (reverse below ++ cells)

-- the cells that were pushed are kept too
pub pushed_kept : (text : StackText) (below now : State) (cells : List Cell) → IsStackText text (reverse below.stack ++ cells)
    → now.stack ≡ cells_on cells below.stack → state_order.InRange now → IsStackKept text now
pushed_kept text below now cells kept pushed range = record {
  cells = subst (IsStackText text) (sym (stacked below.stack now.stack cells pushed)) kept;
  in_range = range;
}

-- cells are read after the lowest ones as they are read after none
further_onto : (old new : Option (List ℕ)) (front cells : List Cell) (place after : ℕ) → ReadsFurther after old new [] cells place → ReadsFurther after old new front (front ++ cells) place
further_onto old new front cells place after further = λ known.
    let is = further known in (
      is.0,
      λ n.
          let i = input_at place old in
          let all : (length (front ++ cells) - length front) + n ≡ (length cells - 0) + n = omega (arith, length-append front cells) in
          ap (λ (k : ℕ). cells_at front k i) all ∙ cells_from front ((length cells - 0) + n) i ∙ ap (onto front) (is.1 n) ∙ sym (cells_onto front cells n (input_at after new)),
    )

fails_onto : (e : CertFault) (front : List Cell) (r : Answer (List Cell)) → Fails e r → Fails e (onto front r)
fails_onto (fault.Form p) front r fails = ap (onto front) fails
fails_onto fault.Read front r fails = tt
fails_onto fault.Write front r fails = fails
fails_onto (fault.OutOfMemory error) front r fails = tt

-- the cells that were read are pushed onto the lowest ones
pub more_pushed : (old new : Option (List ℕ)) (below stack cells : List Cell) (place after count missing : ℕ) → ReadsMoreCells (Ok after) old new [] cells place missing
    → missing ≡ count - length below → length below ≤ count → stack ≡ cells_on cells below → ReadsMoreCells (Ok after) old new (reverse below) (reverse stack) place count
more_pushed old new below stack cells place after count missing reads missing_is few pushed =
    let front = reverse below in
    let long : length (front ++ cells) ≡ length below + length cells = omega (arith, length-append front cells, length-reverse below) in
    subst (λ (l : List Cell). ReadsMoreCells (Ok after) old new front l place count) (sym (stacked below stack cells pushed))
    (omega (arith, long, length-reverse below), omega (arith, long, reads.1, missing_is, few), further_onto old new front cells place after reads.2)

pub cells_pushed : (old new : Option (List ℕ)) (below stack cells : List Cell) (place after count missing : ℕ) → ReadsCells (Ok after) old new [] cells place missing
    → missing ≡ count - length below → length below ≤ count → stack ≡ cells_on cells below → ReadsCells (Ok after) old new (reverse below) (reverse stack) place count
cells_pushed old new below stack cells place after count missing reads missing_is few pushed =
    let more = more_pushed old new below stack cells place after count missing (omega (arith, reads.0), reads.1, reads.2) missing_is few pushed in
    let long : length (reverse stack) ≡ length (reverse below) + length cells = ap length (stacked below stack cells pushed) ∙ length-append (reverse below) cells in
    (omega (arith, long, reads.0), more.1, more.2)

-- how many cells are missing after the lowest ones
missing_in : (below : List Cell) (count missing : ℕ) → missing ≡ count - length below → missing - 0 ≡ count - length (reverse below)
missing_in below count missing missing_is = omega (arith, missing_is, length-reverse below)

-- one of the cells after the lowest ones is refused
pub missing_fails : (e : CertFault) (old : Option (List ℕ)) (below : List Cell) (place count missing : ℕ) → missing ≡ count - length below
    → (is_some old ≡ true → Fails e (cells_up_to [] missing (input_at place old))) → is_some old ≡ true → Fails e (cells_up_to (reverse below) count (input_at place old))
missing_fails e old below place count missing missing_is fails known =
    let front = reverse below in
    let i = input_at place old in
    subst (λ (r : Answer (List Cell)). Fails e r)
    (sym (cells_from front (missing - 0) i) ∙ ap (λ (k : ℕ). cells_at front k i) (missing_in below count missing missing_is))
    (fails_onto e front (cells_at [] (missing - 0) i) (fails known))

onto_stops : (e : CertFault) (mid new : Option (List ℕ)) (front : List Cell) (at n : ℕ) → StopsAtEnd at mid new (cells_at [] n) e → StopsAtEnd at mid new (cells_at front n) e
onto_stops (fault.Form p) mid new front at n stops = tt
onto_stops (fault.OutOfMemory error) mid new front at n stops = tt
onto_stops fault.Write mid new front at n stops = tt
onto_stops fault.Read mid new front at n stops = λ known.
    let s = stops known in
    record { front = s.front; consumed = s.consumed; refused = cells_from front n (input_at at (Some s.front)) ∙ ap (onto front) s.refused }

-- a read of the cells after the lowest ones failed
pub missing_stops : (e : CertFault) (old new : Option (List ℕ)) (below : List Cell) (place count missing : ℕ) → missing ≡ count - length below
    → StopsAtEnd place old new (cells_up_to [] missing) e → StopsAtEnd place old new (cells_up_to (reverse below) count) e
missing_stops e old new below place count missing missing_is stops =
    subst (λ (k : ℕ). StopsAtEnd place old new (cells_at (reverse below) k) e) (missing_in below count missing missing_is)
    (onto_stops e old new (reverse below) place (missing - 0) stops)

-- the stack stays
pub rest_kept : (text : StackText) (was now : State) → IsStackKept text was → now.stack ≡ was.stack → state_order.InRange now → IsStackKept text now
rest_kept text was now kept same range = record {
  cells = subst (λ (l : List Cell). IsStackText text (reverse l)) (sym same) kept.cells;
  in_range = range;
}

state_made : List Cell → Cells → List (ℕ × ℕ) → List (ℕ × ℤ) → State
state_made stack graphics functions storage = record { stack = stack; graphics = graphics; functions = functions; storage = storage }

-- a state is read part by part
pub state_steps : (form : Form) (i i1 i2 i3 i4 : Input) (stack : List Cell) (graphics : Cells) (functions : List (ℕ × ℕ)) (storage : List (ℕ × ℤ)) (s : State)
    → stack_at i ≡ Ok (reverse stack, i1) → graphics_at i1 ≡ Ok (graphics, i2) → functions_at i2 ≡ Ok (functions, i3) → storage_at form i3 ≡ Ok (storage, i4)
    → s ≡ record { stack = stack; graphics = graphics; functions = functions; storage = storage } → state_at form i ≡ Ok (s, i4)
unfolding state_at state_made
state_steps form i i1 i2 i3 i4 stack graphics functions storage s e1 e2 e3 e4 made =
    rw (e1, e2, e3, e4) (ap (λ (l : List Cell). Ok (state_made l graphics functions storage, i4)) (reverse-reverse stack) ∙ ap (λ (t : State). Ok (t, i4)) (sym made))
