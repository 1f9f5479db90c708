-- Cells of which those on top are kept as codes, the bottom first.
use Rattle.std.specs.Prelude.{reverse, remove}
use Rattle.std.proofs.Common.{◌≡◌, ◌≢◌, ℕ, zero, suc, ◌+◌, ◌-◌, ◌<◌, ◌≤◌, List, [], ◌∷◌, ◌++◌, get_or, refl, sym, ◌∙◌, ap, subst, arith, inl, inr, length, take, drop, set, length-append, append_assoc, get_or-drop, take-add}
use Rattle.std.specs.List.{refill}
use Rattle.std.proofs.Math.ListN.{length-take}
use Rattle.std.proofs.Math.Seq.{drop-append_seam, take-append-add, take-append_seam}
use Rattle.std.proofs.lemmas.Bool.{cases_lt}
use Rattle.std.proofs.lemmas.List.{append-nil, drop-map, drop_more, ext_get_or, length-drop, get_or-append_right, get_or-map, get_or-set_other, get_or-set_same, get_or-take, length-map, length-reverse, length-set, map-append, map-set, reverse-append, reverse-reverse, set-append_right, take-append-le, take-map, take_all}
use Rattle.std.proofs.lemmas.List.Edits.{remove-append_left, remove-append_right}
use Rattle.tt_abs.specs.declared.cells.Cell.{Cell}
use Rattle.tt_abs.specs.declared.cells.Cell.TheVariants.{Unknown}
use Rattle.tt_abs.specs.Representation.Codes.{cell_of_code, cells_of, kept_cells}
use Rattle.tt_abs.specs.Transfers.{cells_on}
use Rattle.tt_abs.specs.CellOrders.{CellInRange}
use Rattle.tt_abs.specs.Stacks.{cell_at, IsLeastCell, ShareBottom, StackInRange}
use Rattle.tt_setting.proofs.Reversed.{cut_is, removed_is}
use Rattle.tt_abs.proofs.StackOrders.{refilled}

pub kept_length : (wide : List Cell) (codes : List ℕ) → length (kept_cells wide codes) ≡ length wide + length codes
kept_length wide codes = length-append wide (cells_of codes) ∙ ap (λ n. length wide + n) (length-map codes cell_of_code)

-- all but the last so many of two lists, one after the other
taken_parts : (xs ys : List Cell) (n : ℕ) → take (length xs - (n - length ys)) xs ++ take (length ys - n) ys ≡ take (length xs + length ys - n) (xs ++ ys)
taken_parts xs ys n = elim (cases_lt (length ys) n) [
  | inr le ↦
      let whole : length xs - (n - length ys) ≡ length xs = omega arith in
      let more : length xs + length ys - n ≡ length xs + (length ys - n) = omega arith in
      ap (λ m. take m xs ++ take (length ys - n) ys) whole
      ∙ ap (λ x. x ++ take (length ys - n) ys) (take_all (length xs) xs (omega arith))
      ∙ sym (take-append-add xs ys (length ys - n))
      ∙ ap (λ m. take m (xs ++ ys)) (sym more)
  | inl gt ↦
      let none : length ys - n ≡ 0 = omega arith in
      let less : length xs + length ys - n ≡ length xs - (n - length ys) = omega arith in
      ap (λ m. take (length xs - (n - length ys)) xs ++ take m ys) none
      ∙ append-nil (take (length xs - (n - length ys)) xs)
      ∙ sym (take-append-le (length xs - (n - length ys)) xs ys (omega arith))
      ∙ ap (λ m. take m (xs ++ ys)) (sym less)
]

pub cut_kept : (wide : List Cell) (codes : List ℕ) (stack : List Cell) (n : ℕ) → reverse (kept_cells wide codes) ≡ stack
    → reverse (kept_cells (take (length wide - (n - length codes)) wide) (take (length codes - n) codes)) ≡ drop n stack
cut_kept wide codes stack n e =
    let cells : length (cells_of codes) ≡ length codes = length-map codes cell_of_code in
    ap (λ x. reverse (take (length wide - (n - length codes)) wide ++ x)) (sym (take-map cell_of_code (length codes - n) codes))
    ∙ ap (λ m. reverse (take (length wide - (n - m)) wide ++ take (m - n) (cells_of codes))) (sym cells)
    ∙ ap reverse (taken_parts wide (cells_of codes) n)
    ∙ cut_is (kept_cells wide codes) stack (length wide + length (cells_of codes) - n) n e (ap (λ m. m - n) (sym (length-append wide (cells_of codes))))

removed_cells : (codes : List ℕ) (k : ℕ) → cells_of (remove codes k) ≡ remove (cells_of codes) k
removed_cells codes k =
    map-append cell_of_code (take k codes) (drop (suc k) codes)
    ∙ ap (λ x. x ++ cells_of (drop (suc k) codes)) (sym (take-map cell_of_code k codes))
    ∙ ap (λ x. take k (cells_of codes) ++ x) (sym (drop-map cell_of_code (suc k) codes))

pub removed_code : (wide : List Cell) (codes : List ℕ) (stack : List Cell) (place : ℕ) → reverse (kept_cells wide codes) ≡ stack
    → place < length codes → reverse (kept_cells wide (remove codes (length codes - 1 - place))) ≡ remove stack place
removed_code wide codes stack place e h =
    let k = length wide + (length codes - 1 - place) in
    let here : k - length wide ≡ length codes - 1 - place = omega arith in
    let long = kept_length wide codes in
    ap (λ x. reverse (wide ++ x)) (removed_cells codes (length codes - 1 - place))
    ∙ ap (λ m. reverse (wide ++ remove (cells_of codes) m)) (sym here)
    ∙ ap reverse (sym (remove-append_right wide (cells_of codes) (length wide) k refl (omega arith)))
    ∙ removed_is (kept_cells wide codes) stack k place e (omega (arith, long)) (omega (arith, long))

pub removed_wide : (wide : List Cell) (codes : List ℕ) (stack : List Cell) (place : ℕ) → reverse (kept_cells wide codes) ≡ stack
    → length codes ≤ place → place < length wide + length codes
    → reverse (kept_cells (remove wide (length wide + length codes - 1 - place)) codes) ≡ remove stack place
removed_wide wide codes stack place e g h =
    let k = length wide + length codes - 1 - place in
    let long = kept_length wide codes in
    ap reverse (sym (remove-append_left wide (cells_of codes) k (omega arith)))
    ∙ removed_is (kept_cells wide codes) stack k place e (omega (arith, long)) (omega (arith, long))

-- no cell is wide
pub coded_alone : (wide : List Cell) (codes : List ℕ) (stack : List Cell) → length wide ≡ 0 → reverse (kept_cells wide codes) ≡ stack → reverse (cells_of codes) ≡ stack
coded_alone [] codes stack h e = e
coded_alone (c ∷ wide) codes stack h e = absurd (omega (arith, h))

pub alone_coded : (P : List Cell → Type 0) (wide : List Cell) (codes : List ℕ) → length wide ≡ 0 → P (reverse (cells_of codes)) → P (reverse (kept_cells wide codes))
alone_coded P [] codes h p = p
alone_coded P (c ∷ wide) codes h p = absurd (omega (arith, h))

pub coded_length : (codes : List ℕ) (stack : List Cell) → reverse (cells_of codes) ≡ stack → length codes ≡ length stack
coded_length codes stack e = sym (length-map codes cell_of_code) ∙ sym (length-reverse (cells_of codes)) ∙ ap length e

-- the same cells in the other direction
pub upright : (wide : List Cell) (codes : List ℕ) (stack : List Cell) → reverse (kept_cells wide codes) ≡ stack → kept_cells wide codes ≡ reverse stack
upright wide codes stack e = sym (reverse-reverse (kept_cells wide codes)) ∙ ap reverse e

-- a code is written
written : (wide : List Cell) (codes : List ℕ) (place code : ℕ) → length wide ≤ place
    → kept_cells wide (set codes (place - length wide) code) ≡ set (kept_cells wide codes) place (cell_of_code code)
written wide codes place code h =
    ap (λ x. wide ++ x) (map-set cell_of_code codes (place - length wide) code)
    ∙ sym (set-append_right wide (cells_of codes) (length wide) place (cell_of_code code) refl h)

written_cell : (wide : List Cell) (codes : List ℕ) (stack : List Cell) (place code k : ℕ) → reverse (kept_cells wide codes) ≡ stack → length wide ≤ place
    → cell_at (reverse (reverse (kept_cells wide (set codes (place - length wide) code)))) k ≡ cell_at (set (reverse stack) place (cell_of_code code)) k
written_cell wide codes stack place code k e h =
    ap (λ x. cell_at x k) (reverse-reverse (kept_cells wide (set codes (place - length wide) code)) ∙ written wide codes place code h)
    ∙ ap (λ x. cell_at (set x place (cell_of_code code)) k) (upright wide codes stack e)

pub written_other : (wide : List Cell) (codes : List ℕ) (stack : List Cell) (place code k : ℕ) → reverse (kept_cells wide codes) ≡ stack → length wide ≤ place
    → k ≢ place → cell_at (reverse (reverse (kept_cells wide (set codes (place - length wide) code)))) k ≡ cell_at (reverse stack) k
written_other wide codes stack place code k e h ne =
    written_cell wide codes stack place code k e h ∙ get_or-set_other (reverse stack) place k (cell_of_code code) Unknown ne

pub written_joined : (wide : List Cell) (codes : List ℕ) (stack : List Cell) (place code : ℕ) (other : Cell) → reverse (kept_cells wide codes) ≡ stack → length wide ≤ place
    → place < length wide + length codes → IsLeastCell (cell_of_code (get_or codes (place - length wide) 0)) other (cell_of_code code)
    → IsLeastCell (cell_at (reverse stack) place) other (cell_at (reverse (reverse (kept_cells wide (set codes (place - length wide) code)))) place)
written_joined wide codes stack place code other e h lt least =
    let long = kept_length wide codes in
    let turned : length (reverse stack) ≡ length wide + length codes = ap length (sym (upright wide codes stack e)) ∙ long in
    let mine : cell_of_code (get_or codes (place - length wide) 0) ≡ cell_at (reverse stack) place =
    sym (get_or-map cell_of_code codes (place - length wide) 0 Unknown (omega arith))
    ∙ sym (get_or-append_right wide (cells_of codes) (length wide) place Unknown refl h)
    ∙ ap (λ x. cell_at x place) (upright wide codes stack e) in
    let new : cell_of_code code ≡ cell_at (reverse (reverse (kept_cells wide (set codes (place - length wide) code)))) place =
    sym (written_cell wide codes stack place code place e h ∙ get_or-set_same (reverse stack) place (cell_of_code code) Unknown (omega arith)) in
    let P : Cell → Type 0 = λ x. IsLeastCell x other (cell_of_code code) in
    let Q : Cell → Type 0 = λ x. IsLeastCell (cell_at (reverse stack) place) other x in
    subst Q new (subst P mine least)

-- codes of which one is written, as they are written back
pub written_back : (codes slice : List ℕ) (n m place code : ℕ) → slice ≡ codes → n ≡ m
    → refill (length codes) codes (set slice (place - n) code) ≡ set codes (place - m) code
written_back codes slice n m place code e f =
    refilled codes (set slice (place - n) code) (length-set slice (place - n) code ∙ ap length e)
    ∙ ap (λ x. set x (place - n) code) e
    ∙ ap (λ x. set codes (place - x) code) f

-- cells after others lie on them, in the other direction
pub cells_on_reversed : (cs ds : List Cell) → reverse (cs ++ ds) ≡ cells_on ds (reverse cs)
cells_on_reversed cs [] = ap reverse (append-nil cs)
cells_on_reversed cs (d ∷ ds) =
    ap reverse (sym (append_assoc cs (d ∷ []) ds)) ∙ cells_on_reversed (cs ++ d ∷ []) ds ∙ ap (cells_on ds) (reverse-append cs (d ∷ []))

pub pushed_codes : (wide : List Cell) (old new : List ℕ) (stack ds : List Cell) → reverse (kept_cells wide old) ≡ stack
    → cells_of new ≡ cells_of old ++ ds → reverse (kept_cells wide new) ≡ cells_on ds stack
pushed_codes wide old new stack ds e f =
    ap (λ x. reverse (wide ++ x)) f
    ∙ ap reverse (sym (append_assoc wide (cells_of old) ds))
    ∙ cells_on_reversed (kept_cells wide old) ds
    ∙ ap (cells_on ds) e

-- some cells, and then the others
pub on_in_parts : (n : ℕ) (cells stack : List Cell) → cells_on (drop n cells) (cells_on (take n cells) stack) ≡ cells_on cells stack
on_in_parts zero cells stack = refl
on_in_parts (suc n) [] stack = refl
on_in_parts (suc n) (c ∷ cells) stack = on_in_parts n cells (c ∷ stack)

-- the others, as a slice has them
pub rest_on : (n : ℕ) (cells old new : List Cell) → new ≡ cells_on (take n cells) old → cells_on (take (length cells - n) (drop n cells)) new ≡ cells_on cells old
rest_on n cells old new e =
    let long = length-drop n cells in
    ap (λ (l : List Cell). cells_on l new) (take_all (length cells - n) (drop n cells) (omega (arith, long)))
    ∙ ap (λ (l : List Cell). cells_on (drop n cells) l) e
    ∙ on_in_parts n cells old

-- the next one
pub one_on : (rest : List Cell) (i : ℕ) (d : Cell) (now new : List Cell) → i < length rest → new ≡ get_or rest i d ∷ now
    → cells_on (drop (i + 1) rest) new ≡ cells_on (drop i rest) now
one_on rest i d now new lt e =
    ap (λ (l : List Cell). cells_on (drop (i + 1) rest) l) e ∙ sym (ap (λ (l : List Cell). cells_on l now) (drop_more rest i d lt))

-- cells in range on others
pub one_in_range : (c : Cell) (stack : List Cell) → CellInRange c → StackInRange stack → StackInRange (c ∷ stack)
one_in_range c stack h below zero = h
one_in_range c stack h below (suc k) = below k

pub taken_in_range : (n : ℕ) (cells stack : List Cell) → ((k : ℕ) → k < n → CellInRange (cell_at cells k)) → StackInRange stack
    → StackInRange (cells_on (take n cells) stack)
taken_in_range zero cells stack h below = below
taken_in_range (suc n) [] stack h below = below
taken_in_range (suc n) (c ∷ cells) stack h below =
    taken_in_range n cells (c ∷ stack) (λ k lt. h (suc k) (omega arith)) (one_in_range c stack (h zero (omega arith)) below)

-- so many of the lowest cells: the wide ones, and those of the first codes
lowest_parts : (wide : List Cell) (codes : List ℕ) (stack : List Cell) (count n : ℕ) → reverse (kept_cells wide codes) ≡ stack
    → count ≡ length wide + n → take count (reverse stack) ≡ wide ++ take n (cells_of codes)
lowest_parts wide codes stack count n e sum =
    ap (λ m. take m (reverse stack)) sum
    ∙ ap (take (length wide + n)) (sym (upright wide codes stack e))
    ∙ take-append-add wide (cells_of codes) n

pub lowest_from_parts : (wide theirs : List Cell) (codes other_codes : List ℕ) (stack other : List Cell) (count n : ℕ)
    → reverse (kept_cells wide codes) ≡ stack → reverse (kept_cells theirs other_codes) ≡ other → count ≡ length wide + n
    → wide ≡ theirs → take n (cells_of codes) ≡ take n (cells_of other_codes) → take count (reverse stack) ≡ take count (reverse other)
lowest_from_parts wide theirs codes other_codes stack other count n e f sum same front =
    let there : count ≡ length theirs + n = sum ∙ ap (λ (l : List Cell). length l + n) same in
    lowest_parts wide codes stack count n e sum
    ∙ ap (λ (l : List Cell). l ++ take n (cells_of codes)) same
    ∙ ap (λ (l : List Cell). theirs ++ l) front
    ∙ sym (lowest_parts theirs other_codes other count n f there)

pub parts_from_lowest : (wide theirs : List Cell) (codes other_codes : List ℕ) (stack other : List Cell) (count n : ℕ)
    → reverse (kept_cells wide codes) ≡ stack → reverse (kept_cells theirs other_codes) ≡ other → length wide ≡ length theirs → count ≡ length wide + n
    → take count (reverse stack) ≡ take count (reverse other) → (wide ≡ theirs) × (take n (cells_of codes) ≡ take n (cells_of other_codes))
parts_from_lowest wide theirs codes other_codes stack other count n e f long sum same =
    let mine = take n (cells_of codes) in
    let others = take n (cells_of other_codes) in
    let there : count ≡ length theirs + n = sum ∙ ap (λ m. m + n) long in
    let parts : wide ++ mine ≡ theirs ++ others =
    sym (lowest_parts wide codes stack count n e sum) ∙ same ∙ lowest_parts theirs other_codes other count n f there in (
      sym (take-append_seam wide mine) ∙ ap (take (length wide)) parts ∙ ap (λ m. take m (theirs ++ others)) long ∙ take-append_seam theirs others,
      sym (drop-append_seam wide mine) ∙ ap (drop (length wide)) parts ∙ ap (λ m. drop m (theirs ++ others)) long ∙ drop-append_seam theirs others,
    )

-- cells that are the same place by place, so many of them
pub lowest_from_places : (a b : List Cell) (n : ℕ) → n ≤ length a → n ≤ length b → ((k : ℕ) → k < n → cell_at (reverse a) k ≡ cell_at (reverse b) k)
    → take n (reverse a) ≡ take n (reverse b)
lowest_from_places a b n enough enough_there each =
    ext_get_or Unknown (take n (reverse a)) (take n (reverse b)) (long a enough ∙ sym (long b enough_there))
    (λ k h.
    let lt : k < n = omega (arith, long a enough) in
    get_or-take n (reverse a) k Unknown lt ∙ each k lt ∙ sym (get_or-take n (reverse b) k Unknown lt))
  where
    long : (l : List Cell) → n ≤ length l → length (take n (reverse l)) ≡ n
    long l h = length-take n (reverse l) ∙ omega (arith, length-reverse l)

-- all of the lowest cells are all cells
pub all_lowest : (a b : List Cell) (n : ℕ) → n ≡ length a → n ≡ length b → take n (reverse a) ≡ take n (reverse b) → a ≡ b
all_lowest a b n long long_there e =
    sym (reverse-reverse a) ∙ ap reverse (sym (whole a long) ∙ e ∙ whole b long_there) ∙ reverse-reverse b
  where
    whole : (l : List Cell) → n ≡ length l → take n (reverse l) ≡ reverse l
    whole l h = take_all n (reverse l) (omega (arith, length-reverse l))

pub share_all : (a b : List Cell) (n : ℕ) → n ≡ length a → a ≡ b → ShareBottom a b n
share_all a b n long same = record {
  enough = omega (arith, long);
  enough_there = omega (arith, long, ap length same);
  same = ap (λ (l : List Cell). take n (reverse l)) same;
}

-- one more block of codes
pub more_codes : (old now new block : List ℕ) (cells rest : List Cell) (done count : ℕ) → new ≡ now ++ block → cells_of now ≡ cells_of old ++ take done cells
    → cells_of block ≡ take count rest → rest ≡ drop done cells → cells_of new ≡ cells_of old ++ take (done + count) cells
more_codes old now new block cells rest done count new_is before one rest_is =
    ap cells_of new_is ∙ map-append cell_of_code now block ∙ ap (λ (l : List Cell). l ++ cells_of block) before
    ∙ ap (λ (l : List Cell). (cells_of old ++ take done cells) ++ l) (one ∙ ap (take count) rest_is) ∙ append_assoc (cells_of old) (take done cells) (take count (drop done cells))
    ∙ ap (λ (l : List Cell). cells_of old ++ l) (sym (take-add done count cells))

pub more_in_range : (cells rest : List Cell) (done count : ℕ) → ((k : ℕ) → k < done → CellInRange (cell_at cells k)) → ((k : ℕ) → k < count → CellInRange (cell_at rest k))
    → rest ≡ drop done cells → (k : ℕ) → k < done + count → CellInRange (cell_at cells k)
more_in_range cells rest done count before more rest_is k lt = elim (cases_lt k done) [
  | inl less ↦ before k less
  | inr past ↦
      let there : k ≡ done + (k - done) = omega arith in
      let same : cell_at rest (k - done) ≡ cell_at cells k = ap (λ (l : List Cell). cell_at l (k - done)) rest_is ∙ rw get_or-drop (ap (cell_at cells) (sym there)) in
      subst CellInRange same (more (k - done) (omega (arith, lt)))
]

-- all that come after some
pub all_after : (cells : List Cell) (done : ℕ) → take (length cells - done) (drop done cells) ≡ drop done cells
all_after cells done = take_all (length cells - done) (drop done cells) (omega (arith, length-drop done cells))
