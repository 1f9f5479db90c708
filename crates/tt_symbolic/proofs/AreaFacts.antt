-- What is listed after an entry was put, and what was taken.
use Rattle.std.proofs.Common.{◌≡◌, ◌≢◌, ℕ, zero, suc, ◌+◌, ◌<◌, ℤ, pos, List, [], ◌∷◌, Option, None, Some, Bool, true, false, nat_eq, nat_lt, if◌then◌else◌, refl, sym, ◌∙◌, ap, subst, arith, length, take, drop, get_or, negsuc, ◌≤ℤ◌}
use Rattle.std.proofs.lemmas.Bool.{eqb-true, eqb-false}
use Rattle.std.proofs.lemmas.List.{drop_more}
use Rattle.tt_code.specs.States.{IsNumber, is_number}
use Rattle.tt_code.specs.Changes.{natural, numbers, taken_at, updated, with_stored, all_updated}
use Rattle.tt_code.specs.declared.kinds.Update.{Update}
use Rattle.tt_code.specs.declared.kinds.Update.TheVariants as update
use Rattle.tt_setting.specs.Entries.{listed, with_entry, without_entry}
use Rattle.tt_setting.specs.EntryLaws.{listed-without}
use Rattle.std.specs.List.{All}
use Rattle.std.proofs.lemmas.List.Elements.{All-head, All-tail}
use Rattle.tt_symbolic_state.specs.declared.cell.Cell.{Cell}
use Rattle.tt_symbolic_state.specs.Values.{Fits, Valuation, value}
use Rattle.tt_symbolic_state.specs.declared.state.State.{State}
use Rattle.tt_symbolic_state.specs.Shows.{Shows, ShowsArea, values}
use Rattle.tt_symbolic.specs.Representation.Changing.{Changes, IsChanged, StoresAt, StoresBetween}
use Rattle.tt_symbolic.specs.Representation.Areas.{Forgets, IsOutside, IsPartOf}
use Rattle.tt_code.specs.States.{Machine}
use Rattle.std.proofs.lemmas.Int.{ints}
use Rattle.tt_symbolic_state.specs.declared.cell.Range.{Range}
use Rattle.tt_symbolic_cells.proofs.Computings.{number_from}

pub eq_same : (n : ℕ) → nat_eq n n ≡ true
eq_same n = go (nat_eq n n) refl
  where
    go : (b : Bool) → nat_eq n n ≡ b → b ≡ true
    go true e = refl
    go false e = absurd (eqb-false n n e refl)

pub eq_other : (m n : ℕ) → m ≢ n → nat_eq m n ≡ false
eq_other m n h = go (nat_eq m n) refl
  where
    go : (b : Bool) → nat_eq m n ≡ b → b ≡ false
    go true e = absurd (h (eqb-true m n e))
    go false e = refl

pub listed_here : {V : Type 0} (n : ℕ) (x : V) (es : List (ℕ × V)) → listed (with_entry n x es) n ≡ Some x
listed_here n x [] = rw (eq_same n) refl
listed_here {V} n x (e ∷ es) = go (nat_lt n e.0) refl (nat_eq n e.0) refl (listed_here n x es)
  where
    go : (b : Bool) → nat_lt n e.0 ≡ b → (d : Bool) → nat_eq n e.0 ≡ d → listed (with_entry n x es) n ≡ Some x
        → listed (if b then (n, x) ∷ e ∷ es else if d then (n, x) ∷ es else e ∷ with_entry n x es) n ≡ Some x
    go true f d g h = rw (eq_same n) refl
    go false f true g h = rw (eq_same n) refl
    go false f false g h = rw (eq_other e.0 n (λ q. eqb-false n e.0 g (sym q))) h

pub listed_there : {V : Type 0} (n : ℕ) (x : V) (es : List (ℕ × V)) (k : ℕ) → k ≢ n → listed (with_entry n x es) k ≡ listed es k
listed_there n x [] k h = rw (eq_other n k (λ q. h (sym q))) refl
listed_there {V} n x (e ∷ es) k h = go (nat_lt n e.0) refl (nat_eq n e.0) refl (listed_there n x es k h)
  where
    skips : nat_eq n k ≡ false
    skips = eq_other n k (λ q. h (sym q))

    go : (b : Bool) → nat_lt n e.0 ≡ b → (d : Bool) → nat_eq n e.0 ≡ d → listed (with_entry n x es) k ≡ listed es k
        → listed (if b then (n, x) ∷ e ∷ es else if d then (n, x) ∷ es else e ∷ with_entry n x es) k ≡ listed (e ∷ es) k
    go true f d g w = rw skips refl
    go false f true g w = let same : n ≡ e.0 = eqb-true n e.0 g in rw (skips, ← same, skips) refl
    go false f false g w = ap (λ (o : Option V). if nat_eq e.0 k then Some e.1 else o) w

if_false : {A : Type 0} (b : Bool) (x y : A) → b ≡ false → (if b then x else y) ≡ y
if_false true x y h = absurd (cc)
if_false false x y h = refl

pub stored_is : (i : ℕ) (z : ℤ) (area : ℕ → ℤ) → with_stored i z area i ≡ z
stored_is i z area = rw (eq_same i) refl

pub stored_other : (i : ℕ) (z : ℤ) (area : ℕ → ℤ) (k : ℕ) → k ≢ i → with_stored i z area k ≡ area k
stored_other i z area k h = if_false (nat_eq i k) z (area k) (eq_other i k (λ q. h (sym q)))

pub split_at : (k i : ℕ) {P : Type 0} → (k ≡ i → P) → (k ≢ i → P) → P
split_at k i {P} f g = go (nat_eq k i) refl
  where
    go : (b : Bool) → nat_eq k i ≡ b → P
    go true e = f (eqb-true k i e)
    go false e = g (eqb-false k i e)

pub area_put : (v : Valuation) (es new : List (ℕ × Cell)) (area area' : ℕ → ℤ) (i : ℕ) (cell : Cell) (z : ℤ) → new ≡ with_entry i cell es → z ≡ value v cell → IsNumber z
    → ((k : ℕ) → area' k ≡ with_stored i z area k) → ShowsArea v es area → ShowsArea v new area'
area_put v es new area area' i cell z is e number after h = record {
  listed_is = λ k c at. split_at k i
      (λ q. let found : Some cell ≡ Some c = sym (listed_here i cell es) ∙ ap (λ n. listed (with_entry i cell es) n) (sym q) ∙ ap (λ l. listed l k) (sym is) ∙ at in
      let same : cell ≡ c = cc in after k ∙ ap (with_stored i z area) q ∙ stored_is i z area ∙ e ∙ ap (value v) same)
      (λ q. after k ∙ stored_other i z area k q ∙ h.listed_is k c (sym (listed_there i cell es k q) ∙ ap (λ l. listed l k) (sym is) ∙ at));
  are_numbers = λ k. subst IsNumber (sym (after k)) (split_at k i (λ q. subst IsNumber (sym (ap (with_stored i z area) q ∙ stored_is i z area)) number) (λ q. subst IsNumber (sym (stored_other i z area k q)) (h.are_numbers k)));
}

pub taken_is : (S : List ℤ) (count place : ℕ) (z d : ℤ) (rest : List ℤ) → drop place S ≡ z ∷ rest → place < count → taken_at d (take count S) place ≡ z
taken_is [] count zero z d rest e h = absurd (cc)
taken_is [] count (suc place) z d rest e h = absurd (cc)
taken_is (y ∷ S) zero place z d rest e h = absurd (omega arith)
taken_is (y ∷ S) (suc count) zero z d rest e h = cc
taken_is (y ∷ S) (suc count) (suc place) z d rest e h = taken_is S count place z d rest e (omega arith)

store_changes : (old new : State) (count at position : ℕ) → new ≡ record old { storage = new.storage }
    → ((v : Valuation) (m : Machine) → Fits old.ranges.items v → ShowsArea v old.storage m.registers.storage
    → ShowsArea v new.storage (with_stored (natural (taken_at (pos 1) (take count (values v old.stack)) at)) (taken_at (pos 1) (take count (values v old.stack)) position) m.registers.storage))
    → Changes count (update.Store at position) old new
store_changes old new count at position same area = record {
  stack = ap (λ (a : State). a.stack) same;
  stays = ap (λ (a : State). a.offset) same;
  ranges = ap (λ (a : State). a.ranges.items) same;
  shows = λ v m controls fits h.
      let S : State → Type 0 = λ a. ShowsArea v a.storage (with_stored (natural (taken_at (pos 1) (take count (values v old.stack)) at)) (taken_at (pos 1) (take count (values v old.stack)) position) m.registers.storage)
      → Shows v a (record m { registers = updated numbers (take count (values v old.stack)) (update.Store at position) m.registers }) controls in
      subst S (sym same) (λ w. record { calls = h.calls; stack = h.stack; graphics = h.graphics; storage = w; controls_are = h.controls_are; functions = h.functions }) (area v m fits h.storage);
}

pub stores : (old new : State) (count : ℕ) (at position i : ℕ) (place cell : Cell) → StoresAt i cell old new
    → ((v : Valuation) → taken_at (pos 1) (take count (values v old.stack)) at ≡ value v place) → ((v : Valuation) → Fits old.ranges.items v → value v place ≡ pos i)
    → ((v : Valuation) → taken_at (pos 1) (take count (values v old.stack)) position ≡ value v cell) → ((v : Valuation) → Fits old.ranges.items v → is_number (value v cell) ≡ true)
    → Changes count (update.Store at position) old new
stores old new count at position i place cell h p index c number = store_changes old new count at position h.same
    (λ v m fits s. area_put v old.storage new.storage m.registers.storage _ i cell (value v cell) h.put refl (number_from (value v cell) (number v fits)) (λ k. rw (p v, c v, index v fits) refl) s)

-- entries that are no longer listed where the area changed
pub area_forgets : (v : Valuation) (es new : List (ℕ × Cell)) (area area' : ℕ → ℤ) → IsPartOf new es → ((k : ℕ) (c : Cell) → listed new k ≡ Some c → area' k ≡ area k) → ((k : ℕ) → IsNumber (area' k)) → ShowsArea v es area → ShowsArea v new area'
area_forgets v es new area area' part same numbers h = record {
  listed_is = λ k c at. same k c at ∙ h.listed_is k c (part.was_listed k c at);
  are_numbers = numbers;
}

between_natural : (low high z : ℤ) → (pos 0 ≤ℤ z) × (low ≤ℤ z) × (z ≤ℤ high) → (low ≤ℤ pos (natural z)) × (pos (natural z) ≤ℤ high)
between_natural low high (pos n) h = (h.1, h.2)
between_natural low high (negsuc n) h = absurd (omega (arith, ints))

pub not_between : (low high z : ℤ) (k : ℕ) → (pos 0 ≤ℤ z) × (low ≤ℤ z) × (z ≤ℤ high) → IsOutside low high k → k ≡ natural z → ⊥
not_between low high z k h out e =
    let b = between_natural low high z h in
    out (subst (λ (n : ℕ). low ≤ℤ pos n) (sym e) b.0) (subst (λ (n : ℕ). pos n ≤ℤ high) (sym e) b.1)

pub stored_numbers : (i : ℕ) (z : ℤ) (area : ℕ → ℤ) → IsNumber z → ((k : ℕ) → IsNumber (area k)) → (k : ℕ) → IsNumber (with_stored i z area k)
stored_numbers i z area n h k = split_at k i (λ q. subst IsNumber (sym (ap (with_stored i z area) q ∙ stored_is i z area)) n) (λ q. subst IsNumber (sym (stored_other i z area k q)) (h k))

pub area_between : (v : Valuation) (es new : List (ℕ × Cell)) (area : ℕ → ℤ) (low high place z : ℤ) → Forgets low high es new → (pos 0 ≤ℤ place) × (low ≤ℤ place) × (place ≤ℤ high) → IsNumber z → ShowsArea v es area → ShowsArea v new (with_stored (natural place) z area)
area_between v es new area low high place z f within n h = area_forgets v es new area _ f.part
    (λ k c at. stored_other (natural place) z area k (not_between low high place k within (f.outside k c at))) (stored_numbers (natural place) z area n h.are_numbers) h

pub stores_between : (old new : State) (count : ℕ) (at position : ℕ) (low high : ℤ) (place cell : Cell) → StoresBetween low high old new
    → ((v : Valuation) → taken_at (pos 1) (take count (values v old.stack)) at ≡ value v place) → ((v : Valuation) → Fits old.ranges.items v → (pos 0 ≤ℤ value v place) × (low ≤ℤ value v place) × (value v place ≤ℤ high))
    → ((v : Valuation) → taken_at (pos 1) (take count (values v old.stack)) position ≡ value v cell) → ((v : Valuation) → Fits old.ranges.items v → is_number (value v cell) ≡ true)
    → Changes count (update.Store at position) old new
stores_between old new count at position low high place cell h p index c number = store_changes old new count at position h.same
    (λ v m fits s. rw (p v, c v) (area_between v old.storage new.storage m.registers.storage low high (value v place) (value v cell) h.forgets (index v fits) (number_from (value v cell) (number v fits)) s))

-- one more change was made
pub changed_more : (count i : ℕ) (changes : List Update) (d : Update) (old middle new : State) → i < length changes → IsChanged count changes (drop i changes) old middle → Changes count (get_or changes i d) middle new
    → IsChanged count changes (drop (i + 1) changes) old new
changed_more count i changes d old middle new lt h c = record {
  stack = c.stack ∙ h.stack;
  stays = c.stays ∙ h.stays;
  ranges = c.ranges ∙ h.ranges;
  shows = λ v m controls fits s.
      let (x, is, there) = h.shows v m controls fits s in
      let fits' = subst (λ (a : List Range). Fits a v) (sym h.ranges) fits in
      let next = c.shows v (record m { registers = x }) controls fits' there in
      let taken = ap (λ (l : List Cell). take count (values v l)) h.stack in
      let more : drop i changes ≡ get_or changes i d ∷ drop (i + 1) changes = drop_more changes i d lt in (
        updated numbers (take count (values v old.stack)) (get_or changes i d) x,
        is ∙ ap (λ (l : List Update). all_updated numbers (take count (values v old.stack)) l x) more,
        subst (λ (t : List ℤ). Shows v new (record m { registers = updated numbers t (get_or changes i d) x }) controls) taken next,
      );
}

-- the ranges that a function was passed
pub fits_there : (there ranges : List Range) (v : Valuation) → there ≡ ranges → Fits ranges v → Fits there v
fits_there there ranges v e fits = subst (λ (a : List Range). Fits a v) (sym e) fits

-- Entries that were removed.

pub part_same : (es : List (ℕ × Cell)) → IsPartOf es es
part_same es = record { was_listed = λ i c at. at }

pub part_more : (one two three : List (ℕ × Cell)) → IsPartOf two one → IsPartOf three two → IsPartOf three one
part_more one two three h k = record { was_listed = λ i c at. h.was_listed i c (k.was_listed i c at) }

pub part_without : (n : ℕ) (es new : List (ℕ × Cell)) → new ≡ without_entry n es → IsPartOf new es
part_without n es new e = record { was_listed = λ i c at. go i c (sym (listed-without n es i) ∙ ap (λ l. listed l i) (sym e) ∙ at) }
  where
    go : (i : ℕ) (c : Cell) → (if nat_eq n i then None else listed es i) ≡ Some c → listed es i ≡ Some c
    go i c h = pick (nat_eq n i) h
      where
        pick : (b : Bool) → (if b then None else listed es i) ≡ Some c → listed es i ≡ Some c
        pick true h = absurd (cc)
        pick false h = h

found : {V : Type 0} (P : ℕ × V → Type 0) (es : List (ℕ × V)) → All P es → (i : ℕ) (x : V) → listed es i ≡ Some x → P (i, x)
found P [] all i x e = absurd (cc)
found {V} P (y ∷ es) all i x e = go (nat_eq y.0 i) refl e (found P es (All-tail P y es all) i x)
  where
    go : (b : Bool) → nat_eq y.0 i ≡ b → (if b then Some y.1 else listed es i) ≡ Some x → (listed es i ≡ Some x → P (i, x)) → P (i, x)
    go true f h k = let one : y.0 ≡ i = eqb-true y.0 i f in let two : y.1 ≡ x = cc in
        subst P (λ j. (one j, two j)) (All-head P y es all)
    go false f h k = k h

pub forgets_by : (low high : ℤ) (old new there : List (ℕ × Cell)) → there ≡ new → IsPartOf new old → All (λ (e : ℕ × Cell). IsOutside low high e.0) there → Forgets low high old new
forgets_by low high old new there e part all = record { part = part; outside = λ i c at. found (λ (e : ℕ × Cell). IsOutside low high e.0) there all i c (ap (λ l. listed l i) e ∙ at) }
