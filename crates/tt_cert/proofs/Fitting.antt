-- What was written of a family keeps the rules of a section.
use Rattle.std.proofs.Common.{◌≡◌, ℕ, zero, suc, ◌+◌, ◌^◌, ◌<◌, ◌≤◌, Bool, true, false, take_all, List, [], ◌∷◌, ◌++◌, length, take, reverse, Option, Some, Result, Ok, Err, refl, sym, ap, subst, ◌∙◌, append_assoc, append-nil, arith, inl, inr}
use Rattle.std.specs.Prelude.{OnOk, nat_eq, nat_le, nat_lt, option_map, ◌&&◌, slice_get}
use Rattle.std.specs.List.{AllByRecursion}
use Rattle.std.specs.List.Sorted.{IsStrictlySortedBy}
use Rattle.std.specs.Map.{keys_of}
use Rattle.std.specs.Ordering.{is_lt}
use Rattle.std.specs.Option.{option_map_or}
use Rattle.std.specs.declared.cmp.Ordering.TheVariants.{Less}
use Rattle.std.proofs.lemmas.Bool.{cases_lt, le-leb, lt-ltb, or_parts}
use Rattle.std.proofs.lemmas.List.{length-reverse, length-take-le}
use Rattle.std.proofs.lemmas.Option.{slice_get_within}
use Rattle.std.proofs.Math.ListN.{get_or-append}
use Rattle.std.proofs.Math.Seq.{get_or-append_seam}
use Rattle.tt_code.specs.declared.machine.Frame.{Frame}
use Rattle.tt_abs.specs.Cells.{Cells}
use Rattle.tt_abs.specs.CellOrders.{CellInRange}
use Rattle.tt_abs.specs.Contexts.{FramesFit}
use Rattle.tt_abs.specs.Covers.{has_body_twice}
use Rattle.tt_setting.specs.Entries.{Ascends}
use Rattle.tt_abs.specs.GraphicsOrders.{graphics_order}
use Rattle.tt_abs.specs.Stacks.{StackInRange}
use Rattle.tt_abs.specs.States.{state_order}
use Rattle.tt_abs.specs.Transfers.{is_running}
use Rattle.tt_abs.specs.declared.cells.Cell.{Cell}
use Rattle.tt_abs.specs.declared.cells.Cell.TheVariants.{Known, Unknown}
use Rattle.tt_abs.specs.declared.state.State.{State}
use Rattle.tt_abs.proofs.StackOrders.{StackInRange-reverse}
use Rattle.tt_abs.proofs.StateParts.{one_of_all}
use Rattle.tt_family.specs.Contents.{Contents, frames_at}
use Rattle.tt_family.specs.Contexts.{frames_of, grow-push, length-grow}
use Rattle.tt_family.specs.Places.{place_cmp}
use Rattle.tt_family.specs.Ascending.{IsFinished, IsContextAt}
use Rattle.tt_cert.specs.declared.form.Form.TheVariants.{Four}
use Rattle.tt_setting.specs.declared.name.Name.{Name}
use Rattle.tt_cert.specs.Rules.{AreCallsInTurn, CallFits, CellFits, ContextFits, EachAfter, EntryFits, Fits, FunctionFits, GraphicsFits, HasRoom, IsTextOf, NameFits, StateFits, StoredFits, is_above, is_above_context, is_new_body, is_turn, last_of, last_point}
use Rattle.tt_cert.specs.Sections.{Context, Entry, contexts_in, section_of}
use Rattle.tt_cert.proofs.ContextLists.{last_taken}
use Rattle.tt_cert.proofs.Fields.{PairFits, some_same}
use Rattle.tt_cert.proofs.Listed.{context_listed, length_listed, listed_more}
use Rattle.tt_cert.proofs.Pushed.{StoredPairFits}
use Rattle.tt_cert.proofs.Ascends.{last_pushed}

-- what holds of each value with those before it
each_from : {A : Type 0} (P : List A → A → Type 0) (before xs : List A) → ((i : ℕ) (x : A) → slice_get xs i ≡ Some x → P (before ++ take i xs) x) → EachAfter P before xs
each_from P before [] h = tt
each_from {A} P before (x ∷ xs) h = (
  subst (λ (l : List A). P l x) (append-nil before) (h 0 x refl),
  each_from P (before ++ x ∷ []) xs (λ i y at. subst (λ (l : List A). P l y) (sym (append_assoc before (x ∷ []) (take i xs))) (h (suc i) y at)),
)

two_true : (a b : Bool) → a ≡ true → b ≡ true → (a && b) ≡ true
two_true a b p q = rw (p, q) refl

-- cells

cell_fits : (c : Cell) → CellInRange c → CellFits c
cell_fits (Known k) h = h
cell_fits Unknown h = tt

pub each_cell : (before cells : List Cell) → StackInRange cells → EachAfter (λ _ c. CellFits c) before cells
each_cell before [] h = tt
each_cell before (c ∷ cs) h = (cell_fits c (h 0), each_cell (before ++ c ∷ []) cs (λ k. h (suc k)))

graphics_fit : (g : Cells) → graphics_order.InRange g → GraphicsFits g
graphics_fit g h = record {
  rp0 = cell_fits g.rp0 h.0.0;
  rp1 = cell_fits g.rp1 h.0.1.0;
  rp2 = cell_fits g.rp2 h.0.1.1.0;
  loop_number = cell_fits g.loop_number h.0.1.1.1;
}

-- lists of entries by ascending numbers

module _ {V : Type 0} (P : List (ℕ × V) → ℕ × V → Type 0) (Q : ℕ × V → Type 0) (make : (before : List (ℕ × V)) (e : ℕ × V) → Q e → is_above (last_of before) e ≡ true → P before e) where
  later_entries : (d : ℕ × V) (before es : List (ℕ × V)) → last_of before ≡ Some d → AllByRecursion (λ f. d.0 < f.0) es → Ascends es → AllByRecursion Q es → EachAfter P before es
  later_entries d before [] last above ascends all = tt
  later_entries d before (e ∷ es) last above ascends all = (
    make before e all.0 (ap (λ (o : Option (ℕ × V)). is_above o e) last ∙ lt-ltb d.0 e.0 above.0),
    later_entries e (before ++ e ∷ []) es (last_pushed before e) ascends.0 ascends.1 all.1,
  )

  rising_entries : (es : List (ℕ × V)) → Ascends es → AllByRecursion Q es → EachAfter P [] es
  rising_entries [] ascends all = tt
  rising_entries (e ∷ es) ascends all = (make [] e all.0 refl, later_entries e (e ∷ []) es (last_pushed [] e) ascends.0 ascends.1 all.1)

pub state_fits : (s : State) → state_order.InRange s → length s.stack < 2 ^ 16 → length s.functions < 2 ^ 16 → AllByRecursion PairFits s.functions
    → length s.storage < 2 ^ 16 → AllByRecursion StoredPairFits s.storage → StateFits Four s
state_fits s range few functions_few functions storage_few storage = record {
  stack = record { few = omega (arith, length-reverse s.stack); each = each_cell [] (reverse s.stack) (StackInRange-reverse s.stack range.0) };
  graphics = graphics_fit s.graphics range.1.0;
  functions = record {
    few = functions_few;
    each = rising_entries FunctionFits PairFits (λ before e fits above. record { number = fits.0; body = fits.1; ascends = above }) s.functions range.1.1.0.ascends functions;
  };
  storage = record {
    few = storage_few;
    each = rising_entries StoredFits StoredPairFits (λ before e fits above. record { index = fits.0; number = fits.1; ascends = above }) s.storage range.1.1.1.ascends storage;
  };
}

-- the same of a state that was written
pub state_written : {T E : Type 0} (r : Result T E) (s : State) (text : List ℕ) → length s.stack < 2 ^ 16 → OnOk r (IsTextOf text s.functions)
    → OnOk r (length s.storage < 2 ^ 16) → OnOk r (AllByRecursion StoredPairFits s.storage) → OnOk r (state_order.InRange s → StateFits Four s)
state_written (Err e) s text stack known stored_few stored = tt
state_written (Ok x) s text stack known stored_few stored = λ range. state_fits s range stack known.few known.numbers stored_few stored

-- the states of a family, by ascending places

module _ (n : ℕ) (few : n ≤ 65535) where
  entry_fits : (before : List Entry) (e : Entry) → HasRoom n e → option_map_or (λ q. is_lt (place_cmp q e.0)) (last_point before) true ≡ true → EntryFits Four n before e
  entry_fits before e room after =
      let lt = room.0 in
      record {
        point = record { context = omega arith; offset = room.1; follows = two_true (nat_lt e.0.0 n) _ (lt-ltb e.0.0 n lt) after };
        state = room.2;
      }

  later_states : (d : Entry) (before es : List Entry) → last_of before ≡ Some d → AllByRecursion (λ q. place_cmp d.0 q ≡ Less) (keys_of es)
      → IsStrictlySortedBy place_cmp (keys_of es) → AllByRecursion (HasRoom n) es → EachAfter (EntryFits Four n) before es
  unfolding IsStrictlySortedBy
  later_states d before [] last above ascends all = tt
  later_states d before (e ∷ es) last above ascends all = (
    entry_fits before e all.0 (ap (λ (o : Option Entry). option_map_or (λ q. is_lt (place_cmp q e.0)) (option_map (λ e. e.0) o) true) last ∙ ap is_lt above.0),
    later_states e (before ++ e ∷ []) es (last_pushed before e) ascends.0 ascends.1 all.1,
  )

  pub states_fit : (es : List Entry) → IsStrictlySortedBy place_cmp (keys_of es) → AllByRecursion (HasRoom n) es → EachAfter (EntryFits Four n) [] es
  unfolding IsStrictlySortedBy
  states_fit [] ascends all = tt
  states_fit (e ∷ es) ascends all = (entry_fits [] e all.0 refl, later_states e (e ∷ []) es (last_pushed [] e) ascends.0 ascends.1 all.1)

-- lists of one length with the same frames at each index
pub same_lists : (xs ys : List (List Frame)) → length xs ≡ length ys → ((k : ℕ) → k < length ys → frames_at xs k ≡ frames_at ys k) → xs ≡ ys
same_lists [] [] len h = refl
same_lists [] (y ∷ ys) len h = absurd (omega (arith, len))
same_lists (x ∷ xs) [] len h = absurd (omega (arith, len))
same_lists (x ∷ xs) (y ∷ ys) len h =
    let head : x ≡ y = h 0 (omega arith) in
    let tail : xs ≡ ys = same_lists xs ys (omega (arith, len)) (λ k lt. h (suc k) (omega arith)) in
    λ i. head i ∷ tail i

-- the contexts of a family, as its section lists them

module _ (v : Contents) (finished : IsFinished v) where
  entry_at : (i : ℕ) → i < length (contexts_in v.contexts) → (c : Context) × (slice_get (contexts_in v.contexts) i ≡ Some c) × IsContextAt v.contexts (i + 1) c
  entry_at i lt =
      let long = length_listed v in
      let (c, stands) = finished.1.parents (i + 1) (omega arith) (omega arith) in
      let within = stands.0 in
      let before = stands.1 in
      (c, context_listed v i c finished.0 within stands.2 (omega arith), stands)

  -- the first of them are those that the section's first contexts stand for
  frames_back_at : (i : ℕ) → i ≤ length (contexts_in v.contexts) → (k : ℕ) → k ≤ i → frames_at (frames_of (take i (contexts_in v.contexts))) k ≡ frames_at v.contexts k
  frames_back_at zero le zero ke = sym finished.0.main
  frames_back_at zero le (suc k) ke = absurd (omega arith)
  frames_back_at (suc i) le k ke =
      let (c, at, stands) = entry_at i (omega arith) in
      let before = stands.1 in
      let xs : List Context = contexts_in v.contexts in
      let grown : List (List Frame) = frames_of (take i xs) in
      let y : List Frame = c.1 ∷ frames_at grown c.0 in
      let n : suc i ≡ i + 1 = omega arith in
      let whole : frames_of (take (suc i) xs) ≡ grown ++ y ∷ [] =
      ap (λ (k : ℕ). frames_of (take k xs)) n ∙ ap frames_of (listed_more v i c at) ∙ grow-push ([] ∷ []) (take i xs) c in
      let taken : length (take i xs) ≡ i = length-take-le i xs (omega arith) in
      let long : length grown ≡ 1 + i = length-grow ([] ∷ []) (take i xs) ∙ ap (λ (k : ℕ). 1 + k) taken in
      ap (λ (x : List (List Frame)). frames_at x k) whole ∙ elim (cases_lt k (suc i)) [
        | inl lt ↦ get_or-append grown (y ∷ []) [] k (omega arith) ∙ frames_back_at i (omega arith) k (omega arith)
        | inr ge ↦
            let last : k ≡ length grown = omega arith in
            let number : k ≡ i + 1 = omega arith in
            ap (frames_at (grown ++ y ∷ [])) last ∙ get_or-append_seam grown y [] [] ∙ ap (λ (l : List Frame). c.1 ∷ l) (frames_back_at i (omega arith) c.0 (omega arith))
            ∙ sym stands.2 ∙ ap (frames_at v.contexts) (sym number)
      ]

  -- all contexts are those that the section's stand for
  pub frames_back : frames_of (contexts_in v.contexts) ≡ v.contexts
  frames_back =
      let xs : List Context = contexts_in v.contexts in
      let some = finished.0.some in
      let whole : take (length xs) xs ≡ xs = take_all (length xs) xs (omega arith) in
      let long : length (frames_of xs) ≡ length v.contexts = omega (arith, length-grow ([] ∷ []) xs, length_listed v) in
      same_lists (frames_of xs) v.contexts long
      (λ k lt. ap (λ (l : List Context). frames_at (frames_of l) k) (sym whole) ∙ frames_back_at (length xs) (omega arith) k (omega (arith, length_listed v)))

  module _ (calls : AreCallsInTurn v.contexts) (numbers : AllByRecursion CallFits (contexts_in v.contexts)) where
    is_above_before : (i : ℕ) (c : Context) → i < length (contexts_in v.contexts) → IsContextAt v.contexts (i + 1) c → is_above_context (last_of (take i (contexts_in v.contexts))) c ≡ true
    is_above_before zero c lt stands = refl
    is_above_before (suc j) c lt stands =
        let (d, at, stands_d) = entry_at j (omega arith) in
        let n : suc j ≡ j + 1 = omega arith in
        let last : last_of (take (suc j) (contexts_in v.contexts)) ≡ Some d =
        ap (λ (k : ℕ). last_of (take k (contexts_in v.contexts))) n ∙ last_taken (contexts_in v.contexts) j d at in
        ap (λ (o : Option Context). is_above_context o c) last ∙ ap is_lt (finished.1.ascends (j + 1) (suc j + 1) d c (omega arith) stands_d stands)

    not_running : (fs : List Frame) (body : ℕ) → is_running body fs ≡ false → is_new_body fs body ≡ true
    not_running [] body h = refl
    not_running (f ∷ fs) body h = let p = or_parts (nat_eq f.body body) (is_running body fs) h in rw p.0 (not_running fs body p.1)

    context_fits : (i : ℕ) (c : Context) → slice_get (contexts_in v.contexts) i ≡ Some c → ContextFits (take i (contexts_in v.contexts)) c
    context_fits i c at =
        let xs : List Context = contexts_in v.contexts in
        let within = slice_get_within xs i c at in
        let long = length_listed v in
        let few = finished.0.few in
        let (d, at_d, stands_d) = entry_at i within in
        let same : d ≡ c = some_same d c (sym at_d ∙ at) in
        let stands = subst (IsContextAt v.contexts (i + 1)) same stands_d in
        let before = stands.1 in
        let fits : FramesFit (c.1 ∷ frames_at v.contexts c.0) = subst FramesFit stands.2 (calls (i + 1) stands.0) in
        let turn = fits.each.0 in
        let number = one_of_all CallFits xs i c numbers at in
        let taken : length (take i xs) ≡ i = length-take-le i xs (omega arith) in
        let parent = le-leb c.0 (length (take i xs)) (omega arith) in
        let turns : is_turn c.1 ≡ true =
        two_true (nat_le 1 c.1.turn) _ (le-leb 1 c.1.turn turn.begun) (two_true (nat_le c.1.turn c.1.count) _ (le-leb c.1.turn c.1.count turn.within) (lt-ltb c.1.count (2 ^ 31) turn.countable)) in
        let apart = (or_parts (is_running c.1.body (frames_at v.contexts c.0)) (has_body_twice (frames_at v.contexts c.0)) fits.once).0 in
        let fresh : is_new_body (frames_at (frames_of (take i xs)) c.0) c.1.body ≡ true =
        ap (λ (fs : List Frame). is_new_body fs c.1.body) (frames_back_at i (omega arith) c.0 (omega arith)) ∙ not_running (frames_at v.contexts c.0) c.1.body apart in
        record {
          parent = omega arith;
          call = number.0;
          body = number.1;
          follows =
              two_true (nat_le c.0 (length (take i xs))) _ parent
              (two_true (is_above_context (last_of (take i xs)) c) _ (is_above_before i c within stands) (two_true (is_turn c.1) _ turns fresh));
        }

    pub contexts_fit : EachAfter ContextFits [] (contexts_in v.contexts)
    contexts_fit = each_from ContextFits [] (contexts_in v.contexts) context_fits

-- the section of a family
pub section_fits : (name : Name) (v : Contents) → NameFits name → IsFinished v → AllByRecursion CallFits (contexts_in v.contexts) → AllByRecursion (HasRoom (length v.contexts)) v.states
    → IsStrictlySortedBy place_cmp (keys_of v.states) → AreCallsInTurn v.contexts → Fits Four (section_of name v)
section_fits name v name_fits finished numbers room ascends calls =
    let few = finished.0.few in
    let some = finished.0.some in
    let states = finished.0.fits in
    let long = length_listed v in
    let n : length v.contexts ≡ length (contexts_in v.contexts) + 1 = omega arith in
    record {
      name = name_fits;
      few_contexts = omega arith;
      contexts = contexts_fit v finished calls numbers;
      few_states = omega arith;
      states = subst (λ (k : ℕ). EachAfter (EntryFits Four k) [] v.states) n (states_fit (length v.contexts) few v.states ascends room);
    }
