-- What leads to one place or to two places is there as list entries.
use Rattle.std.specs.Prelude.{nat_eq, nat_lt, slice_get, if◌then◌else◌}
use Rattle.std.proofs.Common.{◌≡◌, ◌≢◌, ℕ, zero, suc, List, [], ◌∷◌, Ok, Err, Some, refl, sym, ◌∙◌, ap, subst, inl, inr, ◌⊎◌, Bool, true, false}
use Rattle.std.proofs.lemmas.Bool.{eqb-true, eqb-false}
use Rattle.tt_code.specs.Refusals.{Tested}
use Rattle.tt_code.specs.States.{Machine, Outcome, at_offset}
use Rattle.tt_code.specs.Runs.{left_by, goes_on}
use Rattle.tt_code.specs.declared.machine.Frame.{Frame}
use Rattle.tt_abs.specs.Cells.{Abstract, CoversState}
use Rattle.tt_abs.specs.Covers.{Stands, Becomes, IsSmallestCover, At, AreSmallestCovers, Transfers, TransfersTo}
use Rattle.tt_abs.specs.Transfers.{Next, one_way, two_ways, goes_on_cells}
use Rattle.tt_abs.proofs.Machines.{some_machine, zeros, may}

-- Sets of machines.

-- what is the smallest cover of some of the machines and covers all is the smallest cover of all
pub smallest_by_some : (These Part : Machine → Type 0) (b : Abstract) → ((m : Machine) → Part m → These m) → IsSmallestCover Part b → ((m : Machine) → These m → CoversState b m) → IsSmallestCover These b
smallest_by_some These Part b part h all = record { covers = all; least = λ d k. h.least d (λ m s. k m (part m s)) }

pub smallest_same : (These Other : Machine → Type 0) (b : Abstract) → ((m : Machine) → These m → Other m) → ((m : Machine) → Other m → These m) → IsSmallestCover These b → IsSmallestCover Other b
smallest_same These Other b to back h = record { covers = λ m o. h.covers m (back m o); least = λ d k. h.least d (λ m n. k m (to m n)) }

pub covers_same : (These Other : Machine → Type 0) (ns : List Next) → ((m : Machine) → These m → Other m) → ((m : Machine) → Other m → These m)
    → AreSmallestCovers These ns → AreSmallestCovers Other ns
covers_same These Other ns to back h = record {
  places = λ m o. h.places m (back m o);
  met = λ i n e. let (m, g) = h.met i n e in (m, (to m g.0, g.1, g.2));
  smallest = λ i n e.
      smallest_same (At These n.frames n.offset) (At Other n.frames n.offset) n.state (λ m g. (to m g.0, g.1, g.2)) (λ m g. (back m g.0, g.1, g.2)) (h.smallest i n e);
  apart = h.apart;
}

-- The machine's outcome, looked at for only the machines that are there.

pub becomes_as : (a : Abstract) (fs : List Frame) (at : ℕ) (does other : Machine → Tested Outcome) → ((m : Machine) → Stands a fs at m → other m ≡ does m)
    → (m : Machine) → Becomes a fs at other m → Becomes a fs at does m
becomes_as a fs at does other same m w = record {
  old = w.old;
  stands = w.stands;
  result = w.result;
  does_it = sym (same w.old w.stands) ∙ w.does_it;
  choices = w.choices;
  are_numbers = w.are_numbers;
  new_is = w.new_is;
}

pub transfers_to_as : (a : Abstract) (fs : List Frame) (at : ℕ) (does other : Machine → Tested Outcome) (r : Tested (List Next)) → ((m : Machine) → Stands a fs at m → other m ≡ does m)
    → TransfersTo a fs at does r → TransfersTo a fs at other r
transfers_to_as a fs at does other (Err q) same h = let (m, k, st, e) = h in (m, k, st, same m st ∙ e)
transfers_to_as a fs at does other (Ok ns) same h = (
  λ m st. let (o, e) = h.0 m st in (o, same m st ∙ e),
  covers_same (Becomes a fs at does) (Becomes a fs at other) ns (becomes_as a fs at other does (λ m st. sym (same m st))) (becomes_as a fs at does other same) h.1,
)

-- One way.

pub becomes_of : (a : Abstract) (fs : List Frame) (at : ℕ) (does : Machine → Tested Outcome) (m : Machine) (o : Outcome) → Stands a fs at m → does m ≡ Ok o → Becomes a fs at does (left_by o zeros)
becomes_of a fs at does m o st e = record {
  old = m;
  stands = st;
  result = o;
  does_it = e;
  choices = zeros;
  are_numbers = (may a fs at m st).are_numbers;
  new_is = refl;
}

pub one_entry : (These : Machine → Type 0) (n : Next) → ((m : Machine) → These m → (m.frames ≡ n.frames) × (m.offset ≡ n.offset)) → (m : Machine) → These m → IsSmallestCover These n.state
    → AreSmallestCovers These (n ∷ [])
one_entry These n lands m t h = record { places = λ m t. (0, n, refl, (lands m t).0, (lands m t).1); met = met; smallest = smallest; apart = apart }
  where
    met : (i : ℕ) (o : Next) → slice_get (n ∷ []) i ≡ Some o → (m : Machine) × At These o.frames o.offset m
    met zero o e = let M : Next → Type 0 = λ o. (m : Machine) × At These o.frames o.offset m in let is : n ≡ o = cc in subst M is (m, (t, (lands m t).0, (lands m t).1))
    met (suc i) o e = absurd (cc)

    smallest : (i : ℕ) (o : Next) → slice_get (n ∷ []) i ≡ Some o → IsSmallestCover (At These o.frames o.offset) o.state
    smallest zero o e =
        let S : Next → Type 0 = λ o. IsSmallestCover (At These o.frames o.offset) o.state in
        let is : n ≡ o = cc in subst S is (smallest_same These (At These n.frames n.offset) n.state (λ m t. (t, (lands m t).0, (lands m t).1)) (λ m g. g.0) h)
    smallest (suc i) o e = absurd (cc)

    apart : (i j : ℕ) (o p : Next) → slice_get (n ∷ []) i ≡ Some o → slice_get (n ∷ []) j ≡ Some p → o.frames ≡ p.frames → o.offset ≡ p.offset → i ≡ j
    apart zero zero o p e f g k = refl
    apart zero (suc j) o p e f g k = absurd (cc)
    apart (suc i) j o p e f g k = absurd (cc)

-- all outcomes lead to one place
pub one_way_stands : (a : Abstract) (fs : List Frame) (at : ℕ) (does : Machine → Tested Outcome) (next : ℕ) (r : Tested Abstract) → Transfers a fs at does r
    → ((m : Machine) → Stands a fs at m → (o : Outcome) → does m ≡ Ok o → (o.after.frames ≡ fs) × (o.after.offset ≡ next)) → TransfersTo a fs at does (goes_on_cells fs next r)
one_way_stands a fs at does next (Err q) h lands = h
one_way_stands a fs at does next (Ok b) h lands = (h.0, covers)
  where
    there : (m : Machine) → Becomes a fs at does m → (m.frames ≡ fs) × (m.offset ≡ next)
    there m w =
        let (f, p) = lands w.old w.stands w.result w.does_it in (ap (λ x. x.frames) w.new_is ∙ f, ap (λ x. x.offset) w.new_is ∙ p)

    covers : AreSmallestCovers (Becomes a fs at does) (one_way fs next b)
    covers =
        let (m, st, is) = some_machine a fs at in
        let (o, e) = h.0 m st in
        one_entry (Becomes a fs at does) (record { frames = fs; offset = next; state = b }) there (left_by o zeros) (becomes_of a fs at does m o st e) h.1

-- Covering doesn't see the offset.
pub going_on_stands : (a : Abstract) (fs : List Frame) (at : ℕ) (does : Machine → Tested Outcome) (next : ℕ) (r : Tested Abstract) → Transfers a fs at does r → Transfers a fs at (λ m. goes_on next (does m)) r
going_on_stands a fs at does next (Err q) h = let (m, k, st, e) = h in (m, k, st, rw e refl)
going_on_stands a fs at does next (Ok b) h = (always, record { covers = covers; least = least })
  where
    always : (m : Machine) → Stands a fs at m → (o : Outcome) × (goes_on next (does m) ≡ Ok o)
    always m st = let (o, e) = h.0 m st in (record o { after = at_offset o.after next }, rw e refl)

    covers : (m : Machine) → Becomes a fs at (λ m. goes_on next (does m)) m → CoversState b m
    covers m w =
        let (o, e) = h.0 w.old w.stands in
        let both : goes_on next (does w.old) ≡ Ok (record o { after = at_offset o.after next }) = rw e refl in
        let oks : Ok (record o { after = at_offset o.after next }) ≡ Ok w.result = sym both ∙ w.does_it in
        let same : record o { after = at_offset o.after next } ≡ w.result = cc in
        let before = h.1.covers (left_by o w.choices) (record { old = w.old; stands = w.stands; result = o; does_it = e; choices = w.choices; are_numbers = w.are_numbers; new_is = refl }) in
        let moved : CoversState b (left_by (record o { after = at_offset o.after next }) w.choices) = record { stack = before.stack; graphics = before.graphics; storage = before.storage; functions = before.functions } in
        let C : Machine → Type 0 = λ n. CoversState b n in subst C (ap (λ u. left_by u w.choices) same ∙ sym w.new_is) moved

    least : (d : Abstract) → ((m : Machine) → Becomes a fs at (λ m. goes_on next (does m)) m → CoversState d m) → (m : Machine) → CoversState b m → CoversState d m
    least d all = h.1.least d before
      where
        before : (m : Machine) → Becomes a fs at does m → CoversState d m
        before m w =
            let after = all (left_by (record w.result { after = at_offset w.result.after next }) w.choices)
            (record { old = w.old; stands = w.stands; result = record w.result { after = at_offset w.result.after next }; does_it = rw w.does_it refl; choices = w.choices; are_numbers = w.are_numbers; new_is = refl }) in
            let here : CoversState d (left_by w.result w.choices) = record { stack = after.stack; graphics = after.graphics; storage = after.storage; functions = after.functions } in
            let C : Machine → Type 0 = λ n. CoversState d n in subst C (sym w.new_is) here

-- an instruction that goes on after itself
pub behind_stands : (a : Abstract) (fs : List Frame) (at : ℕ) (does : Machine → Tested Outcome) (next : ℕ) (r : Tested Abstract) → Transfers a fs at does r
    → ((m : Machine) → Stands a fs at m → (o : Outcome) → does m ≡ Ok o → o.after.frames ≡ m.frames) → TransfersTo a fs at (λ m. goes_on next (does m)) (goes_on_cells fs next r)
behind_stands a fs at does next r h keeps = one_way_stands a fs at (λ m. goes_on next (does m)) next r (going_on_stands a fs at does next r h) (λ m st o e. lands m st (does m) (keeps m st) o e)
  where
    lands : (m : Machine) → Stands a fs at m → (t : Tested Outcome) → ((o : Outcome) → t ≡ Ok o → o.after.frames ≡ m.frames) → (o : Outcome) → goes_on next t ≡ Ok o → (o.after.frames ≡ fs) × (o.after.offset ≡ next)
    lands m st (Err r) k o e = absurd (cc)
    lands m st (Ok u) k o e =
        let same : o ≡ record u { after = at_offset u.after next } = cc in (ap (λ x. x.after.frames) same ∙ k u refl ∙ st.frames_are, ap (λ x. x.after.offset) same)

-- Two ways.

-- the machines lead to two places, and one state is the smallest cover at each
pub record TwoWays (These : Machine → Type 0) (fs : List Frame) (one other : ℕ) (b : Abstract) : Type 0 where
  pub lands : (m : Machine) → These m → (m.frames ≡ fs) × ((m.offset ≡ one) ⊎ (m.offset ≡ other))
  pub first_met : (m : Machine) × At These fs one m
  pub second_met : (m : Machine) × At These fs other m
  pub first_smallest : IsSmallestCover (At These fs one) b
  pub second_smallest : IsSmallestCover (At These fs other) b

swapped : (These : Machine → Type 0) (fs : List Frame) (one other : ℕ) (b : Abstract) → TwoWays These fs one other b → TwoWays These fs other one b
swapped These fs one other b h = record {
  lands = λ m t. let (f, p) = h.lands m t in (f, elim p [ inl k ↦ inr k | inr k ↦ inl k ]);
  first_met = h.second_met;
  second_met = h.first_met;
  first_smallest = h.second_smallest;
  second_smallest = h.first_smallest;
}

abbrev entry : List Frame → ℕ → Abstract → Next
entry fs offset b = record { frames = fs; offset = offset; state = b }

two_entries : (These : Machine → Type 0) (fs : List Frame) (one other : ℕ) (b : Abstract) → one ≢ other → TwoWays These fs one other b → AreSmallestCovers These (entry fs one b ∷ entry fs other b ∷ [])
two_entries These fs one other b differ h = record { places = places; met = met; smallest = smallest; apart = apart }
  where
    places : (m : Machine) → These m → (i : ℕ) × (n : Next) × (slice_get (entry fs one b ∷ entry fs other b ∷ []) i ≡ Some n) × (m.frames ≡ n.frames) × (m.offset ≡ n.offset)
    places m t = let (f, p) = h.lands m t in elim p [ inl k ↦ (0, entry fs one b, refl, f, k) | inr k ↦ (1, entry fs other b, refl, f, k) ]

    met : (i : ℕ) (n : Next) → slice_get (entry fs one b ∷ entry fs other b ∷ []) i ≡ Some n → (m : Machine) × At These n.frames n.offset m
    met zero n e = let M : Next → Type 0 = λ n. (m : Machine) × At These n.frames n.offset m in let is : entry fs one b ≡ n = cc in subst M is h.first_met
    met (suc zero) n e = let M : Next → Type 0 = λ n. (m : Machine) × At These n.frames n.offset m in let is : entry fs other b ≡ n = cc in subst M is h.second_met
    met (suc (suc i)) n e = absurd (cc)

    smallest : (i : ℕ) (n : Next) → slice_get (entry fs one b ∷ entry fs other b ∷ []) i ≡ Some n → IsSmallestCover (At These n.frames n.offset) n.state
    smallest zero n e = let S : Next → Type 0 = λ n. IsSmallestCover (At These n.frames n.offset) n.state in let is : entry fs one b ≡ n = cc in subst S is h.first_smallest
    smallest (suc zero) n e = let S : Next → Type 0 = λ n. IsSmallestCover (At These n.frames n.offset) n.state in let is : entry fs other b ≡ n = cc in subst S is h.second_smallest
    smallest (suc (suc i)) n e = absurd (cc)

    apart : (i j : ℕ) (n o : Next) → slice_get (entry fs one b ∷ entry fs other b ∷ []) i ≡ Some n → slice_get (entry fs one b ∷ entry fs other b ∷ []) j ≡ Some o → n.frames ≡ o.frames → n.offset ≡ o.offset → i ≡ j
    apart zero zero n o e f g k = refl
    apart zero (suc zero) n o e f g k =
        let is : entry fs one b ≡ n = cc in
        let was : entry fs other b ≡ o = cc in absurd (differ (ap (λ x. x.offset) is ∙ k ∙ sym (ap (λ x. x.offset) was)))
    apart (suc zero) zero n o e f g k =
        let is : entry fs other b ≡ n = cc in
        let was : entry fs one b ≡ o = cc in absurd (differ (sym (ap (λ x. x.offset) is ∙ k ∙ sym (ap (λ x. x.offset) was))))
    apart (suc zero) (suc zero) n o e f g k = refl
    apart zero (suc (suc j)) n o e f g k = absurd (cc)
    apart (suc zero) (suc (suc j)) n o e f g k = absurd (cc)
    apart (suc (suc i)) j n o e f g k = absurd (cc)

pub two_ways_stand : (These : Machine → Type 0) (fs : List Frame) (one other : ℕ) (b : Abstract) → TwoWays These fs one other b → AreSmallestCovers These (two_ways fs one other b)
two_ways_stand These fs one other b h = go (nat_eq one other) refl
  where
    order : one ≢ other → (c : Bool) → AreSmallestCovers These (if c then entry fs one b ∷ one_way fs other b else entry fs other b ∷ one_way fs one b)
    order differ true = two_entries These fs one other b differ h
    order differ false = two_entries These fs other one b (λ e. differ (sym e)) (swapped These fs one other b h)

    go : (c : Bool) → nat_eq one other ≡ c
        → AreSmallestCovers These (if c then one_way fs one b else if nat_lt one other then entry fs one b ∷ one_way fs other b else entry fs other b ∷ one_way fs one b)
    go true e =
        let same = eqb-true one other e in
        let there : (m : Machine) → These m → (m.frames ≡ fs) × (m.offset ≡ one) = λ m t. let (f, p) = h.lands m t in (f, elim p [ inl k ↦ k | inr k ↦ k ∙ sym same ]) in
        one_entry These (entry fs one b) there h.first_met.0 h.first_met.1.0 (smallest_same (At These fs one) These b (λ m g. g.0) (λ m t. (t, (there m t).0, (there m t).1)) h.first_smallest)
    go false e = order (eqb-false one other e) (nat_lt one other)
