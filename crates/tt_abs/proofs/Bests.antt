-- Smallest cells for the values of functions, and what moves or replaces values.
use Rattle.std.specs.Prelude.{ℤ, pos, ◌-◌, min, nat_eq, if◌then◌else◌}
use Rattle.std.proofs.Common.{◌≡◌, ℕ, zero, suc, ◌+◌, ◌≤◌, ◌<◌, List, [], ◌∷◌, refl, sym, ◌∙◌, ap, subst, inl, inr, arith, length, take, drop, Bool, true, false}
use Rattle.std.proofs.Math.ListN.{length-drop, length-take}
use Rattle.std.proofs.lemmas.Bool.{cases_lt}
use Rattle.tt_code.specs.Settings.{ZoneNumber, Zero, One}
use Rattle.tt_code.specs.States.{IsNumber, Registers, reference, with_reference, with_pointer}
use Rattle.tt_code.specs.Changes.{taken_at, with_stored, updated, all_updated, numbers, natural, zone_of}
use Rattle.tt_code.specs.declared.kinds.Update.{Update}
use Rattle.tt_code.specs.declared.kinds.Update.TheVariants as update
use Rattle.tt_code.specs.declared.kinds.NewNumber.TheVariants as new_number
use Rattle.tt_code.specs.declared.kinds.Pointer.{Pointer}
use Rattle.tt_code.specs.declared.kinds.Pointer.TheVariants.{Zp0, Zp1, Zp2}
use Rattle.tt_code.specs.declared.kinds.Reference.{Reference}
use Rattle.tt_code.specs.declared.kinds.Reference.TheVariants.{Rp0, Rp1, Rp2}
use Rattle.tt_abs.specs.declared.cells.Cell.{Cell}
use Rattle.tt_abs.specs.declared.cells.Cell.TheVariants.{Known, Unknown}
use Rattle.tt_setting.specs.declared.zone.ZoneCell.{ZoneCell}
use Rattle.tt_setting.specs.declared.zone.ZoneCell.TheVariants as zone
use Rattle.tt_abs.specs.Cells.{Covers, CoversZone, CoversStack}
use Rattle.tt_abs.specs.Covers.{IsBestFor, IsBestZone}
use Rattle.tt_abs.specs.Transfers.{cells, index_in, zone_in, zone_cell}
use Rattle.tt_abs.proofs.Choosing.{zero_is_number, one_is_number}

-- One cell.

pub best_covers : {X : Type 0} (In : X → Type 0) (f : X → ℤ) (c : Cell) → IsBestFor In f c → (x : X) → In x → Covers c (f x)
best_covers In f (Known k) h x i = h.0 x i
best_covers In f Unknown h x i = h.0 x i

pub best_least : {X : Type 0} (In : X → Type 0) (f : X → ℤ) (c d : Cell) → IsBestFor In f c → ((x : X) → In x → Covers d (f x)) → (n : ℤ) → Covers c n → Covers d n
best_least In f (Known k) d h all n e =
    let C : ℤ → Type 0 = λ z. Covers d z in subst C (h.0 h.1.0 h.1.1 ∙ sym e) (all h.1.0 h.1.1)
best_least In f Unknown (Known l) h all n e =
    let (x, y, i, j, apart) = h.1 in absurd (apart (all x i ∙ sym (all y j)))
best_least In f Unknown Unknown h all n e = e

pub zone_covers : {X : Type 0} (In : X → Type 0) (f : X → ZoneNumber) (c : ZoneCell) → IsBestZone In f c → (x : X) → In x → CoversZone c (f x)
zone_covers In f zone.Zero h x i = let C : ZoneNumber → Type 0 = λ z. CoversZone zone.Zero z in subst C (sym (h.0 x i)) tt
zone_covers In f zone.One h x i = let C : ZoneNumber → Type 0 = λ z. CoversZone zone.One z in subst C (sym (h.0 x i)) tt
zone_covers In f zone.Either h x i = tt

pub zone_least : {X : Type 0} (In : X → Type 0) (f : X → ZoneNumber) (c d : ZoneCell) → IsBestZone In f c → ((x : X) → In x → CoversZone d (f x)) → (n : ZoneNumber) → CoversZone c n → CoversZone d n
zone_least In f zone.Zero d h all Zero e = let C : ZoneNumber → Type 0 = λ z. CoversZone d z in subst C (h.0 h.1.0 h.1.1) (all h.1.0 h.1.1)
zone_least In f zone.Zero d h all One e = absurd e
zone_least In f zone.One d h all Zero e = absurd e
zone_least In f zone.One d h all One e = let C : ZoneNumber → Type 0 = λ z. CoversZone d z in subst C (h.0 h.1.0 h.1.1) (all h.1.0 h.1.1)
zone_least In f zone.Either d h all Zero e = let (x, i, is) = h.0 in let C : ZoneNumber → Type 0 = λ z. CoversZone d z in subst C is (all x i)
zone_least In f zone.Either d h all One e = let (x, i, is) = h.1 in let C : ZoneNumber → Type 0 = λ z. CoversZone d z in subst C is (all x i)

-- the same values, and the same cell
pub best_same : {X : Type 0} (In : X → Type 0) (f g : X → ℤ) (c : Cell) → ((x : X) → In x → g x ≡ f x) → IsBestFor In f c → IsBestFor In g c
best_same In f g (Known k) e h = (λ x i. e x i ∙ h.0 x i, h.1)
best_same In f g Unknown e h =
    let (x, y, i, j, apart) = h.1 in
    let N : ℤ → Type 0 = λ z. IsNumber z in
    (λ z k. subst N (sym (e z k)) (h.0 z k), (x, y, i, j, λ same. apart (sym (e x i) ∙ same ∙ e y j)))

-- what is best for the values of f is best for those along a map that reaches all of them
pub best_along : {X Y : Type 0} (In : X → Type 0) (Of : Y → Type 0) (p : X → Y) (f : Y → ℤ) (c : Cell)
    → ((x : X) → In x → Of (p x)) → ((y : Y) → Of y → (x : X) × In x × (p x ≡ y)) → IsBestFor Of f c → IsBestFor In (λ x. f (p x)) c
best_along In Of p f (Known k) into onto h =
    let (x, i, e) = onto h.1.0 h.1.1 in (λ x i. h.0 (p x) (into x i), (x, i))
best_along In Of p f Unknown into onto h =
    let (y, z, i, j, apart) = h.1 in
    let (u, iu, eu) = onto y i in
    let (v, iv, ev) = onto z j in
    (λ x i. h.0 (p x) (into x i), (u, v, iu, iv, λ same. apart (ap f (sym eu) ∙ same ∙ ap f ev)))

pub zone_along : {X Y : Type 0} (In : X → Type 0) (Of : Y → Type 0) (p : X → Y) (f : Y → ZoneNumber) (c : ZoneCell)
    → ((x : X) → In x → Of (p x)) → ((y : Y) → Of y → (x : X) × In x × (p x ≡ y)) → IsBestZone Of f c → IsBestZone In (λ x. f (p x)) c
zone_along In Of p f zone.Zero into onto h =
    let (x, i, e) = onto h.1.0 h.1.1 in (λ x i. h.0 (p x) (into x i), (x, i))
zone_along In Of p f zone.One into onto h =
    let (x, i, e) = onto h.1.0 h.1.1 in (λ x i. h.0 (p x) (into x i), (x, i))
zone_along In Of p f zone.Either into onto h =
    let (x, i, e) = onto h.0.0 h.0.1 in
    let (y, j, d) = onto h.1.0 h.1.1 in ((x, i, ap f e ∙ h.0.2), (y, j, ap f d ∙ h.1.2))

-- a cell is best for the numbers that it covers
pub best_self : (c : Cell) → IsBestFor (λ n. Covers c n) (λ n. n) c
best_self (Known k) = (λ n h. h, (k, refl))
best_self Unknown = (λ n h. h, (pos 0, pos 1, zero_is_number, one_is_number, λ e. cc))

pub zone_self : (c : ZoneCell) → IsBestZone (λ n. CoversZone c n) (λ n. n) c
zone_self zone.Zero = (zeros, (Zero, tt))
  where
    zeros : (n : ZoneNumber) → CoversZone zone.Zero n → n ≡ Zero
    zeros Zero h = refl
    zeros One h = absurd h
zone_self zone.One = (ones, (One, tt))
  where
    ones : (n : ZoneNumber) → CoversZone zone.One n → n ≡ One
    ones Zero h = absurd h
    ones One h = refl
zone_self zone.Either = ((Zero, tt, refl), (One, tt, refl))

pub best_constant : {X : Type 0} (In : X → Type 0) (k : ℤ) → (x : X) → In x → IsBestFor In (λ x. k) (Known k)
best_constant In k x i = (λ y j. refl, (x, i))

-- Parts of a state: stacks and registers.

pub record IsBestStack {X : Type 0} (In : X → Type 0) (f : X → List ℤ) (cs : List Cell) : Type 0 where
  pub lengths : (x : X) → In x → length (f x) ≡ length cs
  pub each : (k : ℕ) → IsBestFor In (λ x. taken_at (pos 1) (f x) k) (taken_at (Known (pos 1)) cs k)

pub record AreBest {X : Type 0} (In : X → Type 0) (f : X → Registers ℤ ZoneNumber) (r : Registers Cell ZoneCell) : Type 0 where
  pub rp0 : IsBestFor In (λ x. (f x).graphics.rp0) r.graphics.rp0
  pub rp1 : IsBestFor In (λ x. (f x).graphics.rp1) r.graphics.rp1
  pub rp2 : IsBestFor In (λ x. (f x).graphics.rp2) r.graphics.rp2
  pub zp0 : IsBestZone In (λ x. (f x).graphics.zp0) r.graphics.zp0
  pub zp1 : IsBestZone In (λ x. (f x).graphics.zp1) r.graphics.zp1
  pub zp2 : IsBestZone In (λ x. (f x).graphics.zp2) r.graphics.zp2
  pub loop_number : IsBestFor In (λ x. (f x).graphics.loop_number) r.graphics.loop_number
  pub storage : (i : ℕ) → IsBestFor In (λ x. (f x).storage i) (r.storage i)

pub best_reference : {X : Type 0} (In : X → Type 0) (f : X → Registers ℤ ZoneNumber) (a : Registers Cell ZoneCell) (r : Reference) → AreBest In f a
    → IsBestFor In (λ x. reference r (f x).graphics) (reference r a.graphics)
best_reference In f a Rp0 h = h.rp0
best_reference In f a Rp1 h = h.rp1
best_reference In f a Rp2 h = h.rp2

-- the values of an element of a list
pub stack_covers : (cs : List Cell) (ns : List ℤ) → length ns ≡ length cs → ((k : ℕ) → Covers (taken_at (Known (pos 1)) cs k) (taken_at (pos 1) ns k)) → CoversStack cs ns
stack_covers [] [] e h = tt
stack_covers [] (n ∷ ns) e h = absurd (omega arith)
stack_covers (c ∷ cs) [] e h = absurd (omega arith)
stack_covers (c ∷ cs) (n ∷ ns) e h = (h 0, stack_covers cs ns (omega arith) (λ k. h (suc k)))

pub covered_length : (cs : List Cell) (ns : List ℤ) → CoversStack cs ns → length ns ≡ length cs
covered_length [] [] h = refl
covered_length [] (n ∷ ns) h = absurd h
covered_length (c ∷ cs) [] h = absurd h
covered_length (c ∷ cs) (n ∷ ns) h = let e = covered_length cs ns h.1 in omega arith

pub covered_at : (cs : List Cell) (ns : List ℤ) (k : ℕ) → CoversStack cs ns → Covers (taken_at (Known (pos 1)) cs k) (taken_at (pos 1) ns k)
covered_at [] [] k h = refl
covered_at [] (n ∷ ns) k h = absurd h
covered_at (c ∷ cs) [] k h = absurd h
covered_at (c ∷ cs) (n ∷ ns) zero h = h.0
covered_at (c ∷ cs) (n ∷ ns) (suc k) h = covered_at cs ns k h.1

pub best_cons : {X : Type 0} (In : X → Type 0) (f : X → ℤ) (g : X → List ℤ) (c : Cell) (cs : List Cell) → IsBestFor In f c → IsBestStack In g cs → IsBestStack In (λ x. f x ∷ g x) (c ∷ cs)
best_cons In f g c cs h k = record { lengths = λ x i. let e = k.lengths x i in omega arith; each = each }
  where
    each : (n : ℕ) → IsBestFor In (λ x. taken_at (pos 1) (f x ∷ g x) n) (taken_at (Known (pos 1)) (c ∷ cs) n)
    each zero = h
    each (suc n) = k.each n

at_drop : {C : Type 0} (d : C) (n : ℕ) (xs : List C) (k : ℕ) → taken_at d (drop n xs) k ≡ taken_at d xs (n + k)
at_drop d zero xs k = ap (λ i. taken_at d xs i) (zero_plus k)
  where
    zero_plus : (k : ℕ) → k ≡ 0 + k
    zero_plus k = omega arith
at_drop d (suc n) [] k = refl
at_drop d (suc n) (x ∷ xs) k = at_drop d n xs k ∙ ap (λ i. taken_at d (x ∷ xs) i) (suc_plus n k)
  where
    suc_plus : (n k : ℕ) → suc (n + k) ≡ suc n + k
    suc_plus n k = omega arith

pub cell_is : {X : Type 0} (In : X → Type 0) (f : X → ℤ) (c d : Cell) → c ≡ d → IsBestFor In f c → IsBestFor In f d
cell_is In f c d e h = let B : Cell → Type 0 = λ x. IsBestFor In f x in subst B e h

pub best_drop : {X : Type 0} (In : X → Type 0) (f : X → List ℤ) (cs : List Cell) (n : ℕ) → IsBestStack In f cs → IsBestStack In (λ x. drop n (f x)) (drop n cs)
best_drop {X} In f cs n h = record {
  lengths = λ x i. length-drop n (f x) ∙ ap (λ l. l - n) (h.lengths x i) ∙ sym (length-drop n cs);
  each = λ k.
      cell_is In (λ x. taken_at (pos 1) (drop n (f x)) k) (taken_at (Known (pos 1)) cs (n + k)) (taken_at (Known (pos 1)) (drop n cs) k) (sym (at_drop (Known (pos 1)) n cs k))
      (best_same In (λ x. taken_at (pos 1) (f x) (n + k)) (λ x. taken_at (pos 1) (drop n (f x)) k) (taken_at (Known (pos 1)) cs (n + k)) (λ x i. at_drop (pos 1) n (f x) k) (h.each (n + k)));
}

pub at_take : {C : Type 0} (d : C) (n : ℕ) (xs : List C) (k : ℕ) → k < n → taken_at d (take n xs) k ≡ taken_at d xs k
at_take d zero xs k h = absurd (omega arith)
at_take d (suc n) [] k h = refl
at_take d (suc n) (x ∷ xs) zero h = refl
at_take d (suc n) (x ∷ xs) (suc k) h = at_take d n xs k (omega arith)

pub past_take : {C : Type 0} (d : C) (n : ℕ) (xs : List C) (k : ℕ) → n ≤ k → taken_at d (take n xs) k ≡ d
past_take d zero xs k h = refl
past_take d (suc n) [] k h = refl
past_take d (suc n) (x ∷ xs) zero h = absurd (omega arith)
past_take d (suc n) (x ∷ xs) (suc k) h = past_take d n xs k (omega arith)

pub best_take : {X : Type 0} (In : X → Type 0) (f : X → List ℤ) (cs : List Cell) (n : ℕ) → (x : X) → In x → IsBestStack In f cs → IsBestStack In (λ x. take n (f x)) (take n cs)
best_take {X} In f cs n x i h = record {
  lengths = λ x i. length-take n (f x) ∙ ap (λ l. min n l) (h.lengths x i) ∙ sym (length-take n cs);
  each = λ k. elim (cases_lt k n) [
    | inl l ↦ cell_is In (λ x. taken_at (pos 1) (take n (f x)) k) (taken_at (Known (pos 1)) cs k) (taken_at (Known (pos 1)) (take n cs) k) (sym (at_take (Known (pos 1)) n cs k l))
        (best_same In (λ x. taken_at (pos 1) (f x) k) (λ x. taken_at (pos 1) (take n (f x)) k) (taken_at (Known (pos 1)) cs k) (λ x i. at_take (pos 1) n (f x) k l) (h.each k))
    | inr l ↦ cell_is In (λ x. taken_at (pos 1) (take n (f x)) k) (Known (pos 1)) (taken_at (Known (pos 1)) (take n cs) k) (sym (past_take (Known (pos 1)) n cs k l))
        (best_same In (λ x. pos 1) (λ x. taken_at (pos 1) (take n (f x)) k) (Known (pos 1)) (λ x i. past_take (pos 1) n (f x) k l) (best_constant In (pos 1) x i))
  ];
}

-- Updates.

reference_best : {X : Type 0} (In : X → Type 0) (f : X → Registers ℤ ZoneNumber) (a : Registers Cell ZoneCell) (r : Reference) (g : X → ℤ) (c : Cell) → AreBest In f a → IsBestFor In g c
    → AreBest In (λ x. record (f x) { graphics = with_reference r (g x) (f x).graphics }) (record a { graphics = with_reference r c a.graphics })
reference_best In f a Rp0 g c k h = record { rp0 = h; rp1 = k.rp1; rp2 = k.rp2; zp0 = k.zp0; zp1 = k.zp1; zp2 = k.zp2; loop_number = k.loop_number; storage = k.storage }
reference_best In f a Rp1 g c k h = record { rp0 = k.rp0; rp1 = h; rp2 = k.rp2; zp0 = k.zp0; zp1 = k.zp1; zp2 = k.zp2; loop_number = k.loop_number; storage = k.storage }
reference_best In f a Rp2 g c k h = record { rp0 = k.rp0; rp1 = k.rp1; rp2 = h; zp0 = k.zp0; zp1 = k.zp1; zp2 = k.zp2; loop_number = k.loop_number; storage = k.storage }

pointer_best : {X : Type 0} (In : X → Type 0) (f : X → Registers ℤ ZoneNumber) (a : Registers Cell ZoneCell) (r : Pointer) (g : X → ZoneNumber) (c : ZoneCell) → AreBest In f a → IsBestZone In g c
    → AreBest In (λ x. record (f x) { graphics = with_pointer r (g x) (f x).graphics }) (record a { graphics = with_pointer r c a.graphics })
pointer_best In f a Zp0 g c k h = record { rp0 = k.rp0; rp1 = k.rp1; rp2 = k.rp2; zp0 = h; zp1 = k.zp1; zp2 = k.zp2; loop_number = k.loop_number; storage = k.storage }
pointer_best In f a Zp1 g c k h = record { rp0 = k.rp0; rp1 = k.rp1; rp2 = k.rp2; zp0 = k.zp0; zp1 = h; zp2 = k.zp2; loop_number = k.loop_number; storage = k.storage }
pointer_best In f a Zp2 g c k h = record { rp0 = k.rp0; rp1 = k.rp1; rp2 = k.rp2; zp0 = k.zp0; zp1 = k.zp1; zp2 = h; loop_number = k.loop_number; storage = k.storage }

loop_best : {X : Type 0} (In : X → Type 0) (f : X → Registers ℤ ZoneNumber) (a : Registers Cell ZoneCell) (g : X → ℤ) (c : Cell) → AreBest In f a → IsBestFor In g c
    → AreBest In (λ x. record (f x) { graphics = record (f x).graphics { loop_number = g x } }) (record a { graphics = record a.graphics { loop_number = c } })
loop_best In f a g c k h = record { rp0 = k.rp0; rp1 = k.rp1; rp2 = k.rp2; zp0 = k.zp0; zp1 = k.zp1; zp2 = k.zp2; loop_number = h; storage = k.storage }

storage_best : {X : Type 0} (In : X → Type 0) (f : X → Registers ℤ ZoneNumber) (a : Registers Cell ZoneCell) (g : X → ℕ → ℤ) (c : ℕ → Cell) → AreBest In f a → ((i : ℕ) → IsBestFor In (λ x. g x i) (c i))
    → AreBest In (λ x. record (f x) { storage = g x }) (record a { storage = c })
storage_best In f a g c k h = record { rp0 = k.rp0; rp1 = k.rp1; rp2 = k.rp2; zp0 = k.zp0; zp1 = k.zp1; zp2 = k.zp2; loop_number = k.loop_number; storage = h }

zone_of_known : {X : Type 0} (In : X → Type 0) (f : X → ℤ) (c : Cell) (k : ℤ) → c ≡ Known k → IsBestFor In f c → IsBestZone In (λ x. zone_of (f x)) (zone_in c)
zone_of_known In f Unknown k e h = absurd (cc)
zone_of_known In f (Known l) k e h = go (zone_of l) (λ x i. ap zone_of (h.0 x i))
  where
    go : (z : ZoneNumber) → ((x : _) → In x → zone_of (f x) ≡ z) → IsBestZone In (λ x. zone_of (f x)) (zone_cell z)
    go Zero same = (same, h.1)
    go One same = (same, h.1)

best_if : {X : Type 0} (In : X → Type 0) (f g : X → ℤ) (c d : Cell) (b : Bool) → IsBestFor In f c → IsBestFor In g d → IsBestFor In (λ x. if b then f x else g x) (if b then c else d)
best_if In f g c d true h k = h
best_if In f g c d false h k = k

stored_best : {X : Type 0} (In : X → Type 0) (index v : X → ℤ) (area : X → ℕ → ℤ) (i c : Cell) (k : ℤ) (cells : ℕ → Cell) → i ≡ Known k → IsBestFor In index i → IsBestFor In v c
    → ((j : ℕ) → IsBestFor In (λ x. area x j) (cells j)) → (j : ℕ) → IsBestFor In (λ x. with_stored (natural (index x)) (v x) (area x) j) (with_stored (index_in i) c cells j)
stored_best In index v area Unknown c k cells e h w all j = absurd (cc)
stored_best In index v area (Known l) c k cells e h w all j =
    best_same In (λ x. with_stored (natural l) (v x) (area x) j) (λ x. with_stored (natural (index x)) (v x) (area x) j) (with_stored (natural l) c cells j)
    (λ x i. ap (λ n. with_stored (natural n) (v x) (area x) j) (h.0 x i))
    (best_if In v (λ x. area x j) c (cells j) (nat_eq (natural l) j) w (all j))

-- whether what the update reads is known
abbrev pub Readable : List Cell → Update → Type 0
Readable taken (update.SetPointer p i) = (k : ℤ) × (taken_at (Known (pos 1)) taken i ≡ Known k)
Readable taken (update.Store i v) = (k : ℤ) × (taken_at (Known (pos 1)) taken i ≡ Known k)
Readable taken _ = Unit {0}

pub update_best : {X : Type 0} (In : X → Type 0) (x : X) → In x → (t : X → List ℤ) (f : X → Registers ℤ ZoneNumber) (taken : List Cell) (a : Registers Cell ZoneCell) (u : Update)
    → Readable taken u → IsBestStack In t taken → AreBest In f a → AreBest In (λ x. updated numbers (t x) u (f x)) (updated cells taken u a)
update_best In x i t f taken a (update.SetReference r (new_number.Taken n)) known h k = reference_best In f a r (λ x. taken_at (pos 1) (t x) n) (taken_at (Known (pos 1)) taken n) k (h.each n)
update_best In x i t f taken a (update.SetReference r (new_number.Same q)) known h k = reference_best In f a r (λ x. reference q (f x).graphics) (reference q a.graphics) k (best_reference In f a q k)
update_best In x i t f taken a (update.SetPointer p n) known h k =
    pointer_best In f a p (λ x. zone_of (taken_at (pos 1) (t x) n)) (zone_in (taken_at (Known (pos 1)) taken n)) k
    (zone_of_known In (λ x. taken_at (pos 1) (t x) n) (taken_at (Known (pos 1)) taken n) known.0 known.1 (h.each n))
update_best In x i t f taken a (update.SetLoop n) known h k = loop_best In f a (λ x. taken_at (pos 1) (t x) n) (taken_at (Known (pos 1)) taken n) k (h.each n)
update_best In x i t f taken a update.LoopIsOne known h k = loop_best In f a (λ x. pos 1) (Known (pos 1)) k (best_constant In (pos 1) x i)
update_best In x i t f taken a (update.Store n v) known h k =
    storage_best In f a (λ x. with_stored (natural (taken_at (pos 1) (t x) n)) (taken_at (pos 1) (t x) v) (f x).storage)
    (with_stored (index_in (taken_at (Known (pos 1)) taken n)) (taken_at (Known (pos 1)) taken v) a.storage) k
    (stored_best In (λ x. taken_at (pos 1) (t x) n) (λ x. taken_at (pos 1) (t x) v) (λ x. (f x).storage) (taken_at (Known (pos 1)) taken n) (taken_at (Known (pos 1)) taken v) known.0 a.storage known.1 (h.each n) (h.each v) k.storage)

abbrev pub AllReadable : List Cell → List Update → Type 0
AllReadable taken [] = Unit {0}
AllReadable taken (u ∷ us) = Readable taken u × AllReadable taken us

pub updates_best : {X : Type 0} (In : X → Type 0) (x : X) → In x → (t : X → List ℤ) (f : X → Registers ℤ ZoneNumber) (taken : List Cell) (a : Registers Cell ZoneCell) (us : List Update)
    → AllReadable taken us → IsBestStack In t taken → AreBest In f a → AreBest In (λ x. all_updated numbers (t x) us (f x)) (all_updated cells taken us a)
updates_best In x i t f taken a [] known h k = k
updates_best In x i t f taken a (u ∷ us) known h k =
    updates_best In x i t (λ x. updated numbers (t x) u (f x)) taken (updated cells taken u a) us known.1 h (update_best In x i t f taken a u known.0 h k)
