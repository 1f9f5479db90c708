-- What is derived is in range, within the limits, and below each good family.
use Rattle.std.specs.Prelude.{◌≡◌, ℕ, ◌≤◌, Option}
use Rattle.std.proofs.Common.{subst}
use Rattle.tt_code.specs.declared.reason.Reason.{Reason}
use Rattle.tt_abs.specs.Orders.{Order, OrderLaws}
use Rattle.tt_abs.specs.Flows.{Flow, FlowLaws}
use Rattle.tt_abs.specs.Families.{CoversAt, IsFamilyInRange, IsGood, IsFine, Derived, started, moved, joined}

-- what a derived value is
pub record IsDerivedAt {P S : Type 0} (o : Order S) (f : Flow P S) (p : P) (s : S) : Type 0 where
  pub point : f.IsPoint p
  pub in_range : o.InRange s
  pub fits : f.Fits s

pub derived_is : {P S : Type 0} (o : Order S) (f : Flow P S) (h : ℕ) → FlowLaws o f h
    → (p : P) (s : S) → Derived o f p s → IsDerivedAt o f p s
derived_is o f h laws p s started =
    record { point = laws.entry_point; in_range = laws.start_in_range; fits = laws.start_fits }
derived_is o f h laws p s (moved p' q s' t d free gives) =
    let k = derived_is o f h laws p' s' d in
    record {
      point = laws.gives_point p' s' q t k.point k.in_range k.fits gives;
      in_range = laws.gives_in_range p' s' q t gives;
      fits = laws.gives_fits p' s' q t k.point k.in_range k.fits gives;
    }
derived_is o f h laws p s (joined p' a b c da db least) =
    let k = derived_is o f h laws p' a da in
    record { point = k.point; in_range = least.in_range; fits = laws.fits_above a c least.left k.fits }

-- a derived value can rise at most so often
pub derived_height : {P S : Type 0} (o : Order S) (f : Flow P S) (h : ℕ) → FlowLaws o f h
    → (p : P) (s : S) → Derived o f p s → o.left s ≤ h
derived_height o f h laws p s d =
    let k = derived_is o f h laws p s d in laws.fits_height s k.in_range k.fits

-- a derived value is below each good family's value at its point
pub derived_below : {P S : Type 0} (o : Order S) (f : Flow P S) (h : ℕ) → OrderLaws o
    → FlowLaws o f h → (family : P → Option S) → IsGood o f family
    → (p : P) (s : S) → Derived o f p s → CoversAt o family p s
derived_below o f h order laws family good p s started = good.start
derived_below o f h order laws family good p s (moved p' q s' t d free gives) =
    let k = derived_is o f h laws p' s' d in
    let (a, at, below) = derived_below o f h order laws family good p' s' d in
    let (u, gives', below') = laws.gives_above p' s' a q t k.point k.in_range (good.in_range p' a at) below (λ r. good.safe p' a r at) gives in
    let (v, at', below'') = good.closed p' a q u at gives' in
    (v, at', order.transitive t u v below' below'')
derived_below {P} {S} o f h order laws family good p s (joined p' a b c da db least) =
    let (u, at, below) = derived_below o f h order laws family good p' a da in
    let (v, at', below') = derived_below o f h order laws family good p' b db in
    let same : v ≡ u = cc in
    let B : S → Type 0 = λ x. o.Below b x in
    (u, at, least.least u (good.in_range p' u at) below (subst B same below'))

-- where a derived value is refused, no family is good
pub none_where_refused : {P S : Type 0} (o : Order S) (f : Flow P S) (h : ℕ) → OrderLaws o
    → FlowLaws o f h → (p : P) (s : S) (r : Reason)
    → Derived o f p s → f.Refuses p s r → (family : P → Option S) → IsGood o f family → ⊥
none_where_refused o f h order laws p s r d refused family good =
    let k = derived_is o f h laws p s d in
    let (u, at, below) = derived_below o f h order laws family good p s d in
    let (r', refused') = laws.refuses_above p s u r k.point k.in_range (good.in_range p u at) below refused in
    good.safe p u r' at refused'

-- where two values that are derived at one point differ in depth, no family is good
pub none_where_apart : {P S : Type 0} (o : Order S) (f : Flow P S) (h : ℕ) → OrderLaws o
    → FlowLaws o f h → (p : P) (s t : S)
    → Derived o f p s → Derived o f p t → (o.SameDepth s t → ⊥) → (family : P → Option S)
    → IsGood o f family → ⊥
none_where_apart {P} {S} o f h order laws p s t ds dt apart family good =
    let (u, at, below) = derived_below o f h order laws family good p s ds in
    let (v, at', below') = derived_below o f h order laws family good p t dt in
    let same : v ≡ u = cc in
    let D : S → Type 0 = λ x. o.SameDepth x t in
    apart (order.depth_transitive s u t (order.one_depth s u below)
    (subst D same (order.depth_symmetric t v (order.one_depth t v below'))))

-- a family is good where it is fine at each point
pub good_from_fine : {P S : Type 0} (o : Order S) (f : Flow P S) (family : P → Option S)
    → IsFamilyInRange o family → CoversAt o family f.entry f.start
    → ((p : P) → IsFine o f family p) → IsGood o f family
good_from_fine o f family in_range start fine = record {
  in_range = in_range;
  start = start;
  safe = λ p s r at refused. (fine p s at).0 r refused;
  closed = λ p s q t at gives. (fine p s at).1 q t gives;
}
