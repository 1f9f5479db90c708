-- The walk through points in lists and beside them: the first of both, and what is left after it.
use Rattle.std.specs.Prelude.{◌≡◌, ℕ, Bool, true, false, cond, Option, Some, None, List, [], ◌∷◌, IfSome}
use Rattle.std.specs.declared.cmp.Ordering.{Ordering}
use Rattle.std.specs.declared.cmp.Ordering.TheVariants.{Less, Equal, Greater}
use Rattle.std.specs.Ordering.{is_lt, is_eq, ordering_reverse}
use Rattle.std.specs.List.{AllByRecursion}
use Rattle.std.specs.List.Sorted.{IsStrictlySortedBy}
use Rattle.std.specs.Map.{keys_of}
use Rattle.std.specs.BTreeMap.{is_at}
use Rattle.std.proofs.Common.{refl, sym, ◌∙◌, ap, subst}
use Rattle.std.proofs.lemmas.Bool.{false≢true}
use Rattle.std.proofs.lemmas.Cmp.{tied_itself}
use Rattle.std.proofs.lemmas.Map.Entries.{lookup_head}
use Rattle.std.proofs.lemmas.Map.Keys.{sorted_head, sorted_tail}
use Rattle.tt_family.specs.Places.{place_cmp, states_of}
use Rattle.tt_family.specs.Representation.SlotLists.{Point, merged, AreApart, with_first, comes_first}
use Rattle.tt_family.proofs.Putting.{place_total}
use Rattle.tt_family.proofs.PlaceEntries.{merged_first, merged_other, below_below, place_exact}

-- a list whose first point was taken out
pub taken_first : (r : Option Point) (old new : List Point) → (r ≡ None → old ≡ []) → IfSome r (λ e. old ≡ e ∷ new) → with_first r new ≡ old
taken_first None old new none some = sym (none refl)
taken_first (Some e) old new none some = sym some

found_first : (e : Point) (es : List Point) → states_of (e ∷ es) e.0 ≡ Some e.1
found_first e es = lookup_head (is_at (place_cmp e.0)) e es (ap is_eq (tied_itself place_total e.0))

none_behind_first : (e : Point) (es : List Point) (p : ℕ × ℕ) → states_of (e ∷ es) p ≡ None → states_of es p ≡ None
none_behind_first e es p none = go (is_at (place_cmp p) e.0) none
  where
    go : (b : Bool) → cond b (Some e.1) (states_of es p) ≡ None → states_of es p ≡ None
    go true both = absurd (cc)
    go false is = is

found_behind_first : (e : Point) (es : List Point) (p : ℕ × ℕ) (n : ℕ) → AllByRecursion (λ q. place_cmp e.0 q ≡ Less) (keys_of es) → states_of es p ≡ Some n → states_of (e ∷ es) p ≡ Some n
found_behind_first e es p n before at = go (place_cmp p e.0) refl
  where
    missed : (ds : List Point) → AllByRecursion (λ q. place_cmp p q ≡ Less) (keys_of ds) → states_of ds p ≡ None
    missed [] h = refl
    missed (d ∷ ds) h = ap (λ o. cond (is_eq o) (Some d.1) (states_of ds p)) h.0 ∙ missed ds h.1

    go : (o : Ordering) → place_cmp p e.0 ≡ o → cond (is_eq o) (Some e.1) (states_of es p) ≡ Some n
    go Less h = at
    go Equal h =
        let B : ℕ × ℕ → Type 0 = λ x. AllByRecursion (λ q. place_cmp x q ≡ Less) (keys_of es) in
        let both : Some n ≡ None = sym at ∙ missed es (subst B (sym (place_exact p e.0 h)) before) in
        absurd (cc)
    go Greater h = at

module _ (points : List Point) (e : Point) (rest : List Point) (apart : AreApart points (e ∷ rest)) where
  apart_behind_other : AreApart points rest
  apart_behind_other = record {
    points_ascend = apart.points_ascend;
    rest_ascends = sorted_tail place_cmp e.0 (keys_of rest) apart.rest_ascends;
    once = λ p n at. apart.once p n (found_behind_first e rest p n (sorted_head place_cmp e.0 (keys_of rest) apart.rest_ascends) at);
  }

module _ (e : Point) (points rest : List Point) (apart : AreApart (e ∷ points) rest) where
  apart_behind_first : AreApart points rest
  apart_behind_first = record {
    points_ascend = sorted_tail place_cmp e.0 (keys_of points) apart.points_ascend;
    rest_ascends = apart.rest_ascends;
    once = λ p n at. none_behind_first e points p (apart.once p n at);
  }

-- the first point beside the lists comes before all those of the lists
other_before : (e : Point) (first : Option Point) (points : List Point) → IsStrictlySortedBy place_cmp (keys_of (with_first first points)) → comes_first (Some e) first ≡ true
    → AllByRecursion (λ q. place_cmp e.0 q ≡ Less) (keys_of (with_first first points))
other_before e None points rise before = tt
other_before e (Some f) points rise before =
    let less : place_cmp e.0 f.0 ≡ Less = go (place_cmp e.0 f.0) before in
    (less, below_below e.0 f.0 points less (sorted_head place_cmp f.0 (keys_of points) rise))
  where
    go : (o : Ordering) → is_lt o ≡ true → o ≡ Less
    go Less h = refl
    go Equal h = absurd (false≢true h)
    go Greater h = absurd (false≢true h)

-- the first point of the lists comes before all those beside them
first_before : (e : Point) (points : List Point) (other : Option Point) (rest : List Point) → AreApart (e ∷ points) (with_first other rest) → comes_first other (Some e) ≡ false
    → AllByRecursion (λ q. place_cmp e.0 q ≡ Less) (keys_of (with_first other rest))
first_before e points None rest apart behind = tt
first_before e points (Some d) rest apart behind =
    let less : place_cmp e.0 d.0 ≡ Less = go (place_cmp d.0 e.0) refl behind in
    (less, below_below e.0 d.0 rest less (sorted_head place_cmp d.0 (keys_of rest) apart.rest_ascends))
  where
    go : (o : Ordering) → place_cmp d.0 e.0 ≡ o → is_lt o ≡ false → place_cmp e.0 d.0 ≡ Less
    go Less h k = absurd (false≢true (sym k))
    go Equal h k =
        let both : Some e.1 ≡ None = sym (found_first e points) ∙ ap (states_of (e ∷ points)) (sym (place_exact d.0 e.0 h)) ∙ apart.once d.0 d.1 (found_first d rest) in
        absurd (cc)
    go Greater h k = place_total.antisymm e.0 d.0 ∙ ap ordering_reverse h

-- the first point beside the lists is taken
module _ (first other : Option Point) (points rest : List Point) (apart : AreApart (with_first first points) (with_first other rest)) (before : comes_first other first ≡ true)
    (r : Option Point) (rest' : List Point) (none : r ≡ None → rest ≡ []) (some : IfSome r (λ e. rest ≡ e ∷ rest')) where
  pub other_taken_apart : AreApart (with_first first points) (with_first r rest')
  other_taken_apart =
      let A : List Point → Type 0 = λ l. AreApart (with_first first points) l in
      subst A (sym (taken_first r rest rest' none some)) (go other apart before)
    where
      go : (o : Option Point) → AreApart (with_first first points) (with_first o rest) → comes_first o first ≡ true → AreApart (with_first first points) rest
      go None h k = absurd (false≢true k)
      go (Some e) h k = apart_behind_other (with_first first points) e rest h

  pub other_taken : (t : List Point) → merged (with_first first points) (with_first other rest) ≡ t
      → IfSome other (λ e. t ≡ e ∷ merged (with_first first points) (with_first r rest'))
  other_taken t is = go other apart before is
    where
      go : (o : Option Point) → AreApart (with_first first points) (with_first o rest) → comes_first o first ≡ true → merged (with_first first points) (with_first o rest) ≡ t
          → IfSome o (λ e. t ≡ e ∷ merged (with_first first points) (with_first r rest'))
      go None h k at = tt
      go (Some e) h k at =
          sym at ∙ merged_other (with_first first points) rest e (other_before e first points h.points_ascend k) (sorted_head place_cmp e.0 (keys_of rest) h.rest_ascends)
          ∙ ap (λ l. e ∷ merged (with_first first points) l) (sym (taken_first r rest rest' none some))

-- the first point of the lists is taken
module _ (e : Point) (other : Option Point) (points rest : List Point) (apart : AreApart (e ∷ points) (with_first other rest)) (behind : comes_first other (Some e) ≡ false)
    (r : Option Point) (points' : List Point) (none : r ≡ None → points ≡ []) (some : IfSome r (λ d. points ≡ d ∷ points')) where
  pub first_taken_apart : AreApart (with_first r points') (with_first other rest)
  first_taken_apart =
      let A : List Point → Type 0 = λ l. AreApart l (with_first other rest) in
      subst A (sym (taken_first r points points' none some)) (apart_behind_first e points (with_first other rest) apart)

  pub first_taken : (t : List Point) → merged (e ∷ points) (with_first other rest) ≡ t → t ≡ e ∷ merged (with_first r points') (with_first other rest)
  first_taken t is =
      sym is ∙ merged_first points (with_first other rest) e (first_before e points other rest apart behind)
      ∙ ap (λ l. e ∷ merged l (with_first other rest)) (sym (taken_first r points points' none some))
