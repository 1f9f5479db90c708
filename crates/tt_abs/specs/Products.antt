-- The order of pairs, and an order along a function that loses nothing.
use Rattle.std.specs.Prelude.{◌≡◌, ◌+◌}
use Rattle.std.proofs.Common.{sym, ◌∙◌, ap, arith}
use Rattle.tt_abs.specs.Orders.{Order, OrderLaws, IsLeastAbove}

-- a pair is below another if each of its parts is
abbrev pub product : {A B : Type 0} → Order A → Order B → Order (A × B)
product a b = record {
  InRange = λ s. a.InRange s.0 × b.InRange s.1;
  Below = λ s t. a.Below s.0 t.0 × b.Below s.1 t.1;
  SameDepth = λ s t. a.SameDepth s.0 t.0 × b.SameDepth s.1 t.1;
  left = λ s. a.left s.0 + b.left s.1;
}

-- the laws of the order of pairs
pub product_laws : {A B : Type 0} (a : Order A) (b : Order B) → OrderLaws a → OrderLaws b
    → OrderLaws (product a b)
product_laws {A} {B} a b la lb = record {
  reflexive = λ s. (la.reflexive s.0, lb.reflexive s.1);
  transitive = λ s t u p q. (la.transitive s.0 t.0 u.0 p.0 q.0, lb.transitive s.1 t.1 u.1 p.1 q.1);
  antisymmetric = λ s t rs rt p q.
      let one : s.0 ≡ t.0 = la.antisymmetric s.0 t.0 rs.0 rt.0 p.0 q.0 in
      let two : s.1 ≡ t.1 = lb.antisymmetric s.1 t.1 rs.1 rt.1 p.1 q.1 in pair_same one two;
  one_depth = λ s t p. (la.one_depth s.0 t.0 p.0, lb.one_depth s.1 t.1 p.1);
  depth_symmetric = λ s t p. (la.depth_symmetric s.0 t.0 p.0, lb.depth_symmetric s.1 t.1 p.1);
  depth_transitive = λ s t u p q.
      (la.depth_transitive s.0 t.0 u.0 p.0 q.0, lb.depth_transitive s.1 t.1 u.1 p.1 q.1);
  left_falls = λ s t rs rt p.
      let one = la.left_falls s.0 t.0 rs.0 rt.0 p.0 in
      let two = lb.left_falls s.1 t.1 rs.1 rt.1 p.1 in omega arith;
  left_strict = λ s t rs rt p e.
      let one = la.left_falls s.0 t.0 rs.0 rt.0 p.0 in
      let two = lb.left_falls s.1 t.1 rs.1 rt.1 p.1 in
      pair_same (la.left_strict s.0 t.0 rs.0 rt.0 p.0 (omega arith))
      (lb.left_strict s.1 t.1 rs.1 rt.1 p.1 (omega arith));
}
  where
    pair_same : {s t : A × B} → s.0 ≡ t.0 → s.1 ≡ t.1 → s ≡ t
    pair_same p q = λ i. (p i, q i)

-- the least parts above those of two pairs make the least pair above both
pub product_least : {A B : Type 0} (a : Order A) (b : Order B) (s t u : A × B)
    → IsLeastAbove a s.0 t.0 u.0 → IsLeastAbove b s.1 t.1 u.1 → IsLeastAbove (product a b) s t u
product_least a b s t u p q = record {
  in_range = (p.in_range, q.in_range);
  left = (p.left, q.left);
  right = (p.right, q.right);
  least = λ d r x y. (p.least d.0 r.0 x.0 y.0, q.least d.1 r.1 x.1 y.1);
}

-- the order of values by their images under f
abbrev pub along : {S T : Type 0} → (S → T) → Order T → Order S
along f o = record {
  InRange = λ s. o.InRange (f s);
  Below = λ s t. o.Below (f s) (f t);
  SameDepth = λ s t. o.SameDepth (f s) (f t);
  left = λ s. o.left (f s);
}

-- the laws of that order, where f can be undone
pub along_laws : {S T : Type 0} (f : S → T) (back : T → S) → ((s : S) → back (f s) ≡ s)
    → (o : Order T) → OrderLaws o → OrderLaws (along f o)
along_laws {S} f back undoes o l = record {
  reflexive = λ s. l.reflexive (f s);
  transitive = λ s t u. l.transitive (f s) (f t) (f u);
  antisymmetric = λ s t rs rt p q.
      sym (undoes s) ∙ ap back (l.antisymmetric (f s) (f t) rs rt p q) ∙ undoes t;
  one_depth = λ s t. l.one_depth (f s) (f t);
  depth_symmetric = λ s t. l.depth_symmetric (f s) (f t);
  depth_transitive = λ s t u. l.depth_transitive (f s) (f t) (f u);
  left_falls = λ s t. l.left_falls (f s) (f t);
  left_strict = λ s t rs rt p e.
      sym (undoes s) ∙ ap back (l.left_strict (f s) (f t) rs rt p e) ∙ undoes t;
}

-- a value is the least one above two others if its image under f is the least one above theirs
pub along_least : {S T : Type 0} (f : S → T) (o : Order T) (s t u : S)
    → IsLeastAbove o (f s) (f t) (f u) → IsLeastAbove (along f o) s t u
along_least f o s t u p =
    record { in_range = p.in_range; left = p.left; right = p.right; least = λ d. p.least (f d) }
