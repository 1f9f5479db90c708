-- The chains from a glyph, one by one, and what the glyphs at their ends have.
use Rattle.std.specs.Prelude.{◌≡◌, ℕ, zero, suc, ◌+◌, ◌<◌, ◌≤◌, ◌⊎◌, ◌↔◌, ◌++◌, ◌||◌, List, [], ◌∷◌, length, Bool, true, false, nat_lt, if◌then◌else◌}
use Rattle.std.specs.List.{sum_by, list_any}
use Rattle.std.proofs.Common.{refl, sym, ◌∙◌, ap, subst, arith, get_or, inl, inr}
use Rattle.std.proofs.lemmas.List.Sums.{sum_by-cons, sum_by-append}
use Rattle.std.proofs.lemmas.Bool.{lt-ltb, le-ltb}
use Rattle.tt_font.specs.Outlines.{Outline, simple, composite, parts, own_points, own_contours, starts_chain, total}
use Rattle.tt_font.specs.Representation.OutlineSizes.{has_parts}
use Rattle.tt_font.specs.Chains.{part_of, IsChain, end_of, In, Distinct, SumsChains}

-- ---- members
In-left : {X : Type 0} (x : X) (xs ys : List X) → In x xs → In x (xs ++ ys)
In-left x [] ys i = absurd i
In-left x (y ∷ xs) ys (inl e) = inl e
In-left x (y ∷ xs) ys (inr i) = inr (In-left x xs ys i)

In-right : {X : Type 0} (x : X) (xs ys : List X) → In x ys → In x (xs ++ ys)
In-right x [] ys i = i
In-right x (y ∷ xs) ys i = inr (In-right x xs ys i)

In-cases : {X : Type 0} (x : X) (xs ys : List X) → In x (xs ++ ys) → In x xs ⊎ In x ys
In-cases x [] ys i = inr i
In-cases x (y ∷ xs) ys (inl e) = inl (inl e)
In-cases x (y ∷ xs) ys (inr i) = elim (In-cases x xs ys i) [ inl a ↦ inl (inr a) | inr b ↦ inr b ]

-- each chain of a list with a step before it
abbrev step : ℕ → List (List ℕ) → List (List ℕ)
step i [] = []
step i (c ∷ cs) = (i ∷ c) ∷ step i cs

In-step : (i : ℕ) (c : List ℕ) (cs : List (List ℕ)) → In c cs → In (i ∷ c) (step i cs)
In-step i c [] h = absurd h
In-step i c (d ∷ cs) (inl e) = inl (ap (λ x. i ∷ x) e)
In-step i c (d ∷ cs) (inr h) = inr (In-step i c cs h)

-- what is in a stepped list
from_step : (i j : ℕ) (c : List ℕ) (cs : List (List ℕ)) → In (j ∷ c) (step i cs) → (j ≡ i) × In c cs
from_step i j c [] h = absurd h
from_step i j c (d ∷ cs) (inl e) = (let a : j ≡ i = cc in a, inl (let b : c ≡ d = cc in b))
from_step i j c (d ∷ cs) (inr h) = let (a, b) = from_step i j c cs h in (a, inr b)

no_empty : (i : ℕ) (cs : List (List ℕ)) → In [] (step i cs) → ⊥
no_empty i [] h = h
no_empty i (d ∷ cs) (inl e) = cc
no_empty i (d ∷ cs) (inr h) = no_empty i cs h

Distinct-step : (i : ℕ) (cs : List (List ℕ)) → Distinct cs → Distinct (step i cs)
Distinct-step i [] d = tt
Distinct-step i (c ∷ cs) d = (λ h. d.0 (from_step i i c cs h).1, Distinct-step i cs d.1)

Distinct-append : {X : Type 0} (xs ys : List X) → Distinct xs → Distinct ys → ((x : X) → In x xs → In x ys → ⊥) → Distinct (xs ++ ys)
Distinct-append [] ys a b apart = b
Distinct-append (x ∷ xs) ys a b apart = (
  λ h. elim (In-cases x xs ys h) [ inl i ↦ a.0 i | inr j ↦ apart x (inl refl) j ],
  Distinct-append xs ys a.1 b (λ y i j. apart y (inr i) j),
)

-- the chains that go by the components from the i-th on
abbrev over : (ℕ → List (List ℕ)) → ℕ → List ℕ → List (List ℕ)
over f i [] = []
over f i (c ∷ cs) = step i (f c) ++ over f (suc i) cs

over_above : (f : ℕ → List (List ℕ)) (i j : ℕ) (cs : List ℕ) (c : List ℕ) → In (j ∷ c) (over f i cs) → i ≤ j
over_above f i j [] c h = absurd h
over_above f i j (d ∷ cs) c h = elim (In-cases (j ∷ c) (step i (f d)) (over f (suc i) cs) h) [
  | inl a ↦ (let (e, _) = from_step i j c (f d) a in omega arith)
  | inr b ↦ (let up = over_above f (suc i) j cs c b in omega arith)
]

over_not_empty : (f : ℕ → List (List ℕ)) (i : ℕ) (cs : List ℕ) → In [] (over f i cs) → ⊥
over_not_empty f i [] h = h
over_not_empty f i (d ∷ cs) h = elim (In-cases [] (step i (f d)) (over f (suc i) cs) h) [
  | inl a ↦ no_empty i (f d) a
  | inr b ↦ over_not_empty f (suc i) cs b
]

apart_step : (f : ℕ → List (List ℕ)) (i : ℕ) (d : ℕ) (cs : List ℕ) (x : List ℕ) → In x (step i (f d)) → In x (over f (suc i) cs) → ⊥
apart_step f i d cs [] a b = no_empty i (f d) a
apart_step f i d cs (j ∷ c) a b =
    let (e, _) = from_step i j c (f d) a in
    let up = over_above f (suc i) j cs c b in
    absurd (omega arith)

over_distinct : (f : ℕ → List (List ℕ)) (i : ℕ) (cs : List ℕ) → ((c : ℕ) → Distinct (f c)) → Distinct (over f i cs)
over_distinct f i [] d = tt
over_distinct f i (c ∷ cs) d = Distinct-append (step i (f c)) (over f (suc i) cs) (Distinct-step i (f c) (d c)) (over_distinct f (suc i) cs d)
    (λ x a b. apart_step f i c cs x a b)

-- a chain by the j-th component is there if its rest is
over_has : (f : ℕ → List (List ℕ)) (i j : ℕ) (cs : List ℕ) (c : List ℕ) → j < length cs → In c (f (get_or cs j 0)) → In ((i + j) ∷ c) (over f i cs)
over_has f i j [] c lt h = absurd (omega arith)
over_has f i zero (d ∷ cs) c lt h =
    let P : ℕ → Type 0 = λ x. In (x ∷ c) (step i (f d)) in
    In-left ((i + 0) ∷ c) (step i (f d)) (over f (suc i) cs) (let e : i ≡ i + 0 = omega arith in subst P e (In-step i c (f d) h))
over_has f i (suc j) (d ∷ cs) c lt h =
    let P : ℕ → Type 0 = λ x. In (x ∷ c) (over f (suc i) cs) in
    let e : suc i + j ≡ i + suc j = omega arith in
    In-right ((i + suc j) ∷ c) (step i (f d)) (over f (suc i) cs) (subst P e (over_has f (suc i) j cs c (omega arith) h))

over_only : (f : ℕ → List (List ℕ)) (i j : ℕ) (cs : List ℕ) (c : List ℕ) → In ((i + j) ∷ c) (over f i cs) → (j < length cs) × In c (f (get_or cs j 0))
over_only f i j [] c h = absurd h
over_only f i zero (d ∷ cs) c h = elim (In-cases ((i + 0) ∷ c) (step i (f d)) (over f (suc i) cs) h) [
  | inl a ↦ (omega arith, (from_step i (i + 0) c (f d) a).1)
  | inr b ↦ absurd (let up = over_above f (suc i) (i + 0) cs c b in omega arith)
]
over_only f i (suc j) (d ∷ cs) c h = elim (In-cases ((i + suc j) ∷ c) (step i (f d)) (over f (suc i) cs) h) [
  | inl a ↦ absurd (let (e, _) = from_step i (i + suc j) c (f d) a in omega arith)
  | inr b ↦
      let P : ℕ → Type 0 = λ x. In (x ∷ c) (over f (suc i) cs) in
      let e : i + suc j ≡ suc i + j = omega arith in
      let (lt, there) = over_only f (suc i) j cs c (subst P e b) in (omega arith, there)
]

step_sum : (w v : List ℕ → ℕ) (i : ℕ) (cs : List (List ℕ)) → ((c : List ℕ) → w (i ∷ c) ≡ v c) → sum_by w (step i cs) ≡ sum_by v cs
step_sum w v i [] same = refl
step_sum w v i (c ∷ cs) same =
    let a = sum_by-cons w (i ∷ c) (step i cs) in let b = sum_by-cons v c cs in let d = same c in let ih = step_sum w v i cs same in omega arith

over_sum : (f : ℕ → List (List ℕ)) (w : List ℕ → ℕ) (v : ℕ → List ℕ → ℕ) (t : ℕ → ℕ) (i : ℕ) (cs : List ℕ)
    → ((j : ℕ) → j < length cs → (c : List ℕ) → w ((i + j) ∷ c) ≡ v (get_or cs j 0) c)
    → ((j : ℕ) → j < length cs → sum_by (v (get_or cs j 0)) (f (get_or cs j 0)) ≡ t (get_or cs j 0))
    → sum_by w (over f i cs) ≡ sum_by t cs
over_sum f w v t i [] same sums = refl
over_sum f w v t i (d ∷ cs) same sums =
    let a = sum_by-append w (step i (f d)) (over f (suc i) cs) in
    let b = step_sum w (v d) i (f d) (λ c. (let e : i ≡ i + 0 = omega arith in ap (λ x. w (x ∷ c)) e) ∙ same 0 (omega arith) c) in
    let first = sums 0 (omega arith) in
    let rest = over_sum f w v t (suc i) cs (λ j lt c. (let e : suc i + j ≡ i + suc j = omega arith in ap (λ x. w (x ∷ c)) e) ∙ same (suc j) (omega arith) c) (λ j lt. sums (suc j) (omega arith)) in
    let d' = sum_by-cons t d cs in
    omega arith

-- ---- all chains of at most k steps
chains : (ℕ → Outline) → ℕ → ℕ → List (List ℕ)
chains outlines zero g = [] ∷ []
chains outlines (suc k) g = if has_parts (outlines g) then over (chains outlines k) 0 (parts (outlines g)) else ([] ∷ [])

left_false : (a b : Bool) → (a || b) ≡ false → a ≡ false
left_false true b e = cc
left_false false b e = refl

right_false : (a b : Bool) → (a || b) ≡ false → b ≡ false
right_false true b e = cc
right_false false b e = e

true_or_false : (b : Bool) → (b ≡ true) ⊎ (b ≡ false)
true_or_false true = inl refl
true_or_false false = inr refl

by_test : (b : Bool) (xs : List (List ℕ)) → Distinct xs → Distinct (if b then xs else ([] ∷ []))
by_test true xs d = d
by_test false xs d = (λ h. h, tt)

own_none_points : (o : Outline) → has_parts o ≡ true → own_points o ≡ 0
own_none_points (simple p c) e = absurd (cc)
own_none_points (composite v) e = refl

own_none_contours : (o : Outline) → has_parts o ≡ true → own_contours o ≡ 0
own_none_contours (simple p c) e = absurd (cc)
own_none_contours (composite v) e = refl

none_in : (xs : List ℕ) → nat_lt 0 (length xs) ≡ false → xs ≡ []
none_in [] e = refl
none_in (x ∷ xs) e = absurd (let some : nat_lt 0 (length (x ∷ xs)) ≡ true = lt-ltb 0 (length (x ∷ xs)) (omega arith) in cc)

no_parts : (o : Outline) → has_parts o ≡ false → parts o ≡ []
no_parts o e = none_in (parts o) e

any_none : (p : ℕ → Bool) (xs : List ℕ) (j : ℕ) → list_any p xs ≡ false → j < length xs → p (get_or xs j 0) ≡ false
any_none p [] j e lt = absurd (omega arith)
any_none p (x ∷ xs) zero e lt = left_false (p x) _ e
any_none p (x ∷ xs) (suc j) e lt = any_none p xs j (right_false (p x) _ e) (omega arith)

bad_below : (outlines : ℕ → Outline) (k g j : ℕ) → starts_chain outlines (suc (suc k)) g ≡ false → j < length (parts (outlines g)) → starts_chain outlines (suc k) (part_of outlines g j) ≡ false
unfolding starts_chain
bad_below outlines k g j e lt = any_none (starts_chain outlines (suc k)) (parts (outlines g)) j e lt

chains_distinct : (outlines : ℕ → Outline) (k g : ℕ) → Distinct (chains outlines k g)
unfolding chains
chains_distinct outlines zero g = (λ h. h, tt)
chains_distinct outlines (suc k) g = by_test (has_parts (outlines g)) _ (over_distinct (chains outlines k) 0 (parts (outlines g)) (chains_distinct outlines k))

chains_composite : (outlines : ℕ → Outline) (k g : ℕ) → has_parts (outlines g) ≡ true → chains outlines (suc k) g ≡ over (chains outlines k) 0 (parts (outlines g))
unfolding chains
chains_composite outlines k g e = rw e refl

chains_simple : (outlines : ℕ → Outline) (k g : ℕ) → has_parts (outlines g) ≡ false → chains outlines k g ≡ [] ∷ []
unfolding chains
chains_simple outlines zero g e = refl
chains_simple outlines (suc k) g e = rw e refl

-- from a glyph without components only the empty chain leads
simple_chains : (outlines : ℕ → Outline) (g : ℕ) (c : List ℕ) → has_parts (outlines g) ≡ false → In c ([] ∷ []) ↔ IsChain outlines g c
simple_chains outlines g [] e = (λ _. no_parts (outlines g) e, λ _. inl refl)
simple_chains outlines g (i ∷ c) e = (
  (λ h. elim h [ inl bad ↦ absurd (cc) | inr bad ↦ absurd bad ]),
  (λ h. absurd (let lt = h.0 in let n = ap length (no_parts (outlines g) e) in omega arith)),
)

first_round : (outlines : ℕ → Outline) (g : ℕ) → starts_chain outlines 1 g ≡ false → has_parts (outlines g) ≡ false
unfolding starts_chain
first_round outlines g e = by_list (parts (outlines g)) e
  where
    by_list : (xs : List ℕ) → list_any (starts_chain outlines zero) xs ≡ false → nat_lt 0 (length xs) ≡ false
    by_list [] e = le-ltb 0 0 (omega arith)
    by_list (x ∷ xs) e = absurd (cc)

composite_chains : (outlines : ℕ → Outline) (k g : ℕ) (c : List ℕ) → has_parts (outlines g) ≡ true
    → ((j : ℕ) (d : List ℕ) → j < length (parts (outlines g)) → In d (chains outlines k (part_of outlines g j)) ↔ IsChain outlines (part_of outlines g j) d)
    → In c (over (chains outlines k) 0 (parts (outlines g))) ↔ IsChain outlines g c
composite_chains outlines k g [] e below = (
  (λ h. absurd (over_not_empty (chains outlines k) 0 (parts (outlines g)) h)),
  (λ h. absurd (let some : true ≡ nat_lt 0 0 = sym e ∙ ap (λ xs. nat_lt 0 (length xs)) h in let none : nat_lt 0 0 ≡ false = le-ltb 0 0 (omega arith) in let bad : true ≡ false = some ∙ none in cc)),
)
composite_chains outlines k g (i ∷ c) e below =
    let all = over (chains outlines k) 0 (parts (outlines g)) in
    let P : ℕ → Type 0 = λ x. In (x ∷ c) (over (chains outlines k) 0 (parts (outlines g))) in
    let same : 0 + i ≡ i = omega arith in (
      (λ h. let (lt, there) = over_only (chains outlines k) 0 i (parts (outlines g)) c (subst P (sym same) h) in (lt, (below i c lt).0 there)),
      (λ h. subst P same (over_has (chains outlines k) 0 i (parts (outlines g)) c h.0 ((below i c h.0).1 h.1))),
    )

total_simple : (own : Outline → ℕ) (outlines : ℕ → Outline) (k g : ℕ) → has_parts (outlines g) ≡ false → total own outlines k g ≡ own (outlines g)
unfolding total
total_simple own outlines zero g e = refl
total_simple own outlines (suc k) g e = let n = ap (sum_by (total own outlines k)) (no_parts (outlines g) e) in omega arith

total_composite : (own : Outline → ℕ) (outlines : ℕ → Outline) (k g : ℕ) → own (outlines g) ≡ 0
    → total own outlines (suc k) g ≡ sum_by (total own outlines k) (parts (outlines g))
unfolding total
total_composite own outlines k g e = omega arith

member : (outlines : ℕ → Outline) (k g : ℕ) (c : List ℕ) → starts_chain outlines (suc k) g ≡ false → In c (chains outlines k g) ↔ IsChain outlines g c
member outlines zero g c e = let none_here = first_round outlines g e in
    let I : List (List ℕ) → Type 0 = λ x. In c x ↔ IsChain outlines g c in
    subst I (sym (chains_simple outlines zero g none_here)) (simple_chains outlines g c none_here)
member outlines (suc k) g c e = elim (true_or_false (has_parts (outlines g))) [
  | inr alone ↦ (let I : List (List ℕ) → Type 0 = λ x. In c x ↔ IsChain outlines g c in
      subst I (sym (chains_simple outlines (suc k) g alone)) (simple_chains outlines g c alone))
  | inl made ↦ (let I : List (List ℕ) → Type 0 = λ x. In c x ↔ IsChain outlines g c in
      subst I (sym (chains_composite outlines k g made))
      (composite_chains outlines k g c made (λ j d lt. member outlines k (part_of outlines g j) d (bad_below outlines k g j e lt))))
]

w_of : (Outline → ℕ) → (ℕ → Outline) → ℕ → List ℕ → ℕ
w_of own outlines g chain = own (outlines (end_of outlines g chain))

one_chain : (own : Outline → ℕ) (outlines : ℕ → Outline) (g : ℕ) → sum_by (w_of own outlines g) ([] ∷ []) ≡ own (outlines g)
unfolding w_of
one_chain own outlines g = omega arith

step_weight : (own : Outline → ℕ) (outlines : ℕ → Outline) (g j : ℕ) (c : List ℕ) → w_of own outlines g ((0 + j) ∷ c) ≡ w_of own outlines (get_or (parts (outlines g)) j 0) c
unfolding w_of
step_weight own outlines g j c = let same : 0 + j ≡ j = omega arith in ap (λ x. own (outlines (end_of outlines (part_of outlines g x) c))) same

sums_up : (own : Outline → ℕ) (outlines : ℕ → Outline) → ((o : Outline) → has_parts o ≡ true → own o ≡ 0) → (k g : ℕ) → starts_chain outlines (suc k) g ≡ false
    → total own outlines k g ≡ sum_by (w_of own outlines g) (chains outlines k g)
sums_up own outlines none zero g e =
    let none_here = first_round outlines g e in
    total_simple own outlines zero g none_here ∙ sym (ap (sum_by (w_of own outlines g)) (chains_simple outlines zero g none_here) ∙ one_chain own outlines g)
sums_up own outlines none (suc k) g e = elim (true_or_false (has_parts (outlines g))) [
  | inr alone ↦ total_simple own outlines (suc k) g alone ∙ sym (ap (sum_by (w_of own outlines g)) (chains_simple outlines (suc k) g alone) ∙ one_chain own outlines g)
  | inl made ↦
      let all = over_sum (chains outlines k) (w_of own outlines g) (w_of own outlines) (total own outlines k) 0 (parts (outlines g))
      (λ j lt c. step_weight own outlines g j c)
      (λ j lt. sym (sums_up own outlines none k (part_of outlines g j) (bad_below outlines k g j e lt))) in
      total_composite own outlines k g (none (outlines g) made) ∙ sym all ∙ ap (sum_by (w_of own outlines g)) (sym (chains_composite outlines k g made))
]

sums_chains : (own : Outline → ℕ) (outlines : ℕ → Outline) → ((o : Outline) → has_parts o ≡ true → own o ≡ 0) → (k g : ℕ) → starts_chain outlines (suc k) g ≡ false
    → SumsChains own outlines g (total own outlines k g)
unfolding w_of
sums_chains own outlines none k g e = record {
  all = chains outlines k g;
  once = chains_distinct outlines k g;
  chains = λ c. member outlines k g c e;
  sum = sums_up own outlines none k g e;
}

pub points_sum_chains : (outlines : ℕ → Outline) (k g : ℕ) → starts_chain outlines (suc k) g ≡ false → SumsChains own_points outlines g (total own_points outlines k g)
points_sum_chains outlines k g e = sums_chains own_points outlines own_none_points k g e

pub contours_sum_chains : (outlines : ℕ → Outline) (k g : ℕ) → starts_chain outlines (suc k) g ≡ false → SumsChains own_contours outlines g (total own_contours outlines k g)
contours_sum_chains outlines k g e = sums_chains own_contours outlines own_none_contours k g e
