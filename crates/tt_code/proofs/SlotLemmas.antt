-- How the slots grow by one instruction.
use Rattle.std.proofs.Common.{◌≡◌, ◌⊎◌, inl, inr, ℕ, zero, suc, ◌+◌, ◌-◌, ◌<◌, List, [], ◌∷◌, ◌++◌, length, refl, sym, ◌∙◌, ap, arith, append_assoc, Bool, false, subst, Option, Some, None, get_or, slice_index, set, replicate, take, map, length-append}
use Rattle.std.specs.List.{AllByRecursion}
use Rattle.std.proofs.lemmas.List.{length-set, length-replicate, length-map, map-append, map-set, take_all}
use Rattle.std.proofs.Math.Seq.{map-set_same}
use Rattle.tt_code.specs.declared.block_keyword.BlockKeyword.{BlockKeyword}
use Rattle.tt_code.specs.declared.block_keyword.BlockKeyword.TheVariants.{If, Else, Eif, Fdef, Idef, Endf, Other}
use Rattle.tt_code.specs.declared.nest.Open.{Open}
use Rattle.tt_code.specs.declared.nest.Open.TheVariants.{InIf, InElse, InFunction, InInstruction}
use Rattle.tt_code.specs.declared.slot.Slot.{Slot}
use Rattle.tt_code.specs.Cut.{Instruction, IsInstruction, size}
use Rattle.tt_code.specs.Structure.{keyword, keyword_of}
use Rattle.tt_code.specs.Grammar.{CanGoOn, IsList, none, plain, if_eif, if_else_eif, definition, Ends, begins_definition, GoesTo}
use Rattle.tt_code.specs.Representation.Pass.{within, step, body_of, body_after, closed, Opened, Leaves}
use Rattle.tt_code.specs.declared.machine.Body.{Body}
use Rattle.tt_code.specs.Representation.Slots.{inside, body_in, target_in, lengths, bodies, targets, target_of, target_found, Opens, IsOpenAt, IsTable, IsRead}
use Rattle.tt_code.proofs.CutLemmas.{size-append, size_more, all_more, some_bytes, laid_more}
use Rattle.tt_code.proofs.NestingLemmas.{within-false, Leaves-step, body_step, cannot_go_on}

pub weaken : {inside : Bool} {is : List Instruction} → IsList inside is → IsList false is
weaken none = none
weaken (plain h t) = plain h (weaken t)
weaken (if_eif e hi la he lr) = if_eif e hi (weaken la) he (weaken lr)
weaken (if_else_eif l e hi la hl lb he lr) = if_else_eif l e hi (weaken la) hl (weaken lb) he (weaken lr)
weaken (definition e hd la he lr) = definition e hd la he lr

-- the two ways in which an instruction is in a list with one more at its end
pub snoc_split : (p a b : List Instruction) (i j : Instruction) → p ++ (j ∷ []) ≡ a ++ (i ∷ b) →
    ((a ≡ p) × (i ≡ j)) ⊎ ((c : List Instruction) × (p ≡ a ++ (i ∷ c)))
snoc_split [] [] b i j e = inl (refl, cc)
snoc_split [] (x ∷ []) b i j e = cc
snoc_split [] (x ∷ y ∷ a) b i j e = cc
snoc_split (q ∷ p) [] b i j e = let h : q ≡ i = cc in inr (p, ap (λ x. x ∷ p) h)
snoc_split (q ∷ p) (x ∷ a) b i j e =
    let h : q ≡ x = cc in
    let t : p ++ (j ∷ []) ≡ a ++ (i ∷ b) = cc in
    elim (snoc_split p a b i j t) [
      | inl r ↦ let u = r.0 in inl (cc, r.1)
      | inr r ↦ let u = r.1 in inr (r.0, cc)
    ]

pub found_append : {X : Type 0} (xs ys : List (Option X)) (k : ℕ) (v : X) → get_or xs k None ≡ Some v → get_or (xs ++ ys) k None ≡ Some v
found_append [] ys k v h = cc
found_append (x ∷ xs) ys zero v h = h
found_append (x ∷ xs) ys (suc k) v h = found_append xs ys k v h

none_in : {X : Type 0} (m k : ℕ) → get_or {A = Option X} (replicate m None) k None ≡ None
none_in zero k = refl
none_in (suc m) zero = refl
none_in (suc m) (suc k) = none_in m k

pub found_none : {X : Type 0} (xs : List (Option X)) (m k : ℕ) (v : X) → get_or (xs ++ replicate m None) k None ≡ Some v → get_or xs k None ≡ Some v
found_none {X} [] m k v h = let n = none_in {X = X} m k in cc
found_none (x ∷ xs) m zero v h = h
found_none (x ∷ xs) m (suc k) v h = found_none xs m k v h

pub at_seam : {X : Type 0} (xs ys : List (Option X)) (x : Option X) → get_or (xs ++ (x ∷ ys)) (length xs) None ≡ x
at_seam [] ys x = refl
at_seam (z ∷ xs) ys x = at_seam xs ys x

pub found_seam : {X : Type 0} (xs : List (Option X)) (x : Option X) (m k : ℕ) (v : X) → get_or (xs ++ (x ∷ replicate m None)) k None ≡ Some v →
    (get_or xs k None ≡ Some v) ⊎ (k ≡ length xs)
found_seam [] x m zero v h = inr refl
found_seam {X} [] x m (suc k) v h = let n = none_in {X = X} m k in cc
found_seam (z ∷ xs) x m zero v h = inl h
found_seam (z ∷ xs) x m (suc k) v h = elim (found_seam xs x m k v h) [ inl r ↦ inl r | inr r ↦ inr (ap suc r) ]

pub found_set : {X : Type 0} (xs : List (Option X)) (c k : ℕ) (v t : X) → get_or (set xs c (Some v)) k None ≡ Some t →
    (get_or xs k None ≡ Some t) ⊎ ((k ≡ c) × (t ≡ v))
found_set [] c k v t h = inl h
found_set (x ∷ xs) zero zero v t h = inr (refl, cc)
found_set (x ∷ xs) zero (suc k) v t h = inl h
found_set (x ∷ xs) (suc c) zero v t h = inl h
found_set (x ∷ xs) (suc c) (suc k) v t h = elim (found_set xs c k v t h) [ inl r ↦ inl r | inr r ↦ inr (ap suc r.0, r.1) ]

pub set_there : {X : Type 0} (xs : List (Option X)) (c : ℕ) (v : X) → c < length xs → get_or (set xs c (Some v)) c None ≡ Some v
set_there [] c v h = absurd (omega arith)
set_there (x ∷ xs) zero v h = refl
set_there (x ∷ xs) (suc c) v h = set_there xs c v (omega arith)

pub set_keeps : {X : Type 0} (xs : List (Option X)) (c k : ℕ) (v t : X) → get_or xs k None ≡ Some t → (u : X) × (get_or (set xs c (Some v)) k None ≡ Some u)
set_keeps [] c k v t h = (t, h)
set_keeps (x ∷ xs) zero zero v t h = (v, refl)
set_keeps (x ∷ xs) zero (suc k) v t h = (t, h)
set_keeps (x ∷ xs) (suc c) zero v t h = (t, h)
set_keeps (x ∷ xs) (suc c) (suc k) v t h = set_keeps xs c k v t h

-- An instruction that leads on leads on in a longer program too.
pub GoesTo-append : (w : BlockKeyword) (p q : List Instruction) (k t : ℕ) → GoesTo w p k t → GoesTo w (p ++ q) k t
GoesTo-append w p q k t g = record {
  before = g.before;
  i = g.i;
  inner = g.inner;
  e = g.e;
  opens = g.opens;
  nested = g.nested;
  ends = g.ends;
  from = g.from;
  target = g.target;
  after = g.after ++ q;
  whole = ap (λ x. x ++ q) g.whole ∙ append_assoc g.before (g.i ∷ (g.inner ++ (g.e ∷ g.after))) q
      ∙ ap (λ x. g.before ++ (g.i ∷ x)) (append_assoc g.inner (g.e ∷ g.after) q);
}

pub each_split : (a b : List Instruction) (i : Instruction) → AllByRecursion IsInstruction (a ++ (i ∷ b)) → IsInstruction i
each_split [] b i h = h.0
each_split (x ∷ a) b i h = each_split a b i h.1

-- what a closing keyword closes
closed_if : (k : ℕ) (s : List Open) (p : List Instruction) (j : Instruction) → AllByRecursion IsInstruction p → Opened (InIf k ∷ s) p →
    (keyword j ≡ Else) ⊎ (keyword j ≡ Eif) → GoesTo If (p ++ (j ∷ [])) k (size p + length j) × (k < size p)
closed_if k s p j each (outer, head, inner, below, (i, hi, hk, eh), l, eq) w =
    let shape : p ≡ outer ++ (i ∷ inner) = eq ∙ ap (λ x. outer ++ (x ++ inner)) eh in
    let long : size p ≡ size outer + (length i + size inner) = ap size shape ∙ size-append outer (i ∷ inner) in
    let ok : AllByRecursion IsInstruction (outer ++ (i ∷ inner)) = subst (λ x. AllByRecursion IsInstruction x) shape each in
    let some = some_bytes i (each_split outer inner i ok) in (
      record {
        before = outer;
        i = i;
        inner = inner;
        e = j;
        after = [];
        whole = ap (λ x. x ++ (j ∷ [])) shape ∙ append_assoc outer (i ∷ inner) (j ∷ []);
        opens = hi;
        nested = weaken l;
        ends = w;
        from = sym hk;
        target = omega arith;
      },
      omega arith,
    )

closed_else : (k : ℕ) (s : List Open) (p : List Instruction) (j : Instruction) → AllByRecursion IsInstruction p → Opened (InElse k ∷ s) p →
    keyword j ≡ Eif → GoesTo Else (p ++ (j ∷ [])) k (size p + length j) × (k < size p)
closed_else k s p j each (outer, head, inner, below, (i, a, m, hi, la, hm, hk, eh), l, eq) w =
    let shape : p ≡ (outer ++ (i ∷ a)) ++ (m ∷ inner) =
    eq ∙ ap (λ x. outer ++ (x ++ inner)) eh ∙ ap (λ x. outer ++ (i ∷ x)) (append_assoc a (m ∷ []) inner) ∙ sym (append_assoc outer (i ∷ a) (m ∷ inner)) in
    let before : size (outer ++ (i ∷ a)) ≡ size outer + (length i + size a) = size-append outer (i ∷ a) in
    let long : size p ≡ size (outer ++ (i ∷ a)) + (length m + size inner) = ap size shape ∙ size-append (outer ++ (i ∷ a)) (m ∷ inner) in
    let ok : AllByRecursion IsInstruction ((outer ++ (i ∷ a)) ++ (m ∷ inner)) = subst (λ x. AllByRecursion IsInstruction x) shape each in
    let some = some_bytes m (each_split (outer ++ (i ∷ a)) inner m ok) in (
      record {
        before = outer ++ (i ∷ a);
        i = m;
        inner = inner;
        e = j;
        after = [];
        whole = ap (λ x. x ++ (j ∷ [])) shape ∙ append_assoc (outer ++ (i ∷ a)) (m ∷ inner) (j ∷ []);
        opens = hm;
        nested = weaken l;
        ends = w;
        from = omega arith;
        target = omega arith;
      },
      omega arith,
    )

closed_definition : (o : Open) (w : BlockKeyword) (k : ℕ) (outer inner p : List Instruction) (d j : Instruction) → AllByRecursion IsInstruction p → p ≡ outer ++ (d ∷ inner) →
    keyword d ≡ w → IsList (begins_definition w) inner → Ends w (keyword j) → k ≡ size outer → GoesTo w (p ++ (j ∷ [])) k (size p + length j) × (k < size p)
closed_definition o w k outer inner p d j each shape hd l e hk =
    let long : size p ≡ size outer + (length d + size inner) = ap size shape ∙ size-append outer (d ∷ inner) in
    let ok : AllByRecursion IsInstruction (outer ++ (d ∷ inner)) = subst (λ x. AllByRecursion IsInstruction x) shape each in
    let some = some_bytes d (each_split outer inner d ok) in (
      record {
        before = outer;
        i = d;
        inner = inner;
        e = j;
        after = [];
        whole = ap (λ x. x ++ (j ∷ [])) shape ∙ append_assoc outer (d ∷ inner) (j ∷ []);
        opens = hd;
        nested = l;
        ends = e;
        from = sym hk;
        target = omega arith;
      },
      omega arith,
    )

abbrev pub Led : List Instruction → Instruction → ℕ → Type 0
Led p j c = (w : BlockKeyword) × GoesTo w (p ++ (j ∷ [])) c (size p + length j) × (c < size p)

pub closed_goes : (w : BlockKeyword) (s t : List Open) (p : List Instruction) (j : Instruction) (c : ℕ) → AllByRecursion IsInstruction p → Opened s p → keyword j ≡ w →
    step w (size p) s ≡ Some t → closed w s ≡ Some c → Led p j c
closed_goes Else (InIf k ∷ s) t p j c each h hw st cl =
    let q : k ≡ c = cc in subst (λ c. Led p j c) q (let r = closed_if k s p j each h (inl hw) in (If, r.0, r.1))
closed_goes Else (InElse k ∷ s) t p j c each h hw st cl = cc
closed_goes Else (InFunction k ∷ s) t p j c each h hw st cl = cc
closed_goes Else (InInstruction k ∷ s) t p j c each h hw st cl = cc
closed_goes Else [] t p j c each h hw st cl = cc
closed_goes Eif (InIf k ∷ s) t p j c each h hw st cl =
    let q : k ≡ c = cc in subst (λ c. Led p j c) q (let r = closed_if k s p j each h (inr hw) in (If, r.0, r.1))
closed_goes Eif (InElse k ∷ s) t p j c each h hw st cl =
    let q : k ≡ c = cc in subst (λ c. Led p j c) q (let r = closed_else k s p j each h hw in (Else, r.0, r.1))
closed_goes Eif (InFunction k ∷ s) t p j c each h hw st cl = cc
closed_goes Eif (InInstruction k ∷ s) t p j c each h hw st cl = cc
closed_goes Eif [] t p j c each h hw st cl = cc
closed_goes Endf (InFunction k ∷ s) t p j c each (outer, head, inner, below, (d, hd, hf, hk, eh), l, eq) hw st cl =
    let q : k ≡ c = cc in
    let r = closed_definition (InFunction k) Fdef k outer inner p d j each (eq ∙ ap (λ x. outer ++ (x ++ inner)) eh) hd l hw hk in
    subst (λ c. Led p j c) q (Fdef, r.0, r.1)
closed_goes Endf (InInstruction k ∷ s) t p j c each (outer, head, inner, below, (d, hd, hf, hk, eh), l, eq) hw st cl =
    let q : k ≡ c = cc in
    let r = closed_definition (InInstruction k) Idef k outer inner p d j each (eq ∙ ap (λ x. outer ++ (x ++ inner)) eh) hd l hw hk in
    subst (λ c. Led p j c) q (Idef, r.0, r.1)
closed_goes Endf (InIf k ∷ s) t p j c each h hw st cl = cc
closed_goes Endf (InElse k ∷ s) t p j c each h hw st cl = cc
closed_goes Endf [] t p j c each h hw st cl = cc
closed_goes If s t p j c each h hw st cl = cc
closed_goes Fdef s t p j c each h hw st cl = cc
closed_goes Idef s t p j c each h hw st cl = cc
closed_goes Other s t p j c each h hw st cl = cc

-- What was open stays open or is closed.
pub step_open : (w : BlockKeyword) (k m : ℕ) (s t : List Open) → step w k s ≡ Some t → IsOpenAt m s → (closed w s ≡ Some m) ⊎ IsOpenAt m t
step_open Other k m s t e o = let q : s ≡ t = cc in inr (subst (λ x. IsOpenAt m x) q o)
step_open If k m s t e o = let q : InIf k ∷ s ≡ t = cc in inr (subst (λ x. IsOpenAt m x) q (inr o))
step_open Else k m [] t e o = cc
step_open Else k m (InIf j ∷ s) t e (inl h) = inl (ap Some h)
step_open Else k m (InIf j ∷ s) t e (inr h) = let q : InElse k ∷ s ≡ t = cc in inr (subst (λ x. IsOpenAt m x) q (inr h))
step_open Else k m (InElse j ∷ s) t e o = cc
step_open Else k m (InFunction j ∷ s) t e o = cc
step_open Else k m (InInstruction j ∷ s) t e o = cc
step_open Eif k m [] t e o = cc
step_open Eif k m (InIf j ∷ s) t e (inl h) = inl (ap Some h)
step_open Eif k m (InIf j ∷ s) t e (inr h) = let q : s ≡ t = cc in inr (subst (λ x. IsOpenAt m x) q h)
step_open Eif k m (InElse j ∷ s) t e (inl h) = inl (ap Some h)
step_open Eif k m (InElse j ∷ s) t e (inr h) = let q : s ≡ t = cc in inr (subst (λ x. IsOpenAt m x) q h)
step_open Eif k m (InFunction j ∷ s) t e o = cc
step_open Eif k m (InInstruction j ∷ s) t e o = cc
step_open Fdef k m s t e o = let f : (within s ≡ false) × (t ≡ InFunction k ∷ s) = within-false (within s) (InFunction k) s t e in inr (subst (λ x. IsOpenAt m x) (sym f.1) (inr o))
step_open Idef k m s t e o = let f : (within s ≡ false) × (t ≡ InInstruction k ∷ s) = within-false (within s) (InInstruction k) s t e in inr (subst (λ x. IsOpenAt m x) (sym f.1) (inr o))
step_open Endf k m [] t e o = cc
step_open Endf k m (InIf j ∷ s) t e o = cc
step_open Endf k m (InElse j ∷ s) t e o = cc
step_open Endf k m (InFunction j ∷ s) t e (inl h) = inl (ap Some h)
step_open Endf k m (InFunction j ∷ s) t e (inr h) = let q : s ≡ t = cc in inr (subst (λ x. IsOpenAt m x) q h)
step_open Endf k m (InInstruction j ∷ s) t e (inl h) = inl (ap Some h)
step_open Endf k m (InInstruction j ∷ s) t e (inr h) = let q : s ≡ t = cc in inr (subst (λ x. IsOpenAt m x) q h)

-- A keyword that leads on is open after itself.
pub step_opens : (w : BlockKeyword) (k : ℕ) (s t : List Open) → step w k s ≡ Some t → Opens w → IsOpenAt k t
step_opens If k s t e h = let q : InIf k ∷ s ≡ t = cc in subst (λ x. IsOpenAt k x) q (inl refl)
step_opens Else k [] t e h = cc
step_opens Else k (InIf j ∷ s) t e h = let q : InElse k ∷ s ≡ t = cc in subst (λ x. IsOpenAt k x) q (inl refl)
step_opens Else k (InElse j ∷ s) t e h = cc
step_opens Else k (InFunction j ∷ s) t e h = cc
step_opens Else k (InInstruction j ∷ s) t e h = cc
step_opens Fdef k s t e h = let f : (within s ≡ false) × (t ≡ InFunction k ∷ s) = within-false (within s) (InFunction k) s t e in subst (λ x. IsOpenAt k x) (sym f.1) (inl refl)
step_opens Idef k s t e h = let f : (within s ≡ false) × (t ≡ InInstruction k ∷ s) = within-false (within s) (InInstruction k) s t e in subst (λ x. IsOpenAt k x) (sym f.1) (inl refl)
step_opens Eif k s t e h = absurd h
step_opens Endf k s t e h = absurd h
step_opens Other k s t e h = absurd h

-- the targets, after a closing keyword has led one on
abbrev pub Linked : Option ℕ → ℕ → List (Option ℕ) → List (Option ℕ) → Type 0
Linked None to old now = now ≡ old
Linked (Some c) to old now = now ≡ set old c (Some to)

linked_long : (cl : Option ℕ) (to : ℕ) (old now : List (Option ℕ)) → Linked cl to old now → length now ≡ length old
linked_long None to old now h = ap length h
linked_long (Some c) to old now h = ap length h ∙ length-set old c (Some to)

linked_from : (cl : Option ℕ) (to : ℕ) (old now : List (Option ℕ)) (k t : ℕ) → Linked cl to old now → target_found now k ≡ Some t → (target_found old k ≡ Some t) ⊎ ((cl ≡ Some k) × (t ≡ to))
linked_from None to old now k t h e = inl (rw h at e)
linked_from (Some c) to old now k t h e =
    let f : get_or (set old c (Some to)) k None ≡ Some t = rw h at e in
    elim (found_set old c k to t f) [ inl r ↦ inl r | inr r ↦ inr (ap Some (sym r.0), r.1) ]

linked_keeps : (cl : Option ℕ) (to : ℕ) (old now : List (Option ℕ)) (k t : ℕ) → Linked cl to old now → target_found old k ≡ Some t → (u : ℕ) × (target_found now k ≡ Some u)
linked_keeps None to old now k t h e = (t, rw h e)
linked_keeps (Some c) to old now k t h e = let r = set_keeps old c k to t e in (r.0, rw h r.1)

linked_there : (cl : Option ℕ) (to c : ℕ) (old now : List (Option ℕ)) → Linked cl to old now → cl ≡ Some c → c < length old → (u : ℕ) × (target_found now c ≡ Some u)
linked_there None to c old now h e l = cc
linked_there (Some d) to c old now h e l =
    let q : d ≡ c = cc in
    let g : now ≡ set old c (Some to) = rw q at h in
    (to, rw g (set_there old c to l))

nil_split : (a b : List Instruction) (i : Instruction) → [] ≡ a ++ (i ∷ b) → ⊥
nil_split [] b i e = cc
nil_split (x ∷ a) b i e = cc

pub Table-start : IsTable [] [] [] []
Table-start = record {
  bodies_long = refl;
  targets_long = refl;
  rows = λ a i b e. absurd (nil_split a b i e);
  starts = λ k b e. cc;
  target_right = λ k t e. cc;
  target_there = λ a i b e o. absurd (nil_split a b i e);
}

pub Table-step : (p : List Instruction) (s t : List Open) (j : Instruction) (in_body : List (Option Body)) (goes now : List (Option ℕ)) (m : ℕ) →
    AllByRecursion IsInstruction p → Leaves p s → IsTable p s in_body goes → step (keyword j) (size p) s ≡ Some t → suc m ≡ length j →
    Linked (closed (keyword j) s) (size p + length j) goes now →
    IsTable (p ++ (j ∷ [])) t (in_body ++ (Some (body_of s) ∷ replicate m None)) (now ++ replicate (length j) None)
Table-step p s t j in_body goes now m each leaves table st hm linked =
    record {
      bodies_long = length-append in_body (Some (body_of s) ∷ replicate m None) ∙ omega (arith, table.bodies_long, length-replicate {A = Option Body} m None, size_more p j);
      targets_long = length-append now (replicate (length j) None) ∙ omega (arith, table.targets_long, length-replicate {A = Option ℕ} (length j) None, size_more p j, linked_long (closed (keyword j) s) to goes now linked);
      rows = λ a i b e. elim (snoc_split p a b i j e) [
        | inl r ↦ (s, rw r.0 leaves.stepped, rw (r.0, ← table.bodies_long) (at_seam in_body (replicate m None) (Some (body_of s))))
        | inr r ↦ let row = table.rows a i r.0 r.1 in (row.0, row.1, found_append in_body (Some (body_of s) ∷ replicate m None) (size a) _ row.2)
      ];
      starts = λ k b e. elim (found_seam in_body (Some (body_of s)) m k b e) [
        | inl r ↦ let o = table.starts k b r in (o.0, o.1, o.2 ++ (j ∷ []), ap (λ x. x ++ (j ∷ [])) o.3 ∙ append_assoc o.0 (o.1 ∷ o.2) (j ∷ []), o.4)
        | inr r ↦ (p, j, [], refl, sym (r ∙ table.bodies_long))
      ];
      target_right = λ k u e. elim (linked_from (closed (keyword j) s) to goes now k u linked (found_none now (length j) k u e)) [
        | inl r ↦ let g = table.target_right k u r in (g.0, GoesTo-append g.0 p (j ∷ []) k u g.1)
        | inr r ↦ let g = closed_goes (keyword j) s t p j k each leaves.opened refl st r.0 in (g.0, subst (λ x. GoesTo g.0 (p ++ (j ∷ [])) k x) (sym r.1) g.1)
      ];
      target_there = λ a i b e o. elim (snoc_split p a b i j e) [
        | inl r ↦ inr (rw r.0 (step_opens (keyword j) (size p) s t st (subst (λ x. Opens (keyword x)) r.1 o)))
        | inr r ↦ elim (table.target_there a i r.0 r.1 o) [
          | inl u ↦ let v = linked_keeps (closed (keyword j) s) to goes now (size a) u.0 linked u.1 in inl (v.0, found_append now (replicate (length j) None) (size a) v.0 v.1)
          | inr u ↦ elim (step_open (keyword j) (size p) (size a) s t st u) [
            | inl q ↦
                let g = closed_goes (keyword j) s t p j (size a) each leaves.opened refl st q in
                let v = linked_there (closed (keyword j) s) to (size a) goes now linked q (omega (arith, g.2, table.targets_long)) in
                inl (v.0, found_append now (replicate (length j) None) (size a) v.0 v.1)
            | inr q ↦ inr q
          ]
        ]
      ];
    }
  where
    to : ℕ
    to = size p + length j

pub keyword_is : (i : Instruction) (w : BlockKeyword) → 0 < length i → w ≡ keyword_of (slice_index i 0) → keyword i ≡ w
unfolding keyword
keyword_is [] w h e = absurd (omega arith)
keyword_is (code ∷ rest) w h e = sym e

-- how many bytes were read
pub read_size : (p : List Instruction) (s : List Open) (b : Body) (slots : List Slot) → IsRead p s b slots → length slots ≡ size p
read_size p s b slots r = sym (length-map slots body_in) ∙ r.table.bodies_long

pub read_refused : (p : List Instruction) (k : ℕ) (s : List Open) (b : Body) (slots : List Slot) (j : Instruction) (w : BlockKeyword) →
    IsRead p s b slots → length slots ≡ k → IsInstruction j → w ≡ keyword_of (slice_index j 0) → step w k s ≡ None → CanGoOn (p ++ (j ∷ [])) → ⊥
read_refused p k s b slots j w r hk hj hw st =
    cannot_go_on p s j r.leaves (rw (keyword_is j w (some_bytes j hj) hw, sym (read_size p s b slots r) ∙ hk) st)

pub read_closed : (p : List Instruction) (k : ℕ) (s t : List Open) (b : Body) (slots : List Slot) (j : Instruction) (w : BlockKeyword) (c : ℕ) →
    IsRead p s b slots → length slots ≡ k → IsInstruction j → w ≡ keyword_of (slice_index j 0) → step w k s ≡ Some t → closed w s ≡ Some c → c < length slots
read_closed p k s t b slots j w c r hk hj hw st cl =
    let long = read_size p s b slots r in
    let g = closed_goes w s t p j c r.each r.leaves.opened (keyword_is j w (some_bytes j hj) hw) (rw (sym long ∙ hk) st) cl in
    let less = g.2 in omega (arith, long)

-- a slot with another target
abbrev pub retarget : Slot → ℕ → Slot
retarget slot to = record { target = to; first = slot.first; length = slot.length; kind = slot.kind }

-- the slots, after a closing keyword has led one on
abbrev pub Targeted : Option ℕ → ℕ → List Slot → List Slot → Type 0
Targeted None to old now = now ≡ old
Targeted (Some c) to old now = now ≡ set old c (retarget (get_or old c inside) to)

get_or-either : {A : Type 0} (xs : List A) (k : ℕ) (d e : A) → k < length xs → get_or xs k d ≡ get_or xs k e
get_or-either [] k d e h = absurd (omega arith)
get_or-either (x ∷ xs) zero d e h = refl
get_or-either (x ∷ xs) (suc k) d e h = get_or-either xs k d e (omega arith)

pub retargeted : (slots : List Slot) (c to : ℕ) (slot : Slot) → c < length slots → slot ≡ get_or slots c slot → set slots c (retarget slot to) ≡ set slots c (retarget (get_or slots c inside) to)
retargeted slots c to slot h e = ap (λ x. set slots c (retarget x to)) (e ∙ get_or-either slots c slot inside h)

target_some : (n : ℕ) → 0 < n → target_of n ≡ Some n
target_some zero h = absurd (omega arith)
target_some (suc n) h = refl

targeted_lengths : (cl : Option ℕ) (to : ℕ) (old now : List Slot) → Targeted cl to old now → lengths now ≡ lengths old
targeted_lengths None to old now h = ap lengths h
targeted_lengths (Some c) to old now h = ap lengths h ∙ map-set_same (λ slot. slot.length) old c (retarget (get_or old c inside) to) inside refl

targeted_bodies : (cl : Option ℕ) (to : ℕ) (old now : List Slot) → Targeted cl to old now → bodies now ≡ bodies old
targeted_bodies None to old now h = ap bodies h
targeted_bodies (Some c) to old now h = ap bodies h ∙ map-set_same body_in old c (retarget (get_or old c inside) to) inside refl

targeted_linked : (cl : Option ℕ) (to : ℕ) (old now : List Slot) → 0 < to → Targeted cl to old now → Linked cl to (targets old) (targets now)
targeted_linked None to old now some h = ap targets h
targeted_linked (Some c) to old now some h =
    ap targets h ∙ map-set target_in old c (retarget (get_or old c inside) to) ∙ ap (λ x. set (targets old) c x) (target_some to some)

map-replicate : {A B : Type 0} (f : A → B) (n : ℕ) (a : A) → map f (replicate n a) ≡ replicate n (f a)
map-replicate f zero a = refl
map-replicate f (suc n) a = ap (λ xs. f a ∷ xs) (map-replicate f n a)

-- the slots of one more instruction
map-grown : {B : Type 0} (f : Slot → B) (mid : List Slot) (slot : Slot) (m : ℕ) → map f (mid ++ (slot ∷ replicate m inside)) ≡ map f mid ++ (f slot ∷ replicate m (f inside))
map-grown f mid slot m = map-append f mid (slot ∷ replicate m inside) ∙ ap (λ xs. map f mid ++ (f slot ∷ xs)) (map-replicate f m inside)

pub read_more : (p : List Instruction) (k : ℕ) (s t : List Open) (b b' : Body) (slots mid now : List Slot) (slot : Slot) (j : Instruction) (w : BlockKeyword) →
    IsRead p s b slots → length slots ≡ k → IsInstruction j → w ≡ keyword_of (slice_index j 0) → step w k s ≡ Some t →
    Targeted (closed w s) (k + length j) slots mid → b' ≡ body_after b w k →
    slot.length ≡ length j → body_in slot ≡ Some b → target_in slot ≡ None →
    now ≡ mid ++ (slot ∷ replicate (length j - 1) inside) →
    IsRead (p ++ (j ∷ [])) t b' now
read_more p k s t b b' slots mid now slot j w r hk hj hw st moved hb slot_length slot_body slot_target hn =
    let some = some_bytes j hj in
    let here : size p ≡ k = sym (read_size p s b slots r) ∙ hk in
    let is : keyword j ≡ w = keyword_is j w some hw in
    let step_is : step (keyword j) (size p) s ≡ Some t = rw (is, here) st in
    let linked : Linked (closed w s) (k + length j) (targets slots) (targets mid) = targeted_linked (closed w s) (k + length j) slots mid (omega arith) moved in
    let linked_is : Linked (closed (keyword j) s) (size p + length j) (targets slots) (targets mid) = rw (is, here) linked in
    let count : suc (length j - 1) ≡ length j = omega arith in
    let table = Table-step p s t j (bodies slots) (targets slots) (targets mid) (length j - 1) r.each r.leaves r.table step_is count linked_is in
    let bodies_are : bodies now ≡ bodies slots ++ (Some (body_of s) ∷ replicate (length j - 1) None) =
    ap bodies hn ∙ map-grown body_in mid slot (length j - 1)
    ∙ ap (λ x. x ++ (body_in slot ∷ replicate (length j - 1) None)) (targeted_bodies (closed w s) (k + length j) slots mid moved)
    ∙ ap (λ x. bodies slots ++ (x ∷ replicate (length j - 1) None)) (slot_body ∙ ap Some r.body) in
    let targets_are : targets now ≡ targets mid ++ replicate (length j) None =
    ap targets hn ∙ map-grown target_in mid slot (length j - 1) ∙ ap (λ x. targets mid ++ (x ∷ replicate (length j - 1) None)) slot_target
    ∙ ap (λ n. targets mid ++ replicate {A = Option ℕ} n None) count in
    let lengths_are : lengths now ≡ lengths slots ++ (length j ∷ replicate (length j - 1) 0) =
    ap lengths hn ∙ map-grown (λ x. x.length) mid slot (length j - 1)
    ∙ ap (λ x. x ++ (slot.length ∷ replicate (length j - 1) 0)) (targeted_lengths (closed w s) (k + length j) slots mid moved)
    ∙ ap (λ x. lengths slots ++ (x ∷ replicate (length j - 1) 0)) slot_length in
    record {
      each = all_more p j r.each hj;
      leaves = Leaves-step p s t j r.leaves step_is;
      body = hb ∙ ap (λ x. body_after x w k) r.body ∙ body_step w k s t p r.leaves.opened st;
      each_length = laid_more p j ∙ ap (λ x. x ++ (length j ∷ replicate (length j - 1) 0)) r.each_length ∙ sym lengths_are;
      table = rw (bodies_are, targets_are) table;
    }

-- the slots that are pushed and filled up
pub grown : (mid pushed now : List Slot) (slot : Slot) (k n : ℕ) → length mid ≡ k → 0 < n → pushed ≡ mid ++ (slot ∷ []) →
    now ≡ take (k + n) pushed ++ replicate (k + n - length pushed) inside → now ≡ mid ++ (slot ∷ replicate (n - 1) inside)
grown mid pushed now slot k n hm some hp hn =
    let long : length pushed ≡ k + 1 = ap length hp ∙ length-append mid (slot ∷ []) ∙ omega arith in
    let left : k + n - length pushed ≡ n - 1 = omega arith in
    hn ∙ ap (λ x. x ++ replicate (k + n - length pushed) inside) (take_all (k + n) pushed (omega arith) ∙ hp)
    ∙ append_assoc mid (slot ∷ []) (replicate (k + n - length pushed) inside) ∙ ap (λ m. mid ++ (slot ∷ replicate m inside)) left
