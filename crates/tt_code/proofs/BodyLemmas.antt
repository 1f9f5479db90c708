-- The body of each instruction.
use Rattle.std.proofs.Common.{◌≡◌, ◌⊎◌, inl, inr, ℕ, zero, suc, ◌+◌, ◌<◌, ◌≤◌, List, [], ◌∷◌, ◌++◌, length, refl, sym, ◌∙◌, ap, arith, append_assoc, subst, Option, Some, None, Bool, true, false, zero-add, set}
use Rattle.std.specs.Option.{IfSome, IfNone}
use Rattle.std.specs.List.{AllByRecursion}
use Rattle.std.proofs.lemmas.List.{append-nil}
use Rattle.tt_code.specs.declared.block_keyword.BlockKeyword.{BlockKeyword}
use Rattle.tt_code.specs.declared.block_keyword.BlockKeyword.TheVariants.{If, Else, Eif, Fdef, Idef, Endf, Other}
use Rattle.tt_code.specs.declared.nest.Open.{Open}
use Rattle.tt_code.specs.declared.nest.Open.TheVariants.{InIf, InElse, InFunction, InInstruction}
use Rattle.tt_code.specs.declared.machine.Body.{Body}
use Rattle.tt_code.specs.declared.machine.Body.TheVariants as body
use Rattle.tt_code.specs.Cut.{Instruction, IsInstruction, size}
use Rattle.tt_code.specs.Structure.{keyword}
use Rattle.tt_code.specs.Grammar.{IsList, none, definition, begins_definition, Ends, GoesTo, IsInstructionAt, InDefinition, IsBodyAt, IsStructured}
use Rattle.tt_code.specs.Representation.Pass.{within, step, steps, body_of, place, closed, Head, Opened, Leaves}
use Rattle.tt_code.specs.Representation.Slots.{body_found, Opens, IsOpenAt, IsTable}
use Rattle.tt_code.proofs.CutLemmas.{size-append, size_more, some_bytes}
use Rattle.tt_code.proofs.NestingLemmas.{defined_by, whole_steps, steps-append, steps_list, within_main, within-false, Leaves-start, Leaves-step}
use Rattle.tt_code.proofs.SlotLemmas.{each_split, GoesTo-append, Linked, Table-start, Table-step}
use Rattle.tt_code.proofs.LookupLemmas.{goes_same, same_place}

-- the instructions that begin definitions
abbrev pub Defines : BlockKeyword → Type 0
Defines w = (w ≡ Fdef) ⊎ (w ≡ Idef)

-- o is open
abbrev pub In : Open → List Open → Type 0
In o [] = ⊥
In o (x ∷ s) = (x ≡ o) ⊎ In o s

abbrev pub keyword_for : Open → BlockKeyword
keyword_for (InIf k) = If
keyword_for (InElse k) = Else
keyword_for (InFunction k) = Fdef
keyword_for (InInstruction k) = Idef

in_place : (o : Open) (s : List Open) → In o s → IsOpenAt (place o) s
in_place o [] h = h
in_place o (x ∷ s) (inl h) = inl (ap place h)
in_place o (x ∷ s) (inr h) = inr (in_place o s h)

at_place : (k : ℕ) (s : List Open) → IsOpenAt k s → (o : Open) × In o s × (place o ≡ k)
at_place k [] h = absurd h
at_place k (x ∷ s) (inl h) = (x, inl refl, h)
at_place k (x ∷ s) (inr h) = let r = at_place k s h in (r.0, inr r.1, r.2)

-- The instruction that opened o is where o says.
abbrev pub Opener : Open → List Instruction → Type 0
Opener o p = (a : List Instruction) × (d : Instruction) × (b : List Instruction) × (p ≡ a ++ (d ∷ b)) × (size a ≡ place o) × (keyword d ≡ keyword_for o)

head_opener : (o : Open) (inside : Bool) (outer head inner p : List Instruction) → Head o inside (size outer) head → p ≡ outer ++ (head ++ inner) → Opener o p
head_opener (InIf k) inside outer head inner p (i, hi, hk, eh) e = (outer, i, inner, e ∙ ap (λ x. outer ++ (x ++ inner)) eh, sym hk, hi)
head_opener (InElse k) inside outer head inner p (i, a, m, hi, la, hm, hk, eh) e = (
  outer ++ (i ∷ a),
  m,
  inner,
  e ∙ ap (λ x. outer ++ (x ++ inner)) eh ∙ ap (λ x. outer ++ (i ∷ x)) (append_assoc a (m ∷ []) inner) ∙ sym (append_assoc outer (i ∷ a) (m ∷ inner)),
  size-append outer (i ∷ a) ∙ omega arith,
  hm,
)
head_opener (InFunction k) inside outer head inner p (i, hi, hf, hk, eh) e = (outer, i, inner, e ∙ ap (λ x. outer ++ (x ++ inner)) eh, sym hk, hi)
head_opener (InInstruction k) inside outer head inner p (i, hi, hf, hk, eh) e = (outer, i, inner, e ∙ ap (λ x. outer ++ (x ++ inner)) eh, sym hk, hi)

opener_append : (o : Open) (p q : List Instruction) → Opener o p → Opener o (p ++ q)
opener_append o p q (a, d, b, e, s, w) = (a, d, b ++ q, ap (λ x. x ++ q) e ∙ append_assoc a (d ∷ b) q, s, w)

opened_at : (o : Open) (s : List Open) (p : List Instruction) → Opened s p → In o s → Opener o p
opened_at o [] p h i = absurd i
opened_at o (x ∷ s) p (outer, head, inner, below, h, l, e) (inl i) =
    subst (λ y. Opener y p) i (head_opener x (within s) outer head inner p h e)
opened_at o (x ∷ s) p (outer, head, inner, below, h, l, e) (inr i) =
    subst (λ y. Opener o y) (sym e) (opener_append o outer (head ++ inner) (opened_at o s outer below i))

not_definition : (w : BlockKeyword) → Defines w → (w ≡ If) ⊎ (w ≡ Else) → ⊥
not_definition w (inl h) (inl e) = cc
not_definition w (inl h) (inr e) = cc
not_definition w (inr h) (inl e) = cc
not_definition w (inr h) (inr e) = cc

not_main : (o : Open) → Defines (keyword_for o) → body_of (o ∷ []) ≡ body.Main → ⊥
not_main (InIf k) d e = not_definition If d (inl refl)
not_main (InElse k) d e = not_definition Else d (inr refl)
not_main (InFunction k) d e = cc
not_main (InInstruction k) d e = cc

-- The definition that is open gives the body.
in_body : (o : Open) (s : List Open) (p : List Instruction) → Opened s p → In o s → Defines (keyword_for o) → body_of s ≡ body_of (o ∷ [])
in_body o [] p h i d = absurd i
in_body o (InIf j ∷ s) p (outer, head, inner, below, h, l, e) (inl i) d = absurd (not_definition (keyword_for o) d (inl (sym (ap keyword_for i))))
in_body o (InIf j ∷ s) p (outer, head, inner, below, h, l, e) (inr i) d = in_body o s outer below i d
in_body o (InElse j ∷ s) p (outer, head, inner, below, h, l, e) (inl i) d = absurd (not_definition (keyword_for o) d (inr (sym (ap keyword_for i))))
in_body o (InElse j ∷ s) p (outer, head, inner, below, h, l, e) (inr i) d = in_body o s outer below i d
in_body o (InFunction j ∷ s) p (outer, head, inner, below, h, l, e) (inl i) d = subst (λ x. body_of (InFunction j ∷ s) ≡ body_of (x ∷ [])) i refl
in_body o (InFunction j ∷ s) p (outer, head, inner, below, (x, hx, hf, hk, eh), l, e) (inr i) d =
    absurd (not_main o d (sym (in_body o s outer below i d) ∙ within_main s hf))
in_body o (InInstruction j ∷ s) p (outer, head, inner, below, h, l, e) (inl i) d = subst (λ x. body_of (InInstruction j ∷ s) ≡ body_of (x ∷ [])) i refl
in_body o (InInstruction j ∷ s) p (outer, head, inner, below, (x, hx, hf, hk, eh), l, e) (inr i) d =
    absurd (not_main o d (sym (in_body o s outer below i d) ∙ within_main s hf))

-- the definition that gives the body, if it isn't the main program
body_from : (s : List Open) → (body_of s ≡ body.Main) ⊎ ((o : Open) × In o s × Defines (keyword_for o) × (body_of s ≡ body_of (o ∷ [])))
body_from [] = inl refl
body_from (InIf k ∷ s) = elim (body_from s) [ inl h ↦ inl h | inr h ↦ inr (h.0, inr h.1, h.2, h.3) ]
body_from (InElse k ∷ s) = elim (body_from s) [ inl h ↦ inl h | inr h ↦ inr (h.0, inr h.1, h.2, h.3) ]
body_from (InFunction k ∷ s) = inr (InFunction k, inl refl, inl refl, refl)
body_from (InInstruction k ∷ s) = inr (InInstruction k, inl refl, inr refl, refl)

-- What is open after a step was open before it, or is the step's own.
step_came : (w : BlockKeyword) (n k : ℕ) (s t : List Open) → step w n s ≡ Some t → IsOpenAt k t → IsOpenAt k s ⊎ (n ≡ k)
step_came Other n k s t e o = let q : t ≡ s = cc in inl (subst (λ x. IsOpenAt k x) q o)
step_came If n k s t e o = let q : t ≡ InIf n ∷ s = cc in elim (top k (InIf n) s (subst (λ x. IsOpenAt k x) q o)) [ inl h ↦ inr h | inr h ↦ inl h ]
  where
    top : (k : ℕ) (o : Open) (s : List Open) → IsOpenAt k (o ∷ s) → (place o ≡ k) ⊎ IsOpenAt k s
    top k o s h = h
step_came Else n k [] t e o = cc
step_came Else n k (InIf j ∷ s) t e o =
    let q : t ≡ InElse n ∷ s = cc in
    let h : (n ≡ k) ⊎ IsOpenAt k s = subst (λ x. IsOpenAt k x) q o in
    elim h [ inl h ↦ inr h | inr h ↦ inl (inr h) ]
step_came Else n k (InElse j ∷ s) t e o = cc
step_came Else n k (InFunction j ∷ s) t e o = cc
step_came Else n k (InInstruction j ∷ s) t e o = cc
step_came Eif n k [] t e o = cc
step_came Eif n k (InIf j ∷ s) t e o = let q : t ≡ s = cc in inl (inr (subst (λ x. IsOpenAt k x) q o))
step_came Eif n k (InElse j ∷ s) t e o = let q : t ≡ s = cc in inl (inr (subst (λ x. IsOpenAt k x) q o))
step_came Eif n k (InFunction j ∷ s) t e o = cc
step_came Eif n k (InInstruction j ∷ s) t e o = cc
step_came Fdef n k s t e o =
    let f : (within s ≡ false) × (t ≡ InFunction n ∷ s) = within-false (within s) (InFunction n) s t e in
    let h : (n ≡ k) ⊎ IsOpenAt k s = subst (λ x. IsOpenAt k x) f.1 o in
    elim h [ inl h ↦ inr h | inr h ↦ inl h ]
step_came Idef n k s t e o =
    let f : (within s ≡ false) × (t ≡ InInstruction n ∷ s) = within-false (within s) (InInstruction n) s t e in
    let h : (n ≡ k) ⊎ IsOpenAt k s = subst (λ x. IsOpenAt k x) f.1 o in
    elim h [ inl h ↦ inr h | inr h ↦ inl h ]
step_came Endf n k [] t e o = cc
step_came Endf n k (InIf j ∷ s) t e o = cc
step_came Endf n k (InElse j ∷ s) t e o = cc
step_came Endf n k (InFunction j ∷ s) t e o = let q : t ≡ s = cc in inl (inr (subst (λ x. IsOpenAt k x) q o))
step_came Endf n k (InInstruction j ∷ s) t e o = let q : t ≡ s = cc in inl (inr (subst (λ x. IsOpenAt k x) q o))

-- the first step of several
pub first_step : (i : Instruction) (b : List Instruction) (n : ℕ) (s t : List Open) → steps (i ∷ b) n s ≡ Some t → (u : List Open) × (step (keyword i) n s ≡ Some u) × (steps b (n + length i) u ≡ Some t)
first_step i b n s t e = go (step (keyword i) n s) refl
  where
    go : (r : Option (List Open)) → step (keyword i) n s ≡ r → (u : List Open) × (step (keyword i) n s ≡ Some u) × (steps b (n + length i) u ≡ Some t)
    go None q = let z : steps (i ∷ b) n s ≡ None = rw q refl in absurd (cc)
    go (Some u) q = let z : steps (i ∷ b) n s ≡ steps b (n + length i) u = rw q refl in (u, q, sym z ∙ e)

opens_after : (z : List Instruction) (n k : ℕ) (s t : List Open) → steps z n s ≡ Some t → IsOpenAt k t → IsOpenAt k s ⊎ (n ≤ k)
opens_after [] n k s t e o = let q : t ≡ s = cc in inl (subst (λ x. IsOpenAt k x) q o)
opens_after (i ∷ z) n k s t e o =
    let f = first_step i z n s t e in
    elim (opens_after z (n + length i) k f.0 t f.2 o) [
      | inl h ↦ elim (step_came (keyword i) n k s f.0 f.1 h) [ inl g ↦ inl g | inr g ↦ inr (omega arith) ]
      | inr h ↦ inr (omega arith)
    ]

-- each beginning of a program has its tables
table_of : (b a : List Instruction) (s t : List Open) (in_body : List (Option Body)) (goes : List (Option ℕ)) → AllByRecursion IsInstruction (a ++ b) → Leaves a s → IsTable a s in_body goes →
    steps b (size a) s ≡ Some t → Leaves (a ++ b) t × ((x : List (Option Body)) × (y : List (Option ℕ)) × IsTable (a ++ b) t x y)
table_of [] a s t in_body goes each leaves table e =
    let q : s ≡ t = cc in
    let n = append-nil a in
    (subst (λ x. Leaves x t) (sym n) (subst (λ y. Leaves a y) q leaves), (in_body, goes, subst (λ x. IsTable x t in_body goes) (sym n) (subst (λ y. IsTable a y in_body goes) q table)))
table_of (i ∷ b) a s t in_body goes each leaves table e =
    let f = first_step i b (size a) s t e in
    let now = linking (closed (keyword i) s) (size a + length i) goes in
    let some = some_bytes i (each_split a b i each) in
    let long = before_long (length i) some in
    let next = Table-step a s f.0 i in_body goes now.0 long.0 (each_front a (i ∷ b) each) leaves table f.1 long.1 now.1 in
    let rest = table_of b (a ++ (i ∷ [])) f.0 t _ _ (subst (λ x. AllByRecursion IsInstruction x) (sym (append_assoc a (i ∷ []) b)) each) (Leaves-step a s f.0 i leaves f.1) next
    (rw (size_more a i) f.2) in
    subst (λ x. Leaves x t × ((y : List (Option Body)) × (z : List (Option ℕ)) × IsTable x t y z)) (append_assoc a (i ∷ []) b) rest
  where
    linking : (c : Option ℕ) (to : ℕ) (links : List (Option ℕ)) → (now : List (Option ℕ)) × Linked c to links now
    linking None to links = (links, refl)
    linking (Some c) to links = (set links c (Some to), refl)

    before_long : (n : ℕ) → 0 < n → (m : ℕ) × (suc m ≡ n)
    before_long zero h = absurd (omega arith)
    before_long (suc m) h = (m, refl)

    each_front : (a b : List Instruction) → AllByRecursion IsInstruction (a ++ b) → AllByRecursion IsInstruction a
    each_front [] b h = tt
    each_front (x ∷ a) b h = (h.0, each_front a b h.1)

-- of two beginnings the longer goes on from the shorter
longer : (x y u v : List Instruction) → x ++ y ≡ u ++ v → size x ≤ size u → AllByRecursion IsInstruction (x ++ y) → (z : List Instruction) × (u ≡ x ++ z) × (y ≡ z ++ v)
longer [] y u v e l h = (u, refl, e)
longer (i ∷ x) y [] v e l h = let n = some_bytes i h.0 in absurd (omega arith)
longer (i ∷ x) y (j ∷ u) v e l h =
    let q : i ≡ j = cc in
    let t : x ++ y ≡ u ++ v = cc in
    let m : length i ≡ length j = ap length q in
    let r = longer x y u v t (omega arith) h.1 in
    let w = r.1 in
    (r.0, cc, r.2)

-- where a definition ends, what it opened is closed
closed_by_end : (k t : ℕ) (o : Open) (before inner z a : List Instruction) (d e : Instruction) (s0 s : List Open) → Defines (keyword d) → IsList true inner → keyword e ≡ Endf →
    steps before 0 [] ≡ Some s0 → Leaves before s0 → AllByRecursion IsInstruction before → a ≡ (before ++ (d ∷ (inner ++ (e ∷ [])))) ++ z → steps a 0 [] ≡ Some s →
    size before ≡ k → 0 < length d → IsOpenAt k s → ⊥
closed_by_end k t o before inner z a d e s0 s hd li he hs leaves each shape run start long still =
    let item = d ∷ (inner ++ (e ∷ [])) in
    let one : steps a 0 [] ≡ steps (item ++ z) (size before) s0 =
    ap (λ x. steps x 0 []) (shape ∙ append_assoc before item z) ∙ steps-append before (item ++ z) 0 [] ∙ rw (hs, zero-add) refl in
    let started : steps (d ∷ ((inner ++ (e ∷ [])) ++ z)) (size before) s0 ≡ Some s = sym one ∙ run in
    let first = first_step d ((inner ++ (e ∷ [])) ++ z) (size before) s0 s started in
    let outside : within s0 ≡ false = definition_outside (keyword d) (size before) s0 first.0 hd first.1 in
    let through : steps (item ++ z) (size before) s0 ≡ steps z (size before + size item) s0 = steps_list (definition e (defined_by (keyword d) hd) li he none) s0 (size before) z outside in
    elim (opens_after z (size before + size item) k s0 s (sym through ∙ started) still) [
      | inl h ↦
          let at = at_place k s0 h in
          let op = opened_at at.0 s0 before leaves.opened at.1 in
          let inside = opener_below at.0 before op each in omega (arith, at.2)
      | inr h ↦ omega arith
    ]
  where
    definition_outside : (w : BlockKeyword) (n : ℕ) (s t : List Open) → Defines w → step w n s ≡ Some t → within s ≡ false
    definition_outside w n s t (inl h) e = let f : step Fdef n s ≡ Some t = rw h at e in (within-false (within s) (InFunction n) s t f).0
    definition_outside w n s t (inr h) e = let f : step Idef n s ≡ Some t = rw h at e in (within-false (within s) (InInstruction n) s t f).0

    opener_below : (o : Open) (p : List Instruction) → Opener o p → AllByRecursion IsInstruction p → place o < size p
    opener_below o p (a, d, b, e, s, w) each =
        let ok : AllByRecursion IsInstruction (a ++ (d ∷ b)) = subst (λ x. AllByRecursion IsInstruction x) e each in
        let n = some_bytes d (each_split a b d ok) in
        let l : size p ≡ size a + (length d + size b) = ap size e ∙ size-append a (d ∷ b) in
        omega arith

order : (m n : ℕ) → (m < n) ⊎ (n ≤ m)
order m zero = inr (omega arith)
order zero (suc n) = inl (omega arith)
order (suc m) (suc n) = elim (order m n) [ inl h ↦ inl (omega arith) | inr h ↦ inr (omega arith) ]

same_open : (o x : Open) → keyword_for o ≡ keyword_for x → place o ≡ place x → o ≡ x
same_open (InIf j) (InIf k) h e = ap InIf e
same_open (InIf j) (InElse k) h e = cc
same_open (InIf j) (InFunction k) h e = cc
same_open (InIf j) (InInstruction k) h e = cc
same_open (InElse j) (InIf k) h e = cc
same_open (InElse j) (InElse k) h e = ap InElse e
same_open (InElse j) (InFunction k) h e = cc
same_open (InElse j) (InInstruction k) h e = cc
same_open (InFunction j) (InIf k) h e = cc
same_open (InFunction j) (InElse k) h e = cc
same_open (InFunction j) (InFunction k) h e = ap InFunction e
same_open (InFunction j) (InInstruction k) h e = cc
same_open (InInstruction j) (InIf k) h e = cc
same_open (InInstruction j) (InElse k) h e = cc
same_open (InInstruction j) (InFunction k) h e = cc
same_open (InInstruction j) (InInstruction k) h e = ap InInstruction e

definition_opens : (w : BlockKeyword) → Defines w → Opens w
definition_opens w (inl h) = rw h tt
definition_opens w (inr h) = rw h tt

each_front : (a b : List Instruction) → AllByRecursion IsInstruction (a ++ b) → AllByRecursion IsInstruction a
each_front [] b h = tt
each_front (x ∷ a) b h = (h.0, each_front a b h.1)

-- the place is past it, so the longer beginning has the instruction
reaches : (x a r b : List Instruction) (d i : Instruction) → x ++ (d ∷ r) ≡ a ++ (i ∷ b) → size x < size a → AllByRecursion IsInstruction (x ++ (d ∷ r)) → (z : List Instruction) × (a ≡ x ++ (d ∷ z))
reaches x a r b d i e l h = go l2.0 l2.1 l2.2
  where
    l2 : (z : List Instruction) × (a ≡ x ++ z) × (d ∷ r ≡ z ++ (i ∷ b))
    l2 = longer x (d ∷ r) a (i ∷ b) e (omega arith) h

    go : (z : List Instruction) → a ≡ x ++ z → d ∷ r ≡ z ++ (i ∷ b) → (z : List Instruction) × (a ≡ x ++ (d ∷ z))
    go [] p q = let s : size a ≡ size x + size [] = ap size p ∙ size-append x [] in absurd (omega arith)
    go (c ∷ z) p q = let same : d ≡ c = cc in (z, p ∙ ap (λ y. x ++ (y ∷ z)) (sym same))

-- An instruction in a definition has its body.
in_definition_body : (is a b : List Instruction) (i : Instruction) (k t : ℕ) (o : Open) (s : List Open) → AllByRecursion IsInstruction is → is ≡ a ++ (i ∷ b) → steps a 0 [] ≡ Some s →
    GoesTo (keyword_for o) is k t → place o ≡ k → Defines (keyword_for o) → k < size a → size a < t → body_of s ≡ body_of (o ∷ [])
in_definition_body is a b i k t o s each whole run g at def low high =
    let ok : AllByRecursion IsInstruction (a ++ (i ∷ b)) = subst (λ x. AllByRecursion IsInstruction x) whole each in
    let okg : AllByRecursion IsInstruction (g.before ++ (g.i ∷ (g.inner ++ (g.e ∷ g.after)))) = subst (λ x. AllByRecursion IsInstruction x) g.whole each in
    let oka = each_front a (i ∷ b) ok in
    let z = reaches g.before a (g.inner ++ (g.e ∷ g.after)) b g.i i (sym g.whole ∙ whole) (omega (arith, g.from)) okg in
    let tab = table_of a [] [] s [] [] oka Leaves-start Table-start run in
    let oka2 : AllByRecursion IsInstruction (g.before ++ (g.i ∷ z.0)) = subst (λ x. AllByRecursion IsInstruction x) z.1 oka in
    elim (tab.1.2.target_there g.before g.i z.0 z.1 (subst Opens (sym g.opens) (definition_opens (keyword_for o) def))) [
      | inl u ↦
          let h = tab.1.2.target_right (size g.before) u.0 u.1 in
          let long : u.0 ≡ t = goes_same is h.0 (keyword_for o) k u.0 t each
          (subst (λ x. GoesTo h.0 x k u.0) (sym whole) (GoesTo-append h.0 a (i ∷ b) k u.0 (subst (λ x. GoesTo h.0 a x u.0) g.from h.1))) g in
          let short = goes_within h.0 a (size g.before) u.0 h.1 in
          absurd (omega arith)
      | inr u ↦
          let x = at_place (size g.before) s u in
          let op = opened_at x.0 s a tab.0.opened x.1 in
          let p = same_place g.before z.0 op.0 op.2 g.i op.1 oka2 (sym z.1 ∙ op.3) (sym x.2 ∙ sym op.4) in
          let keywords : keyword_for x.0 ≡ keyword_for o = sym op.5 ∙ ap keyword (sym p.1) ∙ g.opens in
          let one : x.0 ≡ o = same_open x.0 o keywords (x.2 ∙ g.from ∙ sym at) in
          in_body o s a tab.0.opened (subst (λ y. In y s) one x.1) def
    ]
  where
    goes_within : (w : BlockKeyword) (p : List Instruction) (k t : ℕ) → GoesTo w p k t → t ≤ size p
    goes_within w p k t g =
        let l = ap size g.whole ∙ size-append g.before (g.i ∷ (g.inner ++ (g.e ∷ g.after))) in
        omega (arith, size-append g.inner (g.e ∷ g.after), g.target)

definition_after : (w : BlockKeyword) → Defines w → begins_definition w ≡ true
definition_after w (inl h) = rw h refl
definition_after w (inr h) = rw h refl

definition_ends : (w u : BlockKeyword) → Defines w → Ends w u → u ≡ Endf
definition_ends w u (inl h) e = let f : Ends Fdef u = subst (λ w. Ends w u) h e in f
definition_ends w u (inr h) e = let f : Ends Idef u = subst (λ w. Ends w u) h e in f

-- A definition that is open before an instruction has it.
open_definition : (is a b : List Instruction) (i : Instruction) (o : Open) (s : List Open) (in_body : List (Option Body)) (goes : List (Option ℕ)) → AllByRecursion IsInstruction is →
    IsTable is [] in_body goes → is ≡ a ++ (i ∷ b) → steps a 0 [] ≡ Some s → In o s → Defines (keyword_for o) →
    (t : ℕ) × GoesTo (keyword_for o) is (place o) t × (place o < size a) × (size a < t)
open_definition is a b i o s in_body goes each table whole run open_in def =
    elim (table.target_there op.0 op.1 (op.2 ++ (i ∷ b)) placed (subst Opens (sym op.5) (definition_opens (keyword_for o) def))) [
      | inl u ↦ found u.0 (table.target_right (size op.0) u.0 u.1)
      | inr u ↦ absurd u
    ]
  where
    ok : AllByRecursion IsInstruction (a ++ (i ∷ b))
    ok = subst (λ x. AllByRecursion IsInstruction x) whole each

    oka : AllByRecursion IsInstruction a
    oka = each_front a (i ∷ b) ok

    tab : Leaves a s × ((x : List (Option Body)) × (y : List (Option ℕ)) × IsTable a s x y)
    tab = table_of a [] [] s [] [] oka Leaves-start Table-start run

    op : Opener o a
    op = opened_at o s a tab.0.opened open_in

    placed : is ≡ op.0 ++ (op.1 ∷ (op.2 ++ (i ∷ b)))
    placed = whole ∙ ap (λ x. x ++ (i ∷ b)) op.3 ∙ append_assoc op.0 (op.1 ∷ op.2) (i ∷ b)

    low : place o < size a
    low =
        let okp : AllByRecursion IsInstruction (op.0 ++ (op.1 ∷ op.2)) = subst (λ x. AllByRecursion IsInstruction x) op.3 oka in
        let n = some_bytes op.1 (each_split op.0 op.2 op.1 okp) in
        let l = ap size op.3 ∙ size-append op.0 (op.1 ∷ op.2) in omega (arith, op.4)

    high : (t : ℕ) → GoesTo (keyword_for o) is (place o) t → (t ≤ size a) → ⊥
    high t g h =
        let item = g.before ++ (g.i ∷ (g.inner ++ (g.e ∷ []))) in
        let shape : is ≡ item ++ g.after = g.whole ∙ ap (λ x. g.before ++ (g.i ∷ x)) (sym (append_assoc g.inner (g.e ∷ []) g.after)) ∙ sym (append_assoc g.before (g.i ∷ (g.inner ++ (g.e ∷ []))) g.after) in
        let oki : AllByRecursion IsInstruction (item ++ g.after) = subst (λ x. AllByRecursion IsInstruction x) shape each in
        let okg : AllByRecursion IsInstruction (g.before ++ (g.i ∷ (g.inner ++ (g.e ∷ g.after)))) = subst (λ x. AllByRecursion IsInstruction x) g.whole each in
        let l : size item ≡ t = size-append g.before (g.i ∷ (g.inner ++ (g.e ∷ []))) ∙ omega (arith, size-append g.inner (g.e ∷ []), g.target) in
        let z = longer item g.after a (i ∷ b) (sym shape ∙ whole) (omega arith) oki in
        let row = table.rows g.before g.i (g.inner ++ (g.e ∷ g.after)) g.whole in
        let okb = each_front g.before (g.i ∷ (g.inner ++ (g.e ∷ g.after))) okg in
        let before = table_of g.before [] [] row.0 [] [] okb Leaves-start Table-start row.1 in
        closed_by_end (place o) t o g.before g.inner z.0 a g.i g.e row.0 s (subst Defines (sym g.opens) def)
        (subst (λ x. IsList x g.inner) (definition_after (keyword_for o) def) g.nested) (definition_ends (keyword_for o) (keyword g.e) def g.ends)
        row.1 before.0 okb z.1 run g.from (some_bytes g.i (each_split g.before (g.inner ++ (g.e ∷ g.after)) g.i okg)) (in_place o s open_in)

    found : (t : ℕ) → ((w : BlockKeyword) × GoesTo w is (size op.0) t) → (t : ℕ) × GoesTo (keyword_for o) is (place o) t × (place o < size a) × (size a < t)
    found t g =
        let okg : AllByRecursion IsInstruction (op.0 ++ (op.1 ∷ (op.2 ++ (i ∷ b)))) = subst (λ x. AllByRecursion IsInstruction x) placed each in
        let p = same_place op.0 (op.2 ++ (i ∷ b)) g.1.before (g.1.inner ++ (g.1.e ∷ g.1.after)) op.1 g.1.i okg (sym placed ∙ g.1.whole) (sym g.1.from) in
        let keywords : g.0 ≡ keyword_for o = sym g.1.opens ∙ ap keyword (sym p.1) ∙ op.5 in
        let goes : GoesTo (keyword_for o) is (place o) t = subst (λ k. GoesTo (keyword_for o) is k t) op.4 (subst (λ w. GoesTo w is (size op.0) t) keywords g.1) in
        elim (order (size a) t) [ inl h ↦ (t, goes, low, h) | inr h ↦ absurd (high t goes h) ]

-- an instruction has its body
pub body_there : (is : List Instruction) (in_body : List (Option Body)) (goes : List (Option ℕ)) (k : ℕ) (i : Instruction) → IsTable is [] in_body goes → IsInstructionAt is k i →
    (b : Body) × (body_found in_body k ≡ Some b)
body_there is in_body goes k i table stands =
    let row = table.rows stands.before i stands.after stands.whole in
    (body_of row.0, subst (λ x. body_found in_body x ≡ Some (body_of row.0)) stands.offset row.2)

-- an offset that has a body is an instruction's
pub body_starts : (is : List Instruction) (in_body : List (Option Body)) (goes : List (Option ℕ)) (k : ℕ) (b : Body) → IsTable is [] in_body goes → body_found in_body k ≡ Some b →
    (i : Instruction) × IsInstructionAt is k i
body_starts is in_body goes k b table at =
    let o = table.starts k b at in
    (o.1, record { before = o.0; after = o.2; whole = o.3; offset = o.4 })

-- the body of a definition in which an instruction is
pub inside_body : (is : List Instruction) (k : ℕ) (i : Instruction) (s : List Open) → AllByRecursion IsInstruction is →
    (stands : IsInstructionAt is k i) → steps stands.before 0 [] ≡ Some s → (o : Open) (from : ℕ) → place o ≡ from → Defines (keyword_for o) → InDefinition (keyword_for o) is from k → body_of s ≡ body_of (o ∷ [])
inside_body is k i s each stands run o from at def (to, goes_to, low, high) =
    in_definition_body is stands.before stands.after i from to o s each stands.whole run goes_to at def (rw stands.offset low) (rw stands.offset high)

-- the body that is kept is the instruction's
pub body_is : (is : List Instruction) (in_body : List (Option Body)) (goes : List (Option ℕ)) (k : ℕ) (i : Instruction) (b : Body) → AllByRecursion IsInstruction is →
    IsTable is [] in_body goes → IsInstructionAt is k i → body_found in_body k ≡ Some b → IsBodyAt is k b
body_is is in_body goes k i b each table stands at =
    subst (λ b. IsBodyAt is k b) one (elim (body_from row.0) [ inl h ↦ subst (λ b. IsBodyAt is k b) (sym h) (none_there h) | inr h ↦ subst (λ b. IsBodyAt is k b) (sym h.3) (one_there h.0 h.1 h.2) ])
  where
    row : (t : List Open) × (steps stands.before 0 [] ≡ Some t) × (body_found in_body (size stands.before) ≡ Some (body_of t))
    row = table.rows stands.before i stands.after stands.whole

    one : body_of row.0 ≡ b
    one = let e : body_found in_body k ≡ Some (body_of row.0) = subst (λ x. body_found in_body x ≡ Some (body_of row.0)) stands.offset row.2 in cc

    inside : (o : Open) (from : ℕ) → place o ≡ from → Defines (keyword_for o) → InDefinition (keyword_for o) is from k → body_of row.0 ≡ body_of (o ∷ [])
    inside = inside_body is k i row.0 each stands row.1

    none_there : body_of row.0 ≡ body.Main → IsBodyAt is k body.Main
    none_there h = (
      λ from d. let e = inside (InFunction from) from refl (inl refl) d in cc,
      λ from d. let e = inside (InInstruction from) from refl (inr refl) d in cc,
    )

    one_there : (o : Open) → In o row.0 → Defines (keyword_for o) → IsBodyAt is k (body_of (o ∷ []))
    one_there (InIf j) i d = absurd (not_definition If d (inl refl))
    one_there (InElse j) i d = absurd (not_definition Else d (inr refl))
    one_there (InFunction j) open_in d =
        let r = open_definition is stands.before stands.after i (InFunction j) row.0 in_body goes each table stands.whole row.1 open_in d in
        (j, refl, (r.0, r.1, subst (λ x. j < x) stands.offset r.2, subst (λ x. x < r.0) stands.offset r.3))
    one_there (InInstruction j) open_in d =
        let r = open_definition is stands.before stands.after i (InInstruction j) row.0 in_body goes each table stands.whole row.1 open_in d in
        (j, refl, (r.0, r.1, subst (λ x. j < x) stands.offset r.2, subst (λ x. x < r.0) stands.offset r.3))

-- each instruction of structured ones has a way to it
pub way_to : (is : List Instruction) (k : ℕ) (i : Instruction) → IsStructured is → (stands : IsInstructionAt is k i) → (s : List Open) × (steps stands.before 0 [] ≡ Some s)
way_to is k i l stands = go (steps stands.before 0 []) refl
  where
    go : (r : Option (List Open)) → steps stands.before 0 [] ≡ r → (s : List Open) × (steps stands.before 0 [] ≡ Some s)
    go None h =
        let whole : steps is 0 [] ≡ Some [] = whole_steps l in
        let none : steps is 0 [] ≡ None = ap (λ x. steps x 0 []) stands.whole ∙ steps-append stands.before (i ∷ stands.after) 0 [] ∙ rw h refl in
        cc
    go (Some s) h = (s, h)

-- an instruction has one body
pub one_body : (is : List Instruction) (k : ℕ) (b c : Body) (i : Instruction) → AllByRecursion IsInstruction is → IsStructured is → IsInstructionAt is k i →
    IsBodyAt is k b → IsBodyAt is k c → b ≡ c
one_body is k b c i each l stands g h = go b c g h
  where
    way : (s : List Open) × (steps stands.before 0 [] ≡ Some s)
    way = way_to is k i l stands

    inside : (o : Open) (from : ℕ) → place o ≡ from → Defines (keyword_for o) → InDefinition (keyword_for o) is from k → body_of way.0 ≡ body_of (o ∷ [])
    inside = inside_body is k i way.0 each stands way.1

    go : (b c : Body) → IsBodyAt is k b → IsBodyAt is k c → b ≡ c
    go body.Main body.Main g h = refl
    go body.Main (body.Function f) g h = absurd (g.0 h.0 h.2)
    go body.Main (body.Instruction f) g h = absurd (g.1 h.0 h.2)
    go (body.Function e) body.Main g h = absurd (h.0 g.0 g.2)
    go (body.Function e) (body.Function f) g h =
        let q = sym (inside (InFunction g.0) g.0 refl (inl refl) g.2) ∙ inside (InFunction h.0) h.0 refl (inl refl) h.2 in
        let x = g.1 in let y = h.1 in cc
    go (body.Function e) (body.Instruction f) g h =
        let q = sym (inside (InFunction g.0) g.0 refl (inl refl) g.2) ∙ inside (InInstruction h.0) h.0 refl (inr refl) h.2 in cc
    go (body.Instruction e) body.Main g h = absurd (h.1 g.0 g.2)
    go (body.Instruction e) (body.Function f) g h =
        let q = sym (inside (InInstruction g.0) g.0 refl (inr refl) g.2) ∙ inside (InFunction h.0) h.0 refl (inl refl) h.2 in cc
    go (body.Instruction e) (body.Instruction f) g h =
        let q = sym (inside (InInstruction g.0) g.0 refl (inr refl) g.2) ∙ inside (InInstruction h.0) h.0 refl (inr refl) h.2 in
        let x = g.1 in let y = h.1 in cc

-- what a body that was looked up says
pub body_found_is : (is : List Instruction) (in_body : List (Option Body)) (goes : List (Option ℕ)) (k : ℕ) (r : Option Body) → AllByRecursion IsInstruction is →
    IsTable is [] in_body goes → r ≡ body_found in_body k → IfSome r (λ b. ((i : Instruction) × IsInstructionAt is k i) × IsBodyAt is k b)
body_found_is is in_body goes k None each table e = tt
body_found_is is in_body goes k (Some b) each table e =
    let stands = body_starts is in_body goes k b table (sym e) in
    ((stands.0, stands.1), body_is is in_body goes k stands.0 b each table stands.1 (sym e))

pub body_only_is : (is : List Instruction) (in_body : List (Option Body)) (goes : List (Option ℕ)) (k : ℕ) (r : Option Body) → AllByRecursion IsInstruction is → IsStructured is →
    IsTable is [] in_body goes → r ≡ body_found in_body k → (i : Instruction) (b : Body) → IsInstructionAt is k i → IsBodyAt is k b → r ≡ Some b
body_only_is is in_body goes k r each l table e i b stands h =
    let there = body_there is in_body goes k i table stands in
    e ∙ there.1 ∙ ap Some (one_body is k there.0 b i each l stands (body_is is in_body goes k i there.0 each table stands there.1) h)

pub body_none_is : (is : List Instruction) (in_body : List (Option Body)) (goes : List (Option ℕ)) (k : ℕ) (r : Option Body) → IsTable is [] in_body goes →
    r ≡ body_found in_body k → IfNone r ((i : Instruction) → IsInstructionAt is k i → ⊥)
body_none_is is in_body goes k None table e = λ i stands.
    let b = body_there is in_body goes k i table stands in
    let wrong : None ≡ Some b.0 = e ∙ b.1 in cc
body_none_is is in_body goes k (Some b) table e = tt
