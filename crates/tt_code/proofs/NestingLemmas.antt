-- The grammar, read from the left with what is open.
use Rattle.std.proofs.Common.{◌≡◌, ◌⊎◌, inl, inr, ℕ, ◌+◌, List, [], ◌∷◌, ◌++◌, length, refl, sym, ◌∙◌, ap, arith, add-zero, zero-add, append_assoc, Bool, true, false, Some, None, if◌then◌else◌, subst}
use Rattle.std.proofs.lemmas.List.{append-nil}
use Rattle.tt_code.specs.declared.block_keyword.BlockKeyword.{BlockKeyword}
use Rattle.tt_code.specs.declared.block_keyword.BlockKeyword.TheVariants.{If, Else, Eif, Fdef, Idef, Endf, Other}
use Rattle.tt_code.specs.declared.nest.Open.{Open}
use Rattle.tt_code.specs.declared.nest.Open.TheVariants.{InIf, InElse, InFunction, InInstruction}
use Rattle.tt_code.specs.Table.{effect_of}
use Rattle.tt_code.specs.Cut.{Instruction, IsInstruction, size}
use Rattle.tt_code.specs.Representation.Pass.{inside_of, within, step, follow, steps, body_of, body_after, Head, Opened, Leaves}
use Rattle.tt_code.specs.declared.machine.Body.TheVariants as body
use Rattle.tt_code.proofs.CutLemmas.{size-append}
use Rattle.tt_code.specs.Structure.{keyword}
use Rattle.tt_code.specs.Grammar.{IsDefinition, IsList, none, plain, if_eif, if_else_eif, definition, IsStructured, CanGoOn}

pub steps_one : (i : Instruction) (is : List Instruction) (k : ℕ) (s t : List Open) → step (keyword i) k s ≡ Some t → steps (i ∷ is) k s ≡ steps is (k + length i) t
steps_one i is k s t h = rw h refl

-- the instructions that begin definitions
pub defines : (w : BlockKeyword) → IsDefinition w → (w ≡ Fdef) ⊎ (w ≡ Idef)
defines Fdef h = inl refl
defines Idef h = inr refl
defines If h = absurd h
defines Else h = absurd h
defines Eif h = absurd h
defines Endf h = absurd h
defines Other h = absurd h

pub defined_by : (w : BlockKeyword) → (w ≡ Fdef) ⊎ (w ≡ Idef) → IsDefinition w
defined_by w (inl h) = rw h tt
defined_by w (inr h) = rw h tt

-- a list leaves what is open as it was
pub steps_list : {inside : Bool} {is : List Instruction} → IsList inside is → (s : List Open) (k : ℕ) (rest : List Instruction) → within s ≡ inside → steps (is ++ rest) k s ≡ steps rest (k + size is) s
steps_list none s k rest w = rw add-zero refl
steps_list (plain {i = i} {rest = r} h t) s k rest w =
    steps_one i (r ++ rest) k s s (rw h refl) ∙ steps_list t s (k + length i) rest w ∙ ap (λ n. steps rest n s) (omega arith)
steps_list (if_eif {i = i} {yes = a} e {rest = r} hi la he lr) s k rest w =
    ap (λ x. steps (i ∷ x) k s) (append_assoc a (e ∷ r) rest)
    ∙ steps_one i (a ++ (e ∷ (r ++ rest))) k s (InIf k ∷ s) (rw hi refl)
    ∙ steps_list la (InIf k ∷ s) (k + length i) (e ∷ (r ++ rest)) w
    ∙ steps_one e (r ++ rest) ((k + length i) + size a) (InIf k ∷ s) s (rw he refl)
    ∙ steps_list lr s (((k + length i) + size a) + length e) rest w
    ∙ ap (λ n. steps rest n s) (omega (arith, size-append a (e ∷ r)))
steps_list (if_else_eif {i = i} {yes = a} l {otherwise = b} e {rest = r} hi la hl lb he lr) s k rest w =
    ap (λ x. steps (i ∷ x) k s) (append_assoc a (l ∷ (b ++ (e ∷ r))) rest ∙ ap (λ x. a ++ (l ∷ x)) (append_assoc b (e ∷ r) rest))
    ∙ steps_one i (a ++ (l ∷ (b ++ (e ∷ (r ++ rest))))) k s (InIf k ∷ s) (rw hi refl)
    ∙ steps_list la (InIf k ∷ s) (k + length i) (l ∷ (b ++ (e ∷ (r ++ rest)))) w
    ∙ steps_one l (b ++ (e ∷ (r ++ rest))) ((k + length i) + size a) (InIf k ∷ s) (InElse ((k + length i) + size a) ∷ s) (rw hl refl)
    ∙ steps_list lb (InElse ((k + length i) + size a) ∷ s) (((k + length i) + size a) + length l) (e ∷ (r ++ rest)) w
    ∙ steps_one e (r ++ rest) ((((k + length i) + size a) + length l) + size b) (InElse ((k + length i) + size a) ∷ s) s (rw he refl)
    ∙ steps_list lr s (((((k + length i) + size a) + length l) + size b) + length e) rest w
    ∙ ap (λ n. steps rest n s) (omega (arith, size-append a (l ∷ (b ++ (e ∷ r))), size-append b (e ∷ r)))
steps_list (definition {d = d} {defined = a} e {rest = r} hd la he lr) s k rest w =
    ap (λ x. steps (d ∷ x) k s) (append_assoc a (e ∷ r) rest)
    ∙ elim (defines (keyword d) hd) [
      | inl hf ↦
          steps_one d (a ++ (e ∷ (r ++ rest))) k s (InFunction k ∷ s) (rw (hf, w) refl)
          ∙ steps_list la (InFunction k ∷ s) (k + length d) (e ∷ (r ++ rest)) refl
          ∙ steps_one e (r ++ rest) ((k + length d) + size a) (InFunction k ∷ s) s (rw he refl)
      | inr hf ↦
          steps_one d (a ++ (e ∷ (r ++ rest))) k s (InInstruction k ∷ s) (rw (hf, w) refl)
          ∙ steps_list la (InInstruction k ∷ s) (k + length d) (e ∷ (r ++ rest)) refl
          ∙ steps_one e (r ++ rest) ((k + length d) + size a) (InInstruction k ∷ s) s (rw he refl)
    ]
    ∙ steps_list lr s (((k + length d) + size a) + length e) rest w
    ∙ ap (λ n. steps rest n s) (omega (arith, size-append a (e ∷ r)))

-- Lists follow each other.
pub IsList-append : {inside : Bool} {is : List Instruction} → IsList inside is → {js : List Instruction} → IsList inside js → IsList inside (is ++ js)
IsList-append none m = m
IsList-append (plain h t) m = plain h (IsList-append t m)
IsList-append {inside} (if_eif {i = i} {yes = a} e {rest = r} hi la he lr) {js} m =
    subst (λ x. IsList inside (i ∷ x)) (sym (append_assoc a (e ∷ r) js)) (if_eif e hi la he (IsList-append lr m))
IsList-append {inside} (if_else_eif {i = i} {yes = a} l {otherwise = b} e {rest = r} hi la hl lb he lr) {js} m =
    subst (λ x. IsList inside (i ∷ x)) (sym (append_assoc a (l ∷ (b ++ (e ∷ r))) js ∙ ap (λ x. a ++ (l ∷ x)) (append_assoc b (e ∷ r) js)))
    (if_else_eif l e hi la hl lb he (IsList-append lr m))
IsList-append (definition {d = d} {defined = a} e {rest = r} hd la he lr) {js} m =
    subst (λ x. IsList false (d ∷ x)) (sym (append_assoc a (e ∷ r) js)) (definition e hd la he (IsList-append lr m))

pub Opened-extend : (s : List Open) (p a : List Instruction) → Opened s p → IsList (within s) a → Opened s (p ++ a)
Opened-extend [] p a l m = IsList-append l m
Opened-extend (o ∷ s) p a (outer, head, inner, below, h, l, e) m =
    (outer, head, inner ++ a, below, h, IsList-append l m, ap (λ x. x ++ a) e ∙ append_assoc outer (head ++ inner) a ∙ ap (λ x. outer ++ x) (append_assoc head inner a))

pub Opened-open : (o : Open) (s : List Open) (p head : List Instruction) → Opened s p → Head o (within s) (size p) head → Opened (o ∷ s) (p ++ head)
Opened-open o s p head below h = (p, head, [], below, h, none, ap (λ x. p ++ x) (sym (append-nil head)))

-- the keywords that close
abbrev pub Closes : BlockKeyword → Open → Type 0
Closes w (InIf k) = w ≡ Eif
Closes w (InElse k) = w ≡ Eif
Closes w (InFunction k) = w ≡ Endf
Closes w (InInstruction k) = w ≡ Endf

-- what was opened, with what closes it, is an item
pub Head-close : (o : Open) (inside : Bool) (at : ℕ) (head inner : List Instruction) (e : Instruction) → Head o inside at head → IsList (inside_of o inside) inner → Closes (keyword e) o → IsList inside (head ++ (inner ++ (e ∷ [])))
Head-close (InIf k) inside at head inner e (i, hi, hk, eq) l c =
    subst (λ x. IsList inside (x ++ (inner ++ (e ∷ [])))) (sym eq) (if_eif e hi l c none)
Head-close (InElse k) inside at head inner e (i, a, m, hi, la, hm, hk, eq) l c =
    subst (λ x. IsList inside (x ++ (inner ++ (e ∷ [])))) (sym eq)
    (subst (λ x. IsList inside (i ∷ x)) (sym (append_assoc a (m ∷ []) (inner ++ (e ∷ [])))) (if_else_eif m e hi la hm l c none))
Head-close (InFunction k) inside at head inner e (d, hd, hf, hk, eq) l c =
    subst (λ x. IsList inside (x ++ (inner ++ (e ∷ [])))) (sym eq)
    (subst (λ b. IsList b (d ∷ (inner ++ (e ∷ [])))) (sym hf) (definition e (defined_by (keyword d) (inl hd)) l c none))
Head-close (InInstruction k) inside at head inner e (d, hd, hf, hk, eq) l c =
    subst (λ x. IsList inside (x ++ (inner ++ (e ∷ [])))) (sym eq)
    (subst (λ b. IsList b (d ∷ (inner ++ (e ∷ [])))) (sym hf) (definition e (defined_by (keyword d) (inr hd)) l c none))

pub Opened-close : (o : Open) (s : List Open) (p : List Instruction) (e : Instruction) → Opened (o ∷ s) p → Closes (keyword e) o → Opened s (p ++ (e ∷ []))
Opened-close o s p e (outer, head, inner, below, h, l, eq) c =
    let item = Head-close o (within s) (size outer) head inner e h l c in
    subst (λ x. Opened s x) (sym (ap (λ x. x ++ (e ∷ [])) eq ∙ append_assoc outer (head ++ inner) (e ∷ []) ∙ ap (λ x. outer ++ x) (append_assoc head inner (e ∷ []))))
    (Opened-extend s outer (head ++ (inner ++ (e ∷ []))) below item)

pub Opened-else : (k : ℕ) (s : List Open) (p : List Instruction) (l : Instruction) → Opened (InIf k ∷ s) p → keyword l ≡ Else → Opened (InElse (size p) ∷ s) (p ++ (l ∷ []))
Opened-else k s p l (outer, head, inner, below, (i, hi, hk, eh), m, eq) hl =
    let shape : p ≡ outer ++ (i ∷ inner) = eq ∙ ap (λ x. outer ++ (x ++ inner)) eh in (
      outer,
      i ∷ (inner ++ (l ∷ [])),
      [],
      below,
      (i, inner, l, hi, m, hl, ap size shape ∙ size-append outer (i ∷ inner) ∙ omega arith, refl),
      none,
      ap (λ x. x ++ (l ∷ [])) shape ∙ append_assoc outer (i ∷ inner) (l ∷ []) ∙ ap (λ x. outer ++ (i ∷ x)) (sym (append-nil (inner ++ (l ∷ [])))),
    )

pub steps-append : (is js : List Instruction) (k : ℕ) (s : List Open) → steps (is ++ js) k s ≡ follow (steps is k s) (λ t. steps js (k + size is) t)
steps-append [] js k s = rw add-zero refl
steps-append (i ∷ is) js k s =
    elim (step (keyword i) k s) as (λ o. follow o (λ t. steps (is ++ js) (k + length i) t) ≡ follow (follow o (λ t. steps is (k + length i) t)) (λ t. steps js (k + (length i + size is)) t)) [
      | None ↦ refl
      | Some t ↦ steps-append is js (k + length i) t ∙ ap (λ n. follow (steps is (k + length i) t) (λ u. steps js n u)) (omega arith)
    ]

pub Leaves-start : Leaves [] []
Leaves-start = record { opened = none; stepped = refl }

pub within-false : (b : Bool) (o : Open) (s t : List Open) → (if b then None else Some (o ∷ s)) ≡ Some t → (b ≡ false) × (t ≡ o ∷ s)
within-false true o s t h = cc
within-false false o s t h = (refl, cc)

Opened-step : (w : BlockKeyword) (s t : List Open) (p : List Instruction) (i : Instruction) → Opened s p → keyword i ≡ w → step w (size p) s ≡ Some t → Opened t (p ++ (i ∷ []))
Opened-step Other s t p i h hw e = let q : s ≡ t = cc in subst (λ x. Opened x (p ++ (i ∷ []))) q (Opened-extend s p (i ∷ []) h (plain hw none))
Opened-step If s t p i h hw e = let q : InIf (size p) ∷ s ≡ t = cc in subst (λ x. Opened x (p ++ (i ∷ []))) q (Opened-open (InIf (size p)) s p (i ∷ []) h (i, hw, refl, refl))
Opened-step Else [] t p i h hw e = cc
Opened-step Else (InIf k ∷ s) t p i h hw e = let q : InElse (size p) ∷ s ≡ t = cc in subst (λ x. Opened x (p ++ (i ∷ []))) q (Opened-else k s p i h hw)
Opened-step Else (InElse k ∷ s) t p i h hw e = cc
Opened-step Else (InFunction k ∷ s) t p i h hw e = cc
Opened-step Else (InInstruction k ∷ s) t p i h hw e = cc
Opened-step Eif [] t p i h hw e = cc
Opened-step Eif (InIf k ∷ s) t p i h hw e = let q : s ≡ t = cc in subst (λ x. Opened x (p ++ (i ∷ []))) q (Opened-close (InIf k) s p i h hw)
Opened-step Eif (InElse k ∷ s) t p i h hw e = let q : s ≡ t = cc in subst (λ x. Opened x (p ++ (i ∷ []))) q (Opened-close (InElse k) s p i h hw)
Opened-step Eif (InFunction k ∷ s) t p i h hw e = cc
Opened-step Eif (InInstruction k ∷ s) t p i h hw e = cc
Opened-step Fdef s t p i h hw e =
    let f : (within s ≡ false) × (t ≡ InFunction (size p) ∷ s) = within-false (within s) (InFunction (size p)) s t e in
    subst (λ x. Opened x (p ++ (i ∷ []))) (sym f.1) (Opened-open (InFunction (size p)) s p (i ∷ []) h (i, hw, f.0, refl, refl))
Opened-step Idef s t p i h hw e =
    let f : (within s ≡ false) × (t ≡ InInstruction (size p) ∷ s) = within-false (within s) (InInstruction (size p)) s t e in
    subst (λ x. Opened x (p ++ (i ∷ []))) (sym f.1) (Opened-open (InInstruction (size p)) s p (i ∷ []) h (i, hw, f.0, refl, refl))
Opened-step Endf [] t p i h hw e = cc
Opened-step Endf (InIf k ∷ s) t p i h hw e = cc
Opened-step Endf (InElse k ∷ s) t p i h hw e = cc
Opened-step Endf (InFunction k ∷ s) t p i h hw e = let q : s ≡ t = cc in subst (λ x. Opened x (p ++ (i ∷ []))) q (Opened-close (InFunction k) s p i h hw)
Opened-step Endf (InInstruction k ∷ s) t p i h hw e = let q : s ≡ t = cc in subst (λ x. Opened x (p ++ (i ∷ []))) q (Opened-close (InInstruction k) s p i h hw)

pub Leaves-step : (p : List Instruction) (s t : List Open) (i : Instruction) → Leaves p s → step (keyword i) (size p) s ≡ Some t → Leaves (p ++ (i ∷ [])) t
Leaves-step p s t i h e = record {
  opened = Opened-step (keyword i) s t p i h.opened refl e;
  stepped = steps-append p (i ∷ []) 0 [] ∙ rw (h.stepped, zero-add, e) refl;
}

-- the instructions that close what is open
closing : Open → Instruction
closing (InIf k) = 0x59 ∷ []
closing (InElse k) = 0x59 ∷ []
closing (InFunction k) = 0x2d ∷ []
closing (InInstruction k) = 0x2d ∷ []

closing-closes : (o : Open) → Closes (keyword (closing o)) o
unfolding closing keyword
closing-closes (InIf k) = refl
closing-closes (InElse k) = refl
closing-closes (InFunction k) = refl
closing-closes (InInstruction k) = refl

closing-is : (o : Open) → IsInstruction (closing o)
unfolding closing effect_of
closing-is (InIf k) = refl
closing-is (InElse k) = refl
closing-is (InFunction k) = refl
closing-is (InInstruction k) = refl

pub goes_on : (s : List Open) (p : List Instruction) → Opened s p → CanGoOn p
goes_on [] p h = ([], tt, rw append-nil h)
goes_on (o ∷ s) p h =
    let more : CanGoOn (p ++ (closing o ∷ [])) = goes_on s (p ++ (closing o ∷ [])) (Opened-close o s p (closing o) h (closing-closes o)) in
    (closing o ∷ more.0, (closing-is o, more.1), subst (λ x. IsList false x) (append_assoc p (closing o ∷ []) more.0) more.2)

-- a list leaves nothing open
pub whole_steps : {is : List Instruction} → IsList false is → steps is 0 [] ≡ Some []
whole_steps {is} h = ap (λ x. steps x 0 []) (sym (append-nil is)) ∙ steps_list h [] 0 [] refl

pub cannot_go_on : (p : List Instruction) (s : List Open) (i : Instruction) → Leaves p s → step (keyword i) (size p) s ≡ None → CanGoOn (p ++ (i ∷ [])) → ⊥
cannot_go_on p s i h e (rest, ok, l) =
    let whole = whole_steps l in
    let first = steps-append (p ++ (i ∷ [])) rest 0 [] in
    let second = steps-append p (i ∷ []) 0 [] in
    let third : steps (p ++ (i ∷ [])) 0 [] ≡ None = second ∙ rw (h.stepped, zero-add, e) refl in
    let fourth : steps ((p ++ (i ∷ [])) ++ rest) 0 [] ≡ None = first ∙ rw third refl in
    cc

pub not_structured : (p : List Instruction) (o : Open) (s : List Open) → Leaves p (o ∷ s) → IsStructured p → ⊥
not_structured p o s h l = let e = whole_steps l in let f = h.stepped in cc

-- The body is the main program exactly outside all definitions.
pub main_within : (s : List Open) → body_of s ≡ body.Main → within s ≡ false
main_within [] h = refl
main_within (InIf k ∷ s) h = main_within s h
main_within (InElse k ∷ s) h = main_within s h
main_within (InFunction k ∷ s) h = cc
main_within (InInstruction k ∷ s) h = cc

pub not_main_within : (s : List Open) → (body_of s ≡ body.Main → ⊥) → within s ≡ true
not_main_within [] h = absurd (h refl)
not_main_within (InIf k ∷ s) h = not_main_within s h
not_main_within (InElse k ∷ s) h = not_main_within s h
not_main_within (InFunction k ∷ s) h = refl
not_main_within (InInstruction k ∷ s) h = refl

pub within_main : (s : List Open) → within s ≡ false → body_of s ≡ body.Main
within_main [] h = refl
within_main (InIf k ∷ s) h = within_main s h
within_main (InElse k ∷ s) h = within_main s h
within_main (InFunction k ∷ s) h = cc
within_main (InInstruction k ∷ s) h = cc

-- the body after a keyword
pub body_step : (w : BlockKeyword) (k : ℕ) (s t : List Open) (p : List Instruction) → Opened s p → step w k s ≡ Some t → body_after (body_of s) w k ≡ body_of t
body_step Other k s t p h e = cc
body_step If k s t p h e = let q : InIf k ∷ s ≡ t = cc in ap body_of q
body_step Else k [] t p h e = cc
body_step Else k (InIf j ∷ s) t p h e = let q : InElse k ∷ s ≡ t = cc in ap body_of q
body_step Else k (InElse j ∷ s) t p h e = cc
body_step Else k (InFunction j ∷ s) t p h e = cc
body_step Else k (InInstruction j ∷ s) t p h e = cc
body_step Eif k [] t p h e = cc
body_step Eif k (InIf j ∷ s) t p h e = let q : s ≡ t = cc in ap body_of q
body_step Eif k (InElse j ∷ s) t p h e = let q : s ≡ t = cc in ap body_of q
body_step Eif k (InFunction j ∷ s) t p h e = cc
body_step Eif k (InInstruction j ∷ s) t p h e = cc
body_step Fdef k s t p h e = let f : (within s ≡ false) × (t ≡ InFunction k ∷ s) = within-false (within s) (InFunction k) s t e in sym (ap body_of f.1)
body_step Idef k s t p h e = let f : (within s ≡ false) × (t ≡ InInstruction k ∷ s) = within-false (within s) (InInstruction k) s t e in sym (ap body_of f.1)
body_step Endf k [] t p h e = cc
body_step Endf k (InIf j ∷ s) t p h e = cc
body_step Endf k (InElse j ∷ s) t p h e = cc
body_step Endf k (InFunction j ∷ s) t p (outer, head, inner, below, (d, hd, hf, hk, eh), l, eq) e =
    let q : s ≡ t = cc in sym (within_main s hf) ∙ ap body_of q
body_step Endf k (InInstruction j ∷ s) t p (outer, head, inner, below, (d, hd, hf, hk, eh), l, eq) e =
    let q : s ≡ t = cc in sym (within_main s hf) ∙ ap body_of q
