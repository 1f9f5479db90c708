-- The functions that look for instructions and partners on a cut find what the grammar says.
use Rattle.std.proofs.Common.{Option, ◌≡◌, ◌⊎◌, ◌↔◌, inl, inr, ℕ, zero, suc, ◌+◌, ◌-◌, ◌<◌, ◌≤◌, List, [], ◌∷◌, ◌++◌, length, refl, sym, ◌∙◌, ap, subst, arith, append_assoc, Some, None, Bool, true, false, add-zero}
use Rattle.std.specs.Prelude.{IfSome, nat_eq, nat_lt, if◌then◌else◌}
use Rattle.std.specs.List.{AllByRecursion}
use Rattle.std.proofs.lemmas.Bool.{eqb-true, eq-eqb, ne_eqb, ltb-false, le-ltb}
use Rattle.tt_code.specs.Cut.{Instruction, IsInstruction, size, instruction_at}
use Rattle.tt_code.specs.Representation.Slots.{Opens}
use Rattle.tt_code.specs.Structure.{keyword, is_keyword, still_open, after_end, leads_from, leads}
use Rattle.tt_code.specs.Grammar.{IsDefinition, IsList, none, plain, if_eif, if_else_eif, definition, IsStructured, IsInstructionAt, Ends, begins_definition, GoesTo}
use Rattle.tt_code.specs.declared.block_keyword.BlockKeyword.{BlockKeyword}
use Rattle.tt_code.specs.declared.block_keyword.BlockKeyword.TheVariants.{If, Else, Eif, Fdef, Idef, Endf, Other}
use Rattle.tt_code.proofs.CutLemmas.{size-append, some_bytes}

-- What is said of each instruction is said of those before and after a place.

abbrev pub HasBytes : Instruction → Type 0
HasBytes i = 0 < length i

pub each_bytes : (is : List Instruction) → AllByRecursion IsInstruction is → AllByRecursion HasBytes is
each_bytes [] h = h
each_bytes (i ∷ is) h = (some_bytes i h.0, each_bytes is h.1)

pub each_before : (P : Instruction → Type 0) (is js : List Instruction) → AllByRecursion P (is ++ js) → AllByRecursion P is
each_before P [] js h = tt
each_before P (i ∷ is) js h = (h.0, each_before P is js h.1)

pub each_after : (P : Instruction → Type 0) (is js : List Instruction) → AllByRecursion P (is ++ js) → AllByRecursion P js
each_after P [] js h = h
each_after P (i ∷ is) js h = each_after P is js h.1

pub each_joined : (P : Instruction → Type 0) (is js : List Instruction) → AllByRecursion P is → AllByRecursion P js → AllByRecursion P (is ++ js)
each_joined P [] js h k = k
each_joined P (i ∷ is) js h k = (h.0, each_joined P is js h.1 k)

-- Where a place is in a list that is parted at another place: before that one, at it, or after it.
pub data Place (first : List Instruction) (e : Instruction) (second before : List Instruction) (i : Instruction) (rest : List Instruction) : Type 0 where
  earlier : (between : List Instruction) → first ≡ before ++ (i ∷ between) → rest ≡ between ++ (e ∷ second) → Place first e second before i rest
  same : before ≡ first → i ≡ e → rest ≡ second → Place first e second before i rest
  later : (between : List Instruction) → before ≡ first ++ (e ∷ between) → second ≡ between ++ (i ∷ rest) → Place first e second before i rest

pub place : (first : List Instruction) (e : Instruction) (second before : List Instruction) (i : Instruction) (rest : List Instruction)
    → first ++ (e ∷ second) ≡ before ++ (i ∷ rest) → Place first e second before i rest
place [] e second [] i rest h = same refl (cc) (cc)
place [] e second (b ∷ before) i rest h = let q : e ≡ b = cc in later before (ap (λ x. x ∷ before) (sym q)) (cc)
place (a ∷ first) e second [] i rest h = let q : a ≡ i = cc in earlier first (ap (λ x. x ∷ first) q) (cc)
place (a ∷ first) e second (b ∷ before) i rest h =
    let q : a ≡ b = cc in
    let t : first ++ (e ∷ second) ≡ before ++ (i ∷ rest) = cc in
    elim (place first e second before i rest t) [
      | earlier between p r ↦ earlier between (cc) r
      | same p r s ↦ same (cc) r s
      | later between p r ↦ later between (cc) r
    ]

-- The search for an end passes over a list of the grammar.

-- how many IFs are open after an IF
abbrev deeper : BlockKeyword → ℕ → ℕ
deeper If n = suc n
deeper Else n = suc n
deeper _ n = n

over_if : (opener : BlockKeyword) (n : ℕ) → still_open opener If n ≡ Some (deeper opener n)
over_if If n = refl
over_if Else n = refl
over_if Eif n = refl
over_if Fdef n = refl
over_if Idef n = refl
over_if Endf n = refl
over_if Other n = refl

over_else : (opener : BlockKeyword) (n : ℕ) → still_open opener Else (deeper opener n) ≡ Some (deeper opener n)
over_else If n = refl
over_else Else n = refl
over_else Eif n = refl
over_else Fdef n = refl
over_else Idef n = refl
over_else Endf n = refl
over_else Other n = refl

over_eif : (opener : BlockKeyword) (n : ℕ) → still_open opener Eif (deeper opener n) ≡ Some n
over_eif If n = refl
over_eif Else n = refl
over_eif Eif n = refl
over_eif Fdef n = refl
over_eif Idef n = refl
over_eif Endf n = refl
over_eif Other n = refl

over_other : (opener : BlockKeyword) (n : ℕ) → still_open opener Other n ≡ Some n
over_other If n = refl
over_other Else n = refl
over_other Eif n = refl
over_other Fdef n = refl
over_other Idef n = refl
over_other Endf n = refl
over_other Other n = refl

over_definition : (opener w : BlockKeyword) (n : ℕ) → IsDefinition w → still_open opener w n ≡ Some n
over_definition If Fdef n d = refl
over_definition Else Fdef n d = refl
over_definition Eif Fdef n d = refl
over_definition Fdef Fdef n d = refl
over_definition Idef Fdef n d = refl
over_definition Endf Fdef n d = refl
over_definition Other Fdef n d = refl
over_definition If Idef n d = refl
over_definition Else Idef n d = refl
over_definition Eif Idef n d = refl
over_definition Fdef Idef n d = refl
over_definition Idef Idef n d = refl
over_definition Endf Idef n d = refl
over_definition Other Idef n d = refl
over_definition opener If n d = absurd d
over_definition opener Else n d = absurd d
over_definition opener Eif n d = absurd d
over_definition opener Endf n d = absurd d
over_definition opener Other n d = absurd d

-- the end of a definition is passed over, except by the search for one
abbrev PassesEndf : BlockKeyword → Type 0
PassesEndf opener = (n : ℕ) → still_open opener Endf n ≡ Some n

one_over : (opener : BlockKeyword) (i : Instruction) (is : List Instruction) (w : BlockKeyword) (k n m : ℕ) → keyword i ≡ w → still_open opener w n ≡ Some m
    → after_end opener (i ∷ is) k n ≡ after_end opener is (k + length i) m
one_over opener i is w k n m hw h = rw (hw, h, after_end) refl

list_over : {inside : Bool} {is : List Instruction} → IsList inside is → (opener : BlockKeyword) → (inside ≡ true) ⊎ PassesEndf opener → (rest : List Instruction) (k n : ℕ)
    → after_end opener (is ++ rest) k n ≡ after_end opener rest (k + size is) n
list_over none opener p rest k n = rw add-zero refl
list_over (plain {i = i} {rest = r} h t) opener p rest k n =
    one_over opener i (r ++ rest) Other k n n h (over_other opener n)
    ∙ list_over t opener p rest (k + length i) n
    ∙ ap (λ x. after_end opener rest x n) (omega arith)
list_over (if_eif {i = i} {yes = inner} e {rest = r} hi ly he lr) opener p rest k n =
    ap (λ x. after_end opener (i ∷ x) k n) (append_assoc inner (e ∷ r) rest)
    ∙ one_over opener i (inner ++ (e ∷ (r ++ rest))) If k n (deeper opener n) hi (over_if opener n)
    ∙ list_over ly opener p (e ∷ (r ++ rest)) (k + length i) (deeper opener n)
    ∙ one_over opener e (r ++ rest) Eif ((k + length i) + size inner) (deeper opener n) n he (over_eif opener n)
    ∙ list_over lr opener p rest (((k + length i) + size inner) + length e) n
    ∙ ap (λ x. after_end opener rest x n) (omega (arith, size-append inner (e ∷ r)))
list_over (if_else_eif {i = i} {yes = inner} l {otherwise = otherwise} e {rest = r} hi ly hl lo he lr) opener p rest k n =
    ap (λ x. after_end opener (i ∷ x) k n) (append_assoc inner (l ∷ (otherwise ++ (e ∷ r))) rest ∙ ap (λ x. inner ++ (l ∷ x)) (append_assoc otherwise (e ∷ r) rest))
    ∙ one_over opener i (inner ++ (l ∷ (otherwise ++ (e ∷ (r ++ rest))))) If k n (deeper opener n) hi (over_if opener n)
    ∙ list_over ly opener p (l ∷ (otherwise ++ (e ∷ (r ++ rest)))) (k + length i) (deeper opener n)
    ∙ one_over opener l (otherwise ++ (e ∷ (r ++ rest))) Else ((k + length i) + size inner) (deeper opener n) (deeper opener n) hl (over_else opener n)
    ∙ list_over lo opener p (e ∷ (r ++ rest)) (((k + length i) + size inner) + length l) (deeper opener n)
    ∙ one_over opener e (r ++ rest) Eif ((((k + length i) + size inner) + length l) + size otherwise) (deeper opener n) n he (over_eif opener n)
    ∙ list_over lr opener p rest (((((k + length i) + size inner) + length l) + size otherwise) + length e) n
    ∙ ap (λ x. after_end opener rest x n) (omega (arith, size-append inner (l ∷ (otherwise ++ (e ∷ r))), size-append otherwise (e ∷ r)))
list_over (definition {d = d} {defined = defined} e {rest = r} hd ld he lr) opener (inl bad) rest k n = cc
list_over (definition {d = d} {defined = defined} e {rest = r} hd ld he lr) opener (inr p) rest k n =
    ap (λ x. after_end opener (d ∷ x) k n) (append_assoc defined (e ∷ r) rest)
    ∙ one_over opener d (defined ++ (e ∷ (r ++ rest))) (keyword d) k n n refl (over_definition opener (keyword d) n hd)
    ∙ list_over ld opener (inr p) (e ∷ (r ++ rest)) (k + length d) n
    ∙ one_over opener e (r ++ rest) Endf ((k + length d) + size defined) n n he (p n)
    ∙ list_over lr opener (inr p) rest (((k + length d) + size defined) + length e) n
    ∙ ap (λ x. after_end opener rest x n) (omega (arith, size-append defined (e ∷ r)))

ends_now : (opener w : BlockKeyword) → Ends opener w → still_open opener w zero ≡ None
ends_now If w (inl h) = rw h refl
ends_now If w (inr h) = rw h refl
ends_now Else w h = rw h refl
ends_now Fdef w h = rw h refl
ends_now Idef w h = rw h refl
ends_now Eif w h = absurd h
ends_now Endf w h = absurd h
ends_now Other w h = absurd h

passes : (opener w : BlockKeyword) → Ends opener w → (begins_definition opener ≡ true) ⊎ PassesEndf opener
passes If w h = inr (λ n. refl)
passes Else w h = inr (λ n. refl)
passes Fdef w h = inl refl
passes Idef w h = inl refl
passes Eif w h = absurd h
passes Endf w h = absurd h
passes Other w h = absurd h

-- after a list comes its end
pub end_found : (opener : BlockKeyword) (inner : List Instruction) (e : Instruction) (after : List Instruction) (k : ℕ) → IsList (begins_definition opener) inner → Ends opener (keyword e)
    → after_end opener (inner ++ (e ∷ after)) k zero ≡ Some ((k + size inner) + length e)
end_found opener inner e after k l h =
    list_over l opener (passes opener (keyword e) h) (e ∷ after) k zero
    ∙ rw (ends_now opener (keyword e) h, after_end) refl

-- What follows an opening instruction: a list and its end.

pub record Closed (opener : BlockKeyword) (rest : List Instruction) : Type 0 where
  pub inner : List Instruction
  pub e : Instruction
  pub after : List Instruction
  pub whole : rest ≡ inner ++ (e ∷ after)
  pub nested : IsList (begins_definition opener) inner
  pub ends : Ends opener (keyword e)

closed_more : (opener : BlockKeyword) (rest more : List Instruction) → Closed opener rest → Closed opener (rest ++ more)
closed_more opener rest more c = record {
  inner = c.inner;
  e = c.e;
  after = c.after ++ more;
  whole = ap (λ x. x ++ more) c.whole ∙ append_assoc c.inner (c.e ∷ c.after) more;
  nested = c.nested;
  ends = c.ends;
}

-- a list inside a definition is a list outside too
pub list_outside : {inside : Bool} {is : List Instruction} → IsList inside is → IsList false is
list_outside none = none
list_outside (plain h t) = plain h (list_outside t)
list_outside (if_eif e hi ly he lr) = if_eif e hi (list_outside ly) he (list_outside lr)
list_outside (if_else_eif l e hi ly hl lo he lr) = if_else_eif l e hi (list_outside ly) hl (list_outside lo) he (list_outside lr)
list_outside (definition e hd ld he lr) = definition e hd ld he lr

-- each keyword has its own way on

not_opens : (opener : BlockKeyword) (i : Instruction) (w : BlockKeyword) → Opens opener → keyword i ≡ opener → keyword i ≡ w → (Opens w → ⊥) → ⊥
not_opens opener i w o h k n = n (subst Opens (sym h ∙ k) o)

closed_if : (opener : BlockKeyword) (i e : Instruction) (inner after : List Instruction) → keyword i ≡ opener → keyword i ≡ If → IsList false inner → Ends If (keyword e) → Closed opener (inner ++ (e ∷ after))
closed_if opener i e inner after h k l x = subst (λ w. Closed w (inner ++ (e ∷ after))) (sym k ∙ h) (record {
  inner = inner;
  e = e;
  after = after;
  whole = refl;
  nested = l;
  ends = x;
})

closed_else : (opener : BlockKeyword) (i e : Instruction) (inner after : List Instruction) → keyword i ≡ opener → keyword i ≡ Else → IsList false inner → keyword e ≡ Eif → Closed opener (inner ++ (e ∷ after))
closed_else opener i e inner after h k l x = subst (λ w. Closed w (inner ++ (e ∷ after))) (sym k ∙ h) (record {
  inner = inner;
  e = e;
  after = after;
  whole = refl;
  nested = l;
  ends = x;
})

closed_definition : (opener : BlockKeyword) (e : Instruction) (inner after : List Instruction) → IsDefinition opener → IsList true inner → keyword e ≡ Endf → Closed opener (inner ++ (e ∷ after))
closed_definition Fdef e inner after d l x = record { inner = inner; e = e; after = after; whole = refl; nested = l; ends = x }
closed_definition Idef e inner after d l x = record { inner = inner; e = e; after = after; whole = refl; nested = l; ends = x }
closed_definition If e inner after d l x = absurd d
closed_definition Else e inner after d l x = absurd d
closed_definition Eif e inner after d l x = absurd d
closed_definition Endf e inner after d l x = absurd d
closed_definition Other e inner after d l x = absurd d

pub opener_closed : {inside : Bool} {is : List Instruction} → IsList inside is → (before : List Instruction) (i : Instruction) (rest : List Instruction) → is ≡ before ++ (i ∷ rest)
    → (opener : BlockKeyword) → Opens opener → keyword i ≡ opener → Closed opener rest
opener_closed none [] i rest q opener o h = cc
opener_closed none (b ∷ before) i rest q opener o h = cc
opener_closed (plain {i = j} hj t) [] i rest q opener o h =
    let s : j ≡ i = cc in
    absurd (not_opens opener i Other o h (ap keyword (sym s) ∙ hj) (λ n. n))
opener_closed (plain hj t) (b ∷ before) i rest q opener o h = opener_closed t before i rest (cc) opener o h
opener_closed (if_eif {i = j} {yes = inner} e {rest = r} hj ly he lr) [] i rest q opener o h =
    let s : j ≡ i = cc in
    let t : inner ++ (e ∷ r) ≡ rest = cc in
    subst (λ x. Closed opener x) t (closed_if opener i e inner r h (ap keyword (sym s) ∙ hj) (list_outside ly) (inr he))
opener_closed (if_eif {i = j} {yes = inner} e {rest = r} hj ly he lr) (b ∷ before) i rest q opener o h =
    elim (place inner e r before i rest (cc)) [
      | earlier between p s ↦ subst (λ x. Closed opener x) (sym s) (closed_more opener between (e ∷ r) (opener_closed ly before i between p opener o h))
      | same p s t ↦ absurd (not_opens opener i Eif o h (ap keyword s ∙ he) (λ n. n))
      | later between p s ↦ opener_closed lr between i rest s opener o h
    ]
opener_closed (if_else_eif {i = j} {yes = inner} l {otherwise = otherwise} e {rest = r} hj ly hl lo he lr) [] i rest q opener o h =
    let s : j ≡ i = cc in
    let t : inner ++ (l ∷ (otherwise ++ (e ∷ r))) ≡ rest = cc in
    subst (λ x. Closed opener x) t (closed_if opener i l inner (otherwise ++ (e ∷ r)) h (ap keyword (sym s) ∙ hj) (list_outside ly) (inl hl))
opener_closed (if_else_eif {i = j} {yes = inner} l {otherwise = otherwise} e {rest = r} hj ly hl lo he lr) (b ∷ before) i rest q opener o h =
    elim (place inner l (otherwise ++ (e ∷ r)) before i rest (cc)) [
      | earlier between p s ↦ subst (λ x. Closed opener x) (sym s) (closed_more opener between (l ∷ (otherwise ++ (e ∷ r))) (opener_closed ly before i between p opener o h))
      | same p s t ↦ subst (λ x. Closed opener x) (sym t) (closed_else opener i e otherwise r h (ap keyword s ∙ hl) (list_outside lo) he)
      | later between p s ↦ elim (place otherwise e r between i rest s) [
        | earlier nearer u v ↦ subst (λ x. Closed opener x) (sym v) (closed_more opener nearer (e ∷ r) (opener_closed lo between i nearer u opener o h))
        | same u v w ↦ absurd (not_opens opener i Eif o h (ap keyword v ∙ he) (λ n. n))
        | later nearer u v ↦ opener_closed lr nearer i rest v opener o h
      ]
    ]
opener_closed (definition {d = d} {defined = defined} e {rest = r} hd ld he lr) [] i rest q opener o h =
    let s : d ≡ i = cc in
    let t : defined ++ (e ∷ r) ≡ rest = cc in
    subst (λ x. Closed opener x) t (closed_definition opener e defined r (subst IsDefinition (ap keyword s ∙ h) hd) ld he)
opener_closed (definition {d = d} {defined = defined} e {rest = r} hd ld he lr) (b ∷ before) i rest q opener o h =
    elim (place defined e r before i rest (cc)) [
      | earlier between p s ↦ subst (λ x. Closed opener x) (sym s) (closed_more opener between (e ∷ r) (opener_closed ld before i between p opener o h))
      | same p s t ↦ absurd (not_opens opener i Endf o h (ap keyword s ∙ he) (λ n. n))
      | later between p s ↦ opener_closed lr between i rest s opener o h
    ]

-- Where an instruction leads.

pub taken : {A : Type 0} (b : Bool) (x y z : A) → (if b then x else y) ≡ z → ((b ≡ true) × (x ≡ z)) ⊎ ((b ≡ false) × (y ≡ z))
taken true x y z h = inl (refl, h)
taken false x y z h = inr (refl, h)

is_itself : (w : BlockKeyword) → is_keyword w w ≡ true
is_itself If = refl
is_itself Else = refl
is_itself Eif = refl
is_itself Fdef = refl
is_itself Idef = refl
is_itself Endf = refl
is_itself Other = refl

same_keyword : (v w : BlockKeyword) → is_keyword v w ≡ true → w ≡ v
same_keyword If If h = refl
same_keyword Else Else h = refl
same_keyword Eif Eif h = refl
same_keyword Fdef Fdef h = refl
same_keyword Idef Idef h = refl
same_keyword Endf Endf h = refl
same_keyword Other Other h = refl
same_keyword _ _ h = cc

leads_there : (before : List Instruction) (i : Instruction) (rest : List Instruction) (start at : ℕ) (opener : BlockKeyword) → AllByRecursion HasBytes before → start + size before ≡ at → keyword i ≡ opener
    → leads_from start opener (before ++ (i ∷ rest)) at ≡ after_end opener rest (at + length i) zero
leads_there [] i rest start at opener each from opens =
    let here : start ≡ at = omega arith in
    let test : nat_eq start at ≡ true = eq-eqb start at here in
    let it : is_keyword opener (keyword i) ≡ true = subst (λ x. is_keyword opener x ≡ true) (sym opens) (is_itself opener) in
    rw (test, it, leads_from) (ap (λ x. after_end opener rest (x + length i) zero) here)
leads_there (b ∷ before) i rest start at opener each from opens =
    let some : 0 < length b = each.0 in
    let test : nat_eq start at ≡ false = ne_eqb start at (λ q. let bad : ⊥ = omega arith in bad) in
    rw (test, leads_from) (leads_there before i rest (start + length b) at opener each.1 (omega arith) opens)

-- the instruction at which a partner was found
record Found (opener : BlockKeyword) (is : List Instruction) (start at to : ℕ) : Type 0 where
  before : List Instruction
  i : Instruction
  rest : List Instruction
  whole : is ≡ before ++ (i ∷ rest)
  opens : keyword i ≡ opener
  from : start + size before ≡ at
  ends : after_end opener rest (at + length i) zero ≡ Some to

found_more : (opener : BlockKeyword) (i : Instruction) (is : List Instruction) (start at to : ℕ) → Found opener is (start + length i) at to → Found opener (i ∷ is) start at to
found_more opener i is start at to f = record {
  before = i ∷ f.before;
  i = f.i;
  rest = f.rest;
  whole = ap (λ x. i ∷ x) f.whole;
  opens = f.opens;
  from = omega (arith, f.from);
  ends = f.ends;
}

leads_found : (is : List Instruction) (opener : BlockKeyword) (start at to : ℕ) → leads_from start opener is at ≡ Some to → Found opener is start at to
leads_found [] opener start at to h = let wrong : None ≡ Some to = h in cc
leads_found (i ∷ is) opener start at to h = elim (taken (nat_eq start at) _ _ (Some to) h) [
  | inl here ↦
      let same_place : start ≡ at = eqb-true start at here.0 in
      elim (taken (is_keyword opener (keyword i)) _ _ (Some to) here.1) [
        | inl opens ↦ record {
          before = [];
          i = i;
          rest = is;
          whole = refl;
          opens = same_keyword opener (keyword i) opens.0;
          from = omega arith;
          ends = ap (λ x. after_end opener is (x + length i) zero) (sym same_place) ∙ opens.1;
        }
        | inr bad ↦ let wrong : None ≡ Some to = bad.1 in cc
      ]
  | inr beyond ↦ found_more opener i is start at to (leads_found is opener (start + length i) at to beyond.1)
]

-- Control goes where the grammar says.

pub goes_leads : {opener : BlockKeyword} {is : List Instruction} {at to : ℕ} → AllByRecursion HasBytes is → GoesTo opener is at to → leads opener is at ≡ Some to
goes_leads {opener} {is} {at} {to} each g =
    let beyond : List Instruction = g.i ∷ (g.inner ++ (g.e ∷ g.after)) in
    let front = each_before HasBytes g.before beyond (subst (λ x. AllByRecursion HasBytes x) g.whole each) in
    ap (λ x. leads opener x at) g.whole
    ∙ leads_there g.before g.i (g.inner ++ (g.e ∷ g.after)) 0 at opener front (omega (arith, g.from)) g.opens
    ∙ end_found opener g.inner g.e g.after (at + length g.i) g.nested g.ends
    ∙ ap Some (omega (arith, g.from, g.target))

-- an opening instruction with its end after it
pub closed_goes : {opener : BlockKeyword} {is : List Instruction} {at : ℕ} {i : Instruction} → (s : IsInstructionAt is at i) → keyword i ≡ opener → (c : Closed opener s.after)
    → GoesTo opener is at (at + (length i + (size c.inner + length c.e)))
closed_goes {i = i} s opens c = record {
  before = s.before;
  i = i;
  inner = c.inner;
  e = c.e;
  after = c.after;
  whole = s.whole ∙ ap (λ x. s.before ++ (i ∷ x)) c.whole;
  opens = opens;
  nested = c.nested;
  ends = c.ends;
  from = s.offset;
  target = ap (λ x. x + (length i + (size c.inner + length c.e))) s.offset;
}

-- every opening instruction of a structured program has its end
pub opener_goes : {opener : BlockKeyword} {is : List Instruction} {at : ℕ} {i : Instruction} → IsStructured is → Opens opener → IsInstructionAt is at i → keyword i ≡ opener → (to : ℕ) × GoesTo opener is at to
opener_goes {opener} {at = at} {i} structured o s opens =
    let c = opener_closed structured s.before i s.after s.whole opener o opens in
    (at + (length i + (size c.inner + length c.e)), closed_goes s opens c)

pub opener_leads : {opener : BlockKeyword} {is : List Instruction} {at : ℕ} {i : Instruction} → IsStructured is → AllByRecursion HasBytes is → Opens opener → IsInstructionAt is at i → keyword i ≡ opener
    → (to : ℕ) × (leads opener is at ≡ Some to)
opener_leads structured each o s opens = let g = opener_goes structured o s opens in (g.0, goes_leads each g.1)

pub leads_goes : {opener : BlockKeyword} {is : List Instruction} {at to : ℕ} → IsStructured is → Opens opener → leads opener is at ≡ Some to → GoesTo opener is at to
leads_goes {opener} {is} {at} {to} structured o h =
    let f = leads_found is opener 0 at to h in
    let s : IsInstructionAt is at f.i = record { before = f.before; after = f.rest; whole = f.whole; offset = omega (arith, f.from) } in
    let c = opener_closed structured f.before f.i f.rest f.whole opener o f.opens in
    let there : after_end opener f.rest (at + length f.i) zero ≡ Some (((at + length f.i) + size c.inner) + length c.e) =
    ap (λ x. after_end opener x (at + length f.i) zero) c.whole ∙ end_found opener c.inner c.e c.after (at + length f.i) c.nested c.ends in
    let one : Some (((at + length f.i) + size c.inner) + length c.e) ≡ Some to = sym there ∙ f.ends in
    let target : ((at + length f.i) + size c.inner) + length c.e ≡ to = cc in
    subst (λ x. GoesTo opener is at x) (omega arith) (closed_goes s f.opens c)

pub leads_iff_goes : {opener : BlockKeyword} {is : List Instruction} {at to : ℕ} → IsStructured is → AllByRecursion IsInstruction is → Opens opener → (leads opener is at ≡ Some to) ↔ GoesTo opener is at to
leads_iff_goes {is = is} structured each o = (leads_goes structured o, goes_leads (each_bytes is each))

-- The instruction that starts at an offset is the one that is there.

pub found_stands : (is : List Instruction) (at : ℕ) (i : Instruction) → instruction_at is at ≡ Some i → IsInstructionAt is at i
found_stands [] at i h = let wrong : None ≡ Some i = h in cc
found_stands (j ∷ is) zero i h =
    let same : j ≡ i = cc in
    record { before = []; after = is; whole = ap (λ x. x ∷ is) same; offset = refl }
found_stands (j ∷ is) (suc k) i h = elim (taken (nat_lt (suc k) (length j)) None _ (Some i) h) [
  | inl bad ↦ let wrong : None ≡ Some i = bad.1 in cc
  | inr beyond ↦
      let low : length j ≤ suc k = ltb-false (suc k) (length j) beyond.0 in
      let s = found_stands is (suc k - length j) i beyond.1 in
      record { before = j ∷ s.before; after = s.after; whole = ap (λ x. j ∷ x) s.whole; offset = omega (arith, s.offset) }
]

stands_there : (before : List Instruction) (at : ℕ) (i : Instruction) (after : List Instruction) → AllByRecursion HasBytes before → size before ≡ at → instruction_at (before ++ (i ∷ after)) at ≡ Some i
stands_there [] zero i after each e = refl
stands_there [] (suc k) i after each e = absurd (omega arith)
stands_there (b ∷ before) zero i after each e = let some : 0 < length b = each.0 in absurd (omega arith)
stands_there (b ∷ before) (suc k) i after each e =
    let test : nat_lt (suc k) (length b) ≡ false = le-ltb (suc k) (length b) (omega arith) in
    rw test (stands_there before (suc k - length b) i after each.1 (omega arith))

pub stands_found : (is : List Instruction) (at : ℕ) (i : Instruction) → AllByRecursion HasBytes is → IsInstructionAt is at i → instruction_at is at ≡ Some i
stands_found is at i each s =
    let parted : AllByRecursion HasBytes (s.before ++ (i ∷ s.after)) = subst (λ x. AllByRecursion HasBytes x) s.whole each in
    ap (λ x. instruction_at x at) s.whole ∙ stands_there s.before at i s.after (each_before HasBytes s.before (i ∷ s.after) parted) s.offset

pub found_iff_stands : (is : List Instruction) (at : ℕ) (i : Instruction) → AllByRecursion IsInstruction is → (instruction_at is at ≡ Some i) ↔ IsInstructionAt is at i
found_iff_stands is at i each = (found_stands is at i, stands_found is at i (each_bytes is each))

-- an answer that the grammar determines is that of the function
pub leads_value : (opener : BlockKeyword) (is : List Instruction) (at : ℕ) (found : Option ℕ) → IsStructured is → AllByRecursion IsInstruction is → Opens opener
    → IfSome found (GoesTo opener is at) → ((to : ℕ) → GoesTo opener is at to → found ≡ Some to) → found ≡ leads opener is at
leads_value opener is at (Some to) structured each opens there only = sym (goes_leads (each_bytes is each) there)
leads_value opener is at None structured each opens there only = by_lead (leads opener is at) refl
  where
    by_lead : (o : Option ℕ) → leads opener is at ≡ o → None ≡ o
    by_lead None e = refl
    by_lead (Some to) e = only to (leads_goes structured opens e)
