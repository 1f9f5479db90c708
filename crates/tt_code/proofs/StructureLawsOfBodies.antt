-- The function that looks for the body of an instruction on a cut finds the one that the grammar
-- says.
use Rattle.std.proofs.Common.{Option, ◌≡◌, ◌⊎◌, ◌↔◌, inl, inr, ℕ, ◌+◌, ◌<◌, List, [], ◌∷◌, ◌++◌, length, refl, sym, ◌∙◌, ap, subst, arith, append_assoc, Some, None, Bool, true, false}
use Rattle.std.specs.Prelude.{IfNone, IfSome, nat_eq, if◌then◌else◌}
use Rattle.std.specs.List.{AllByRecursion}
use Rattle.std.proofs.lemmas.Bool.{eqb-true, eq-eqb, ne_eqb}
use Rattle.tt_code.specs.Cut.{Instruction, IsInstruction, size}
use Rattle.tt_code.specs.Table.{effect_of}
use Rattle.tt_code.specs.Representation.Slots.{Opens}
use Rattle.tt_code.specs.Structure.{keyword, keyword_of, following_body, body_from, body_at}
use Rattle.tt_code.specs.Grammar.{IsDefinition, IsList, none, plain, if_eif, if_else_eif, definition, IsStructured, IsInstructionAt, Ends, begins_definition, GoesTo, InDefinition, IsBodyAt}
use Rattle.tt_code.specs.declared.block_keyword.BlockKeyword.{BlockKeyword}
use Rattle.tt_code.specs.declared.block_keyword.BlockKeyword.TheVariants.{If, Else, Eif, Fdef, Idef, Endf, Other}
use Rattle.tt_code.specs.declared.machine.Body.{Body}
use Rattle.tt_code.specs.declared.machine.Body.TheVariants as body
use Rattle.tt_code.proofs.CutLemmas.{size-append}
use Rattle.tt_code.proofs.StructureLaws.{HasBytes, each_bytes, each_before, each_after, each_joined, earlier, same, later, place, taken, Closed, opener_closed, closed_goes}

-- FDEF and IDEF have no operands.

one_of : (b : Bool) (x y : BlockKeyword) → IsDefinition (if b then x else y) → ((b ≡ true) × IsDefinition x) ⊎ IsDefinition y
one_of true x y d = inl (refl, d)
one_of false x y d = inr d

definition_code : (code : ℕ) → IsDefinition (keyword_of code) → (code ≡ 0x2c) ⊎ (code ≡ 0x89)
definition_code code d = elim (one_of (nat_eq code 0x58) If _ d) [
  | inl a ↦ absurd a.1
  | inr a ↦ elim (one_of (nat_eq code 0x1b) Else _ a) [
    | inl b ↦ absurd b.1
    | inr b ↦ elim (one_of (nat_eq code 0x59) Eif _ b) [
      | inl c ↦ absurd c.1
      | inr c ↦ elim (one_of (nat_eq code 0x2c) Fdef _ c) [
        | inl e ↦ inl (eqb-true code 0x2c e.0)
        | inr e ↦ elim (one_of (nat_eq code 0x89) Idef _ e) [
          | inl f ↦ inr (eqb-true code 0x89 f.0)
          | inr f ↦ elim (one_of (nat_eq code 0x2d) Endf Other f) [ inl g ↦ absurd g.1 | inr g ↦ absurd g ]
        ]
      ]
    ]
  ]
]

fdef_alone : (rest : List ℕ) → IsInstruction (0x2c ∷ rest) → length rest ≡ 0
unfolding effect_of
fdef_alone rest h = let e : Some 0 ≡ Some (length rest) = h in cc

idef_alone : (rest : List ℕ) → IsInstruction (0x89 ∷ rest) → length rest ≡ 0
unfolding effect_of
idef_alone rest h = let e : Some 0 ≡ Some (length rest) = h in cc

pub definition_length : (i : Instruction) → IsInstruction i → IsDefinition (keyword i) → length i ≡ 1
unfolding keyword
definition_length [] h d = absurd h
definition_length (code ∷ rest) h d = elim (definition_code code d) [
  | inl e ↦ let n = fdef_alone rest (subst (λ c. IsInstruction (c ∷ rest)) e h) in omega arith
  | inr e ↦ let n = idef_alone rest (subst (λ c. IsInstruction (c ∷ rest)) e h) in omega arith
]

-- FDEF, IDEF and ENDF begin and end bodies, and nothing else does.

abbrev pub KeepsBody : BlockKeyword → Type 0
KeepsBody Fdef = ⊥
KeepsBody Idef = ⊥
KeepsBody Endf = ⊥
KeepsBody _ = Unit {0}

abbrev pub Keeps : Instruction → Type 0
Keeps i = KeepsBody (keyword i)

keeps_keyword : (i : Instruction) (w : BlockKeyword) → keyword i ≡ w → KeepsBody w → Keeps i
keeps_keyword i w h k = subst KeepsBody (sym h) k

kept_body : (here : Body) (w : BlockKeyword) (next : ℕ) → KeepsBody w → following_body here w next ≡ here
kept_body here If next k = refl
kept_body here Else next k = refl
kept_body here Eif next k = refl
kept_body here Other next k = refl
kept_body here Fdef next k = absurd k
kept_body here Idef next k = absurd k
kept_body here Endf next k = absurd k

-- a list inside a definition keeps the body
list_keeps : {inside : Bool} {is : List Instruction} → IsList inside is → inside ≡ true → AllByRecursion Keeps is
list_keeps none t = tt
list_keeps (plain {i = i} h l) t = (keeps_keyword i Other h tt, list_keeps l t)
list_keeps (if_eif {i = i} {yes = inner} e {rest = r} hi ly he lr) t =
    (keeps_keyword i If hi tt, each_joined Keeps inner (e ∷ r) (list_keeps ly t) (keeps_keyword e Eif he tt, list_keeps lr t))
list_keeps (if_else_eif {i = i} {yes = inner} l {otherwise = otherwise} e {rest = r} hi ly hl lo he lr) t = (
  keeps_keyword i If hi tt,
  each_joined Keeps inner (l ∷ (otherwise ++ (e ∷ r))) (list_keeps ly t)
      (keeps_keyword l Else hl tt, each_joined Keeps otherwise (e ∷ r) (list_keeps lo t) (keeps_keyword e Eif he tt, list_keeps lr t)),
)
list_keeps (definition e hd ld he lr) t = cc

-- the body after the beginning of a program
abbrev pub body_after : Body → ℕ → List Instruction → Body
body_after here start [] = here
body_after here start (i ∷ is) = body_after (following_body here (keyword i) (start + length i)) (start + length i) is

after_kept : (is : List Instruction) (here : Body) (start : ℕ) → AllByRecursion Keeps is → body_after here start is ≡ here
after_kept [] here start k = refl
after_kept (i ∷ is) here start k = after_kept is (following_body here (keyword i) (start + length i)) (start + length i) k.1 ∙ kept_body here (keyword i) (start + length i) k.0

after_joined : (is js : List Instruction) (here : Body) (start : ℕ) → body_after here start (is ++ js) ≡ body_after (body_after here start is) (start + size is) js
after_joined [] js here start = ap (λ n. body_after here n js) (omega arith)
after_joined (i ∷ is) js here start =
    let beyond : Body = following_body here (keyword i) (start + length i) in
    after_joined is js beyond (start + length i) ∙ ap (λ n. body_after (body_after beyond (start + length i) is) n js) (omega arith)

body_there : (before : List Instruction) (i : Instruction) (rest : List Instruction) (here : Body) (start at : ℕ) → AllByRecursion HasBytes before → start + size before ≡ at
    → body_from here start (before ++ (i ∷ rest)) at ≡ Some (body_after here start before)
body_there [] i rest here start at each from =
    let test : nat_eq start at ≡ true = eq-eqb start at (omega arith) in
    rw test refl
body_there (b ∷ before) i rest here start at each from =
    let some : 0 < length b = each.0 in
    let test : nat_eq start at ≡ false = ne_eqb start at (λ q. let bad : ⊥ = omega arith in bad) in
    rw test (body_there before i rest (following_body here (keyword b) (start + length b)) (start + length b) at each.1 (omega arith))

-- the instruction whose body was found
record HasBody (here : Body) (is : List Instruction) (start at : ℕ) (b : Body) : Type 0 where
  before : List Instruction
  i : Instruction
  rest : List Instruction
  whole : is ≡ before ++ (i ∷ rest)
  from : start + size before ≡ at
  is_body : body_after here start before ≡ b

body_found : (is : List Instruction) (here : Body) (start at : ℕ) (b : Body) → body_from here start is at ≡ Some b → HasBody here is start at b
body_found [] here start at b h = let wrong : None ≡ Some b = h in cc
body_found (i ∷ is) here start at b h = elim (taken (nat_eq start at) _ _ (Some b) h) [
  | inl found ↦
      let there : start ≡ at = eqb-true start at found.0 in
      record { before = []; i = i; rest = is; whole = refl; from = omega arith; is_body = (let e = found.1 in cc) }
  | inr beyond ↦
      let f = body_found is (following_body here (keyword i) (start + length i)) (start + length i) at b beyond.1 in
      record { before = i ∷ f.before; i = f.i; rest = f.rest; whole = ap (λ x. i ∷ x) f.whole; from = omega (arith, f.from); is_body = f.is_body }
]

-- What is in a definition has its body.

-- the beginning of a program up to a place in a definition: the definition's beginning, and a part
-- of what it defines
record Reaches (opener : BlockKeyword) (from : ℕ) (before : List Instruction) : Type 0 where
  outer : List Instruction
  d : Instruction
  part : List Instruction
  whole : before ≡ outer ++ (d ∷ part)
  opens : keyword d ≡ opener
  starts : size outer ≡ from
  keeps : AllByRecursion Keeps part

is_inside : (opener : BlockKeyword) → IsDefinition opener → begins_definition opener ≡ true
is_inside Fdef d = refl
is_inside Idef d = refl
is_inside If d = absurd d
is_inside Else d = absurd d
is_inside Eif d = absurd d
is_inside Endf d = absurd d
is_inside Other d = absurd d

reaches : {opener : BlockKeyword} {is : List Instruction} {from at to : ℕ} {i : Instruction} → IsDefinition opener → (s : IsInstructionAt is at i) → GoesTo opener is from to → from < at → at < to
    → Reaches opener from s.before
reaches {opener} {i = i} d s g low high = elim (place s.before i s.after g.before g.i (g.inner ++ (g.e ∷ g.after)) (sym s.whole ∙ g.whole)) [
  | earlier part p r ↦ record {
    outer = g.before;
    d = g.i;
    part = part;
    whole = p;
    opens = g.opens;
    starts = g.from;
    keeps = part_keeps part p r;
  }
  | same p r t ↦ absurd (omega (arith, s.offset, g.from, ap size p))
  | later between p r ↦ absurd (omega (arith, s.offset, g.from, ap size p, size-append s.before (i ∷ between)))
]
  where
    inner_keeps : AllByRecursion Keeps g.inner
    inner_keeps = list_keeps g.nested (is_inside opener d)

    part_keeps : (part : List Instruction) → s.before ≡ g.before ++ (g.i ∷ part) → g.inner ++ (g.e ∷ g.after) ≡ part ++ (i ∷ s.after) → AllByRecursion Keeps part
    part_keeps part p r = elim (place g.inner g.e g.after part i s.after r) [
      | earlier between q t ↦ each_before Keeps part (i ∷ between) (subst (λ x. AllByRecursion Keeps x) q inner_keeps)
      | same q t u ↦ subst (λ x. AllByRecursion Keeps x) (sym q) inner_keeps
      | later between q t ↦
          absurd (omega (arith, s.offset, g.from, g.target, ap size p, size-append g.before (g.i ∷ part), ap size q, size-append g.inner (g.e ∷ between)))
    ]

begun_body : (here : Body) (opener : BlockKeyword) (first : ℕ) → IsDefinition opener → following_body here opener first ≡ following_body body.Main opener first
begun_body here Fdef first d = refl
begun_body here Idef first d = refl
begun_body here If first d = absurd d
begun_body here Else first d = absurd d
begun_body here Eif first d = absurd d
begun_body here Endf first d = absurd d
begun_body here Other first d = absurd d

reached_body : (opener : BlockKeyword) (from : ℕ) (before : List Instruction) → IsDefinition opener → (r : Reaches opener from before)
    → body_after body.Main 0 before ≡ following_body body.Main opener (from + length r.d)
reached_body opener from before d r =
    let outside : Body = body_after body.Main 0 r.outer in
    let first : ℕ = (0 + size r.outer) + length r.d in
    ap (λ x. body_after body.Main 0 x) r.whole
    ∙ after_joined r.outer (r.d ∷ r.part) body.Main 0
    ∙ after_kept r.part (following_body outside (keyword r.d) first) first r.keeps
    ∙ ap (λ w. following_body outside w first) r.opens
    ∙ begun_body outside opener first d
    ∙ ap (λ n. following_body body.Main opener n) (omega (arith, r.starts))

-- the instruction between the parts of a beginning is one of the program's
parted : {is : List Instruction} {at : ℕ} {i : Instruction} (s : IsInstructionAt is at i) (outer : List Instruction) (d : Instruction) (part : List Instruction) → s.before ≡ outer ++ (d ∷ part)
    → is ≡ outer ++ (d ∷ (part ++ (i ∷ s.after)))
parted {i = i} s outer d part e = s.whole ∙ ap (λ x. x ++ (i ∷ s.after)) e ∙ append_assoc outer (d ∷ part) (i ∷ s.after)

each_parted : {is : List Instruction} (outer : List Instruction) (d : Instruction) (rest : List Instruction) → AllByRecursion IsInstruction is → is ≡ outer ++ (d ∷ rest)
    → AllByRecursion IsInstruction (d ∷ rest)
each_parted outer d rest each e = each_after IsInstruction outer (d ∷ rest) (subst (λ x. AllByRecursion IsInstruction x) e each)

definition_body : {opener : BlockKeyword} {is : List Instruction} {from at : ℕ} {i : Instruction} → AllByRecursion IsInstruction is → IsDefinition opener → (s : IsInstructionAt is at i)
    → InDefinition opener is from at → body_after body.Main 0 s.before ≡ following_body body.Main opener (from + 1)
definition_body {opener} {is} {from} {i = i} each d s (to, g, low, high) =
    let r = reaches d s g low high in
    let there = each_parted r.outer r.d (r.part ++ (i ∷ s.after)) each (parted s r.outer r.d r.part r.whole) in
    reached_body opener from s.before d r ∙ ap (λ n. following_body body.Main opener (from + n)) (definition_length r.d there.0 (subst IsDefinition (sym r.opens) d))

-- What has the body of a definition is in that definition.

last_keyword : (here : Body) (opener w : BlockKeyword) (k n : ℕ) → IsDefinition opener → following_body here w k ≡ following_body body.Main opener n
    → ((here ≡ following_body body.Main opener n) × KeepsBody w) ⊎ ((w ≡ opener) × (k ≡ n))
last_keyword here opener If k n d h = inl (h, tt)
last_keyword here opener Else k n d h = inl (h, tt)
last_keyword here opener Eif k n d h = inl (h, tt)
last_keyword here opener Other k n d h = inl (h, tt)
last_keyword here Fdef Fdef k n d h = inr (refl, cc)
last_keyword here Fdef Idef k n d h = cc
last_keyword here Fdef Endf k n d h = cc
last_keyword here Idef Fdef k n d h = cc
last_keyword here Idef Idef k n d h = inr (refl, cc)
last_keyword here Idef Endf k n d h = cc
last_keyword here If w k n d h = absurd d
last_keyword here Else w k n d h = absurd d
last_keyword here Eif w k n d h = absurd d
last_keyword here Endf w k n d h = absurd d
last_keyword here Other w k n d h = absurd d

-- the last of FDEF, IDEF and ENDF in a beginning, after which the body begins
record Begun (opener : BlockKeyword) (is : List Instruction) (start first : ℕ) : Type 0 where
  outer : List Instruction
  d : Instruction
  part : List Instruction
  whole : is ≡ outer ++ (d ∷ part)
  opens : keyword d ≡ opener
  begins : (start + size outer) + length d ≡ first
  keeps : AllByRecursion Keeps part

last_definition : (is : List Instruction) (here : Body) (start n : ℕ) (opener : BlockKeyword) → IsDefinition opener → body_after here start is ≡ following_body body.Main opener n
    → ((here ≡ following_body body.Main opener n) × AllByRecursion Keeps is) ⊎ Begun opener is start n
last_definition [] here start n opener d h = inl (h, tt)
last_definition (i ∷ is) here start n opener d h =
    elim (last_definition is (following_body here (keyword i) (start + length i)) (start + length i) n opener d h) [
      | inl kept ↦ elim (last_keyword here opener (keyword i) (start + length i) n d kept.0) [
        | inl before ↦ inl (before.0, (before.1, kept.1))
        | inr this ↦ inr (record { outer = []; d = i; part = is; whole = refl; opens = this.0; begins = omega (arith, this.1); keeps = kept.1 })
      ]
      | inr b ↦ inr (record {
        outer = i ∷ b.outer;
        d = b.d;
        part = b.part;
        whole = ap (λ x. i ∷ x) b.whole;
        opens = b.opens;
        begins = omega (arith, b.begins);
        keeps = b.keeps;
      })
    ]

not_main : (opener : BlockKeyword) (n : ℕ) → IsDefinition opener → body.Main ≡ following_body body.Main opener n → ⊥
not_main Fdef n d h = cc
not_main Idef n d h = cc
not_main If n d h = d
not_main Else n d h = d
not_main Eif n d h = d
not_main Endf n d h = d
not_main Other n d h = d

definition_opens : (opener : BlockKeyword) → IsDefinition opener → Opens opener
definition_opens Fdef d = tt
definition_opens Idef d = tt
definition_opens If d = absurd d
definition_opens Else d = absurd d
definition_opens Eif d = absurd d
definition_opens Endf d = absurd d
definition_opens Other d = absurd d

-- what ends a definition ends the body
ends_body : (opener w : BlockKeyword) → IsDefinition opener → Ends opener w → KeepsBody w → ⊥
ends_body Fdef w d e k = subst KeepsBody e k
ends_body Idef w d e k = subst KeepsBody e k
ends_body If w d e k = d
ends_body Else w d e k = d
ends_body Eif w d e k = d
ends_body Endf w d e k = d
ends_body Other w d e k = d

begun_definition : {opener : BlockKeyword} {is : List Instruction} {at first : ℕ} {i : Instruction} → IsStructured is → AllByRecursion IsInstruction is → IsDefinition opener → (s : IsInstructionAt is at i)
    → Begun opener s.before 0 first → (from : ℕ) × (first ≡ from + 1) × InDefinition opener is from at
begun_definition {opener} {is} {at} {first} {i} structured each d s b = (
  size b.outer,
  omega (arith, one_byte, b.begins),
  (
    size b.outer + (length b.d + (size closed.inner + length closed.e)),
    closed_goes beginning b.opens closed,
    omega (arith, one_byte, s.offset, sizes),
    omega (arith, s.offset, sizes, within),
  ),
)
  where
    beginning : IsInstructionAt is (size b.outer) b.d
    beginning = record { before = b.outer; after = b.part ++ (i ∷ s.after); whole = parted s b.outer b.d b.part b.whole; offset = refl }

    each_there : AllByRecursion IsInstruction (b.d ∷ beginning.after)
    each_there = each_parted b.outer b.d beginning.after each beginning.whole

    one_byte : length b.d ≡ 1
    one_byte = definition_length b.d each_there.0 (subst IsDefinition (sym b.opens) d)

    sizes : size s.before ≡ size b.outer + (length b.d + size b.part)
    sizes = ap size b.whole ∙ size-append b.outer (b.d ∷ b.part)

    closed : Closed opener beginning.after
    closed = opener_closed structured b.outer b.d beginning.after beginning.whole opener (definition_opens opener d) b.opens

    end_bytes : 0 < length closed.e
    end_bytes =
        let all = each_bytes (closed.inner ++ (closed.e ∷ closed.after)) (subst (λ x. AllByRecursion IsInstruction x) closed.whole each_there.1) in
        (each_after HasBytes closed.inner (closed.e ∷ closed.after) all).0

    within : size b.part < size closed.inner + length closed.e
    within = elim (place closed.inner closed.e closed.after b.part i s.after (sym closed.whole)) [
      | earlier between p r ↦ omega (arith, end_bytes, ap size p, size-append b.part (i ∷ between))
      | same p r t ↦ omega (arith, end_bytes, ap size p)
      | later between p r ↦
          let kept = each_after Keeps closed.inner (closed.e ∷ between) (subst (λ x. AllByRecursion Keeps x) p b.keeps) in
          absurd (ends_body opener (keyword closed.e) d closed.ends kept.0)
    ]

body_definition : {opener : BlockKeyword} {is : List Instruction} {at first : ℕ} {i : Instruction} → IsStructured is → AllByRecursion IsInstruction is → IsDefinition opener → (s : IsInstructionAt is at i)
    → body_after body.Main 0 s.before ≡ following_body body.Main opener first → (from : ℕ) × (first ≡ from + 1) × InDefinition opener is from at
body_definition {opener} {first = first} structured each d s h = elim (last_definition s.before body.Main 0 first opener d h) [
  | inl outside ↦ absurd (not_main opener first d outside.0)
  | inr b ↦ begun_definition structured each d s b
]

-- The body after what comes before an instruction is the instruction's.

after_is : {is : List Instruction} {at : ℕ} {i : Instruction} (b : Body) → IsStructured is → AllByRecursion IsInstruction is → (s : IsInstructionAt is at i) → body_after body.Main 0 s.before ≡ b → IsBodyAt is at b
after_is body.Main structured each s h = (
  λ from inside. not_main Fdef (from + 1) tt (sym h ∙ definition_body {opener = Fdef} each tt s inside),
  λ from inside. not_main Idef (from + 1) tt (sym h ∙ definition_body {opener = Idef} each tt s inside),
)
after_is (body.Function first) structured each s h = body_definition {opener = Fdef} structured each tt s h
after_is (body.Instruction first) structured each s h = body_definition {opener = Idef} structured each tt s h

-- an instruction has one body
one_body : {is : List Instruction} {at : ℕ} {i : Instruction} (b : Body) → AllByRecursion IsInstruction is → (s : IsInstructionAt is at i) → (found : Body) → body_after body.Main 0 s.before ≡ found → IsBodyAt is at found → IsBodyAt is at b
    → found ≡ b
one_body body.Main each s body.Main e f h = refl
one_body body.Main each s (body.Function first) e f h = absurd (h.0 f.0 f.2)
one_body body.Main each s (body.Instruction first) e f h = absurd (h.1 f.0 f.2)
one_body (body.Function first) each s found e f (from, first_is, inside) = sym e ∙ definition_body {opener = Fdef} each tt s inside ∙ ap body.Function (sym first_is)
one_body (body.Instruction first) each s found e f (from, first_is, inside) = sym e ∙ definition_body {opener = Idef} each tt s inside ∙ ap body.Instruction (sym first_is)

-- each instruction has a body
stands_body : {is : List Instruction} {at : ℕ} {i : Instruction} → AllByRecursion IsInstruction is → (s : IsInstructionAt is at i) → body_at is at ≡ Some (body_after body.Main 0 s.before)
stands_body {is} {at} {i} each s =
    let front = each_before HasBytes s.before (i ∷ s.after) (subst (λ x. AllByRecursion HasBytes x) s.whole (each_bytes is each)) in
    ap (λ x. body_at x at) s.whole ∙ body_there s.before i s.after body.Main 0 at front (omega (arith, s.offset))

pub has_body : {is : List Instruction} {at : ℕ} {i : Instruction} → AllByRecursion IsInstruction is → IsInstructionAt is at i → (b : Body) × (body_at is at ≡ Some b)
has_body each s = (body_after body.Main 0 s.before, stands_body each s)

pub body_is : {is : List Instruction} {at : ℕ} {i : Instruction} (b : Body) → IsStructured is → AllByRecursion IsInstruction is → IsInstructionAt is at i → IsBodyAt is at b → body_at is at ≡ Some b
body_is b structured each s h =
    let found : Body = body_after body.Main 0 s.before in
    stands_body each s ∙ ap Some (one_body b each s found refl (after_is found structured each s refl) h)

pub body_stands : (is : List Instruction) (at : ℕ) (b : Body) → body_at is at ≡ Some b → (i : Instruction) × IsInstructionAt is at i
body_stands is at b h =
    let f = body_found is body.Main 0 at b h in
    (f.i, record { before = f.before; after = f.rest; whole = f.whole; offset = omega (arith, f.from) })

pub is_body : (is : List Instruction) (at : ℕ) (b : Body) → IsStructured is → AllByRecursion IsInstruction is → body_at is at ≡ Some b → ((i : Instruction) × IsInstructionAt is at i) × IsBodyAt is at b
is_body is at b structured each h =
    let s = body_stands is at b h in
    let one : Some (body_after body.Main 0 s.1.before) ≡ Some b = sym (stands_body each s.1) ∙ h in
    (s, after_is b structured each s.1 (cc))

pub body_iff_is : (is : List Instruction) (at : ℕ) (i : Instruction) (b : Body) → IsStructured is → AllByRecursion IsInstruction is → IsInstructionAt is at i → (body_at is at ≡ Some b) ↔ IsBodyAt is at b
body_iff_is is at i b structured each s = (λ h. (is_body is at b structured each h).1, body_is b structured each s)

-- by the grammar each instruction has a body
pub stands_in_body : {is : List Instruction} {at : ℕ} {i : Instruction} → IsStructured is → AllByRecursion IsInstruction is → IsInstructionAt is at i → (b : Body) × IsBodyAt is at b
stands_in_body structured each s = let found : Body = body_after body.Main 0 s.before in (found, after_is found structured each s refl)

-- an answer that the grammar determines is that of the function
pub body_value : (is : List Instruction) (at : ℕ) (found : Option Body) → IsStructured is → AllByRecursion IsInstruction is
    → IfSome found (λ b. ((i : Instruction) × IsInstructionAt is at i) × IsBodyAt is at b) → IfNone found ((i : Instruction) → IsInstructionAt is at i → ⊥) → found ≡ body_at is at
body_value is at (Some b) structured each there absent = sym (body_is b structured each there.0.1 there.1)
body_value is at None structured each there absent = by_body (body_at is at) refl
  where
    by_body : (o : Option Body) → body_at is at ≡ o → None ≡ o
    by_body None e = refl
    by_body (Some b) e = let stands = body_stands is at b e in absurd (absent stands.0 stands.1)
