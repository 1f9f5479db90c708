-- The definitions that go step by step mean what they are meant to mean.
use Rattle.std.specs.Prelude.{◌≡◌, ℕ, zero, suc, ◌+◌, ◌<◌, ◌≤◌, ◌⊎◌, ◌||◌, List, [], ◌∷◌, length, Bool, true, false, not, nat_lt, nat_le, Option, Some, None, MatchOption, if◌then◌else◌}
use Rattle.std.specs.List.{list_any}
use Rattle.std.specs.Option.{option_or}
use Rattle.std.proofs.Common.{refl, sym, ◌∙◌, ap, arith, get_or, inl, inr}
use Rattle.std.proofs.lemmas.Bool.{cases_eq, cases_lt, le-leb, leb-true, lt-ltb, le-ltb}
use Rattle.tt_font.specs.declared.component.Component.{Component}
use Rattle.tt_font.specs.Numbers.{u16_at, first_below}
use Rattle.tt_font.specs.Components.{component_size, has_more, component_at, components_at, components, last_of}
use Rattle.tt_font.specs.Outlines.{Outline, parts, leads_out, starts_chain}
use Rattle.tt_font.specs.Chains.{part_of, end_of}
use Rattle.tt_font.specs.Laws.{IsLeastBelow, FindsLeast, IsAt, IsComponentList, ListsComponents, IsWay, HasWay, StartsWays, HasWayOut, FindsWaysOut}
use Rattle.tt_font.proofs.ComponentLists.{none_is_there, one_is_there, more_are_there, last_is, last_goes_on}

-- ---- the least number

one_more : (test : ℕ → Bool) (n : ℕ) (b : Bool) (found : Option ℕ) → test n ≡ b → IsLeastBelow test n found
    → IsLeastBelow test (suc n) (option_or found (if b then Some n else None))
one_more test n true None here none = (omega arith, here, λ j lt. none j (omega arith))
one_more test n false None here none = λ i lt. elim (cases_eq i n) [ inl same ↦ ap test same ∙ here | inr other ↦ none i (omega arith) ]
one_more test n b (Some i) here is = (let lt = is.0 in omega arith, is.1, is.2)

pub finds_least : FindsLeast
unfolding first_below
finds_least test zero = λ i lt. absurd (omega arith)
finds_least test (suc n) = one_more test n (test n) (first_below test n) refl (finds_least test n)

-- ---- the components

component_is_at : (bytes : List ℕ) (place : ℕ) (c : Component) (flags number size : ℕ) (b : Bool) → nat_le (place + size) (length bytes) ≡ b
    → (if b then Some (record { flags = flags; glyph = number; after = place + size }) else None) ≡ Some c
    → (c.flags ≡ flags) × (c.glyph ≡ number) × (c.after ≡ place + size) × (c.after ≤ length bytes)
component_is_at bytes place c flags number size true fits e =
    let is : ◌≡◌ {A = Component} (record { flags = flags; glyph = number; after = place + size }) c = cc in
    let le : place + size ≤ length bytes = leb-true _ _ fits in
    let after : place + size ≡ c.after = ap (λ (x : Component). x.after) is in
    (sym (ap (λ (x : Component). x.flags) is), sym (ap (λ (x : Component). x.glyph) is), sym after, omega arith)
component_is_at bytes place c flags number size false fits e = absurd (cc)

is_at : (bytes : List ℕ) (place : ℕ) (c : Component) → component_at place bytes ≡ Some c → IsAt bytes place c
unfolding component_at
is_at bytes place c e =
    let is = component_is_at bytes place c _ _ (component_size (u16_at place bytes)) (nat_le (place + component_size (u16_at place bytes)) (length bytes)) refl e in
    record { flags = is.0; glyph = is.1; after = is.2; within = is.3 }

is_there : (bytes : List ℕ) (place : ℕ) (c : Component) → IsAt bytes place c → component_at place bytes ≡ Some c
unfolding component_at
is_there bytes place c at =
    let fits : nat_le (place + component_size (u16_at place bytes)) (length bytes) ≡ true = le-leb _ _ (let a = at.after in let b = at.within in omega arith) in
    let C : ℕ → ℕ → ℕ → Component = λ flags number after. record { flags = flags; glyph = number; after = after } in
    let same : C (u16_at place bytes) (u16_at (place + 2) bytes) (place + component_size (u16_at place bytes)) ≡ C c.flags c.glyph c.after =
    ap (λ x. C x (u16_at (place + 2) bytes) (place + component_size (u16_at place bytes))) (sym at.flags)
    ∙ ap (λ x. C c.flags x (place + component_size (u16_at place bytes))) (sym at.glyph)
    ∙ ap (λ x. C c.flags c.glyph x) (sym at.after) in
    ap (λ b. if b then Some (C (u16_at place bytes) (u16_at (place + 2) bytes) (place + component_size (u16_at place bytes))) else None) fits ∙ ap (λ x. Some x) same

-- a list that is there is what is read there, and has a last component
pub record IsRead (bytes : List ℕ) (place : ℕ) (cs : List Component) : Type 0 where
  pub same : cs ≡ components_at place bytes
  pub last : Component
  pub ends : last_of cs ≡ Some last

only_list : (bytes : List ℕ) (place : ℕ) (cs : List Component) → IsComponentList bytes place cs → IsRead bytes place cs
only_list bytes place [] is = absurd is
only_list bytes place (c ∷ cs) is = elim is.1 [
  | inl more ↦ (let rest = only_list bytes c.after cs more.1 in
      record {
        same = ap (λ x. c ∷ x) rest.same ∙ sym (more_are_there place bytes c (is_there bytes place c is.0) more.0);
        last = rest.last;
        ends = last_goes_on c cs more.0 ∙ rest.ends;
      })
  | inr one ↦ record {
    same = ap (λ x. c ∷ x) one.1 ∙ sym (one_is_there place bytes c (is_there bytes place c is.0) one.0);
    last = c;
    ends = last_is c cs one.0;
  }
]

true_or_false : (b : Bool) → (b ≡ true) ⊎ (b ≡ false)
true_or_false true = inl refl
true_or_false false = inr refl

-- a component that is there, and the rest
read_on : (bytes : List ℕ) (place : ℕ) (c : Component) (cs : List Component) (o : Option Component) → component_at place bytes ≡ o → components_at place bytes ≡ c ∷ cs
    → (component_at place bytes ≡ Some c) × (((has_more c.flags ≡ true) × (components_at c.after bytes ≡ cs)) ⊎ ((has_more c.flags ≡ false) × (cs ≡ [])))
read_on bytes place c cs None there e = absurd (let none = none_is_there place bytes there in cc)
read_on bytes place c cs (Some d) there e = elim (true_or_false (has_more d.flags)) [
  | inl more ↦ (let all = more_are_there place bytes d there more in
      let first : d ≡ c = cc in
      let rest : components_at d.after bytes ≡ cs = cc in
      (there ∙ ap (λ x. Some x) first, inl (sym (ap (λ (x : Component). has_more x.flags) first) ∙ more, sym (ap (λ (x : Component). components_at x.after bytes) first) ∙ rest)))
  | inr one ↦ (let all = one_is_there place bytes d there one in
      let first : d ≡ c = cc in
      let none : cs ≡ [] = cc in
      (there ∙ ap (λ x. Some x) first, inr (sym (ap (λ (x : Component). has_more x.flags) first) ∙ one, none)))
]

is_list : (bytes : List ℕ) (place : ℕ) (cs : List Component) (last : Component) → components_at place bytes ≡ cs → last_of cs ≡ Some last → IsComponentList bytes place cs
is_list bytes place [] last e ends = cc
is_list bytes place (c ∷ cs) last e ends =
    let on = read_on bytes place c cs (component_at place bytes) refl e in (
      is_at bytes place c on.0,
      elim on.1 [
        | inl more ↦ inl (more.0, is_list bytes c.after cs last more.1 (sym (last_goes_on c cs more.0) ∙ ends))
        | inr one ↦ inr one
      ],
    )

by_last : (bytes : List ℕ) (o : Option Component) → last_of (components bytes) ≡ o
    → MatchOption o ((cs : List Component) → IsComponentList bytes 10 cs → ⊥)
    (λ last. IsComponentList bytes 10 (components bytes) × ((cs : List Component) → IsComponentList bytes 10 cs → cs ≡ components bytes))
by_last bytes None e = λ cs is. let read = only_list bytes 10 cs is in let ends : last_of (components bytes) ≡ Some read.last = sym (ap last_of read.same) ∙ read.ends in cc
by_last bytes (Some last) e = (is_list bytes 10 (components bytes) last refl e, λ cs is. (only_list bytes 10 cs is).same)

pub lists_components : ListsComponents
lists_components bytes = by_last bytes (last_of (components bytes)) refl

-- ---- chains

-- some part passes a test
pub record HasPart (test : ℕ → Bool) (xs : List ℕ) : Type 0 where
  pub place : ℕ
  pub below : place < length xs
  pub passes : test (get_or xs place 0) ≡ true

any_is : (test : ℕ → Bool) (xs : List ℕ) → list_any test xs ≡ true → HasPart test xs
any_is test [] e = absurd (cc)
any_is test (x ∷ xs) e = elim (true_or_false (test x)) [
  | inl here ↦ record { place = 0; below = omega arith; passes = here }
  | inr not_here ↦ (let rest = any_is test xs (sym (ap (λ b. b || list_any test xs) not_here) ∙ e) in
      let lt = rest.below in
      record { place = suc rest.place; below = omega arith; passes = rest.passes })
]

or_true : (a : Bool) → (a || true) ≡ true
or_true true = refl
or_true false = refl

any_of : (test : ℕ → Bool) (xs : List ℕ) (i : ℕ) → i < length xs → test (get_or xs i 0) ≡ true → list_any test xs ≡ true
any_of test [] i lt here = absurd (omega arith)
any_of test (x ∷ xs) zero lt here = ap (λ b. b || list_any test xs) here
any_of test (x ∷ xs) (suc i) lt here = ap (λ b. test x || b) (any_of test xs i (omega arith) here) ∙ or_true (test x)

has_way : (outlines : ℕ → Outline) (k id : ℕ) → starts_chain outlines k id ≡ true → HasWay outlines k id
unfolding starts_chain
has_way outlines zero id e = record { way = []; len = refl; steps = tt }
has_way outlines (suc k) id e =
    let first = any_is (starts_chain outlines k) (parts (outlines id)) e in
    let rest = has_way outlines k (part_of outlines id first.place) first.passes in
    let len = rest.len in
    record { way = first.place ∷ rest.way; len = omega arith; steps = (first.below, rest.steps) }

way_starts : (outlines : ℕ → Outline) (k id : ℕ) (way : List ℕ) → length way ≡ k → IsWay outlines id way → starts_chain outlines k id ≡ true
unfolding starts_chain
way_starts outlines zero id way len steps = refl
way_starts outlines (suc k) id [] len steps = absurd (omega arith)
way_starts outlines (suc k) id (i ∷ way) len steps =
    any_of (starts_chain outlines k) (parts (outlines id)) i steps.0 (way_starts outlines k (part_of outlines id i) way (omega arith) steps.1)

pub starts_ways : StartsWays
starts_ways outlines k id = (λ e. has_way outlines k id e, λ has. way_starts outlines k id has.way has.len has.steps)

has_way_out : (count : ℕ) (outlines : ℕ → Outline) (k id : ℕ) → leads_out count outlines k id ≡ true → HasWayOut count outlines k id
unfolding leads_out
has_way_out count outlines zero id e = absurd (cc)
has_way_out count outlines (suc k) id e =
    let first = any_is (λ part. not (nat_lt part count) || leads_out count outlines k part) (parts (outlines id)) e in
    elim (cases_lt (part_of outlines id first.place) count) [
      | inl inside ↦ (let on : leads_out count outlines k (part_of outlines id first.place) ≡ true =
          sym (ap (λ b. not b || leads_out count outlines k (part_of outlines id first.place)) (lt-ltb _ _ inside)) ∙ first.passes in
          let rest = has_way_out count outlines k (part_of outlines id first.place) on in
          let len = rest.len in
          record { way = first.place ∷ rest.way; some = omega arith; len = omega arith; steps = (first.below, rest.steps); out = rest.out })
      | inr outside ↦ record { way = first.place ∷ []; some = omega arith; len = omega arith; steps = (first.below, tt); out = outside }
    ]

way_leads_out : (count : ℕ) (outlines : ℕ → Outline) (k id : ℕ) (way : List ℕ) → 0 < length way → length way ≤ k → IsWay outlines id way → count ≤ end_of outlines id way
    → leads_out count outlines k id ≡ true
unfolding leads_out
way_leads_out count outlines k id [] some len steps out = absurd (omega arith)
way_leads_out count outlines zero id (i ∷ way) some len steps out = absurd (omega arith)
way_leads_out count outlines (suc k) id (i ∷ []) some len steps out =
    any_of (λ part. not (nat_lt part count) || leads_out count outlines k part) (parts (outlines id)) i steps.0
    (ap (λ b. not b || leads_out count outlines k (part_of outlines id i)) (le-ltb _ _ out))
way_leads_out count outlines (suc k) id (i ∷ j ∷ way) some len steps out =
    any_of (λ part. not (nat_lt part count) || leads_out count outlines k part) (parts (outlines id)) i steps.0
    (ap (λ b. not (nat_lt (part_of outlines id i) count) || b) (way_leads_out count outlines k (part_of outlines id i) (j ∷ way) (omega arith) (omega arith) steps.1 out)
    ∙ or_true (not (nat_lt (part_of outlines id i) count)))

pub finds_ways_out : FindsWaysOut
finds_ways_out count outlines k id =
    (λ e. has_way_out count outlines k id e, λ has. way_leads_out count outlines k id has.way has.some has.len has.steps has.out)
