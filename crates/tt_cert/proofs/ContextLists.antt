-- Contexts that may follow one another.
use Rattle.std.proofs.Common.{◌≡◌, ℕ, zero, suc, ◌+◌, ◌-◌, ◌<◌, ◌≤◌, true, List, [], ◌∷◌, ◌++◌, length, take, Option, Some, refl, sym, ap, subst, ◌∙◌, arith, append_assoc, append-nil, inl, inr}
use Rattle.std.specs.Prelude.{slice_get, slice_index_or}
use Rattle.std.specs.declared.cmp.Ordering.{Ordering}
use Rattle.std.specs.declared.cmp.Ordering.TheVariants.{Less, Equal, Greater}
use Rattle.std.specs.Ordering.{is_lt, ordering_reverse}
use Rattle.std.proofs.lemmas.Bool.{leb-true}
use Rattle.std.proofs.lemmas.List.{length-take-le, take_more}
use Rattle.std.proofs.lemmas.Option.{slice_get_within, slice_get-get_or}
use Rattle.tt_code.specs.declared.machine.Frame.{Frame}
use Rattle.tt_family.specs.Built.{Key, AscendsByKey, key_cmp, key_of}
use Rattle.tt_family.specs.Contents.{AddsContext, Contents, IsFamily, frames_at}
use Rattle.tt_family.specs.Contexts.{frames_of, grow-at, grow-push, length-grow}
use Rattle.tt_family.specs.Ascending.{IsFinished, IsContextAt}
use Rattle.tt_family.proofs.Adding.{cons_apart, cons_same, key_same}
use Rattle.tt_family.proofs.Ascending.{entry_at, key_total, ascends_over}
use Rattle.tt_cert.specs.Rules.{AreContexts, EachAfter, HaveParents, is_above_context, last_of, may_follow}
use Rattle.tt_cert.specs.Sections.{Context}
use Rattle.tt_cert.proofs.Fields.{both}
use Rattle.tt_cert.proofs.Ascends.{last_behind}

pub each_push : {A : Type 0} (P : List A → A → Type 0) (before xs : List A) (y : A) → EachAfter P before xs → P (before ++ xs) y → EachAfter P before (xs ++ y ∷ [])
each_push {A} P before [] y h p = (subst (λ (l : List A). P l y) (append-nil before) p, tt)
each_push {A} P before (x ∷ xs) y h p = (h.0, each_push P (before ++ x ∷ []) xs y h.1 (subst (λ (l : List A). P l y) (sym (append_assoc before (x ∷ []) xs)) p))

pub each_at : {A : Type 0} (P : List A → A → Type 0) (before xs : List A) (i : ℕ) (x : A) → EachAfter P before xs → slice_get xs i ≡ Some x → P (before ++ take i xs) x
each_at P before [] i x h at = absurd cc
each_at {A} P before (y ∷ ys) zero x h at =
    let same : y ≡ x = cc in
    subst (λ (l : List A). P l x) (sym (append-nil before)) (subst (P before) same h.0)
each_at {A} P before (y ∷ ys) (suc i) x h at = subst (λ (l : List A). P l x) (append_assoc before (y ∷ []) (take i ys)) (each_at P (before ++ y ∷ []) ys i x h.1 at)

pub AreContexts-push : (contexts : List Context) (c : Context) → AreContexts contexts → may_follow contexts c ≡ true → AreContexts (contexts ++ c ∷ [])
AreContexts-push contexts c h follows = each_push (λ before c. may_follow before c ≡ true) [] contexts c h follows

follows_at : (contexts : List Context) (i : ℕ) (c : Context) → AreContexts contexts → slice_get contexts i ≡ Some c → may_follow (take i contexts) c ≡ true
follows_at contexts i c h at = each_at (λ before c. may_follow before c ≡ true) [] contexts i c h at

pub HaveParents-from : (contexts : List Context) → AreContexts contexts → HaveParents contexts
HaveParents-from contexts h i c at =
    let parent : c.0 ≤ length (take i contexts) = leb-true _ _ (both _ _ (follows_at contexts i c h at)).0 in
    let within = slice_get_within contexts i c at in
    let len : length (take i contexts) ≡ i = length-take-le i contexts (omega arith) in
    omega arith

pub less_from : (o : Ordering) → is_lt o ≡ true → o ≡ Less
less_from Less e = refl
less_from Equal e = cc
less_from Greater e = cc

-- the last of those before an index is at the one before it
pub last_taken : {A : Type 0} (xs : List A) (i : ℕ) (x : A) → slice_get xs i ≡ Some x → last_of (take (i + 1) xs) ≡ Some x
last_taken [] i x at = absurd cc
last_taken (y ∷ ys) zero x at = at
last_taken {A} (y ∷ ys) (suc i) x at =
    let within = slice_get_within ys i x at in
    let len : length (take (i + 1) ys) ≡ i + 1 = length-take-le (i + 1) ys (omega arith) in
    let n : suc i + 1 ≡ suc (i + 1) = omega arith in
    ap (λ (k : ℕ). last_of (take k (y ∷ ys))) n ∙ last_behind y (take (i + 1) ys) (omega arith) ∙ last_taken ys i x at

pub AscendsByKey-from : (contexts : List Context) → AreContexts contexts → AscendsByKey contexts
AscendsByKey-from contexts h i d e at_d at_e =
    let above = (both _ _ (both _ _ (follows_at contexts (i + 1) e h at_e)).1).0 in
    less_from _ (ap (λ (o : Option Context). is_above_context o e) (sym (last_taken contexts i d at_d)) ∙ above)

-- the frames of a context, by its entry
module _ (contexts : List Context) (v : Contents) (is : v.contexts ≡ frames_of contexts) (family : IsFamily v) (rules : AreContexts contexts) where
  long : length v.contexts ≡ length contexts + 1
  long = let grown = length-grow ([] ∷ []) contexts in let e = ap length is in omega arith

  at_context : (i : ℕ) (c : Context) → slice_get contexts i ≡ Some c → frames_at v.contexts (i + 1) ≡ c.1 ∷ frames_at v.contexts c.0
  at_context i c at =
      let before = HaveParents-from contexts rules i c at in
      let one : 1 + i ≡ i + 1 = omega arith in
      let P : List (List Frame) → Type 0 = λ x. frames_at x (i + 1) ≡ c.1 ∷ frames_at x c.0 in
      subst P (sym is) (ap (frames_at (frames_of contexts)) (sym one) ∙ grow-at ([] ∷ []) contexts i c at (omega arith))

  entry_of : (n : ℕ) → 0 < n → n < length v.contexts → (i : ℕ) × (c : Context) × (n ≡ i + 1) × (slice_get contexts i ≡ Some c) × IsContextAt v.contexts n c
  entry_of zero some lt = absurd (omega arith)
  entry_of (suc i) some lt =
      let len = long in
      let (c, at) = entry_at contexts i (omega arith) in
      let before = HaveParents-from contexts rules i c at in
      let n : suc i ≡ i + 1 = omega arith in
      (i, c, n, at, (lt, omega arith, ap (frames_at v.contexts) n ∙ at_context i c at))

  -- a context has one parent and one last call
  one_entry : (n : ℕ) (d e : Context) → IsContextAt v.contexts n d → IsContextAt v.contexts n e → key_of d ≡ key_of e
  one_entry n d e at_d at_e =
      let same = cons_same d.1 e.1 (frames_at v.contexts d.0) (frames_at v.contexts e.0) (sym at_d.2 ∙ at_e.2) in
      let lt = at_d.0 in
      let before = at_d.1 in
      let before' = at_e.1 in
      key_same d e (family.distinct d.0 e.0 (omega arith) (omega arith) same.0) same.1

  pub IsFinished-from : IsFinished v
  IsFinished-from = (
    family,
    record {
      parents = λ n some lt. let (i, c, n_is, at, stands) = entry_of n some lt in (c, stands);
      ascends = λ m n d e less at_d at_e.
          let some = at_d.1 in
          let lt = at_d.0 in
          let lt' = at_e.0 in
          let (i, d', m_is, at_i, stands_m) = entry_of m (omega arith) lt in
          let (j, e', n_is, at_j, stands_n) = entry_of n (omega arith) lt' in
          let j_is : j ≡ i + 1 + (j - (i + 1)) = omega arith in
          let same_d = one_entry m d' d stands_m at_d in
          let same_e = one_entry n e' e stands_n at_e in
          let below = ascends_over contexts (AscendsByKey-from contexts rules) i (j - (i + 1)) d' e' at_i (ap (slice_get contexts) (sym j_is) ∙ at_j) in
          ap (λ x. key_cmp x (key_of e)) (sym same_d) ∙ ap (key_cmp (key_of d')) (sym same_e) ∙ below;
    },
  )

not_less : (k : Key) → key_cmp k k ≡ Less → ⊥
not_less k e =
    let r : key_cmp k k ≡ ordering_reverse (key_cmp k k) = key_total.antisymm k k in
    let back : Less ≡ ordering_reverse Less = sym e ∙ r ∙ ap ordering_reverse e in
    cc

-- a context that may follow those that a family has isn't one of them
pub is_new : (contexts : List Context) (v : Contents) (c : Context) → v.contexts ≡ frames_of contexts → IsFamily v → AreContexts contexts → may_follow contexts c ≡ true
    → (k : ℕ) → k < length v.contexts → frames_at v.contexts k ≡ c.1 ∷ frames_at v.contexts c.0 → ⊥
is_new contexts v c is family rules follows zero lt at = cons_apart c.1 (frames_at v.contexts c.0) (sym at ∙ family.main)
is_new contexts v c is family rules follows (suc k) lt at =
    let all = AreContexts-push contexts c rules follows in
    let len = long contexts v is family rules in
    let (d, at_d) = entry_at contexts k (omega arith) in
    let succ : suc k ≡ k + 1 = omega arith in
    let same = cons_same d.1 c.1 (frames_at v.contexts d.0) (frames_at v.contexts c.0)
    (sym (at_context contexts v is family rules k d at_d) ∙ ap (frames_at v.contexts) (sym succ) ∙ at) in
    let before = HaveParents-from contexts rules k d at_d in
    let parent : c.0 ≤ length contexts = leb-true _ _ (both _ _ follows).0 in
    let key : key_of d ≡ key_of c = key_same d c (family.distinct d.0 c.0 (omega arith) (omega arith) same.0) same.1 in
    let n : length contexts ≡ k + 1 + (length contexts - (k + 1)) = omega arith in
    let below = ascends_over (contexts ++ c ∷ []) (AscendsByKey-from (contexts ++ c ∷ []) all) k (length contexts - (k + 1)) d c
    (old contexts k d at_d) (ap (slice_get (contexts ++ c ∷ [])) (sym n) ∙ last contexts) in
    not_less (key_of c) (ap (λ x. key_cmp x (key_of c)) (sym key) ∙ below)
  where
    old : (xs : List Context) (i : ℕ) (x : Context) → slice_get xs i ≡ Some x → slice_get (xs ++ c ∷ []) i ≡ Some x
    old [] i x at = absurd cc
    old (y ∷ ys) zero x at = at
    old (y ∷ ys) (suc i) x at = old ys i x at

    last : (xs : List Context) → slice_get (xs ++ c ∷ []) (length xs) ≡ Some c
    last [] = refl
    last (x ∷ xs) = last xs

-- what is added is the next one
pub added : (contexts : List Context) (v : Contents) (new : List (List Frame)) (c : Context) (n : ℕ) → v.contexts ≡ frames_of contexts → IsFamily v → AreContexts contexts
    → may_follow contexts c ≡ true → AddsContext v.contexts new (c.1 ∷ frames_at v.contexts c.0) n → new ≡ frames_of (contexts ++ c ∷ [])
added contexts v new c n is family rules follows adds = elim adds.how [
  | inl there ↦ absurd (is_new contexts v c is family rules follows n there.0 (ap (λ x. frames_at x n) (sym there.1) ∙ adds.at))
  | inr absent ↦
      absent.2 ∙ ap (λ (x : List (List Frame)). x ++ (c.1 ∷ frames_at x c.0) ∷ []) is ∙ sym (grow-push ([] ∷ []) contexts c)
]

each_taken : {A : Type 0} (P : List A → A → Type 0) (before xs : List A) (k : ℕ) → EachAfter P before xs → EachAfter P before (take k xs)
each_taken P before xs zero h = tt
each_taken P before [] (suc k) h = tt
each_taken P before (x ∷ xs) (suc k) h = (h.0, each_taken P (before ++ x ∷ []) xs k h.1)

pub AreContexts-take : (contexts : List Context) (k : ℕ) → AreContexts contexts → AreContexts (take k contexts)
AreContexts-take contexts k h = each_taken (λ before c. may_follow before c ≡ true) [] contexts k h

-- the next context of a list is added to those before it
pub context_added : (contexts : List Context) (k : ℕ) (d : Context) (v : Contents) (new : List (List Frame)) (n : ℕ) → AreContexts contexts → k < length contexts
    → v.contexts ≡ frames_of (take k contexts) → IsFamily v
    → AddsContext v.contexts new ((slice_index_or contexts k d).1 ∷ frames_at v.contexts (slice_index_or contexts k d).0) n → new ≡ frames_of (take (k + 1) contexts)
context_added contexts k d v new n rules lt is family adds =
    let c : Context = slice_index_or contexts k d in
    added (take k contexts) v new c n is family (AreContexts-take contexts k rules) (follows_at contexts k c rules (slice_get-get_or contexts k d lt)) adds
    ∙ ap frames_of (sym (take_more contexts k d lt))

-- its parent is one of them
pub contexts_so_far : (contexts : List Context) (k : ℕ) (v : Contents) → k < length contexts → v.contexts ≡ frames_of (take k contexts) → length v.contexts ≡ k + 1
contexts_so_far contexts k v lt is =
    let grown = length-grow ([] ∷ []) (take k contexts) in
    let taken : length (take k contexts) ≡ k = length-take-le k contexts (omega arith) in
    let same = ap length is in
    omega arith

pub parent_there : (contexts : List Context) (k : ℕ) (d : Context) (v : Contents) → AreContexts contexts → k < length contexts → v.contexts ≡ frames_of (take k contexts)
    → (slice_index_or contexts k d).0 < length v.contexts
parent_there contexts k d v rules lt is =
    let parent = HaveParents-from contexts rules k (slice_index_or contexts k d) (slice_get-get_or contexts k d lt) in
    let grown = length-grow ([] ∷ []) (take k contexts) in
    let taken : length (take k contexts) ≡ k = length-take-le k contexts (omega arith) in
    let len = ap length is in
    omega arith

-- one value is pushed
pub pushed_same : {A : Type 0} (xs : List A) (x y : A) → xs ++ x ∷ [] ≡ xs ++ y ∷ [] → x ≡ y
pushed_same [] x y e = cc
pushed_same {A} (z ∷ xs) x y e = let rest : xs ++ x ∷ [] ≡ xs ++ y ∷ [] = cc in pushed_same xs x y rest
