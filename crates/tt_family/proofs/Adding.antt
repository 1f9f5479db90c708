-- A context that a builder has, or gets.
use Rattle.std.specs.Prelude.{◌≡◌, ◌≢◌, ◌⊎◌, ℕ, ◌+◌, ◌-◌, ◌≤◌, ◌<◌, false, Option, Some, None, IfSome, List, [], ◌∷◌, ◌++◌, length, slice_index_or, slice_get, zero, suc, reverse}
use Rattle.std.specs.declared.cmp.Ordering.{Ordering}
use Rattle.std.specs.Ordering.{nat_cmp, ordering_then, is_eq}
use Rattle.std.specs.BTreeMap.{BTreeMap, get, is_at, Updates}
use Rattle.std.proofs.Common.{refl, sym, ◌∙◌, ap, subst, arith, inl, inr, length-append, append_assoc, append-nil}
use Rattle.std.proofs.Math.ListN.{get_or-append}
use Rattle.std.proofs.Math.Seq.{get_or-append_seam}
use Rattle.std.proofs.lemmas.Option.{slice_get_within, slice_get-get_or}
use Rattle.std.proofs.lemmas.Bool.{cases_lt, cases_eq}
use Rattle.tt_code.specs.declared.machine.Frame.{Frame}
use Rattle.tt_abs.specs.declared.state.State.{State}
use Rattle.tt_family.specs.Contexts.{frames_of, length-grow, grow-at, grow-push}
use Rattle.tt_family.specs.Contents.{Contents, IsFamily, HasContext, AddsContext, frames_at, number_of}
use Rattle.tt_family.specs.Numbers.{at-number_of, number_of-place}
use Rattle.tt_family.specs.Built.{Key, key_cmp, key_of, IsBuilt}
use Rattle.tt_family.proofs.Puts.{numbers_apart, then_first, then_second}

pub no_frame : Frame
no_frame = record { body = 0; call = 0; turn = 0; count = 0 }

pub cons_apart : {A : Type 0} (x : A) (xs : List A) → x ∷ xs ≡ [] → ⊥
cons_apart x xs e = cc

pub cons_same : {A : Type 0} (x y : A) (xs ys : List A) → x ∷ xs ≡ y ∷ ys → (xs ≡ ys) × (x ≡ y)
cons_same x y xs ys e = let rest : xs ≡ ys = cc in let first : x ≡ y = cc in (rest, first)

pub keys_apart : (k p : Key) → p ≢ k → is_at (key_cmp k) p ≡ false
keys_apart (a, b, c, d, e) (a', b', c', d', e') apart =
    let t1 : Ordering = nat_cmp a a' in
    let t2 : Ordering = ordering_then t1 (nat_cmp b b') in
    let t3 : Ordering = ordering_then t2 (nat_cmp c c') in
    let t4 : Ordering = ordering_then t3 (nat_cmp d d') in
    let from4 = λ (h : is_eq t4 ≡ false). then_first t4 (nat_cmp e e') h in
    let from3 = λ (h : is_eq t3 ≡ false). from4 (then_first t3 (nat_cmp d d') h) in
    let from2 = λ (h : is_eq t2 ≡ false). from3 (then_first t2 (nat_cmp c c') h) in
    elim (cases_eq a a') [
      | inr f ↦ from2 (then_first t1 (nat_cmp b b') (numbers_apart a a' f))
      | inl e0 ↦ elim (cases_eq b b') [
        | inr f ↦ from2 (then_second t1 (nat_cmp b b') (numbers_apart b b' f))
        | inl e1 ↦ elim (cases_eq c c') [
          | inr f ↦ from3 (then_second t2 (nat_cmp c c') (numbers_apart c c' f))
          | inl e2 ↦ elim (cases_eq d d') [
            | inr f ↦ from4 (then_second t3 (nat_cmp d d') (numbers_apart d d' f))
            | inl e3 ↦ elim (cases_eq e e') [
              | inr f ↦ then_second t4 (nat_cmp e e') (numbers_apart e e' f)
              | inl e4 ↦ absurd (apart (λ i. (sym e0 i, sym e1 i, sym e2 i, sym e3 i, sym e4 i)))
            ]
          ]
        ]
      ]
    ]

pub cases_key : (k p : Key) → (k ≡ p) ⊎ (p ≢ k)
cases_key (a, b, c, d, e) (a', b', c', d', e') = elim (cases_eq a a') [
  | inr f ↦ inr (λ g. f (sym (ap (λ (x : Key). x.0) g)))
  | inl e0 ↦ elim (cases_eq b b') [
    | inr f ↦ inr (λ g. f (sym (ap (λ (x : Key). x.1) g)))
    | inl e1 ↦ elim (cases_eq c c') [
      | inr f ↦ inr (λ g. f (sym (ap (λ (x : Key). x.2) g)))
      | inl e2 ↦ elim (cases_eq d d') [
        | inr f ↦ inr (λ g. f (sym (ap (λ (x : Key). x.3) g)))
        | inl e3 ↦ elim (cases_eq e e') [
          | inr f ↦ inr (λ g. f (sym (ap (λ (x : Key). x.4) g)))
          | inl e4 ↦ inl (λ i. (e0 i, e1 i, e2 i, e3 i, e4 i))
        ]
      ]
    ]
  ]
]

-- entries with one key are the same
pub key_same : (a b : ℕ × Frame) → a.0 ≡ b.0 → a.1 ≡ b.1 → key_of a ≡ key_of b
key_same a b e f = λ i. (e i, (f i).call, (f i).body, (f i).turn, (f i).count)

pub frame_same : (a b : ℕ × Frame) → key_of a ≡ key_of b → ◌≡◌ {A = ℕ × Frame} a b
frame_same a b e = λ i. ((e i).0, record { body = (e i).2; call = (e i).1; turn = (e i).3; count = (e i).4 })

module _ (entries : List (ℕ × Frame)) (index : BTreeMap Key ℕ) (states : List ((ℕ × ℕ) × State)) (v : Contents)
    (is : ◌≡◌ {A = Contents} (record { contexts = frames_of entries; states = states }) v) (built : IsBuilt entries index states) where
  pub contexts_is : frames_of entries ≡ v.contexts
  contexts_is = ap (λ (x : Contents). x.contexts) is

  pub family_is : IsFamily v
  family_is = let F : Contents → Type 0 = λ x. IsFamily x in subst F is built.family

  pub length_is : length v.contexts ≡ length entries + 1
  length_is = let long = length-grow ([] ∷ []) entries in let e = ap length contexts_is in omega arith

  -- an entry's frames
  pub at_entry : (i : ℕ) (e : ℕ × Frame) → slice_get entries i ≡ Some e → frames_at v.contexts (i + 1) ≡ e.1 ∷ frames_at v.contexts e.0
  at_entry i e at =
      let before = built.parents i e at in
      let one : 1 + i ≡ i + 1 = omega arith in
      let P : List (List Frame) → Type 0 = λ x. frames_at x (i + 1) ≡ e.1 ∷ frames_at x e.0 in
      subst P contexts_is (ap (frames_at (frames_of entries)) (sym one) ∙ grow-at ([] ∷ []) entries i e at (omega arith))

  pub is_there : (parent : ℕ) (frame : Frame) (n : ℕ) → Some n ≡ get key_cmp index (key_of (parent, frame))
      → AddsContext v.contexts v.contexts (frame ∷ frames_at v.contexts parent) n
  is_there parent frame n at =
      let (i, e, n_is, at_i, key) = built.indexed (key_of (parent, frame)) n (sym at) in
      let same : e ≡ (parent, frame) = frame_same e (parent, frame) key in
      let within = slice_get_within entries i e at_i in
      let long = length_is in
      record {
        there = omega arith;
        at = ap (frames_at v.contexts) n_is ∙ at_entry i e at_i ∙ ap (λ (x : ℕ × Frame). x.1 ∷ frames_at v.contexts x.0) same;
        how = inl (omega arith, refl);
      }

  -- what is found by the parent and the frame is the number of the context
  pub found_there : (parent : ℕ) (frame : Frame) (found : Option ℕ) → found ≡ get key_cmp index (key_of (parent, frame))
      → IfSome found (λ n. (n < length v.contexts) × (frames_at v.contexts n ≡ frame ∷ frames_at v.contexts parent))
  found_there parent frame None at = tt
  found_there parent frame (Some n) at = let there = is_there parent frame n at in (there.there, there.at)

  pub is_absent : (parent : ℕ) (frame : Frame) → None ≡ get key_cmp index (key_of (parent, frame)) → parent < length v.contexts
      → HasContext v.contexts (frame ∷ frames_at v.contexts parent) → ⊥
  is_absent parent frame none lt has =
      let at = at-number_of v.contexts (frame ∷ frames_at v.contexts parent) has in
      go (number_of v.contexts (frame ∷ frames_at v.contexts parent)) has at
    where
      go : (k : ℕ) → k < length v.contexts → frames_at v.contexts k ≡ frame ∷ frames_at v.contexts parent → ⊥
      go zero lt' at = cons_apart frame (frames_at v.contexts parent) (sym at ∙ family_is.main)
      go (suc i) lt' at =
          let long = length_is in
          let in_entries : i < length entries = omega arith in
          let e : ℕ × Frame = slice_index_or entries i (0, no_frame) in
          let at_i : slice_get entries i ≡ Some e = slice_get-get_or entries i (0, no_frame) in_entries in
          let succ : suc i ≡ i + 1 = omega arith in
          let both = cons_same e.1 frame (frames_at v.contexts e.0) (frames_at v.contexts parent)
          (sym (at_entry i e at_i) ∙ ap (frames_at v.contexts) (sym succ) ∙ at) in
          let before = built.parents i e at_i in
          let parents : e.0 ≡ parent = family_is.distinct e.0 parent (omega arith) lt both.0 in
          let found = built.found i e at_i in
          let key : key_of e ≡ key_of (parent, frame) = key_same e (parent, frame) parents both.1 in
          let bad : None ≡ Some (i + 1) = none ∙ ap (get key_cmp index) (sym key) ∙ found in
          cc

  pub entries_few : length entries + 1 ≤ 65535
  entries_few = let few = family_is.few in let long = length_is in omega arith

pub HasContext-from : (old new : List (List Frame)) (frames : List Frame) (n : ℕ) → AddsContext old new frames n → HasContext new frames
HasContext-from old new frames n adds = let most = number_of-place new frames n adds.there adds.at in let there = adds.there in omega arith

pub push_cases : {A : Type 0} (xs : List A) (y : A) (i : ℕ) (e : A) → slice_get (xs ++ y ∷ []) i ≡ Some e → (slice_get xs i ≡ Some e) ⊎ ((i ≡ length xs) × (e ≡ y))
push_cases [] y zero e at = inr (refl, cc)
push_cases [] y (suc i) e at = cc
push_cases (x ∷ xs) y zero e at = inl at
push_cases (x ∷ xs) y (suc i) e at = elim (push_cases xs y i e at) [ inl old ↦ inl old | inr new ↦ inr (let n = new.0 in omega arith, new.1) ]

pub push_old : {A : Type 0} (xs : List A) (y : A) (i : ℕ) (e : A) → slice_get xs i ≡ Some e → slice_get (xs ++ y ∷ []) i ≡ Some e
push_old [] y i e at = cc
push_old (x ∷ xs) y zero e at = at
push_old (x ∷ xs) y (suc i) e at = push_old xs y i e at

-- one more list that wasn't there
pub IsFamily-push : (xs : List (List Frame)) (y : List Frame) (states : List ((ℕ × ℕ) × State))
    → IsFamily (record { contexts = xs; states = states }) → (HasContext xs y → ⊥) → length xs < 65535
    → IsFamily (record { contexts = xs ++ y ∷ []; states = states })
IsFamily-push xs y states family absent few =
    let long = length-append xs (y ∷ []) in
    let some = family.some in
    let old = λ (i : ℕ) (lt : i < length xs). get_or-append xs (y ∷ []) [] i lt in
    let last : slice_index_or (xs ++ y ∷ []) (length xs) [] ≡ y = get_or-append_seam xs y [] [] in
    record {
      main = old 0 some ∙ family.main;
      some = omega arith;
      distinct = λ i j li lj same. elim (cases_lt i (length xs)) [
        | inl lt_i ↦ elim (cases_lt j (length xs)) [
          | inl lt_j ↦ family.distinct i j lt_i lt_j (sym (old i lt_i) ∙ same ∙ old j lt_j)
          | inr ge_j ↦
              let j_is : j ≡ length xs = omega arith in
              absurd (absent (has i lt_i (sym (old i lt_i) ∙ same ∙ ap (frames_at (xs ++ y ∷ [])) j_is ∙ last)))
        ]
        | inr ge_i ↦
            let i_is : i ≡ length xs = omega arith in
            elim (cases_lt j (length xs)) [
              | inl lt_j ↦ absurd (absent (has j lt_j (sym (old j lt_j) ∙ sym same ∙ ap (frames_at (xs ++ y ∷ [])) i_is ∙ last)))
              | inr ge_j ↦ omega arith
            ]
      ];
      few = omega arith;
      held = λ c o s at. let lt = family.held c o s at in omega arith;
      in_range = family.in_range;
      fits = family.fits;
    }
  where
    has : (i : ℕ) → i < length xs → frames_at xs i ≡ y → HasContext xs y
    has i lt at = let most = number_of-place xs y i lt at in omega arith

module _ (entries entries' : List (ℕ × Frame)) (index index' : BTreeMap Key ℕ) (states : List ((ℕ × ℕ) × State)) (v : Contents)
    (is : ◌≡◌ {A = Contents} (record { contexts = frames_of entries; states = states }) v) (built : IsBuilt entries index states)
    (parent : ℕ) (frame : Frame) (within : parent < length v.contexts) (none : None ≡ get key_cmp index (key_of (parent, frame)))
    (few : length entries + 1 < 65535) (items : entries' ≡ entries ++ (parent, frame) ∷ [])
    (n : ℕ) (n_is : n ≡ length entries + 1) (updates_n : Updates key_cmp index index' (key_of (parent, frame)) (Some n)) where
  updates : Updates key_cmp index index' (key_of (parent, frame)) (Some (length entries + 1))
  updates = let U : ℕ → Type 0 = λ x. Updates key_cmp index index' (key_of (parent, frame)) (Some x) in subst U n_is updates_n

  lists : frames_of (entries ++ (parent, frame) ∷ []) ≡ v.contexts ++ (frame ∷ frames_at v.contexts parent) ∷ []
  lists =
      let e = contexts_is entries index states v is built in
      grow-push ([] ∷ []) entries (parent, frame) ∙ ap (λ (x : List (List Frame)). x ++ (frame ∷ frames_at x parent) ∷ []) e

  lists' : frames_of entries' ≡ v.contexts ++ (frame ∷ frames_at v.contexts parent) ∷ []
  lists' = ap (λ (x : List (ℕ × Frame)). frames_of x) items ∙ lists

  absent : HasContext v.contexts (frame ∷ frames_at v.contexts parent) → ⊥
  absent = is_absent entries index states v is built parent frame none within

  pub added_family : IsFamily (record { contexts = frames_of entries'; states = states })
  added_family =
      let old = family_is entries index states v is built in
      let long = length_is entries index states v is built in
      let same : v.states ≡ states = sym (ap (λ (x : Contents). x.states) is) in
      let P : List ((ℕ × ℕ) × State) → Type 0 = λ x. IsFamily (record { contexts = v.contexts; states = x }) in
      let Q : List (List Frame) → Type 0 = λ x. IsFamily (record { contexts = x; states = states }) in
      subst Q (sym lists') (IsFamily-push v.contexts (frame ∷ frames_at v.contexts parent) states (subst P same old) absent (omega arith))

  pub added_adds : AddsContext v.contexts (frames_of entries') (frame ∷ frames_at v.contexts parent) n
  added_adds =
      let long = length_is entries index states v is built in
      let longer = length-append v.contexts ((frame ∷ frames_at v.contexts parent) ∷ []) in
      let last : n ≡ length v.contexts = omega arith in
      let Q : List (List Frame) → Type 0 = λ x. AddsContext v.contexts x (frame ∷ frames_at v.contexts parent) n in
      subst Q (sym lists') (record {
        there = omega arith;
        at = ap (frames_at (v.contexts ++ (frame ∷ frames_at v.contexts parent) ∷ [])) last
            ∙ get_or-append_seam v.contexts (frame ∷ frames_at v.contexts parent) [] [];
        how = inr (absent, last, refl);
      })

  pub IsBuilt-added : IsBuilt entries' index' states
  IsBuilt-added =
      let long = length_is entries index states v is built in
      let B : List (ℕ × Frame) → Type 0 = λ x. ((i : ℕ) (e : ℕ × Frame) → slice_get x i ≡ Some e → e.0 ≤ i)
      × ((k : Key) (n : ℕ) → get key_cmp index' k ≡ Some n → (i : ℕ) × (e : ℕ × Frame) × (n ≡ i + 1) × (slice_get x i ≡ Some e) × (key_of e ≡ k))
      × ((i : ℕ) (e : ℕ × Frame) → slice_get x i ≡ Some e → get key_cmp index' (key_of e) ≡ Some (i + 1)) in
      let three : B entries' = subst B (sym items) (
        (λ i e at. elim (push_cases entries (parent, frame) i e at) [
          | inl old ↦ built.parents i e old
          | inr new ↦ let p : e.0 ≡ parent = ap (λ (x : ℕ × Frame). x.0) new.1 in let n = new.0 in omega arith
        ]),
        (λ k n at. elim (cases_key (key_of (parent, frame)) k) [
          | inl same ↦
              let now : get key_cmp index' k ≡ Some (length entries + 1) = ap (get key_cmp index') (sym same) ∙ updates.1 in
              let n_is : n ≡ length entries + 1 = cc in
              (length entries, (parent, frame), n_is, push_last entries (parent, frame), same)
          | inr apart ↦
              let (i, e, n_is, at_i, key) = built.indexed k n (sym (updates.2 k (keys_apart (key_of (parent, frame)) k apart)) ∙ at) in
              (i, e, n_is, push_old entries (parent, frame) i e at_i, key)
        ]),
        (λ i e at. elim (push_cases entries (parent, frame) i e at) [
          | inl old ↦ elim (cases_key (key_of (parent, frame)) (key_of e)) [
            | inl same ↦ absurd (let bad : None ≡ Some (i + 1) = none ∙ ap (get key_cmp index) same ∙ built.found i e old in cc)
            | inr apart ↦ updates.2 (key_of e) (keys_apart (key_of (parent, frame)) (key_of e) apart) ∙ built.found i e old
          ]
          | inr new ↦
              ap (λ (x : ℕ × Frame). get key_cmp index' (key_of x)) new.1 ∙ updates.1 ∙ ap (λ n. Some (n + 1)) (sym new.0)
        ]),
      ) in
      record { parents = three.0; indexed = three.1; found = three.2; family = added_family }
    where
      push_last : {A : Type 0} (xs : List A) (y : A) → slice_get (xs ++ y ∷ []) (length xs) ≡ Some y
      push_last [] y = refl
      push_last (x ∷ xs) y = push_last xs y

module _ (entries : List (ℕ × Frame)) (index : BTreeMap Key ℕ) (states : List ((ℕ × ℕ) × State)) (v : Contents)
    (is : ◌≡◌ {A = Contents} (record { contexts = frames_of entries; states = states }) v) (built : IsBuilt entries index states) where
  pub context_some : (items : List (ℕ × Frame)) → items ≡ entries → (number : ℕ) → 0 < number → (x : ℕ × Frame) → x ≡ slice_index_or items (number - 1) x
      → number - 1 < length items → (number < length v.contexts) × (x.0 < number) × (frames_at v.contexts number ≡ x.1 ∷ frames_at v.contexts x.0)
  context_some items same number some x read lt =
      let long = length_is entries index states v is built in
      let e = ap length same in
      let at' : slice_get items (number - 1) ≡ Some (slice_index_or items (number - 1) x) = slice_get-get_or items (number - 1) x lt in
      let at : slice_get entries (number - 1) ≡ Some x = ap (λ l. slice_get l (number - 1)) (sym same) ∙ at' ∙ ap Some (sym read) in
      let before = built.parents (number - 1) x at in
      let n_is : number ≡ (number - 1) + 1 = omega arith in
      (omega arith, omega arith, ap (frames_at v.contexts) n_is ∙ at_entry entries index states v is built (number - 1) x at)

-- the frames that were read on the way up, and those that are left
pub walk_init : (X : List (List Frame)) (number : ℕ) (items : List Frame) → items ≡ [] → frames_at X number ≡ items ++ frames_at X number
walk_init X number items e = ap (λ (x : List Frame). x ++ frames_at X number) (sym e)

pub walk_step : (X : List (List Frame)) (number at next : ℕ) (y : Frame) (items items' : List Frame) → frames_at X number ≡ items ++ frames_at X at
    → frames_at X at ≡ y ∷ frames_at X next → items' ≡ items ++ y ∷ [] → frames_at X number ≡ items' ++ frames_at X next
walk_step X number at next y items items' before one more =
    before ∙ ap (λ (x : List Frame). items ++ x) one ∙ sym (append_assoc items (y ∷ []) (frames_at X next)) ∙ ap (λ (x : List Frame). x ++ frames_at X next) (sym more)

pub walk_end : (X : List (List Frame)) (number at : ℕ) (items items' : List Frame) → frames_at X 0 ≡ [] → at ≡ 0 → frames_at X number ≡ items ++ frames_at X at
    → items' ≡ reverse items → items' ≡ reverse (frames_at X number)
walk_end X number at items items' main none walked turned =
    let last : frames_at X at ≡ [] = ap (frames_at X) none ∙ main in
    let all : frames_at X number ≡ items = walked ∙ ap (λ (x : List Frame). items ++ x) last ∙ append-nil items in
    turned ∙ ap (λ (x : List Frame). reverse x) (sym all)
