-- The iterations, which write only the sizes of the composite glyphs.
use Rattle.std.specs.Prelude.{◌≡◌, ◌≢◌, ℕ, ◌+◌, ◌<◌, ◌≤◌, ◌++◌, List, [], ◌∷◌, length, take, drop, Bool, true, false, slice_index_or, slice_set}
use Rattle.std.specs.List.{Contains, sum_by}
use Rattle.std.proofs.Common.{refl, sym, ◌∙◌, ap, subst, arith, inl, inr, ◌⊎◌, drop_of_length-le}
use Rattle.std.proofs.Math.Seq.{take-append_seam}
use Rattle.std.proofs.lemmas.Bool.{cases_eq}
use Rattle.std.proofs.lemmas.List.{get_or-set_same, get_or-set_other, length-set, drop_more}
use Rattle.std.proofs.lemmas.List.Elements.{Contains-append_left, Contains-append_right, Contains-append_cases, Contains-push, Contains-push_cases}
use Rattle.std.proofs.lemmas.List.Sums.{sum_by-cons, sum_by-append}
use Rattle.tt_font.specs.declared.outline_size.OutlineSize.{OutlineSize}
use Rattle.tt_font.specs.Glyphs.{is_composite, component_count, component_total}
use Rattle.tt_font.specs.Components.{components, glyphs_named}
use Rattle.tt_font.specs.Outlines.{Outline, outlines_of}
use Rattle.tt_font.specs.Representation.OutlineSizes.{missing_size, size_at, AddsUp, NextSize, NextSizes}
use Rattle.tt_font.specs.Representation.CompositeLists.{AreComposites, AgreeOnSimple}
use Rattle.tt_font.proofs.CountLemmas.{counts_components, counts_none, total_of_none, total_more, outline_below}
use Rattle.tt_font.proofs.OutlineLemmas.{outline_is_simple, outline_is_composite}

-- ---- the list of the composite glyphs

pub no_composites : (glyphs : ℕ → List ℕ) (numbers : List ℕ) → numbers ≡ [] → AreComposites glyphs 0 numbers
no_composites glyphs numbers e =
    let A : List ℕ → Type 0 = λ x. AreComposites glyphs 0 x in
    subst A (sym e) (record {
      inside = λ id w. let lt = w.1 in absurd (omega arith);
      composite = λ id w. let lt = w.1 in absurd (omega arith);
      all = λ id lt is. absurd (omega arith);
      once = sym (total_of_none glyphs);
    })

pub composites_more : (glyphs : ℕ → List ℕ) (n : ℕ) (numbers pushed : List ℕ) → AreComposites glyphs n numbers → is_composite (glyphs n) ≡ true
    → pushed ≡ numbers ++ n ∷ [] → AreComposites glyphs (n + 1) pushed
composites_more glyphs n numbers pushed are is e =
    let A : List ℕ → Type 0 = λ x. AreComposites glyphs (n + 1) x in
    subst A (sym e) (record {
      inside = λ id w. elim (Contains-push_cases numbers n id w) [
        | inl before ↦ let lt = are.inside id before in omega arith
        | inr same ↦ omega arith
      ];
      composite = λ id w. elim (Contains-push_cases numbers n id w) [
        | inl before ↦ are.composite id before
        | inr same ↦ sym (ap (λ x. is_composite (glyphs x)) same) ∙ is
      ];
      all = λ id lt made. elim (cases_eq id n) [
        | inl same ↦ let C : ℕ → Type 0 = λ x. Contains (numbers ++ n ∷ []) x in subst C (sym same) (Contains-push numbers n)
        | inr other ↦ Contains-append_left numbers (n ∷ []) id (are.all id (omega arith) made)
      ];
      once =
          let all = sum_by-append (λ id. component_count (glyphs id)) numbers (n ∷ []) in
          let one = sum_by-cons (λ id. component_count (glyphs id)) n [] in
          let before = are.once in
          let more = total_more glyphs n in
          omega arith;
    })

pub composites_same : (glyphs : ℕ → List ℕ) (n : ℕ) (numbers : List ℕ) → AreComposites glyphs n numbers → is_composite (glyphs n) ≡ false → AreComposites glyphs (n + 1) numbers
composites_same glyphs n numbers are is = record {
  inside = λ id w. let lt = are.inside id w in omega arith;
  composite = are.composite;
  all = λ id lt made. elim (cases_eq id n) [
    | inl same ↦ let e = ap (λ x. is_composite (glyphs x)) same in absurd (cc)
    | inr other ↦ are.all id (omega arith) made
  ];
  once =
      let before = are.once in
      let more = total_more glyphs n in
      let none = counts_none (glyphs n) is in
      omega arith;
}

-- ---- an iteration

-- an iteration in progress: what is left of the list of composite glyphs, the sizes and the reads so far
pub record Iterates (glyphs : ℕ → List ℕ) (n : ℕ) (sizes : List OutlineSize) (before : ℕ) (rest : List ℕ) (next : List OutlineSize) (reads : ℕ) : Type 0 where
  pub len : length next ≡ n
  pub inside : (id : ℕ) → Contains rest id → id < n
  pub made : (id : ℕ) → Contains rest id → is_composite (glyphs id) ≡ true
  pub same : (id : ℕ) → id < n → is_composite (glyphs id) ≡ false → size_at next id ≡ size_at sizes id
  pub summed : (id : ℕ) → id < n → is_composite (glyphs id) ≡ true → Contains rest id ⊎ AddsUp sizes (glyphs_named (components (glyphs id))) (size_at next id)
  pub counted : reads + sum_by (λ id. component_count (glyphs id)) rest ≡ before + component_total glyphs n

is_first : (rest : List ℕ) (id : ℕ) → Contains (id ∷ rest) id
is_first rest id = Contains-append_left (id ∷ []) rest id (Contains-push [] id)

is_rest : (rest : List ℕ) (first id : ℕ) → Contains (first ∷ rest) id → id ≢ first → Contains rest id
is_rest rest first id w other = elim (Contains-append_cases (first ∷ []) rest id w) [
  | inl one ↦ elim (Contains-push_cases [] first id one) [
    | inl none ↦ let lt = none.1 in absurd (omega arith)
    | inr same ↦ absurd (other (sym same))
  ]
  | inr w ↦ w
]

module _ (glyphs : ℕ → List ℕ) (n : ℕ) (sizes : List OutlineSize) (before : ℕ) where
  next_one : (first : ℕ) (rest : List ℕ) (next : List OutlineSize) (reads after : ℕ) (sum : OutlineSize) → Iterates glyphs n sizes before (first ∷ rest) next reads
      → AddsUp sizes (glyphs_named (components (glyphs first))) sum → after ≡ reads + length (components (glyphs first))
      → Iterates glyphs n sizes before rest (slice_set next first sum) after
  next_one first rest next reads after sum on adds counted =
      let made = on.made first (is_first rest first) in
      let inside = on.inside first (is_first rest first) in
      let len = on.len in
      record {
        len = length-set next first sum ∙ on.len;
        inside = λ id w. on.inside id (Contains-append_right (first ∷ []) rest id w);
        made = λ id w. on.made id (Contains-append_right (first ∷ []) rest id w);
        same = λ id lt simple. elim (cases_eq id first) [
          | inl is ↦ let e = ap (λ x. is_composite (glyphs x)) is in absurd (cc)
          | inr other ↦ get_or-set_other next first id sum missing_size other ∙ on.same id lt simple
        ];
        summed = λ id lt composite. elim (cases_eq id first) [
          | inl is ↦
              let A : ℕ → Type 0 = λ x. AddsUp sizes (glyphs_named (components (glyphs x))) (size_at (slice_set next first sum) x) in
              let B : OutlineSize → Type 0 = λ x. AddsUp sizes (glyphs_named (components (glyphs first))) x in
              inr (subst A (sym is) (subst B (sym (get_or-set_same next first sum missing_size (omega arith))) adds))
          | inr other ↦ elim (on.summed id lt composite) [
            | inl w ↦ inl (is_rest rest first id w other)
            | inr old ↦
                let B : OutlineSize → Type 0 = λ x. AddsUp sizes (glyphs_named (components (glyphs id))) x in
                inr (subst B (sym (get_or-set_other next first id sum missing_size other)) old)
          ]
        ];
        counted =
            let one = sum_by-cons (λ id. component_count (glyphs id)) first rest in
            let count = counts_components (glyphs first) made in
            let all = on.counted in
            omega arith;
      }

  -- the glyph that is next is composite, and there is room for its reads
  pub record IsNext (first reads : ℕ) : Type 0 where
    pub inside : first < n
    pub made : is_composite (glyphs first) ≡ true
    pub room : reads + length (components (glyphs first)) ≤ before + component_total glyphs n

  pub next_is : (numbers : List ℕ) (i : ℕ) (next : List OutlineSize) (reads : ℕ) → Iterates glyphs n sizes before (drop i numbers) next reads → i < length numbers
      → IsNext (slice_index_or numbers i 0) reads
  next_is numbers i next reads on lt =
      let first : ℕ = slice_index_or numbers i 0 in
      let rest : List ℕ = drop (i + 1) numbers in
      let G : List ℕ → Type 0 = λ x. Iterates glyphs n sizes before x next reads in
      let here = subst G (drop_more numbers i 0 lt) on in
      let made = here.made first (is_first rest first) in
      record {
        inside = here.inside first (is_first rest first);
        made = made;
        room =
            let one = sum_by-cons (λ id. component_count (glyphs id)) first rest in
            let count = counts_components (glyphs first) made in
            let all = here.counted in
            omega arith;
      }

  pub iteration_more : (numbers : List ℕ) (i : ℕ) (next : List OutlineSize) (reads after : ℕ) (sum : OutlineSize) → Iterates glyphs n sizes before (drop i numbers) next reads → i < length numbers
      → AddsUp sizes (glyphs_named (components (glyphs (slice_index_or numbers i 0)))) sum → after ≡ reads + length (components (glyphs (slice_index_or numbers i 0)))
      → Iterates glyphs n sizes before (drop (i + 1) numbers) (slice_set next (slice_index_or numbers i 0) sum) after
  iteration_more numbers i next reads after sum on lt adds counted =
      let G : List ℕ → Type 0 = λ x. Iterates glyphs n sizes before x next reads in
      next_one (slice_index_or numbers i 0) (drop (i + 1) numbers) next reads after sum (subst G (drop_more numbers i 0 lt) on) adds counted

  size_done : (next : List OutlineSize) (id reads : ℕ) (b : Bool) → Iterates glyphs n sizes before [] next reads → is_composite (glyphs id) ≡ b → id < n
      → NextSize sizes (outlines_of n glyphs id) (size_at sizes id) (size_at next id)
  size_done next id reads true on is lt =
      let N : Outline → Type 0 = λ o. NextSize sizes o (size_at sizes id) (size_at next id) in
      subst N (sym (outline_below n glyphs id lt ∙ outline_is_composite (glyphs id) is)) (elim (on.summed id lt is) [
        | inl none ↦ let past = none.1 in absurd (omega arith)
        | inr adds ↦ adds
      ])
  size_done next id reads false on is lt =
      let N : Outline → Type 0 = λ o. NextSize sizes o (size_at sizes id) (size_at next id) in
      subst N (sym (outline_below n glyphs id lt ∙ outline_is_simple (glyphs id) is)) (on.same id lt is)

  pub iteration_ends : (numbers : List ℕ) (i : ℕ) (next : List OutlineSize) (reads : ℕ) → Iterates glyphs n sizes before (drop i numbers) next reads → length numbers ≤ i
      → NextSizes (outlines_of n glyphs) sizes n next
  iteration_ends numbers i next reads on le =
      let G : List ℕ → Type 0 = λ x. Iterates glyphs n sizes before x next reads in
      let done = subst G (drop_of_length-le numbers le) on in
      record { len = done.len; each = λ id lt. size_done next id reads (is_composite (glyphs id)) done refl lt }

-- without composite glyphs an iteration changes nothing
pub nothing_changes : (glyphs : ℕ → List ℕ) (n : ℕ) (numbers : List ℕ) (sizes : List OutlineSize) → AreComposites glyphs n numbers → length numbers ≡ 0 → length sizes ≡ n
    → NextSizes (outlines_of n glyphs) sizes n sizes
nothing_changes glyphs n numbers sizes are none len =
    iteration_ends glyphs n sizes (sum_by (λ id. component_count (glyphs id)) numbers) numbers 0 sizes (component_total glyphs n) (record {
      len = len;
      inside = are.inside;
      made = are.composite;
      same = λ id lt simple. refl;
      summed = λ id lt composite. inl (are.all id lt composite);
      counted = let once = are.once in omega arith;
    }) (omega arith)

-- the sizes that an iteration leaves are those of the vector that was lent to it
pub sizes_written : (n k : ℕ) (old lent new : List OutlineSize) → length old ≡ n → lent ≡ old → length lent ≡ k → length new ≡ n → take k (new ++ drop (length new) old) ≡ new
sizes_written n k old lent new len same lent_len new_len =
    let e = ap (λ xs. length xs) same in
    let k_is : k ≡ length new = omega arith in
    ap (λ m. take m (new ++ drop (length new) old)) k_is ∙ take-append_seam new (drop (length new) old)

-- ---- sizes that agree

pub agrees_with_itself : (glyphs : ℕ → List ℕ) (n : ℕ) (sizes copy : List OutlineSize) → length sizes ≡ n → copy ≡ sizes → AgreeOnSimple glyphs n sizes copy
agrees_with_itself glyphs n sizes copy len same = record {
  len = ap (λ xs. length xs) same ∙ len;
  each = λ id lt simple. ap (λ xs. size_at xs id) same;
}

-- the sizes before an iteration agree with those after it
pub agrees_with_next : (glyphs : ℕ → List ℕ) (n : ℕ) (sizes next : List OutlineSize) → length sizes ≡ n → NextSizes (outlines_of n glyphs) sizes n next → AgreeOnSimple glyphs n next sizes
agrees_with_next glyphs n sizes next len on = record {
  len = len;
  each = λ id lt is.
      let N : Outline → Type 0 = λ o. NextSize sizes o (size_at sizes id) (size_at next id) in
      let kept : size_at next id ≡ size_at sizes id = subst N (outline_below n glyphs id lt ∙ outline_is_simple (glyphs id) is) (on.each id lt) in
      sym kept;
}
