-- Entries put one after the other: where their numbers ascend, they make the list of themselves.
use Rattle.std.proofs.Common.{◌≡◌, ℕ, ◌<◌, ◌≤◌, ◌+◌, List, [], ◌∷◌, ◌++◌, refl, sym, ◌∙◌, ap, subst, arith}
use Rattle.std.specs.List.{AllByRecursion}
use Rattle.std.proofs.Math.Seq.{append_snoc}
use Rattle.std.proofs.lemmas.List.{append-nil}
use Rattle.std.proofs.lemmas.Bool.Decides.{nat_tests}
use Rattle.tt_setting.specs.Entries.{Ascends, with_entries, with_entry}

-- the numbers ascend from this one on
abbrev pub Rises : {V : Type 0} → ℕ → List (ℕ × V) → Type 0
Rises n [] = Unit {0}
Rises n (e ∷ es) = (n ≤ e.0) × Rises (e.0 + 1) es

rises-above : {V : Type 0} (m n : ℕ) (es : List (ℕ × V)) → m < n → Rises n es → AllByRecursion (λ e. m < e.0) es
rises-above m n [] lt r = tt
rises-above m n (e ∷ es) lt r = let low = r.0 in (omega arith, rises-above m (e.0 + 1) es (omega arith) r.1)

pub rises-ascend : {V : Type 0} (n : ℕ) (es : List (ℕ × V)) → Rises n es → Ascends es
rises-ascend n [] r = tt
rises-ascend n (e ∷ es) r = (rises-above e.0 (e.0 + 1) es (omega arith) r.1, rises-ascend (e.0 + 1) es r.1)

-- an entry between others is one of them
middle : {V : Type 0} (P : ℕ × V → Type 0) (before : List (ℕ × V)) (e : ℕ × V) (after : List (ℕ × V))
    → AllByRecursion P (before ++ e ∷ after) → P e
middle P [] e after h = h.0
middle P (b ∷ before) e after h = middle P before e after h.1

with-above : {V : Type 0} (n : ℕ) (v : V) (e : ℕ × V) (es : List (ℕ × V)) → e.0 < n → with_entry n v (e ∷ es) ≡ e ∷ with_entry n v es
with-above n v e es lt = grind (arith, nat_tests)

-- an entry above all others is put at the end
with-last : {V : Type 0} (before : List (ℕ × V)) (e : ℕ × V) (after : List (ℕ × V)) → Ascends (before ++ e ∷ after)
    → with_entry e.0 e.1 before ≡ before ++ e ∷ []
with-last [] e after r = refl
with-last (b ∷ before) e after r =
    with-above e.0 e.1 b before (middle (λ f. b.0 < f.0) before e after r.0) ∙ ap (λ es. b ∷ es) (with-last before e after r.1)

entries-on : {V : Type 0} (before after : List (ℕ × V)) → Ascends (before ++ after) → with_entries before after ≡ before ++ after
entries-on before [] r = sym (append-nil before)
entries-on {V} before (e ∷ after) r =
    let A : List (ℕ × V) → Type 0 = λ es. Ascends es in
    ap (λ es. with_entries es after) (with-last before e after r)
    ∙ entries-on (before ++ e ∷ []) after (subst A (sym (append_snoc before e after)) r)
    ∙ append_snoc before e after

pub entries-ascending : {V : Type 0} (es : List (ℕ × V)) → Ascends es → with_entries [] es ≡ es
entries-ascending es r = entries-on [] es r
