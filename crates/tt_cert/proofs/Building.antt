-- A state that is made from its parts, one after the other.
use Rattle.std.proofs.Common.{◌≡◌, ℕ, ℤ, zero, suc, ◌+◌, ◌<◌, List, [], ◌∷◌, ◌++◌, length, take, Some, refl, sym, ap, subst, ◌∙◌, arith}
use Rattle.std.specs.Prelude.{slice_get, slice_index_or}
use Rattle.std.specs.List.{AllByRecursion}
use Rattle.std.proofs.lemmas.Bool.{le-ltb, ne_eqb}
use Rattle.std.proofs.lemmas.List.{take_more}
use Rattle.std.proofs.lemmas.Option.{slice_get-get_or}
use Rattle.tt_setting.specs.Entries.{Ascends, with_entry}
use Rattle.tt_abs.specs.StorageCells.{with_cell}
use Rattle.tt_abs.specs.declared.cells.Cell.TheVariants.{Known}
use Rattle.tt_abs.specs.declared.state.State.{State}

-- the state with other storage cells
abbrev pub with_storage : State → List (ℕ × ℤ) → State
with_storage s cells = record s { storage = cells }

pub none_stored : (s : State) → s.storage ≡ [] → s ≡ with_storage s []
none_stored s empty = ap (with_storage s) empty

all_get : {A : Type 0} (P : A → Type 0) (xs : List A) (i : ℕ) (x : A) → AllByRecursion P xs → slice_get xs i ≡ Some x → P x
all_get P [] i x h at = absurd cc
all_get {A} P (y ∷ ys) zero x h at = let same : y ≡ x = cc in subst P same h.0
all_get P (y ∷ ys) (suc i) x h at = all_get P ys i x h.1 at

-- the entries before one that is above them
before_entry : {V : Type 0} (es : List (ℕ × V)) (k : ℕ) (e : ℕ × V) → Ascends es → slice_get es k ≡ Some e → AllByRecursion (λ f. f.0 < e.0) (take k es)
before_entry es zero e ascends at = tt
before_entry [] (suc k) e ascends at = tt
before_entry {V} (d ∷ es) (suc k) e ascends at = (all_get (λ (f : ℕ × V). d.0 < f.0) es k e ascends.0 at, before_entry es k e ascends.1 at)

-- an entry above all others comes last
entry_last : {V : Type 0} (n : ℕ) (v : V) (es : List (ℕ × V)) → AllByRecursion (λ f. f.0 < n) es → with_entry n v es ≡ es ++ (n, v) ∷ []
entry_last n v [] below = refl
entry_last {V} n v (e ∷ es) below =
    let lt = below.0 in
    let not_before = le-ltb n e.0 (omega arith) in
    let not_same = ne_eqb n e.0 (λ same. absurd (omega arith)) in
    rw (not_before, not_same) (ap (λ (l : List (ℕ × V)). e ∷ l) (entry_last n v es below.1))

pub stored : (old now new : State) (cells : List (ℕ × ℤ)) (k : ℕ) (d : ℕ × ℤ) (z : ℤ) → z ≡ (slice_index_or cells k d).1 → Ascends cells → k < length cells
    → now ≡ with_storage old (take k cells) → new ≡ with_storage now (with_cell (slice_index_or cells k d).0 (Known z) now.storage) → new ≡ with_storage old (take (k + 1) cells)
stored old now new cells k d z same ascends lt before one =
    let x : ℕ × ℤ = slice_index_or cells k d in
    let below = before_entry cells k x ascends (slice_get-get_or cells k d lt) in
    let more : with_entry x.0 x.1 (take k cells) ≡ take (k + 1) cells = entry_last x.0 x.1 (take k cells) below ∙ sym (take_more cells k d lt) in
    one ∙ ap (λ (y : ℤ). with_storage now (with_entry x.0 y now.storage)) same ∙ ap (λ (s : State). with_storage s (with_entry x.0 x.1 s.storage)) before
    ∙ ap (with_storage old) more
