-- Texts of values that are put one after another.
use Rattle.std.proofs.Common.{◌≡◌, ℕ, ℤ, ◌+◌, ◌^◌, ◌<◌, List, [], ◌∷◌, ◌++◌, length, take, Option, None, Some, Ok, Err, sym, ap, subst, ◌∙◌, append_assoc, append-nil}
use Rattle.std.specs.Prelude.{FitsSigned, IfSome, IsSomeAnd, Result, slice_get, slice_index_or}
use Rattle.std.specs.Int.{w32}
use Rattle.std.specs.List.{AllByRecursion, flat_map}
use Rattle.tt_cert.specs.Representation.Clauses.{Pushes}
use Rattle.tt_cert.specs.Rules.{IsTextOf}
use Rattle.std.proofs.lemmas.Grind.{flat_map-append}
use Rattle.std.proofs.lemmas.List.{take_more}
use Rattle.std.proofs.lemmas.Option.{slice_get-get_or, slice_get_within}

-- after a head and the texts of some values
abbrev pub AreWritten : {A : Type 0} → (A → List ℕ) → List ℕ → List ℕ → List A → List ℕ → Type 0
AreWritten spell old head done now = now ≡ old ++ (head ++ flat_map spell done)

pub one_written : {A : Type 0} (spell : A → List ℕ) (old head now new : List ℕ) (done : List A) (x : A) → AreWritten spell old head done now → new ≡ now ++ spell x
    → AreWritten spell old head (done ++ x ∷ []) new
one_written {A} spell old head now new done x before one =
    let more : flat_map spell (done ++ x ∷ []) ≡ flat_map spell done ++ spell x =
    flat_map-append spell done (x ∷ []) ∙ ap (λ (l : List ℕ). flat_map spell done ++ l) (append-nil (spell x)) in
    one ∙ ap (λ (l : List ℕ). l ++ spell x) before ∙ append_assoc old (head ++ flat_map spell done) (spell x)
    ∙ ap (λ (l : List ℕ). old ++ l) (append_assoc head (flat_map spell done) (spell x) ∙ ap (λ (l : List ℕ). head ++ l) (sym more))

pub taken_more : {A : Type 0} (xs : List A) (k : ℕ) (x : A) → slice_get xs k ≡ Some x → take (k + 1) xs ≡ take k xs ++ x ∷ []
taken_more {A} xs k x at =
    let within = slice_get_within xs k x at in
    let one : Some (slice_index_or xs k x) ≡ Some x = sym (slice_get-get_or xs k x within) ∙ at in
    let same : slice_index_or xs k x ≡ x = cc in
    take_more xs k x within ∙ ap (λ (y : A). take k xs ++ y ∷ []) same

-- the next of a list
pub next_written : {A : Type 0} (spell : A → List ℕ) (old head now new : List ℕ) (xs : List A) (k : ℕ) (x : A) → slice_get xs k ≡ Some x
    → AreWritten spell old head (take k xs) now → new ≡ now ++ spell x → AreWritten spell old head (take (k + 1) xs) new
next_written {A} spell old head now new xs k x at before one =
    one_written spell old head now new (take k xs) x before one ∙ ap (λ (l : List A). old ++ (head ++ flat_map spell l)) (sym (taken_more xs k x at))

-- at a default
pub at_default : {A : Type 0} (xs : List A) (k : ℕ) (d : A) → k < length xs → slice_get xs k ≡ Some (slice_index_or xs k d)
at_default xs k d lt = slice_get-get_or xs k d lt

-- the numbers of a storage cell
abbrev pub StoredPairFits : ℕ × ℤ → Type 0
StoredPairFits e = (e.0 < 2 ^ 16) × FitsSigned w32 e.1

-- one more of which it holds

pub all_more : {A : Type 0} (P : A → Type 0) (xs : List A) (x : A) → AllByRecursion P xs → P x → AllByRecursion P (xs ++ x ∷ [])
all_more P [] x all one = (one, tt)
all_more P (y ∷ ys) x all one = (all.0, all_more P ys x all.1 one)

pub all_next : {A : Type 0} (P : A → Type 0) (xs : List A) (k : ℕ) (x : A) → slice_get xs k ≡ Some x → AllByRecursion P (take k xs) → P x → AllByRecursion P (take (k + 1) xs)
all_next {A} P xs k x at all one = subst (λ (l : List A). AllByRecursion P l) (sym (taken_more xs k x at)) (all_more P (take k xs) x all one)

-- the text of functions that another one has too
pub known_text : {X : Type 0} (before : Option X) (f : X → List (ℕ × ℕ)) (text : List ℕ) (functions : List (ℕ × ℕ)) → IfSome before (λ s. IsTextOf text (f s))
    → IsSomeAnd before (λ s. f s ≡ functions) → IsTextOf text functions
known_text None f text functions kept same = absurd same
known_text (Some s) f text functions kept same = subst (λ (l : List (ℕ × ℕ)). IsTextOf text l) same kept

-- a text that is appended after another one
pub pushes_first : {T E : Type 0} (r : Result T E) (a b old mid new : List ℕ) → mid ≡ old ++ a → Pushes b r mid new → Pushes (a ++ b) r old new
pushes_first (Ok x) a b old mid new first more = more ∙ ap (λ (l : List ℕ). l ++ b) first ∙ append_assoc old a b
pushes_first (Err e) a b old mid new first more = tt
