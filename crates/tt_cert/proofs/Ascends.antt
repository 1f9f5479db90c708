-- Lists whose numbers ascend, one entry after the other.
use Rattle.std.proofs.Common.{◌≡◌, ℕ, suc, ◌-◌, ◌<◌, true, List, [], ◌∷◌, ◌++◌, length, Some, length-append, refl, sym, ap, ◌∙◌, arith}
use Rattle.std.specs.Prelude.{slice_get}
use Rattle.std.specs.List.{AllByRecursion}
use Rattle.std.proofs.lemmas.Bool.{ltb-true}
use Rattle.tt_setting.specs.Entries.{Ascends}
use Rattle.tt_cert.specs.Rules.{is_above, last_of}

all_push : {A : Type 0} (P : A → Type 0) (xs : List A) (y : A) → AllByRecursion P xs → P y → AllByRecursion P (xs ++ y ∷ [])
all_push P [] y h p = (p, tt)
all_push P (x ∷ xs) y h p = (h.0, all_push P xs y h.1 p)

-- the last of several entries is the last of those after the first
pub last_behind : {A : Type 0} (x : A) (xs : List A) → 0 < length xs → last_of (x ∷ xs) ≡ last_of xs
last_behind x xs some = let n : length (x ∷ xs) - 1 ≡ suc (length xs - 1) = omega arith in ap (slice_get (x ∷ xs)) n

-- what was put last is the last
pub last_pushed : {A : Type 0} (xs : List A) (x : A) → last_of (xs ++ x ∷ []) ≡ Some x
last_pushed {A} xs x =
    let len = length-append xs (x ∷ []) in
    let n : length (xs ++ x ∷ []) - 1 ≡ length xs = omega (arith, len) in
    ap (slice_get (xs ++ x ∷ [])) n ∙ at xs
  where
    at : (ys : List A) → slice_get (ys ++ x ∷ []) (length ys) ≡ Some x
    at [] = refl
    at (y ∷ ys) = at ys

-- an entry above the last is above the first
above_first : {V : Type 0} (e : ℕ × V) (es : List (ℕ × V)) (x : ℕ × V) → Ascends (e ∷ es) → is_above (last_of (e ∷ es)) x ≡ true → e.0 < x.0
above_first e [] x ascends above = ltb-true _ _ above
above_first {V} e (d ∷ es) x ascends above =
    let later = above_first d es x ascends.1 (ap (λ o. is_above o x) (sym (last_behind e (d ∷ es) (omega arith))) ∙ above) in
    let first = ascends.0.0 in
    omega arith

pub Ascends-push : {V : Type 0} (es : List (ℕ × V)) (x : ℕ × V) → Ascends es → is_above (last_of es) x ≡ true → Ascends (es ++ x ∷ [])
Ascends-push [] x ascends above = (tt, tt)
Ascends-push (e ∷ []) x ascends above = ((ltb-true _ _ above, tt), (tt, tt))
Ascends-push {V} (e ∷ d ∷ es) x ascends above =
    let more = Ascends-push (d ∷ es) x ascends.1 (ap (λ o. is_above o x) (sym (last_behind e (d ∷ es) (omega arith))) ∙ above) in
    (all_push (λ f. e.0 < f.0) (d ∷ es) x ascends.0 (above_first e (d ∷ es) x ascends above), more)
