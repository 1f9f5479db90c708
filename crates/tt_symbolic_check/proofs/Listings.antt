-- Entries that agree.
use Rattle.std.proofs.Common.{◌≡◌, ℕ, zero, suc, ◌+◌, ◌<◌, List, [], ◌∷◌, Option, Some, Bool, true, false, nat_eq, if◌then◌else◌, get_or, length, take, refl, sym, ◌∙◌, ap, subst, arith}
use Rattle.std.specs.List.{All}
use Rattle.std.proofs.lemmas.Bool.{eqb-true}
use Rattle.std.proofs.lemmas.List.Elements.{All-head, All-tail, All-more, All-weaker}
use Rattle.tt_setting.specs.Functions.{CoversFunctions}
use Rattle.tt_setting.specs.Entries.{Ascends, listed}
use Rattle.tt_setting.specs.EntryLaws.{listed-here, listed-there}
use Rattle.tt_setting.proofs.EntryEdits.{all-at}
use Rattle.tt_setting.specs.EntryLaws.{listed-named}
use Rattle.tt_symbolic_state.specs.declared.cell.Cell.{Cell}
use Rattle.tt_symbolic_state.specs.declared.cell.Range.{Range}
use Rattle.tt_symbolic_check.specs.Covering.{AgreeEntries, Agrees, Extends, IsEntryOf}

-- what is listed in a list of which all entries have a property has it
pub found : {V : Type 0} (P : ℕ × V → Type 0) (es : List (ℕ × V)) → All P es → (i : ℕ) (x : V) → listed es i ≡ Some x → P (i, x)
found P [] all i x e = absurd (cc)
found {V} P (y ∷ es) all i x e = go (nat_eq y.0 i) refl e (found P es (All-tail P y es all) i x)
  where
    go : (b : Bool) → nat_eq y.0 i ≡ b → (if b then Some y.1 else listed es i) ≡ Some x → (listed es i ≡ Some x → P (i, x)) → P (i, x)
    go true f h k = let one : y.0 ≡ i = eqb-true y.0 i f in let two : y.1 ≡ x = cc in
        subst P (λ j. (one j, two j)) (All-head P y es all)
    go false f h k = k h

pub entries_agree : (assigned : List (Option Cell)) (ranges : List Range) (mine theirs : List (ℕ × Cell)) → All (λ (e : ℕ × Cell). IsEntryOf assigned ranges mine e) theirs → AgreeEntries assigned ranges mine theirs
entries_agree assigned ranges mine theirs all = record { agree = λ i c e. found (λ (e : ℕ × Cell). IsEntryOf assigned ranges mine e) theirs all i c e }

pub functions_within : (mine theirs : List (ℕ × ℕ)) → All (λ (e : ℕ × ℕ). listed mine e.0 ≡ Some e.1) theirs → CoversFunctions theirs mine
functions_within mine theirs all n body e = sym (listed-named mine n) ∙ found (λ (e : ℕ × ℕ). listed mine e.0 ≡ Some e.1) theirs all n body (listed-named theirs n ∙ e)

pub later : (old new : List (Option Cell)) (ranges : List Range) (mine theirs : Cell) → Extends old new → Agrees old ranges mine theirs → Agrees new ranges mine theirs
later old new ranges mine theirs x a = record { agrees = λ v w fits h. a.agrees v w fits (x.extends v w h) }

pub extends_more : (first middle last : List (Option Cell)) → Extends first middle → Extends middle last → Extends first last
extends_more first middle last a b = record { extends = λ v w h. a.extends v w (b.extends v w h) }

pub entries_more : (old new : List (Option Cell)) (ranges : List Range) (mine theirs : List (ℕ × Cell)) (i : ℕ) (d : ℕ × Cell) (cell : Cell) → Extends old new → i < length theirs → All (λ (e : ℕ × Cell). IsEntryOf old ranges mine e) (take i theirs)
    → listed mine (get_or theirs i d).0 ≡ Some cell → Agrees new ranges cell (get_or theirs i d).1 → All (λ (e : ℕ × Cell). IsEntryOf new ranges mine e) (take (i + 1) theirs)
entries_more old new ranges mine theirs i d cell x lt all is a =
    All-more (λ (e : ℕ × Cell). IsEntryOf new ranges mine e) theirs i d lt
    (All-weaker (λ (e : ℕ × Cell). IsEntryOf old ranges mine e) (λ (e : ℕ × Cell). IsEntryOf new ranges mine e) (λ e h. (h.0, h.1, later old new ranges h.0 e.1 x h.2)) (take i theirs) all)
    (cell, is, a)

-- what is at a place of a sorted map is listed with its number
pub listed_place : {V : Type 0} (xs : List (ℕ × V)) (i : ℕ) (e : ℕ × V) (n : ℕ) → Ascends xs → i < length xs → e ≡ get_or xs i e → e.0 ≡ n → listed xs n ≡ Some e.1
listed_place [] i e n r lt is same = absurd (omega arith)
listed_place {V} (x ∷ xs) zero e n r lt is same = listed-here x xs n (ap (λ (y : ℕ × V). y.0) (sym is) ∙ same) ∙ ap (λ (y : ℕ × V). Some y.1) (sym is)
listed_place {V} (x ∷ xs) (suc i) e n r lt is same =
    listed-there x xs n (λ q. let a = all-at x.0 xs i e r.0 (omega arith) in let b : e.0 ≡ (get_or xs i e).0 = ap (λ (y : ℕ × V). y.0) is in omega arith)
    ∙ listed_place xs i e n r.1 (omega arith) is same
