-- Starts that follow the ends of a program.
use Rattle.std.proofs.Common.{◌≡◌, ◌∙◌, ℕ, zero, suc, List, [], ◌∷◌, ◌++◌, Some, nat_eq, pos, slice_get, length, refl, sym, subst}
use Rattle.std.specs.Prelude.{⊤}
use Rattle.std.specs.List.{All, AllByRecursion}
use Rattle.std.proofs.lemmas.List.Elements.{All-head, All-tail}
use Rattle.std.proofs.lemmas.Bool.Decides.{Decides-eqb}
use Rattle.tt_abs.specs.EntryLaws.{common_is_least}
use Rattle.tt_setting.specs.Entries.{Ascends}
use Rattle.tt_setting.specs.EntryLaws.{listed-named}
use Rattle.tt_setting.specs.EntryLists.{common_entries}
use Rattle.tt_setting.specs.Functions.{CoversFunctions}
use Rattle.tt_symbolic_check.specs.Checked.{IsShownByOne}
use Rattle.tt_symbolic_state.specs.CvtMachine.{CvtMachine}
use Rattle.tt_symbolic_state.specs.Shows.{IsShown, ShowsArea}
use Rattle.tt_symbolic_state.specs.Values.{Fits}
use Rattle.tt_symbolic_state.specs.declared.cell.Cell.{Cell}
use Rattle.tt_symbolic_state.specs.declared.cell.Range.{Range}
use Rattle.tt_symbolic.specs.Kept.{IsAmong}
use Rattle.tt_symbolic_state.specs.declared.state.State.{State}
use Rattle.tt_symbolic_check.specs.Starts.{ShowsAfter, StartCovers, StartsAs, StartsFrom}
use Rattle.tt_symbolic_check.specs.declared.start.Start.{Start}
use Rattle.hintcheck_fonts.specs.SymbolicEnds.{IsFollowed, IsWithin, ListsAmong, StartGlyphs, StartsKnowing, StartsThen}
use Rattle.hintcheck_fonts.specs.declared.ends.Ends.{Ends}
use Rattle.hintcheck_fonts.specs.declared.glyph_starts.GlyphStarts.{GlyphStarts}

-- a start of which only functions are known
pub start_knows : (start : Start) (functions : List (ℕ × ℕ)) → start.storage ≡ [] → start.controls ≡ [] → start.functions ≡ functions → start.ranges.items ≡ [] → (m : CvtMachine) → StartsKnowing functions m → StartsAs start m
start_knows start functions s c f r m h = record {
  fresh = h.fresh;
  valuation = λ i. pos 0;
  fits = record { each = λ i q at. absurd (cc) };
  storage = record { listed_is = λ i d at. absurd (cc); are_numbers = h.fresh.stored };
  controls_are = record { listed_is = λ i d at. absurd (cc); are_numbers = h.controls };
  functions = subst (λ (g : List (ℕ × ℕ)). CoversFunctions g m.machine.functions) (sym f) h.known;
}

-- the start after an end, with other functions
pub start_follows : (end : State) (after start : Start) (functions : List (ℕ × ℕ)) → ShowsAfter end after → start.storage ≡ after.storage → start.controls ≡ after.controls → start.functions ≡ functions → start.ranges.items ≡ after.ranges.items
    → (m n : CvtMachine) → IsShown end m.machine m.controls → StartsThen functions m n → StartsAs start n
start_follows end after start functions shows s c f r m n shown next =
    let n' : CvtMachine = record { machine = record n.machine { functions = m.machine.functions }; controls = n.controls } in
    let a : StartsAs after n' = shows m n' shown (record {
      fresh = record { no_frames = next.fresh.no_frames; at_first_byte = next.fresh.at_first_byte; empty_stack = next.fresh.empty_stack; default = next.fresh.default; stored = next.fresh.stored };
      storage = λ i k. next.storage k i;
      controls_are = λ i k. next.controls k i;
      functions = refl;
    }) in
    let v = a.valuation in
    record {
      fresh = next.fresh;
      valuation = v;
      fits = subst (λ (rs : List Range). Fits rs v) (sym r) a.fits;
      storage = subst (λ (es : List (ℕ × Cell)). ShowsArea v es n.machine.registers.storage) (sym s) a.storage;
      controls_are = subst (λ (es : List (ℕ × Cell)). ShowsArea v es n.controls) (sym c) a.controls_are;
      functions = subst (λ (g : List (ℕ × ℕ)). CoversFunctions g n.machine.functions) (sym f) next.known;
    }

-- what is known after one more element of a list, whose elements before it all have a property
pub all_found : {A : Type 0} (P : A → Type 0) (xs : List A) → All P xs → (i : ℕ) (x : A) → slice_get xs i ≡ Some x → P x
all_found P [] all i x e = absurd (cc)
all_found P (y ∷ ys) all zero x e = subst P (cc) (All-head P y ys all)
all_found P (y ∷ ys) all (suc i) x e = all_found P ys (All-tail P y ys all) i x e

-- one of the starts covers the start after an end
pub followed_by : (functions : List (ℕ × ℕ)) (starts : List Start) (end : State) (after start : Start) (i : ℕ) → slice_get starts i ≡ Some start → StartCovers after start
    → ((m n : CvtMachine) → IsShown end m.machine m.controls → StartsThen functions m n → StartsAs after n) → IsFollowed functions starts end
followed_by functions starts end after start i found covers follows = record {
  followed = λ m n shown next. record { index = i; start = start; found = found; is_one = covers n (follows m n shown next) };
}

get_before : {A : Type 0} (xs ys : List A) (i : ℕ) (x : A) → slice_get xs i ≡ Some x → slice_get (xs ++ ys) i ≡ Some x
get_before [] ys i x e = absurd (cc)
get_before (y ∷ xs) ys zero x e = e
get_before (y ∷ xs) ys (suc i) x e = get_before xs ys i x e

get_last : {A : Type 0} (xs : List A) (x : A) → slice_get (xs ++ x ∷ []) (length xs) ≡ Some x
get_last [] x = refl
get_last (y ∷ xs) x = get_last xs x

-- an index that was put is among all, and those before still are
pub among_more : (old new : List ℕ) (x i : ℕ) → new ≡ old ++ x ∷ [] → IsAmong old i → IsAmong new i
among_more old new x i e h = record { place = h.place; found = rw e (get_before old (x ∷ []) h.place i h.found) }

pub among_last : (old new : List ℕ) (x : ℕ) → new ≡ old ++ x ∷ [] → IsAmong new x
among_last old new x e = record { place = length old; found = rw e (get_last old x) }

-- with more indexes, a start is still within them
pub within_more : (functions : List (ℕ × ℕ)) (storage storage' controls controls' : List ℕ) (start : Start) → ((i : ℕ) → IsAmong storage i → IsAmong storage' i) → ((i : ℕ) → IsAmong controls i → IsAmong controls' i) → IsWithin functions storage controls start → IsWithin functions storage' controls' start
within_more functions storage storage' controls controls' start s c h = record {
  storage_is = record { among = λ i d at. s i (h.storage_is.among i d at) };
  controls_are = record { among = λ i d at. c i (h.controls_are.among i d at) };
  functions_are = h.functions_are;
}

pub within_is : (functions : List (ℕ × ℕ)) (storage controls : List ℕ) (start : Start) → ListsAmong storage start.storage → ListsAmong controls start.controls → CoversFunctions start.functions functions → IsWithin functions storage controls start
within_is functions storage controls start s c f = record { storage_is = s; controls_are = c; functions_are = f }

-- the starts that were made

pub from_one : (start : Start) (m : CvtMachine) → StartsAs start m → StartsFrom (start ∷ []) m
from_one start m h = record { index = 0; start = start; found = refl; is_one = h }

pub made : (ends : Ends) (g : GlyphStarts) (states : List State) (starts tested : List Start) → states ≡ ends.states.items → starts ≡ g.starts.items → tested ≡ g.starts.items → ((i : ℕ) (a : State) → slice_get states i ≡ Some a → IsFollowed ends.functions starts a)
    → All (IsWithin ends.functions g.storage.items g.controls.items) tested → StartGlyphs ends g
made ends g states starts tested e s q follows all = record {
  followed = λ i a at. subst (λ (l : List Start). IsFollowed ends.functions l a) s (follows i a (subst (λ (l : List State). slice_get l i ≡ Some a) (sym e) at));
  within = λ i start at. all_found (IsWithin ends.functions g.storage.items g.controls.items) tested all i start (subst (λ (l : List Start). slice_get l i ≡ Some start) (sym q) at);
}

-- no state is among none
pub shown_by_none : (states : List State) (m : CvtMachine) → states ≡ [] → IsShownByOne states m → ⊥
shown_by_none states m none shown =
    let e : slice_get [] shown.index ≡ Some shown.state = subst (λ (l : List State). slice_get l shown.index ≡ Some shown.state) none shown.found in cc

-- functions that two lists have in common are in each of them

any_values : (a : List (ℕ × ℕ)) → AllByRecursion (λ (e : ℕ × ℕ). ⊤) a
any_values [] = tt
any_values (e ∷ es) = (tt, any_values es)

pub common_left : (a b : List (ℕ × ℕ)) → Ascends a → CoversFunctions (common_entries nat_eq a b) a
common_left a b ascends n body e =
    sym (listed-named a n) ∙ (common_is_least (λ v. ⊤) nat_eq Decides-eqb a b (record { ascends = ascends; values = any_values a })).left n body (listed-named (common_entries nat_eq a b) n ∙ e)

pub common_right : (a b : List (ℕ × ℕ)) → Ascends a → CoversFunctions (common_entries nat_eq a b) b
common_right a b ascends n body e =
    sym (listed-named b n) ∙ (common_is_least (λ v. ⊤) nat_eq Decides-eqb a b (record { ascends = ascends; values = any_values a })).right n body (listed-named (common_entries nat_eq a b) n ∙ e)
