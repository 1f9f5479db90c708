-- A state that agrees with another covers it.
use Rattle.std.proofs.Common.{◌≡◌, ℕ, suc, ◌<◌, ℤ, pos, List, [], ◌∷◌, ◌++◌, Option, Some, None, map, reverse, slice_get, get_or, length, refl, sym, ◌∙◌, ap, subst, arith}
use Rattle.std.proofs.lemmas.List.{map-append, reverse-append, reverse-reverse}
use Rattle.tt_symbolic_state.specs.declared.cell.Cell.{Cell}
use Rattle.tt_symbolic_state.specs.declared.cell.Range.{Range}
use Rattle.tt_symbolic_state.specs.Values.{Assigns, Fits, IsWithin, Valuation, value}
use Rattle.tt_symbolic_state.specs.declared.state.State.{State}
use Rattle.tt_symbolic_state.specs.Shows.{ShowsArea, ShowsCalls, more, none, values, zone_number}
use Rattle.tt_symbolic_state.specs.declared.state.OpenCall.{OpenCall}
use Rattle.tt_code.specs.declared.machine.Frame.{Frame}
use Rattle.tt_symbolic_check.specs.Covering.{AgreeAll, AgreeCall, AgreeCalls, AgreeEntries, AgreeStates, Agrees, Covers, RangesWithin, image_of}

-- the numbers of the covering state's symbols
abbrev chosen : Option (Option Cell) → Option Range → Valuation → ℤ
chosen (Some given) (Some r) v = image_of given r v
chosen (Some (Some c)) None v = value v c
chosen (Some None) None v = pos 0
chosen None r v = pos 0

abbrev image : List (Option Cell) → List Range → Valuation → Valuation
image assigned ranges v i = chosen (slice_get assigned i) (slice_get ranges i) v

image_assigns : (assigned : List (Option Cell)) (ranges : List Range) (v : Valuation) → Assigns assigned v (image assigned ranges v)
image_assigns assigned ranges v = record { each = λ i c at. ap (λ (g : Option (Option Cell)). chosen g (slice_get ranges i) v) at ∙ go c (slice_get ranges i) }
  where
    go : (c : Cell) (r : Option Range) → chosen (Some (Some c)) r v ≡ value v c
    go c (Some r) = refl
    go c None = refl

image_fits : (assigned : List (Option Cell)) (mine theirs : List Range) (v : Valuation) → RangesWithin assigned mine theirs → Fits mine v → Fits theirs (image assigned theirs v)
image_fits assigned mine theirs v h fits = record {
  each = λ i r at.
      let (given, is, within) = h.each i r at in
      let e : image assigned theirs v i ≡ image_of given r v = ap (λ (g : Option (Option Cell)). chosen g (slice_get theirs i) v) is ∙ ap (λ (q : Option Range). chosen (Some given) q v) at in
      subst (IsWithin r) (sym e) (within.within v fits);
}

lists_agree : (assigned : List (Option Cell)) (ranges : List Range) (mine theirs : List Cell) (v w : Valuation) → Fits ranges v → Assigns assigned v w → length mine ≡ length theirs → ((k : ℕ) (d : Cell) → k < length mine → Agrees assigned ranges (get_or mine k d) (get_or theirs k d)) → values w theirs ≡ values v mine
lists_agree assigned ranges [] [] v w fits a n h = refl
lists_agree assigned ranges [] (y ∷ ys) v w fits a n h = absurd (omega arith)
lists_agree assigned ranges (x ∷ xs) [] v w fits a n h = absurd (omega arith)
lists_agree assigned ranges (x ∷ xs) (y ∷ ys) v w fits a n h =
    ap (λ (z : ℤ). z ∷ values w ys) ((h 0 x (omega arith)).agrees v w fits a) ∙ ap (λ (l : List ℤ). value v x ∷ l) (lists_agree assigned ranges xs ys v w fits a (omega arith) (λ k d lt. h (suc k) d (omega arith)))

map_reverse : {A B : Type 0} (f : A → B) (xs : List A) → map f (reverse xs) ≡ reverse (map f xs)
map_reverse f [] = refl
map_reverse {A} {B} f (x ∷ xs) =
    ap (map f) (reverse-append (x ∷ []) xs) ∙ map-append f (reverse xs) (x ∷ []) ∙ ap (λ (l : List B). l ++ f x ∷ []) (map_reverse f xs) ∙ sym (reverse-append (f x ∷ []) (map f xs))

stack_agrees : (assigned : List (Option Cell)) (ranges : List Range) (mine theirs : List Cell) (v w : Valuation) → Fits ranges v → Assigns assigned v w → AgreeAll assigned ranges (reverse mine) (reverse theirs) → values v mine ≡ values w theirs
stack_agrees assigned ranges mine theirs v w fits a h =
    let e : values w (reverse theirs) ≡ values v (reverse mine) = lists_agree assigned ranges (reverse mine) (reverse theirs) v w fits a h.depth h.agree in
    let f : reverse (values w theirs) ≡ reverse (values v mine) = sym (map_reverse (value w) theirs) ∙ e ∙ map_reverse (value v) mine in
    sym (reverse-reverse (values v mine)) ∙ ap reverse (sym f) ∙ reverse-reverse (values w theirs)

area_agrees : (assigned : List (Option Cell)) (ranges : List Range) (mine theirs : List (ℕ × Cell)) (v w : Valuation) (area : ℕ → ℤ) → Fits ranges v → Assigns assigned v w → AgreeEntries assigned ranges mine theirs → ShowsArea v mine area → ShowsArea w theirs area
area_agrees assigned ranges mine theirs v w area fits a h s = record { listed_is = λ i c at. let (d, is, agrees) = h.agree i c at in s.listed_is i d is ∙ sym (agrees.agrees v w fits a); are_numbers = s.are_numbers }

-- what frames have to be, by a call
abbrev shape : Valuation → OpenCall → ℕ × ℕ × ℤ
shape v c = (c.body, c.call, value v c.left)

calls_agree : (assigned : List (Option Cell)) (ranges : List Range) (mine theirs : List OpenCall) (v w : Valuation) → Fits ranges v → Assigns assigned v w → length mine ≡ length theirs → ((k : ℕ) (d : OpenCall) → k < length mine → AgreeCall assigned ranges (get_or mine k d) (get_or theirs k d)) → map (shape w) theirs ≡ map (shape v) mine
calls_agree assigned ranges [] [] v w fits a n h = refl
calls_agree assigned ranges [] (y ∷ ys) v w fits a n h = absurd (omega arith)
calls_agree assigned ranges (x ∷ xs) [] v w fits a n h = absurd (omega arith)
calls_agree assigned ranges (x ∷ xs) (y ∷ ys) v w fits a n h =
    let first = h 0 x (omega arith) in
    let same : shape w y ≡ shape v x = λ i. (sym first.body i, sym first.call i, first.left.agrees v w fits a i) in
    ap (λ (z : ℕ × ℕ × ℤ). z ∷ map (shape w) ys) same ∙ ap (λ (l : List (ℕ × ℕ × ℤ)). shape v x ∷ l) (calls_agree assigned ranges xs ys v w fits a (omega arith) (λ k d lt. h (suc k) d (omega arith)))

shapes_show : (v w : Valuation) (cs ds : List OpenCall) (fs : List Frame) → map (shape w) ds ≡ map (shape v) cs → ShowsCalls v cs fs → ShowsCalls w ds fs
shapes_show v w cs [] fs e none = none
shapes_show v w cs (d ∷ ds) fs e none = absurd (cc)
shapes_show v w cs [] fs e (more c calls f frames h hs) = absurd (cc)
shapes_show v w cs (d ∷ ds) fs e (more c calls f frames h hs) =
    let one : shape w d ≡ shape v c = cc in
    let two : map (shape w) ds ≡ map (shape v) calls = cc in
    more d ds f frames (record {
      body_is = h.body_is ∙ sym (ap (λ (z : ℕ × ℕ × ℤ). z.0) one);
      call_is = h.call_is ∙ sym (ap (λ (z : ℕ × ℕ × ℤ). z.1) one);
      left_is = h.left_is ∙ sym (ap (λ (z : ℕ × ℕ × ℤ). z.2) one);
    }) (shapes_show v w calls ds frames two hs)

calls_show : (assigned : List (Option Cell)) (ranges : List Range) (mine theirs : List OpenCall) (v w : Valuation) (fs : List Frame) → Fits ranges v → Assigns assigned v w → AgreeCalls assigned ranges mine theirs → ShowsCalls v (reverse mine) fs → ShowsCalls w (reverse theirs) fs
calls_show assigned ranges mine theirs v w fs fits a h s =
    let e = calls_agree assigned ranges mine theirs v w fits a h.depth h.agree in
    shapes_show v w (reverse mine) (reverse theirs) fs (map_reverse (shape w) theirs ∙ ap reverse e ∙ sym (map_reverse (shape v) mine)) s

pub covers_is : (assigned : List (Option Cell)) (mine theirs : State) → AgreeStates assigned mine.ranges.items mine theirs → RangesWithin assigned mine.ranges.items theirs.ranges.items → Covers mine theirs
covers_is assigned mine theirs h r = record {
  covers = λ m controls shown.
      let v = shown.valuation in
      let fits = shown.fits in
      let s = shown.shows in
      let w = image assigned theirs.ranges.items v in
      let a = image_assigns assigned theirs.ranges.items v in
      record {
        valuation = w;
        fits = image_fits assigned mine.ranges.items theirs.ranges.items v r fits;
        shows = record {
          calls = calls_show assigned mine.ranges.items mine.calls.items theirs.calls.items v w m.frames fits a h.calls s.calls;
          stack = s.stack ∙ stack_agrees assigned mine.ranges.items mine.stack theirs.stack v w fits a h.stack;
          graphics = s.graphics ∙ λ i. record {
            rp0 = sym (h.graphics.rp0.agrees v w fits a) i;
            rp1 = sym (h.graphics.rp1.agrees v w fits a) i;
            rp2 = sym (h.graphics.rp2.agrees v w fits a) i;
            zp0 = zone_number (h.graphics.zp0 i);
            zp1 = zone_number (h.graphics.zp1 i);
            zp2 = zone_number (h.graphics.zp2 i);
            loop_number = sym (h.graphics.loop_number.agrees v w fits a) i;
          };
          storage = area_agrees assigned mine.ranges.items mine.storage theirs.storage v w m.registers.storage fits a h.storage s.storage;
          controls_are = area_agrees assigned mine.ranges.items mine.controls theirs.controls v w controls fits a h.controls_are s.controls_are;
          functions = λ n body e. s.functions n body (h.functions n body e);
        };
        offset_is = shown.offset_is ∙ h.offset;
      };
}
