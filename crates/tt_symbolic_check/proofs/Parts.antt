-- The parts of a state, and the state in which a program starts.
use Rattle.std.proofs.Common.{◌≡◌, ℕ, ◌<◌, ℤ, pos, ◌≤ℤ◌, ◌<ℤ◌, List, [], reverse, Some, set, slice_get, get_or, length, refl, sym, ◌∙◌, ap, subst, arith, inl, inr}
use Rattle.std.proofs.lemmas.Bool.{cases_eq}
use Rattle.std.proofs.lemmas.Option.{slice_get_within, slice_get-get_or, get_or_from_slice_get}
use Rattle.std.proofs.lemmas.List.{get_or-set_same, get_or-set_other, length-set}
use Rattle.tt_symbolic_state.specs.declared.cell.Range.{Range}
use Rattle.tt_symbolic_state.specs.Values.{Fits, IsWithin, Valuation, value}
use Rattle.tt_symbolic_state.specs.declared.state.State.{State}
use Rattle.tt_symbolic_state.specs.declared.state.Zone.TheVariants as zone
use Rattle.tt_symbolic_state.specs.Shows.{IsShown, ShowsArea, ShowsCalls, none, zone_number}
use Rattle.tt_symbolic_state.specs.declared.cell.Cell.{Cell}
use Rattle.tt_symbolic_state.specs.declared.state.OpenCall.{OpenCall}
use Rattle.tt_code.specs.Runs.{IsFresh}
use Rattle.tt_symbolic_state.specs.CvtMachine.{CvtMachine}
use Rattle.tt_symbolic_check.specs.Starts.{IsAfter, IsStartState, ShowsAfter, StartsAs}
use Rattle.tt_symbolic_check.specs.declared.start.Start.{Start}
use Rattle.tt_setting.specs.Functions.{CoversFunctions}
use Rattle.tt_symbolic_check.specs.Copying.{IsLower, IsUpper}
use Rattle.tt_symbolic_check.specs.declared.copying.Split.{Split}

set_fits : (ranges : List Range) (s : ℕ) (r : Range) (v : Valuation) → s < length ranges → Fits ranges v → IsWithin r (v s) → Fits (set ranges s r) v
set_fits ranges s r v lt fits within = record { each = λ i q at. elim (cases_eq i s) [ inl e ↦ here i q at e | inr n ↦ there i q at n ] }
  where
    at_end : (i : ℕ) (q : Range) → slice_get (set ranges s r) i ≡ Some q → get_or (set ranges s r) i q ≡ q
    at_end i q at = get_or_from_slice_get (set ranges s r) i q q at

    here : (i : ℕ) (q : Range) → slice_get (set ranges s r) i ≡ Some q → i ≡ s → IsWithin q (v i)
    here i q at e =
        let is : q ≡ r = sym (at_end i q at) ∙ ap (λ (k : ℕ). get_or (set ranges s r) k q) e ∙ get_or-set_same ranges s r q lt in
        rw (is, e) within

    there : (i : ℕ) (q : Range) → slice_get (set ranges s r) i ≡ Some q → (i ≡ s → ⊥) → IsWithin q (v i)
    there i q at n =
        let within' : i < length (set ranges s r) = slice_get_within (set ranges s r) i q at in
        let l = length-set ranges s r in
        let is : get_or ranges i q ≡ q = sym (get_or-set_other ranges s i r q n) ∙ at_end i q at in
        fits.each i q (slice_get-get_or ranges i q (omega arith) ∙ ap Some is)

pub lower_is : (split : Split) (old new : State) (r q : Range) → new ≡ record old { ranges = new.ranges } → new.ranges.items ≡ set old.ranges.items split.symbol q → split.symbol < length old.ranges.items
    → r ≡ get_or old.ranges.items split.symbol r → ((z : ℤ) → IsWithin r z → z ≤ℤ split.last → IsWithin q z) → IsLower split old new
lower_is split old new r q same is lt at h = record {
  same = same;
  fits = λ v fits low.
      subst (λ (l : List Range). Fits l v) (sym is) (set_fits old.ranges.items split.symbol q v lt fits (h (v split.symbol) (fits.each split.symbol r (slice_get-get_or old.ranges.items split.symbol r lt ∙ ap Some (sym at))) low));
}

pub upper_is : (split : Split) (old new : State) (r q : Range) → new ≡ record old { ranges = new.ranges } → new.ranges.items ≡ set old.ranges.items split.symbol q → split.symbol < length old.ranges.items
    → r ≡ get_or old.ranges.items split.symbol r → ((z : ℤ) → IsWithin r z → split.last <ℤ z → IsWithin q z) → IsUpper split old new
upper_is split old new r q same is lt at h = record {
  same = same;
  fits = λ v fits low.
      subst (λ (l : List Range). Fits l v) (sym is) (set_fits old.ranges.items split.symbol q v lt fits (h (v split.symbol) (fits.each split.symbol r (slice_get-get_or old.ranges.items split.symbol r lt ∙ ap Some (sym at))) low));
}

pub start_is : (start : Start) (a : State) → a.offset ≡ 0 → a.calls.items ≡ [] → a.stack ≡ [] → a.storage ≡ start.storage → a.controls ≡ start.controls → a.functions ≡ start.functions → a.ranges.items ≡ start.ranges.items
    → ((v : Valuation) → value v a.graphics.rp0 ≡ pos 0) → ((v : Valuation) → value v a.graphics.rp1 ≡ pos 0) → ((v : Valuation) → value v a.graphics.rp2 ≡ pos 0) → ((v : Valuation) → value v a.graphics.loop_number ≡ pos 1)
    → a.graphics.zp0 ≡ zone.One → a.graphics.zp1 ≡ zone.One → a.graphics.zp2 ≡ zone.One → IsStartState start a
start_is start a offset calls stack storage controls fs ranges r0 r1 r2 l z0 z1 z2 = record {
  shows = λ m h.
      let v = h.valuation in
      record {
        valuation = v;
        fits = subst (λ (rs : List Range). Fits rs v) (sym ranges) h.fits;
        shows = record {
          calls = subst (λ (cs : List OpenCall). ShowsCalls v (reverse cs) m.machine.frames) (sym calls) (subst (ShowsCalls v []) (sym h.fresh.no_frames) none);
          stack = h.fresh.empty_stack ∙ rw stack refl;
          graphics = h.fresh.default ∙ λ i. record {
            rp0 = sym (r0 v) i;
            rp1 = sym (r1 v) i;
            rp2 = sym (r2 v) i;
            zp0 = zone_number (sym z0 i);
            zp1 = zone_number (sym z1 i);
            zp2 = zone_number (sym z2 i);
            loop_number = sym (l v) i;
          };
          storage = subst (λ (es : List (ℕ × Cell)). ShowsArea v es m.machine.registers.storage) (sym storage) h.storage;
          controls_are = subst (λ (es : List (ℕ × Cell)). ShowsArea v es m.controls) (sym controls) h.controls_are;
          functions = subst (λ (es : List (ℕ × ℕ)). CoversFunctions es m.machine.functions) (sym fs) h.functions;
        };
        offset_is = h.fresh.at_first_byte ∙ sym offset;
      };
}

pub after_is : (end : State) (start : Start) → start.storage ≡ end.storage → start.controls ≡ end.controls → start.functions ≡ end.functions → start.ranges.items ≡ end.ranges.items → ShowsAfter end start
after_is end start storage controls functions ranges m n shown s =
    let v = shown.valuation in
    let h = shown.shows in
    record {
      fresh = s.fresh;
      valuation = v;
      fits = subst (λ (rs : List Range). Fits rs v) (sym ranges) shown.fits;
      storage = subst (λ (es : List (ℕ × Cell)). ShowsArea v es n.machine.registers.storage) (sym storage) (subst (ShowsArea v end.storage) (sym s.storage) h.storage);
      controls_are = subst (λ (es : List (ℕ × Cell)). ShowsArea v es n.controls) (sym controls) (subst (ShowsArea v end.controls) (sym s.controls_are) h.controls_are);
      functions = subst (λ (es : List (ℕ × ℕ)). CoversFunctions es n.machine.functions) (sym functions) (subst (CoversFunctions end.functions) (sym s.functions) h.functions);
    }

pub as_start : (a : State) (start : Start) (m : CvtMachine) → IsAfter a start → IsFresh m.machine → IsShown a m.machine m.controls → StartsAs start m
as_start a start m parts fresh shown = after_is a start parts.storage parts.controls_are parts.functions parts.ranges m m shown (record { fresh = fresh; storage = refl; controls_are = refl; functions = refl })
