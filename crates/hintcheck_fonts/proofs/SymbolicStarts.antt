-- The start of glyph programs of which only functions are known.
use Rattle.std.proofs.Common.{◌≡◌, ℕ, zero, suc, ℤ, List, [], ◌∷◌, Some, subst, sym}
use Rattle.std.specs.Prelude.{slice_get}
use Rattle.tt_code.specs.Control.{body_named}
use Rattle.tt_code.specs.States.{IsNumber}
use Rattle.tt_symbolic_state.specs.CvtMachine.{CvtMachine}
use Rattle.tt_symbolic_state.specs.Shows.{IsShown}
use Rattle.tt_symbolic_state.specs.declared.state.State.{State}
use Rattle.tt_symbolic_check.specs.Starts.{StartsFrom}
use Rattle.tt_symbolic_check.specs.declared.start.Start.{Start}
use Rattle.hintcheck_fonts.specs.SymbolicEnds.{IsWithin, StartGlyphs, StartsKnowing, StartsThen}
use Rattle.hintcheck_fonts.specs.declared.ends.Ends.{Ends}
use Rattle.hintcheck_fonts.specs.declared.glyph_starts.GlyphStarts.{GlyphStarts}
use Rattle.hintcheck_fonts.proofs.Following.{from_one, start_knows}

knowing : (end : State) (functions : List (ℕ × ℕ)) (m n : CvtMachine) → IsShown end m.machine m.controls → StartsThen functions m n → StartsKnowing functions n
knowing end functions m n shown next = record {
  fresh = next.fresh;
  controls = λ i. subst (λ (z : ℤ). IsNumber z) (sym (next.controls i)) (shown.shows.controls_are.are_numbers i);
  known = next.known;
}

pub unknown_follows : (ends : Ends) (start : Start) (g : GlyphStarts) → start.storage ≡ [] → start.controls ≡ [] → start.functions ≡ ends.functions → start.ranges.items ≡ []
    → g.starts.items ≡ start ∷ [] → StartGlyphs ends g
unknown_follows ends start g storage controls functions ranges one = record {
  followed = λ i a at. record {
    followed = λ m n shown next.
        subst (λ (l : List Start). StartsFrom l n) (sym one) (from_one start n (start_knows start ends.functions storage controls functions ranges n (knowing a ends.functions m n shown next)));
  };
  within = λ i other at.
      only i other (subst (λ (l : List Start). slice_get l i ≡ Some other) one at);
}
  where
    is_within : IsWithin ends.functions g.storage.items g.controls.items start
    is_within = record {
      storage_is = record { among = λ k c e. absurd cc };
      controls_are = record { among = λ k c e. absurd cc };
      functions_are = λ n body e. subst (λ (fs : List (ℕ × ℕ)). body_named fs n ≡ Some body) functions e;
    }

    only : (i : ℕ) (other : Start) → slice_get (start ∷ []) i ≡ Some other → IsWithin ends.functions g.storage.items g.controls.items other
    only zero other e = subst (λ (x : Start). IsWithin ends.functions g.storage.items g.controls.items x) (cc) is_within
    only (suc i) other e = absurd cc
