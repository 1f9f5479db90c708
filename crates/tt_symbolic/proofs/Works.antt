-- What is done on a state, and the machines that it stands for.
use Rattle.std.proofs.Common.{◌≡◌, ℕ, suc, ℤ, List, ◌∷◌, refl, sym, ◌∙◌, ap, subst, length}
use Rattle.tt_code.specs.Refusals.{Tested}
use Rattle.tt_code.specs.States.{Machine, Outcome}
use Rattle.tt_code.specs.Runs.{goes_on, left_by, pushed_on}
use Rattle.tt_symbolic_state.specs.declared.cell.Cell.{Cell}
use Rattle.tt_symbolic_state.specs.declared.cell.Range.{Range}
use Rattle.tt_symbolic_state.specs.Values.{Fits, IsWithin, Valuation, value}
use Rattle.tt_symbolic_state.specs.declared.state.State.{State}
use Rattle.tt_symbolic_state.specs.CvtMachine.{SameControls}
use Rattle.tt_symbolic_state.specs.Shows.{IsFresh, Shows, values}
use Rattle.tt_symbolic_cells.specs.Stacking.{Restacks}
use Rattle.tt_symbolic.specs.Sound.{Allowing, Pops, Pushes, Puts, Sound, Works, keeps_controls}

-- the same state with another stack
pub shows_stack : (v : Valuation) (old new : State) (m : Machine) (stack : List ℤ) (controls : ℕ → ℤ) → new ≡ record old { stack = new.stack } → stack ≡ values v new.stack
    → Shows v old m controls → Shows v new (record m { stack = stack }) controls
shows_stack v old new m stack controls same is h =
    let S : State → Type 0 = λ a. stack ≡ values v a.stack → Shows v a (record m { stack = stack }) controls in
    subst S (sym same) (λ e. record { calls = h.calls; stack = e; graphics = h.graphics; storage = h.storage; controls_are = h.controls_are; functions = h.functions }) is

pub same_offset : (old new : State) → new ≡ record old { stack = new.stack } → new.offset ≡ old.offset
same_offset old new same = ap (λ (a : State). a.offset) same

pub same_ranges : (v : Valuation) (old new : State) → new ≡ record old { stack = new.stack } → Fits old.ranges.items v → Fits new.ranges.items v
same_ranges v old new same fits = let F : State → Type 0 = λ a. Fits a.ranges.items v in subst F (sym same) fits

pub same_controls : (v : Valuation) (a : State) (m : Machine) (old new : ℕ → ℤ) → SameControls old new → Shows v a m old → Shows v a m new
same_controls v a m old new same h =
    let e : new ≡ old = λ i k. same k i in subst (Shows v a m) (sym e) h

-- the machine after its top was taken
pub pops_shows : (v : Valuation) (old new : State) (cell : Cell) (m : Machine) (controls : ℕ → ℤ) → Pops old new cell → Shows v old m controls
    → (m.stack ≡ value v cell ∷ values v new.stack) × Shows v new (record m { stack = values v new.stack }) controls
pops_shows v old new cell m controls p h = (h.stack ∙ ap (values v) p.top, shows_stack v old new m (values v new.stack) controls p.same refl h)

pub pops_fits : (v : Valuation) (old new : State) (cell : Cell) → Pops old new cell → Fits old.ranges.items v → Fits new.ranges.items v
pops_fits v old new cell p fits = same_ranges v old new p.same fits

pub puts_cell : (These : Valuation → Machine → (ℕ → ℤ) → ℤ → Type 0) (old new : State) (cell : Cell)
    → ((v : Valuation) (m : Machine) (controls : ℕ → ℤ) (z : ℤ) → Fits old.ranges.items v → Shows v old m controls → These v m controls z → z ≡ value v cell)
    → Pushes old new cell → Puts These old new
puts_cell These old new cell is p = record {
  puts = λ v m controls fits h z these. record {
    valuation = v;
    fits = same_ranges v old new p.same fits;
    shows = shows_stack v old new m (z ∷ m.stack) controls p.same (rw p.top (λ i. is v m controls z fits h these i ∷ h.stack i)) h;
  };
  deeper = ap length p.top;
  stays = same_offset old new p.same;
}

pub with_ranges : (w : Valuation) (old middle : State) (m : Machine) (controls : ℕ → ℤ) → Shows w old m controls → Shows w (record old { ranges = middle.ranges }) m controls
with_ranges w old middle m controls h = record { calls = h.calls; stack = h.stack; graphics = h.graphics; storage = h.storage; controls_are = h.controls_are; functions = h.functions }

pub puts_fresh : (These : Valuation → Machine → (ℕ → ℤ) → ℤ → Type 0) (old middle new : State) (range : Range) (cell : Cell)
    → ((v : Valuation) (m : Machine) (controls : ℕ → ℤ) (z : ℤ) → Fits old.ranges.items v → Shows v old m controls → These v m controls z → IsWithin range z)
    → IsFresh old middle range cell → Pushes middle new cell → Puts These old new
puts_fresh These old middle new range cell within f p = record {
  puts = λ v m controls fits h z these.
      let (w, fits', is, shows) = f.any v z fits (within v m controls z fits h these) in
      let M : State → Type 0 = λ a. Shows w a m controls in
      let there : Shows w middle m controls = subst M (sym f.same) (with_ranges w old middle m controls (shows m controls h)) in
      record {
        valuation = w;
        fits = same_ranges w middle new p.same fits';
        shows = shows_stack w middle new m (z ∷ m.stack) controls p.same (rw p.top (λ i. sym is i ∷ there.stack i)) there;
      };
  deeper = ap length p.top ∙ ap (λ (a : State). suc (length a.stack)) f.same;
  stays = same_offset middle new p.same ∙ ap (λ (a : State). a.offset) f.same;
}

-- what is done on the stack alone
pub restacks_works : (does : Machine → Tested Outcome) (old new : State) → new ≡ record old { stack = new.stack } → Restacks does old.ranges.items old.stack new.stack → Works does keeps_controls old new
restacks_works does old new same h = record {
  stays = same_offset old new same;
  works = λ v m controls fits s.
      let (rest, pushes, is, all, deep) = h.restacks v m fits s.stack in
      record {
        after = record { after = record m { stack = rest }; pushes = pushes };
        goes = is;
        deep = deep;
        into = λ choices controls' numbers keeps. record {
          valuation = v;
          fits = same_ranges v old new same fits;
          shows = shows_stack v old new m (pushed_on pushes choices rest) controls' same (all choices) (same_controls v old m controls controls' keeps s);
        };
      };
}

-- the same state at another place
pub moves_shows : (v : Valuation) (old new : State) (m : Machine) (controls : ℕ → ℤ) (stack : List ℤ) (next : ℕ) → new ≡ record old { offset = new.offset } → stack ≡ m.stack → Shows v old m controls → Shows v new (record m { stack = stack; offset = next }) controls
moves_shows v old new m controls stack next same e h =
    let S : State → Type 0 = λ a. Shows v a (record m { stack = stack; offset = next }) controls in
    subst S (sym same) (record { calls = h.calls; stack = e ∙ h.stack; graphics = h.graphics; storage = h.storage; controls_are = h.controls_are; functions = h.functions })

pub moves_fits : (v : Valuation) (old new : State) → new ≡ record old { offset = new.offset } → Fits old.ranges.items v → Fits new.ranges.items v
moves_fits v old new same fits = let F : State → Type 0 = λ a. Fits a.ranges.items v in subst F (sym same) fits

-- what doesn't lead elsewhere goes on at the next instruction
pub works_sound : (does : Machine → Tested Outcome) (Allowed : Allowing) (old new : State) (next : ℕ) → Works does Allowed (record old { offset = next }) new → Sound (λ m. goes_on next (does m)) Allowed old new
works_sound does Allowed old new next h = record {
  sound = λ m controls a.
      let g = h.works a.valuation m controls a.fits (moves_shows a.valuation old (record old { offset = next }) m controls m.stack m.offset refl refl a.shows) in
      record {
        after = record g.after { after = record g.after.after { offset = next } };
        goes = rw g.goes refl;
        deep = g.deep;
        into = λ choices controls' numbers allowed.
            let s = g.into choices controls' numbers allowed in
            record { valuation = s.valuation; fits = s.fits; shows = moves_shows s.valuation new new (left_by g.after choices) controls' _ next refl refl s.shows; offset_is = sym h.stays };
      };
}
