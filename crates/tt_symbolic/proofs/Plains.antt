-- Plain lines on a state.
use Rattle.std.proofs.Common.{◌≡◌, ℕ, zero, suc, ℤ, pos, negsuc, List, [], ◌∷◌, ◌++◌, Ok, Err, Bool, true, false, refl, sym, ◌∙◌, ap, subst, arith, length, take, drop}
use Rattle.std.proofs.lemmas.Int.{ints}
use Rattle.std.proofs.lemmas.List.{length-map, take-append-drop, append_cancel_right, append_assoc, drop-map}
use Rattle.tt_code.specs.Refusals.{Tested, ◌>>=◌, holds_or}
use Rattle.tt_code.specs.Table.{Lists}
use Rattle.tt_code.specs.Settings.{Setting, ZoneNumber}
use Rattle.tt_code.specs.States.{Machine, IsNumber}
use Rattle.tt_code.specs.Operands.{Taking, take_operand, take_operands, test_uses, then_take, take_one, tested, times, counted, count_of, pair, pairs}
use Rattle.tt_code.specs.Changes.{all_updated, numbers as numbers_of, natural, value_pushed, plain, taken_at, values_pushed}
use Rattle.tt_code.specs.Runs.{value as number_of}
use Rattle.tt_code.specs.declared.machine.Graphics.{Graphics}
use Rattle.tt_code.specs.declared.reason.Reason.{Reason}
use Rattle.tt_code.specs.declared.kinds.Operand.{Operand}
use Rattle.tt_code.specs.declared.kinds.Operand.TheVariants as operand
use Rattle.tt_code.specs.declared.kinds.Update.{Update}
use Rattle.tt_code.specs.declared.kinds.Pushed.{Pushed}
use Rattle.tt_code.specs.declared.kinds.Pushed.TheVariants as pushed
use Rattle.tt_symbolic_state.specs.declared.cell.Cell.{Cell}
use Rattle.tt_symbolic_state.specs.declared.cell.Range.{Range}
use Rattle.tt_symbolic_state.specs.Values.{Fits, IsWithin, Valuation, value}
use Rattle.tt_symbolic_state.specs.declared.state.State.{State}
use Rattle.tt_symbolic_state.specs.Shows.{IsFresh, Shows, ShowsArea, values, graphics_of}
use Rattle.tt_symbolic.specs.Representation.Changing.{ChangesAll}
use Rattle.tt_symbolic.specs.Representation.Plain.{Cuts, Finishes, IsAny, IsControlAt, IsStoredAt, ListsControl, ListsStored, line_leaves}
use Rattle.tt_symbolic.specs.Sound.{Pushes, Puts, Works, keeps_controls}
use Rattle.tt_symbolic_cells.specs.Taking.{Leaves}
use Rattle.tt_setting.specs.Entries.{with_entry}
use Rattle.tt_code.specs.Changes.{with_stored}
use Rattle.tt_symbolic.proofs.AreaFacts.{area_put, split_at, stored_is, stored_other}
use Rattle.tt_symbolic.proofs.Works.{puts_fresh, with_ranges, same_controls, same_offset, same_ranges, shows_stack}

-- What the machine takes is taken from the stack: what is taken and what is left are the stack again.

abbrev Splits : List ℤ → Tested (Taking ℤ) → Type 0
Splits S (Ok t) = t.0 ++ t.1 ≡ S
Splits S (Err r) = Unit {0}

then_splits : (S : List ℤ) (first : Tested (Taking ℤ)) (second : List ℤ → Tested (Taking ℤ)) → Splits S first → ((l : List ℤ) → Splits l (second l)) → Splits S (then_take first second)
then_splits S (Err r) second h k = tt
then_splits S (Ok t) second h k = go (second t.1) (k t.1)
  where
    go : (r : Tested (Taking ℤ)) → Splits t.1 r → Splits S (r >>= (λ b. Ok (t.0 ++ b.0, b.1)))
    go (Err n) w = tt
    go (Ok u) w = append_assoc t.0 u.0 u.1 ∙ ap (λ l. t.0 ++ l) w ∙ h

one_splits : (S : List ℤ) → Splits S (take_one S)
one_splits [] = tt
one_splits (z ∷ S) = refl

tested_splits : (passes : ℤ → Bool) (r : Reason) (S : List ℤ) → Splits S (tested passes r S)
tested_splits passes r [] = tt
tested_splits passes r (z ∷ S) = go (passes z)
  where
    go : (b : Bool) → Splits (z ∷ S) (holds_or b r >>= (λ ok. Ok (z ∷ [], S)))
    go true = refl
    go false = tt

times_splits : (n : ℕ) (one : List ℤ → Tested (Taking ℤ)) → ((l : List ℤ) → Splits l (one l)) → (S : List ℤ) → Splits S (times n one S)
times_splits zero one h S = refl
times_splits (suc n) one h S = then_splits S (one S) (times n one) (h S) (times_splits n one h)

counted_splits : (c : Tested ℕ) (one : List ℤ → Tested (Taking ℤ)) → ((l : List ℤ) → Splits l (one l)) → (S : List ℤ) → Splits S (counted c one S)
counted_splits (Err r) one h S = tt
counted_splits (Ok n) one h S = times_splits n one h S

pair_splits : (one : List ℤ → Tested (Taking ℤ)) → ((l : List ℤ) → Splits l (one l)) → (S : List ℤ) → Splits S (pair one S)
pair_splits one h S = then_splits S (one S) take_one (h S) one_splits

pairs_splits : (one : List ℤ → Tested (Taking ℤ)) → ((l : List ℤ) → Splits l (one l)) → (S : List ℤ) → Splits S (pairs count_of one S)
pairs_splits one h [] = tt
pairs_splits one h (z ∷ S) = then_splits (z ∷ S) (Ok (z ∷ [], S)) (counted (count_of z) (pair one)) refl (counted_splits (count_of z) (pair one) (pair_splits one h))

operand_splits : (s : Setting) (g : Graphics ℤ ZoneNumber) (o : Operand) (S : List ℤ) → Splits S (take_operand s g o S)
operand_splits s g operand.Number S = one_splits S
operand_splits s g (operand.Point within) S = tested_splits _ _ S
operand_splits s g operand.Cvt S = tested_splits _ _ S
operand_splits s g operand.Storage S = tested_splits _ _ S
operand_splits s g operand.Zone S = tested_splits _ _ S
operand_splits s g operand.Contour S = tested_splits _ _ S
operand_splits s g (operand.LoopPoints within) S = counted_splits (count_of g.loop_number) _ (tested_splits _ _) S
operand_splits s g (operand.PointPairs within) S = pairs_splits _ (tested_splits _ _) S
operand_splits s g operand.CvtPairs S = pairs_splits _ (tested_splits _ _) S

operands_split : (s : Setting) (g : Graphics ℤ ZoneNumber) (os : List Operand) (S : List ℤ) → Splits S (take_operands s g os S)
operands_split s g [] S = refl
operands_split s g (o ∷ os) S = then_splits S (take_operand s g o S) (take_operands s g os) (operand_splits s g o S) (operands_split s g os)

front_is : (S front : List ℤ) (n : ℕ) → front ++ drop n S ≡ S → front ≡ take n S
front_is S front n e = append_cancel_right front (take n S) (drop n S) (e ∙ sym (take-append-drop n S))

pub taken_front : (s : Setting) (g : Graphics ℤ ZoneNumber) (os : List Operand) (S : List ℤ) (n : ℕ) → Leaves (take_operands s g os S) (drop n S) → take_operands s g os S ≡ Ok (take n S, drop n S)
taken_front s g os S n h =
    let e : h.front ++ drop n S ≡ S = subst (Splits S) h.leaves (operands_split s g os S) in
    h.leaves ∙ ap (λ (f : List ℤ). Ok (f, drop n S)) (front_is S h.front n e)

pub plain_works : (s : Setting) (line : Lists) (old new : State) (n : ℕ) → ((v : Valuation) → Fits old.ranges.items v → Leaves (take_operands s (graphics_of v old.graphics) line.operands (values v old.stack)) (drop n (values v old.stack)))
    → ((v : Valuation) → Fits old.ranges.items v → test_uses s (graphics_of v old.graphics) line.uses ≡ Ok tt) → Finishes n line.updates line.pushes old new → Works (λ m. plain s m line) keeps_controls old new
plain_works s line old new n takes tests f = record {
  stays = f.stays;
  works = λ v m controls fits h.
      let t : take_operands s m.registers.graphics line.operands m.stack ≡ Ok (take n (values v old.stack), drop n (values v old.stack)) =
      rw (h.graphics, h.stack) (taken_front s (graphics_of v old.graphics) line.operands (values v old.stack) n (takes v fits)) in
      let u : test_uses s m.registers.graphics line.uses ≡ Ok tt = rw h.graphics (tests v fits) in
      record {
        after = line_leaves m (take n (values v old.stack)) (drop n (values v old.stack)) line.updates line.pushes;
        goes = rw (t, u) refl;
        deep = let a = drop-map (value v) n old.stack in let b : length (drop n (values v old.stack)) ≡ length (drop n old.stack) = ap length a ∙ length-map (drop n old.stack) (value v) in
            let c = pushes_length (take n (values v old.stack)) m.registers.storage line.pushes in let d = f.deep in omega arith;
        into = λ choices controls' numbers keeps.
            let w = f.finishes v m controls fits h choices numbers in
            record { valuation = w.valuation; fits = w.fits; shows = same_controls w.valuation new _ controls controls' keeps w.shows };
      };
}
  where
    pushes_length : (t : List ℤ) (area : ℕ → ℤ) (ps : List Pushed) → length (values_pushed t area ps) ≡ length ps
    pushes_length t area [] = refl
    pushes_length t area (p ∷ ps) = ap suc (pushes_length t area ps)

-- The number that is put on top.

pub full_within : (z : ℤ) → IsNumber z → IsWithin (record { low = negsuc 2147483647; high = pos 2147483647 }) z
full_within z h = (omega (arith, ints), omega (arith, ints))

pub any_put : (old middle new : State) (cell : Cell) → IsFresh old middle (record { low = negsuc 2147483647; high = pos 2147483647 }) cell → Pushes middle new cell → Puts IsAny old new
any_put old middle new cell f p = puts_fresh IsAny old middle new _ cell (λ v m controls z fits s number. full_within z number) f p

-- The operands are gone.

pub cut_shows : (v : Valuation) (n : ℕ) (old new : State) (m : Machine) (controls : ℕ → ℤ) → Cuts n old new → Shows v old m controls → Shows v new (record m { stack = drop n (values v old.stack) }) controls
cut_shows v n old new m controls c h = shows_stack v old new m (drop n (values v old.stack)) controls c.same (drop-map (value v) n old.stack ∙ ap (values v) (sym c.stack)) h

pub cut_fits : (v : Valuation) (n : ℕ) (old new : State) → Cuts n old new → Fits old.ranges.items v → Fits new.ranges.items v
cut_fits v n old new c fits = same_ranges v old new c.same fits

pub finishes_changes : (n : ℕ) (updates : List Update) (old middle new : State) → ChangesAll n updates old middle → Cuts n middle new → Finishes n updates [] old new
finishes_changes n updates old middle new h c = record {
  stays = same_offset middle new c.same ∙ h.stays;
  finishes = λ v m controls fits s choices numbers.
      let there = cut_shows v n middle new (record m { registers = all_updated numbers_of (take n (values v old.stack)) updates m.registers }) controls c (h.shows v m controls fits s) in
      record {
        valuation = v;
        fits = cut_fits v n middle new c (subst (λ (a : List Range). Fits a v) (sym h.ranges) fits);
        shows = subst (λ (l : List Cell). Shows v new (record m { registers = all_updated numbers_of (take n (values v old.stack)) updates m.registers; stack = drop n (values v l) }) controls) h.stack there;
      };
  deep = let e = ap (λ (l : List Cell). length (drop n l)) h.stack in let f = ap length c.stack in omega arith;
}

pub finishes_one : (These : Valuation → Machine → (ℕ → ℤ) → ℤ → Type 0) (n : ℕ) (p : Pushed) (old low new : State) → Cuts n old low → Puts These low new
    → ((v : Valuation) (m : Machine) (controls : ℕ → ℤ) → Fits old.ranges.items v → Shows v old m controls → (choice : ℤ) → IsNumber choice
    → These v (record m { stack = drop n (values v old.stack) }) controls (number_of (value_pushed (take n (values v old.stack)) m.registers.storage p) choice))
    → Finishes n [] (p ∷ []) old new
finishes_one These n p old low new c h these = record {
  stays = h.stays ∙ same_offset old low c.same;
  finishes = λ v m controls fits s choices numbers.
      let w = h.puts v (record m { stack = drop n (values v old.stack) }) controls (cut_fits v n old low c fits) (cut_shows v n old low m controls c s)
      (number_of (value_pushed (take n (values v old.stack)) m.registers.storage p) (choices 0)) (these v m controls fits s (choices 0) (numbers 0)) in
      record { valuation = w.valuation; fits = w.fits; shows = w.shows };
  deep = let f = ap length c.stack in let d = h.deeper in omega arith;
}

pub finishes_two : (n : ℕ) (old low middle new : State) → Cuts n old low → Puts IsAny low middle → Puts IsAny middle new → Finishes n [] (pushed.Any ∷ pushed.Any ∷ []) old new
finishes_two n old low middle new c h k = record {
  stays = k.stays ∙ h.stays ∙ same_offset old low c.same;
  finishes = λ v m controls fits s choices numbers.
      let w = h.puts v (record m { stack = drop n (values v old.stack) }) controls (cut_fits v n old low c fits) (cut_shows v n old low m controls c s) (choices 0) (numbers 0) in
      let u = k.puts w.valuation (record m { stack = choices 0 ∷ drop n (values v old.stack) }) controls w.fits w.shows (choices 1) (numbers 1) in
      record { valuation = u.valuation; fits = u.fits; shows = u.shows };
  deep = let f = ap length c.stack in let d = h.deeper in let e = k.deeper in omega arith;
}

pub finishes_any : (n : ℕ) (old low new : State) → Cuts n old low → Puts IsAny low new → Finishes n [] (pushed.Any ∷ []) old new
finishes_any n old low new c h = finishes_one IsAny n pushed.Any old low new c h (λ v m controls fits s choice number. number)

pub finishes_stored : (n i position : ℕ) (cell : Cell) (old low new : State) → ((v : Valuation) → taken_at (pos 1) (take n (values v old.stack)) position ≡ value v cell) → ((v : Valuation) → Fits old.ranges.items v → value v cell ≡ pos i)
    → Cuts n old low → Puts (IsStoredAt i) low new → Finishes n [] (pushed.Stored position ∷ []) old new
finishes_stored n i position cell old low new at index c h = finishes_one (IsStoredAt i) n (pushed.Stored position) old low new c h
    (λ v m controls fits s choice number. ap (λ (z : ℤ). m.registers.storage (natural z)) (at v ∙ index v fits))

pub finishes_stored_any : (n position : ℕ) (old low new : State) → Cuts n old low → Puts IsAny low new → Finishes n [] (pushed.Stored position ∷ []) old new
finishes_stored_any n position old low new c h = finishes_one IsAny n (pushed.Stored position) old low new c h (λ v m controls fits s choice number. s.storage.are_numbers _)

-- What was read of a memory entry is listed from then on.

listed_fits : (v : Valuation) (a b : State) → b ≡ record a { storage = b.storage } → Fits a.ranges.items v → Fits b.ranges.items v
listed_fits v a b same fits = let F : State → Type 0 = λ x. Fits x.ranges.items v in subst F (sym same) fits

list_area : (v : Valuation) (es new : List (ℕ × Cell)) (area : ℕ → ℤ) (i : ℕ) (cell : Cell) → new ≡ with_entry i cell es → area i ≡ value v cell → ShowsArea v es area → ShowsArea v new area
list_area v es new area i cell put is h = area_put v es new area area i cell (area i) put is (h.are_numbers i) (λ k. split_at k i (λ q. ap area q ∙ sym (stored_is i (area i) area) ∙ ap (with_stored i (area i) area) (sym q)) (λ q. sym (stored_other i (area i) area k q))) h

pub stored_put : (i : ℕ) (old low new : State) (cell : Cell) → ListsStored i old low cell → Pushes low new cell → Puts (IsStoredAt i) old new
stored_put i old low new cell l p = record {
  puts = λ v m controls fits h z is.
      let (w, fits', at, shows) = l.fresh.any v z fits (full_within z (subst IsNumber (sym is) (h.storage.are_numbers i))) in
      let M : State → Type 0 = λ a. Shows w a m controls in
      let there : Shows w l.middle m controls = subst M (sym l.fresh.same) (with_ranges w old l.middle m controls (shows m controls h)) in
      let S : State → Type 0 = λ a. ShowsArea w a.storage m.registers.storage → Shows w a m controls in
      let low_shows : Shows w low m controls = subst S (sym l.same) (λ area. record { calls = there.calls; stack = there.stack; graphics = there.graphics; storage = area; controls_are = there.controls_are; functions = there.functions })
      (list_area w l.middle.storage low.storage m.registers.storage i cell l.put (sym is ∙ sym at) there.storage) in
      record {
        valuation = w;
        fits = same_ranges w low new p.same (listed_fits w l.middle low l.same fits');
        shows = shows_stack w low new m (z ∷ m.stack) controls p.same (rw p.top (λ j. sym at j ∷ low_shows.stack j)) low_shows;
      };
  deeper = ap length p.top ∙ ap (λ (a : State). suc (length a.stack)) l.same ∙ ap (λ (a : State). suc (length a.stack)) l.fresh.same;
  stays = same_offset low new p.same ∙ ap (λ (a : State). a.offset) l.same ∙ ap (λ (a : State). a.offset) l.fresh.same;
}

control_fits : (v : Valuation) (a b : State) → b ≡ record a { controls = b.controls } → Fits a.ranges.items v → Fits b.ranges.items v
control_fits v a b same fits = let F : State → Type 0 = λ x. Fits x.ranges.items v in subst F (sym same) fits

pub control_put : (i : ℕ) (old low new : State) (cell : Cell) → ListsControl i old low cell → Pushes low new cell → Puts (IsControlAt i) old new
control_put i old low new cell l p = record {
  puts = λ v m controls fits h z is.
      let (w, fits', at, shows) = l.fresh.any v z fits (full_within z (subst IsNumber (sym is) (h.controls_are.are_numbers i))) in
      let M : State → Type 0 = λ a. Shows w a m controls in
      let there : Shows w l.middle m controls = subst M (sym l.fresh.same) (with_ranges w old l.middle m controls (shows m controls h)) in
      let S : State → Type 0 = λ a. ShowsArea w a.controls controls → Shows w a m controls in
      let low_shows : Shows w low m controls = subst S (sym l.same) (λ area. record { calls = there.calls; stack = there.stack; graphics = there.graphics; storage = there.storage; controls_are = area; functions = there.functions })
      (list_area w l.middle.controls low.controls controls i cell l.put (sym is ∙ sym at) there.controls_are) in
      record {
        valuation = w;
        fits = same_ranges w low new p.same (control_fits w l.middle low l.same fits');
        shows = shows_stack w low new m (z ∷ m.stack) controls p.same (rw p.top (λ j. sym at j ∷ low_shows.stack j)) low_shows;
      };
  deeper = ap length p.top ∙ ap (λ (a : State). suc (length a.stack)) l.same ∙ ap (λ (a : State). suc (length a.stack)) l.fresh.same;
  stays = same_offset low new p.same ∙ ap (λ (a : State). a.offset) l.same ∙ ap (λ (a : State). a.offset) l.fresh.same;
}
