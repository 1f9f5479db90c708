-- Any instruction that is followed: the outcome on cells stands for the machine's outcomes.
use Rattle.std.specs.Prelude.{ℤ, slice_get, ◌<◌, ◌^◌, Option}
use Rattle.std.proofs.Common.{◌≡◌, ℕ, suc, ◌+◌, List, [], ◌∷◌, Ok, Err, Some, None, refl, sym, ◌∙◌, ap, subst, length, true}
use Rattle.tt_code.specs.Refusals.{Tested, ◌>>=◌}
use Rattle.tt_code.specs.Table.{Meaning, NoEntry, Plain, Pushes, Stack, Computes, Controls, Lists, effect_of}
use Rattle.tt_code.specs.Cut.{Instruction}
use Rattle.tt_code.specs.Settings.{Setting}
use Rattle.tt_code.specs.States.{Machine, Outcome, Value}
use Rattle.tt_code.specs.Operands.{top, take_operands, test_uses}
use Rattle.tt_code.specs.Changes.{plain}
use Rattle.tt_code.specs.Computing.{element, pushed, shuffled, computed, of_one, of_two}
use Rattle.tt_code.specs.Runs.{does, within_depth, performs, fetched, outcome, Faults, Steps}
use Rattle.tt_code.specs.declared.machine.Frame.{Frame}
use Rattle.tt_code.specs.declared.reason.Reason.{Reason}
use Rattle.tt_code.specs.declared.reason.Reason.TheVariants as reason
use Rattle.tt_code.specs.declared.kinds.StackOp.{StackOp}
use Rattle.tt_code.specs.declared.kinds.StackOp.TheVariants.{Dup, Pop, Clear, Swap, Depth, CopyIndexed, MoveIndexed, Roll}
use Rattle.tt_code.specs.declared.kinds.Arithmetic.{Arithmetic}
use Rattle.tt_code.specs.declared.kinds.Arithmetic.TheVariants.{Add, Sub, Abs, Neg, Lt, LtEq, Gt, GtEq, Eq, Neq, And, Or, Not}
use Rattle.tt_abs.specs.Cells.{Abstract, CoversState}
use Rattle.tt_abs.specs.Ranges.{AreInRange}
use Rattle.tt_abs.specs.Covers.{Stands, Becomes, TransfersTo}
use Rattle.tt_abs.specs.Representation.Followed.{is_followed, is_followed_instruction}
use Rattle.tt_abs.specs.Transfers.{Next, plain_cells, pushed_cells, shuffled_cells, computed_cells, does_cells, performs_cells, outcome_on_cells}
use Rattle.tt_setting.specs.Settings.{instruction_of}
use Rattle.tt_abs.proofs.Rows.{is_readable_line}
use Rattle.tt_abs.proofs.PlainLemmas.{plain_stands}
use Rattle.tt_abs.proofs.TableRows.{rows_readable}
use Rattle.tt_abs.proofs.Pushes.{pushes_stand}
use Rattle.tt_abs.proofs.Shuffles.{shuffled_stands}
use Rattle.tt_abs.proofs.Computed.{computed_stands}
use Rattle.tt_abs.proofs.Ways.{transfers_to_as, behind_stands}
use Rattle.tt_abs.proofs.Depth.{depth_of_ways, AreBelow, monotone_ways}
use Rattle.tt_abs.proofs.Branches.{stands_there, fails_there, controlled_stands}

-- What doesn't lead elsewhere keeps the frames.

abbrev KeepsFrames : Machine → Tested Outcome → Type 0
KeepsFrames m t = (o : Outcome) → t ≡ Ok o → o.after.frames ≡ m.frames

keeps_after : {A : Type 0} (m : Machine) (t : Tested A) (f : A → Tested Outcome) → ((x : A) → KeepsFrames m (f x)) → KeepsFrames m (t >>= f)
keeps_after m (Ok x) f h = h x
keeps_after m (Err r) f h = λ o e. absurd (cc)

keeps_result : (m : Machine) (o : Outcome) → o.after.frames ≡ m.frames → KeepsFrames m (Ok o)
keeps_result m o h p e = let same : p ≡ o = cc in ap (λ x. x.after.frames) same ∙ h

plain_keeps : (s : Setting) (m : Machine) (line : Lists) → KeepsFrames m (plain s m line)
plain_keeps s m line =
    keeps_after m (take_operands s m.registers.graphics line.operands m.stack) _
    (λ t. keeps_after m (test_uses s m.registers.graphics line.uses) _ (λ ok. keeps_result m _ refl))

shuffled_keeps : (op : StackOp) (m : Machine) → KeepsFrames m (shuffled op m)
shuffled_keeps Dup m = keeps_after m (top m.stack) _ (λ t. keeps_result m _ refl)
shuffled_keeps Pop m = keeps_after m (top m.stack) _ (λ t. keeps_result m _ refl)
shuffled_keeps Clear m = keeps_result m _ refl
shuffled_keeps Swap m = keeps_after m (top m.stack) _ (λ t. keeps_after m (top t.1) _ (λ u. keeps_result m _ refl))
shuffled_keeps Depth m = keeps_result m _ refl
shuffled_keeps CopyIndexed m = keeps_after m (top m.stack) _ (λ t. keeps_after m (element t.0 t.1) _ (λ z. keeps_result m _ refl))
shuffled_keeps MoveIndexed m = keeps_after m (top m.stack) _ (λ t. keeps_after m (element t.0 t.1) _ (λ z. keeps_result m _ refl))
shuffled_keeps Roll m = keeps_after m (top m.stack) _ (λ t. keeps_after m (top t.1) _ (λ u. keeps_after m (top u.1) _ (λ v. keeps_result m _ refl)))

one_keeps : (m : Machine) (f : ℤ → Value) → KeepsFrames m (of_one m f)
one_keeps m f = keeps_after m (top m.stack) _ (λ t. keeps_result m _ refl)

two_keeps : (m : Machine) (f : ℤ → ℤ → Value) → KeepsFrames m (of_two m f)
two_keeps m f = keeps_after m (top m.stack) _ (λ t. keeps_after m (top t.1) _ (λ u. keeps_result m _ refl))

computed_keeps : (op : Arithmetic) (m : Machine) → KeepsFrames m (computed op m)
computed_keeps Add m = two_keeps m _
computed_keeps Sub m = two_keeps m _
computed_keeps Abs m = one_keeps m _
computed_keeps Neg m = one_keeps m _
computed_keeps Lt m = two_keeps m _
computed_keeps LtEq m = two_keeps m _
computed_keeps Gt m = two_keeps m _
computed_keeps GtEq m = two_keeps m _
computed_keeps Eq m = two_keeps m _
computed_keeps Neq m = two_keeps m _
computed_keeps And m = two_keeps m _
computed_keeps Or m = two_keeps m _
computed_keeps Not m = one_keeps m _

-- By what the code stands for, then the depth, then the instruction that is fetched.

module _ (s : Setting) (fs : List Frame) (at : ℕ) (a : Abstract) where
  pub does_stands : (w : Meaning) → is_followed w ≡ true → ((line : Lists) → w ≡ Plain line → is_readable_line line ≡ true) → at < 2 ^ 31 → AreInRange a.stack → (rest : List ℕ) (next : ℕ)
      → TransfersTo a fs at (λ m. does s m w rest next) (does_cells s fs at a w rest next)
  does_stands NoEntry followed readable small fits rest next = fails_there s fs at a (λ m. does s m NoEntry rest next) reason.Opcode reason.Opcode (λ m st. refl)
  does_stands (Plain line) followed readable small fits rest next =
      behind_stands a fs at (λ m. plain s m line) next (plain_cells s a line) (plain_stands s a fs at line (readable line refl)) (λ m st. plain_keeps s m line)
  does_stands (Pushes push) followed readable small fits rest next =
      behind_stands a fs at (λ m. Ok (pushed push m rest)) next (Ok (pushed_cells push a rest)) (pushes_stand a fs at push rest) (λ m st. keeps_result m (pushed push m rest) refl)
  does_stands (Stack op) followed readable small fits rest next =
      behind_stands a fs at (λ m. shuffled op m) next (shuffled_cells op a) (shuffled_stands a fs at op) (λ m st. shuffled_keeps op m)
  does_stands (Computes op) followed readable small fits rest next =
      behind_stands a fs at (λ m. computed op m) next (computed_cells op a) (computed_stands a fs at fits op) (λ m st. computed_keeps op m)
  does_stands (Controls c) followed readable small fits rest next = controlled_stands s fs at c followed small a

  pub performs_stands : (i : Option Instruction) → is_followed_instruction i ≡ true → at < 2 ^ 31 → AreInRange a.stack → TransfersTo a fs at (λ m. performs s m i) (performs_cells s fs at a i)
  performs_stands None followed small fits = fails_there s fs at a (λ m. performs s m None) reason.Target reason.Target (λ m st. refl)
  performs_stands (Some []) followed small fits = fails_there s fs at a (λ m. performs s m (Some [])) reason.Target reason.Target (λ m st. refl)
  performs_stands (Some (code ∷ rest)) followed small fits =
      transfers_to_as a fs at (λ m. does s m (effect_of code) rest (at + suc (length rest)) >>= within_depth s) (λ m. performs s m (Some (code ∷ rest))) (performs_cells s fs at a (Some (code ∷ rest)))
      (λ m st. ap (λ k. does s m (effect_of code) rest (k + suc (length rest)) >>= within_depth s) st.offset_is)
      (depth_of_ways s a fs at (λ m. does s m (effect_of code) rest (at + suc (length rest))) (does_cells s fs at a (effect_of code) rest (at + suc (length rest)))
      (does_stands (effect_of code) followed (rows_readable code) small fits rest (at + suc (length rest))))

  pub outcome_stands : is_followed_instruction (instruction_of s fs at) ≡ true → at < 2 ^ 31 → AreInRange a.stack → TransfersTo a fs at (outcome s) (outcome_on_cells s fs at a)
  unfolding outcome outcome_on_cells
  outcome_stands followed small fits =
      transfers_to_as a fs at (λ m. performs s m (instruction_of s fs at)) (λ m. performs s m (fetched s m)) (performs_cells s fs at a (instruction_of s fs at))
      (λ m st. ap (λ x. performs s m (fetched s x)) (stands_there s fs at a m st)) (performs_stands (instruction_of s fs at) followed small fits)

-- What follows of runs.

-- where the outcome on cells isn't refused, a covered machine doesn't fault
pub never_faults : (s : Setting) (fs : List Frame) (at : ℕ) (a : Abstract) (ns : List Next) → TransfersTo a fs at (outcome s) (Ok ns) → (m : Machine) (r : Reason) → Stands a fs at m → Faults s m r → ⊥
never_faults s fs at a ns h m r st f =
    let (o, e) = h.0 m st in
    let no_such : Ok o ≡ Err r = sym e ∙ f.fails in absurd (cc)

-- and what it becomes in a step is at one of the next places and is covered there
pub steps_are_covered : (s : Setting) (fs : List Frame) (at : ℕ) (a : Abstract) (ns : List Next) → TransfersTo a fs at (outcome s) (Ok ns) → (m new : Machine) → Stands a fs at m → Steps s m new
    → (i : ℕ) × (n : Next) × (slice_get ns i ≡ Some n) × Stands n.state n.frames n.offset new
steps_are_covered s fs at a ns h m new st w =
    let b : Becomes a fs at (outcome s) new = record { old = m; stands = st; result = w.result; does_it = w.does_it; choices = w.choices; are_numbers = w.are_numbers; new_is = w.new_is } in
    let (i, n, e, f, p) = h.1.places new b in (i, n, e, record { covered = (h.1.smallest i n e).covers new (b, f, p); frames_are = f; offset_is = p })

-- the outcome on cells is monotone
pub outcome_monotone : (s : Setting) (fs : List Frame) (at : ℕ) (a b : Abstract) (os : List Next) → is_followed_instruction (instruction_of s fs at) ≡ true → at < 2 ^ 31 → AreInRange a.stack → AreInRange b.stack
    → ((m : Machine) → CoversState a m → CoversState b m) → outcome_on_cells s fs at b ≡ Ok os → (ns : List Next) × (outcome_on_cells s fs at a ≡ Ok ns) × AreBelow ns os
outcome_monotone s fs at a b os followed small fits_a fits_b wider e =
    let R : Tested (List Next) → Type 0 = λ r. TransfersTo b fs at (outcome s) r in
    monotone_ways a b fs at (outcome s) (outcome_on_cells s fs at a) os wider (outcome_stands s fs at a followed small fits_a) (subst R e (outcome_stands s fs at b followed small fits_b))
