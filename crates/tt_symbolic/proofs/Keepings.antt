-- What leaves kept entries as they are.
use Rattle.std.proofs.Common.{◌≡◌, ℕ, zero, suc, ◌+◌, ◌<◌, ℤ, pos, negsuc, List, [], ◌∷◌, Ok, Err, Some, Bool, true, false, nat_eq, nat_le, ◌≤ℤ◌, ◌+ℤ◌, if◌then◌else◌, refl, sym, ◌∙◌, ap, subst, arith, length, drop, take, get_or, add-one, inl, inr}
use Rattle.std.specs.List.{All}
use Rattle.std.proofs.lemmas.List.Elements.{All-head, All-more, All-tail}
use Rattle.std.proofs.lemmas.Bool.{cases_lt, eqb-true}
use Rattle.std.proofs.lemmas.Option.{slice_get_within, get_or_from_slice_get}
use Rattle.tt_code.specs.Refusals.{Tested, ◌>>=◌, holds_or, some_or}
use Rattle.tt_code.specs.Structure.{after_fdef}
use Rattle.tt_code.specs.declared.reason.Reason.{Reason}
use Rattle.tt_code.specs.declared.reason.Reason.TheVariants as reason
use Rattle.tt_code.specs.Cut.{Instruction, code_of}
use Rattle.tt_code.specs.Table.{Lists, Meaning, NoEntry, Plain, Pushes, Stack, Computes, Controls, effect_of}
use Rattle.tt_code.specs.Settings.{Setting as MachineSetting, ZoneNumber, body_name, is_target, program_of}
use Rattle.tt_code.specs.States.{Machine, Outcome, Registers, Value, is_below}
use Rattle.tt_code.specs.Changes.{natural, numbers, plain, updated, with_stored}
use Rattle.tt_code.specs.Computing.{computed, of_one, of_two, pushed, shuffled}
use Rattle.tt_code.specs.Control.{controlled, enters, goes_to, jumps, jumps_if, may_define, returns}
use Rattle.tt_code.specs.Operands.{Taking, take_operands, test_uses, top}
use Rattle.tt_code.specs.Runs.{Choices, does, fetched, goes_on, within_depth}
use Rattle.tt_code.specs.declared.machine.Frame.{Frame}
use Rattle.tt_code.specs.declared.kinds.Operand.TheVariants as operand
use Rattle.tt_code.specs.declared.kinds.Update.{Update}
use Rattle.tt_code.specs.declared.kinds.Update.TheVariants as update
use Rattle.tt_code.specs.declared.kinds.StackOp.{StackOp}
use Rattle.tt_code.specs.declared.kinds.StackOp.TheVariants as op
use Rattle.tt_code.specs.declared.kinds.Control.{Control}
use Rattle.tt_code.specs.declared.kinds.Control.TheVariants as control
use Rattle.tt_code.specs.declared.kinds.Arithmetic.{Arithmetic}
use Rattle.tt_code.specs.declared.kinds.Arithmetic.TheVariants.{Add, Sub, Abs, Neg, Lt, LtEq, Gt, GtEq, Eq, Neq, And, Or, Not}
use Rattle.tt_setting.specs.declared.setting.Setting.{Setting}
use Rattle.tt_setting.specs.declared.setting.Point.{Point}
use Rattle.tt_setting.specs.Settings.{frames_of, instruction_of, setting_of}
use Rattle.tt_code.specs.declared.kinds.Refinement.{Refinement}
use Rattle.tt_code.specs.declared.kinds.Refinement.TheVariants.{ChangesControl, ChangesControls, Ordinary, WritesControl, ReadsControl}
use Rattle.tt_code.specs.Table.{refinement_of, written_by, written_of}
use Rattle.tt_code.specs.declared.kinds.Written.TheVariants as written
use Rattle.tt_symbolic_state.specs.CvtMachine.{Allows, ChangesOnly, Refines, SameControls}
use Rattle.tt_code.specs.declared.kinds.Refinement.TheVariants as kinds
use Rattle.tt_symbolic_state.specs.Shows.{values}
use Rattle.tt_symbolic_state.specs.Values.{Fits, Valuation, value}
use Rattle.tt_symbolic_state.specs.declared.cell.Cell.{Cell}
use Rattle.tt_symbolic_state.specs.declared.cell.Range.{Range}
use Rattle.tt_symbolic_state.specs.declared.state.State.{State}
use Rattle.tt_symbolic.specs.Representation.Areas.{IsOutside}
use Rattle.tt_symbolic.specs.Representation.Keeping.{AreAllPairsNoneOf, ArePairsNoneOf, IsNoStore, IsNoneOf, IsPairNoneOf, IsSecondNoneOf, KeepsControls, KeepsStorage, StoresNothing}
use Rattle.tt_symbolic.specs.Kept.{IsAmong, SameEntries, StepsKeep}
use Rattle.tt_symbolic.specs.declared.kept.Kept.{Kept}
use Rattle.tt_symbolic.specs.Representation.Leading.{IsAt}
use Rattle.tt_symbolic.proofs.AreaFacts.{not_between, stored_other}
use Rattle.tt_symbolic.proofs.Steppings.{HasNoRow, outcome_is, there}
use Rattle.tt_symbolic_cells.proofs.Takings.{under_is}

-- What holds of the registers that an outcome leaves, if there is one.
record Holds (Q : Registers ℤ ZoneNumber → Type 0) (r : Tested Outcome) : Type 0 where
  holds : (o : Outcome) → r ≡ Ok o → Q o.after.registers

holds_ok : (Q : Registers ℤ ZoneNumber → Type 0) (o : Outcome) → Q o.after.registers → Holds Q (Ok o)
holds_ok Q o h = record { holds = λ p f. let same : o ≡ p = cc in subst (λ (q : Outcome). Q q.after.registers) same h }

holds_err : (Q : Registers ℤ ZoneNumber → Type 0) (e : Reason) → Holds Q (Err e)
holds_err Q e = record { holds = λ o q. absurd (cc) }

holds_bind : (Q : Registers ℤ ZoneNumber → Type 0) {A : Type 0} (r : Tested A) (f : A → Tested Outcome) → ((a : A) → Holds Q (f a)) → Holds Q (r >>= f)
holds_bind Q (Ok a) f h = h a
holds_bind Q (Err e) f h = holds_err Q e

holds_if : (Q : Registers ℤ ZoneNumber → Type 0) (b : Bool) (p q : Tested Outcome) → Holds Q p → Holds Q q → Holds Q (if b then p else q)
holds_if Q true p q h k = h
holds_if Q false p q h k = k

holds_on : (Q : Registers ℤ ZoneNumber → Type 0) (next : ℕ) (r : Tested Outcome) → Holds Q r → Holds Q (goes_on next r)
holds_on Q next (Ok o) h = holds_ok Q (record o { after = record o.after { offset = next } }) (h.holds o refl)
holds_on Q next (Err e) h = holds_err Q e

-- Instructions that leave the registers as they are.

module _ (Q : Registers ℤ ZoneNumber → Type 0) (m : Machine) (h : Q m.registers) where
  same_shuffled : (o : StackOp) → Holds Q (shuffled o m)
  same_shuffled op.Dup = holds_bind Q (top m.stack) _ (λ t. holds_ok Q _ h)
  same_shuffled op.Pop = holds_bind Q (top m.stack) _ (λ t. holds_ok Q _ h)
  same_shuffled op.Clear = holds_ok Q _ h
  same_shuffled op.Swap = holds_bind Q (top m.stack) _ (λ a. holds_bind Q (top a.1) _ (λ b. holds_ok Q _ h))
  same_shuffled op.Depth = holds_ok Q _ h
  same_shuffled op.CopyIndexed = holds_bind Q (top m.stack) _ (λ k. holds_bind Q _ _ (λ z. holds_ok Q _ h))
  same_shuffled op.MoveIndexed = holds_bind Q (top m.stack) _ (λ k. holds_bind Q _ _ (λ z. holds_ok Q _ h))
  same_shuffled op.Roll = holds_bind Q (top m.stack) _ (λ a. holds_bind Q (top a.1) _ (λ b. holds_bind Q (top b.1) _ (λ c. holds_ok Q _ h)))

  same_one : (f : ℤ → Value) → Holds Q (of_one m f)
  same_one f = holds_bind Q (top m.stack) _ (λ a. holds_ok Q _ h)

  same_two : (f : ℤ → ℤ → Value) → Holds Q (of_two m f)
  same_two f = holds_bind Q (top m.stack) _ (λ b. holds_bind Q (top b.1) _ (λ a. holds_ok Q _ h))

  same_computed : (o : Arithmetic) → Holds Q (computed o m)
  same_computed Add = same_two _
  same_computed Sub = same_two _
  same_computed Abs = same_one _
  same_computed Neg = same_one _
  same_computed Lt = same_two _
  same_computed LtEq = same_two _
  same_computed Gt = same_two _
  same_computed GtEq = same_two _
  same_computed Eq = same_two _
  same_computed Neq = same_two _
  same_computed And = same_two _
  same_computed Or = same_two _
  same_computed Not = same_one _

  same_jumps : (s : MachineSetting) (by : ℤ) (stack : List ℤ) → Holds Q (jumps s m by stack)
  same_jumps s by stack =
      holds_bind Q {A = Unit {0}} (holds_or (nat_le (length stack) s.limits.stack) reason.Overflow) _ (λ deep. holds_bind Q {A = Unit {0}} (holds_or (is_target s m.frames (pos m.offset +ℤ by)) reason.Target) _
      (λ ok. holds_ok Q (goes_to m stack (natural (pos m.offset +ℤ by))) h))

  same_jumps_if : (s : MachineSetting) (holds : ℤ → Bool) → Holds Q (jumps_if s m holds)
  same_jumps_if s holds = holds_bind Q (top m.stack) _ (λ e. holds_bind Q (top e.1) _ (λ by. holds_if Q (holds e.0) _ _ (same_jumps s by.0 by.1) (holds_ok Q _ h)))

  same_enters : (name : ℕ) (stack : List ℤ) (z : ℤ) → Q (enters m name stack z).after.registers
  same_enters name stack (pos zero) = h
  same_enters name stack (pos (suc n)) = h
  same_enters name stack (negsuc n) = h

  same_returns : (fs : List Frame) → Holds Q (returns m fs)
  same_returns [] = holds_err Q reason.Target
  same_returns (f ∷ fs) = holds_if Q _ _ _ (holds_ok Q _ h) (holds_ok Q _ h)

  same_controlled : (s : MachineSetting) (c : Control) → Holds Q (controlled s m c)
  same_controlled s control.If = holds_bind Q (top m.stack) _ (λ e. holds_bind Q _ _ (λ after. holds_ok Q _ h))
  same_controlled s control.Else = holds_bind Q _ _ (λ after. holds_ok Q _ h)
  same_controlled s control.Jump = holds_bind Q (top m.stack) _ (λ by. same_jumps s by.0 by.1)
  same_controlled s control.JumpIfTrue = same_jumps_if s _
  same_controlled s control.JumpIfFalse = same_jumps_if s _
  same_controlled s control.Call = holds_bind Q (top m.stack) _ (λ n. holds_bind Q _ _ (λ name. holds_ok Q _ h))
  same_controlled s control.LoopCall = holds_bind Q (top m.stack) _ (λ n. holds_bind Q _ _ (λ name. holds_bind Q (top n.1) _ (λ count. holds_ok Q _ (same_enters name count.1 count.0))))
  same_controlled s control.FunctionDefinition =
      holds_bind Q {A = Unit {0}} (holds_or (may_define s.kind) reason.Definition) _ (λ may. holds_bind Q (top m.stack) _ (λ (n : ℤ × List ℤ). holds_bind Q {A = Unit {0}} (holds_or (is_below n.0 s.limits.functions) reason.Function) _
      (λ ok. holds_bind Q {A = ℕ} (some_or (after_fdef (program_of s m.frames) m.offset) reason.Target) _ (λ (after : ℕ). holds_ok Q (goes_to (record m { functions = (natural n.0, body_name s.kind (m.offset + 1)) ∷ m.functions }) n.1 after) h))))
  same_controlled s control.EndFunction = same_returns m.frames
  same_controlled s control.InstructionDefinition = holds_err Q reason.InstructionDefinition

-- Storage cells.

-- the line of WS
abbrev store_line : Lists
store_line = record { operands = operand.Number ∷ operand.Storage ∷ []; uses = []; updates = update.Store 1 0 ∷ []; pushes = [] }

store_effect : effect_of 0x42 ≡ Plain store_line
unfolding effect_of
store_effect = refl

abbrev Kept' : List ℕ → (ℕ → ℤ) → Registers ℤ ZoneNumber → Type 0
Kept' entries old x = SameEntries entries old x.storage

plain_holds : (entries : List ℕ) (s : MachineSetting) (m : Machine) (line : Lists) → StoresNothing line.updates → Holds (Kept' entries m.registers.storage) (plain s m line)
plain_holds entries s m line none = holds_bind (Kept' entries m.registers.storage) {A = Taking ℤ} (take_operands s m.registers.graphics line.operands m.stack) _ (λ (t : Taking ℤ). holds_bind (Kept' entries m.registers.storage) {A = Unit {0}} (test_uses s m.registers.graphics line.uses) _
    (λ ok. holds_ok (Kept' entries m.registers.storage) _ (λ i among. ap (λ (f : ℕ → ℤ). f i) (none t.0 m.registers))))

store_holds : (entries : List ℕ) (s : MachineSetting) (m : Machine) (z i : ℤ) (rest : List ℤ) → m.stack ≡ z ∷ i ∷ rest → ((k : ℕ) → IsAmong entries k → k ≡ natural i → ⊥) → Holds (Kept' entries m.registers.storage) (plain s m store_line)
store_holds entries s m z i rest e none = go (is_below i s.limits.storage) refl
  where
    go : (b : Bool) → is_below i s.limits.storage ≡ b → Holds (Kept' entries m.registers.storage) (plain s m store_line)
    go true f = record {
      holds = λ o q.
          let r : Registers ℤ ZoneNumber = record m.registers { storage = with_stored (natural i) z m.registers.storage } in
          let is : plain s m store_line ≡ Ok (record { after = record m { registers = r; stack = rest }; pushes = [] }) = rw (e, f) refl in
          let one : ◌≡◌ {A = Tested Outcome} (Ok (record { after = record m { registers = r; stack = rest }; pushes = [] })) (Ok o) = sym is ∙ q in
          let two : record { after = record m { registers = r; stack = rest }; pushes = [] } ≡ o = cc in
          subst (λ (p : Outcome). Kept' entries m.registers.storage p.after.registers) two (λ k among. stored_other (natural i) z m.registers.storage k (λ w. none k among w));
    }
    go false f = let is : plain s m store_line ≡ Err reason.Storage = rw (e, f) refl in subst (Holds (Kept' entries m.registers.storage)) (sym is) (holds_err (Kept' entries m.registers.storage) reason.Storage)

keeps_store : (entries : List ℕ) (code : ℕ) (a : State) → code ≡ 0x42 → IsSecondNoneOf entries a → KeepsStorage entries code a
keeps_store entries code a is h s v m rest next o fits stack q =
    let st : m.stack ≡ value v h.top ∷ value v h.second ∷ values v h.below = stack ∙ ap (values v) h.stack in
    let e : effect_of code ≡ Plain store_line = ap effect_of is ∙ store_effect in
    (holds_on (Kept' entries m.registers.storage) next (plain s m store_line) (store_holds entries s m (value v h.top) (value v h.second) (values v h.below) st (λ k among w. h.none.none v fits k among w))).holds o (ap (λ (x : Meaning). does s m x rest next) (sym e) ∙ q)

never_stored : (kind : Refinement) → written_by kind ≡ written.StorageCell → ⊥
never_stored kinds.ReadsControl e = absurd (cc)
never_stored kinds.WritesControl e = absurd (cc)
never_stored kinds.ChangesControl e = absurd (cc)
never_stored kinds.ChangesControls e = absurd (cc)
never_stored kinds.Greatest e = absurd (cc)
never_stored kinds.Least e = absurd (cc)
never_stored kinds.Product e = absurd (cc)
never_stored kinds.Quotient e = absurd (cc)
never_stored kinds.Floor e = absurd (cc)
never_stored kinds.Ceiling e = absurd (cc)
never_stored kinds.Ordinary e = absurd (cc)

pub keeps_stored : (entries : List ℕ) (code : ℕ) (a : State) → written_of code ≡ written.StorageCell → IsSecondNoneOf entries a → KeepsStorage entries code a
keeps_stored entries code a e h = keeps_store entries code a (go (nat_eq code 0x42) refl e) h
  where
    go : (b : Bool) → nat_eq code 0x42 ≡ b → (if b then written.StorageCell else written_by (refinement_of code)) ≡ written.StorageCell → code ≡ 0x42
    go true t f = eqb-true code 0x42 t
    go false t f = absurd (never_stored (refinement_of code) f)

pub keeps_plain : (entries : List ℕ) (code : ℕ) (a : State) (line : Lists) → effect_of code ≡ Plain line → StoresNothing line.updates → KeepsStorage entries code a
keeps_plain entries code a line e none s v m rest next o fits stack q =
    (holds_on (Kept' entries m.registers.storage) next (plain s m line) (plain_holds entries s m line none)).holds o (ap (λ (x : Meaning). does s m x rest next) (sym e) ∙ q)

other_holds : (entries : List ℕ) (s : MachineSetting) (m : Machine) (e : Meaning) (rest : List ℕ) (next : ℕ) → HasNoRow e → Holds (Kept' entries m.registers.storage) (does s m e rest next)
other_holds entries s m NoEntry rest next n = holds_err (Kept' entries m.registers.storage) reason.Opcode
other_holds entries s m (Plain line) rest next n = absurd n
other_holds entries s m (Pushes p) rest next n = holds_on (Kept' entries m.registers.storage) next (Ok (pushed p m rest)) (holds_ok (Kept' entries m.registers.storage) (pushed p m rest) (λ i among. refl))
other_holds entries s m (Stack p) rest next n = holds_on (Kept' entries m.registers.storage) next (shuffled p m) (same_shuffled (Kept' entries m.registers.storage) m (λ i among. refl) p)
other_holds entries s m (Computes p) rest next n = holds_on (Kept' entries m.registers.storage) next (computed p m) (same_computed (Kept' entries m.registers.storage) m (λ i among. refl) p)
other_holds entries s m (Controls c) rest next n = same_controlled (Kept' entries m.registers.storage) m (λ i among. refl) s c

pub keeps_other : (entries : List ℕ) (code : ℕ) (a : State) (e : Meaning) → effect_of code ≡ e → HasNoRow e → KeepsStorage entries code a
keeps_other entries code a e is n s v m rest next o fits stack q = (other_holds entries s m e rest next n).holds o (ap (λ (x : Meaning). does s m x rest next) (sym is) ∙ q)

-- Changes that store nothing.

pub stores_none : (updates : List Update) → All IsNoStore updates → StoresNothing updates
stores_none [] all taken x = refl
stores_none (u ∷ us) all taken x = stores_none us (All-tail IsNoStore u us all) taken (updated numbers taken u x) ∙ All-head IsNoStore u us all taken x

-- Control values.

pub keeps_ordinary : (entries : List ℕ) (code : ℕ) (a : State) → refinement_of code ≡ Ordinary → KeepsControls entries code a
keeps_ordinary entries code a e v old new choices fits r i among = (subst (λ (k : Refinement). Refines k (values v a.stack) old choices new) e r) i

-- a kind that leaves the control values as they are
abbrev IsQuiet : Refinement → Type 0
IsQuiet kinds.WritesControl = ⊥
IsQuiet kinds.ChangesControl = ⊥
IsQuiet kinds.ChangesControls = ⊥
IsQuiet _ = Unit {0}

quiet : (k : Refinement) (stack : List ℤ) (old new : ℕ → ℤ) (choices : Choices) → IsQuiet k → Refines k stack old choices new → SameControls old new
quiet kinds.WritesControl stack old new choices q r = absurd q
quiet kinds.ChangesControl stack old new choices q r = absurd q
quiet kinds.ChangesControls stack old new choices q r = absurd q
quiet kinds.Ordinary stack old new choices q r = r
quiet kinds.ReadsControl [] old new choices q r = r
quiet kinds.ReadsControl (a ∷ s) old new choices q r = r.1
quiet kinds.Floor [] old new choices q r = r
quiet kinds.Floor (a ∷ s) old new choices q r = r.1
quiet kinds.Ceiling [] old new choices q r = r
quiet kinds.Ceiling (a ∷ s) old new choices q r = r.1
quiet kinds.Greatest [] old new choices q r = r
quiet kinds.Greatest (b ∷ []) old new choices q r = r
quiet kinds.Greatest (b ∷ a ∷ s) old new choices q r = r.1
quiet kinds.Least [] old new choices q r = r
quiet kinds.Least (b ∷ []) old new choices q r = r
quiet kinds.Least (b ∷ a ∷ s) old new choices q r = r.1
quiet kinds.Product [] old new choices q r = r
quiet kinds.Product (b ∷ []) old new choices q r = r
quiet kinds.Product (b ∷ a ∷ s) old new choices q r = r.1
quiet kinds.Quotient [] old new choices q r = r
quiet kinds.Quotient (b ∷ []) old new choices q r = r
quiet kinds.Quotient (b ∷ a ∷ s) old new choices q r = r.1

pub keeps_quiet : (entries : List ℕ) (code : ℕ) (a : State) (k : Refinement) → refinement_of code ≡ k → IsQuiet k → KeepsControls entries code a
keeps_quiet entries code a k e q v old new choices fits r i among = quiet k (values v a.stack) old new choices q (subst (λ (x : Refinement). Refines x (values v a.stack) old choices new) e r) i

pub keeps_written : (entries : List ℕ) (code : ℕ) (a : State) → refinement_of code ≡ WritesControl → IsSecondNoneOf entries a → KeepsControls entries code a
keeps_written entries code a e h v old new choices fits r i among =
    let st : values v a.stack ≡ value v h.top ∷ value v h.second ∷ values v h.below = ap (values v) h.stack in
    let w : (k : ℕ) → new k ≡ with_stored (natural (value v h.second)) (value v h.top) old k = subst (λ (l : List ℤ). Refines WritesControl l old choices new) st (subst (λ (x : Refinement). Refines x (values v a.stack) old choices new) e r) in
    w i ∙ stored_other (natural (value v h.second)) (value v h.top) old i (λ q. h.none.none v fits i among q)

pub keeps_changed : (entries : List ℕ) (code : ℕ) (a : State) → refinement_of code ≡ ChangesControl → IsSecondNoneOf entries a → KeepsControls entries code a
keeps_changed entries code a e h v old new choices fits r i among =
    let st : values v a.stack ≡ value v h.top ∷ value v h.second ∷ values v h.below = ap (values v) h.stack in
    let w : ChangesOnly (λ k. k ≡ natural (value v h.second)) old new = subst (λ (l : List ℤ). Refines ChangesControl l old choices new) st (subst (λ (x : Refinement). Refines x (values v a.stack) old choices new) e r) in
    w.same i (λ q. h.none.none v fits i among q)

pub keeps_paired : (entries : List ℕ) (code : ℕ) (a : State) → refinement_of code ≡ ChangesControls → AreAllPairsNoneOf entries a → KeepsControls entries code a
keeps_paired entries code a e h v old new choices fits r i among =
    let st : values v a.stack ≡ value v h.top ∷ values v h.below = ap (values v) h.stack in
    let w = subst (λ (l : List ℤ). Refines ChangesControls l old choices new) st (subst (λ (x : Refinement). Refines x (values v a.stack) old choices new) e r) in
    w.same i (λ p.
    let count : natural (value v h.top) ≡ h.count = ap natural (h.known v fits) in
    let lt : p.place < natural (value v h.top) = p.within in
    let there' : drop (p.place + p.place + 1) (values v a.stack) ≡ p.index ∷ p.below = rw (add-one (p.place + p.place), st) p.at in
    (h.none p.place (omega arith)).none v fits p.index p.below there' i among p.is)

-- What the tests tell.

pub none_of : (entries : List ℕ) (ranges : List Range) (cell : Cell) (low high : ℤ) → ((v : Valuation) → Fits ranges v → (pos 0 ≤ℤ value v cell) × (low ≤ℤ value v cell) × (value v cell ≤ℤ high)) → All (λ i. IsOutside low high i) entries → IsNoneOf entries ranges cell
none_of entries ranges cell low high bounds all = record {
  none = λ v fits i among q.
      let lt = slice_get_within entries among.place i among.found in
      let at : get_or entries among.place i ≡ i = get_or_from_slice_get entries among.place i i among.found in
      not_between low high (value v cell) i (bounds v fits) (subst (λ (k : ℕ). IsOutside low high k) at (all among.place i lt)) q;
}

pub pair_none : (entries : List ℕ) (pair : ℕ) (a : State) (place : Cell) → drop (pair + pair + 1) a.stack ≡ place ∷ drop (pair + pair + 1 + 1) a.stack → IsNoneOf entries a.ranges.items place → IsPairNoneOf entries pair a
pair_none entries pair a place at n = record {
  none = λ v fits index below e i among q.
      let u = under_is v a.stack (pair + pair + 1) place at in
      let same : value v place ≡ index = cc in
      n.none v fits i among (q ∙ ap natural (sym same));
}

-- A step.

depth_passes : (s : MachineSetting) (r : Tested Outcome) (o : Outcome) → (r >>= within_depth s) ≡ Ok o → r ≡ Ok o
depth_passes s (Err e) o q = absurd (cc)
depth_passes s (Ok p) o q = go (nat_le (length p.after.stack + length p.pushes) s.limits.stack) q
  where
    go : (b : Bool) → (holds_or b reason.Overflow >>= (λ ok. Ok p)) ≡ Ok o → ◌≡◌ {A = Tested Outcome} (Ok p) (Ok o)
    go true q = q
    go false q = absurd (cc)

pub steps_keep : (setting : Setting) (point : Point) (kept : Kept) (i : Instruction) (code : ℕ) (a : State) → IsAt point a → instruction_of (setting_of setting) (frames_of point) point.offset ≡ Some i → code_of i ≡ Some code
    → KeepsStorage kept.storage.now code a → KeepsControls kept.controls.now code a → StepsKeep (setting_of setting) kept a
steps_keep setting point kept [] code a at is c ks kc m n s w = absurd (cc)
steps_keep setting point kept (d ∷ rest) code a at is c ks kc m n s w =
    let S = setting_of setting in
    let same : d ≡ code = cc in
    let fetches : fetched S m.machine ≡ Some (d ∷ rest) = there setting point s.valuation a (d ∷ rest) m.machine m.controls at is s.shows s.offset_is in
    let q : does S m.machine (effect_of d) rest (m.machine.offset + suc (length rest)) ≡ Ok w.steps.result = depth_passes S _ w.steps.result (sym (outcome_is S m.machine (d ∷ rest) fetches) ∙ w.steps.does_it) in
    let q' = subst (λ (k : ℕ). does S m.machine (effect_of k) rest (m.machine.offset + suc (length rest)) ≡ Ok w.steps.result) same q in
    let r : Refines (refinement_of d) m.machine.stack m.controls w.steps.choices n.controls = subst (λ o. Allows o m.machine.stack m.controls w.steps.choices n.controls) fetches w.allowed in
    let r' = subst (λ (l : List ℤ). Refines (refinement_of code) l m.controls w.steps.choices n.controls) s.shows.stack (subst (λ (k : ℕ). Refines (refinement_of k) m.machine.stack m.controls w.steps.choices n.controls) same r) in
    record {
      storage = λ k among. ap (λ (x : Machine). x.registers.storage k) w.steps.new_is ∙ ks S s.valuation m.machine rest (m.machine.offset + suc (length rest)) w.steps.result s.fits s.shows.stack q' k among;
      controls = kc s.valuation m.controls n.controls w.steps.choices s.fits r';
    }

-- Loops.

pub no_stores_more : (us : List Update) (i : ℕ) (d : Update) → i < length us → All IsNoStore (take i us) → IsNoStore (get_or us i d) → All IsNoStore (take (i + 1) us)
no_stores_more us i d lt all here = All-more IsNoStore us i d lt all here

pub pairs_none_more : (entries : List ℕ) (i : ℕ) (a : State) → ArePairsNoneOf entries i a → IsPairNoneOf entries i a → ArePairsNoneOf entries (i + 1) a
pairs_none_more entries i a h here pair lt = elim (cases_lt pair i) [ inl less ↦ h pair less | inr most ↦ (let e : i ≡ pair = omega arith in subst (λ (k : ℕ). IsPairNoneOf entries k a) e here) ]
