-- What is done on the stack in place, against the outcome on cells.
use Rattle.std.specs.Prelude.{ℤ, pos, Result, OnOk, IfErr, remove}
use Rattle.std.proofs.Common.{◌≡◌, ℕ, zero, suc, ◌+◌, List, [], ◌∷◌, Some, Ok, Err, true, false, refl, sym, ◌∙◌, ap, arith, drop}
use Rattle.tt_code.specs.Refusals.{Tested}
use Rattle.tt_code.specs.Computing.{element}
use Rattle.tt_code.specs.declared.reason.Reason.TheVariants as reason
use Rattle.tt_code.specs.declared.kinds.StackOp.TheVariants as op
use Rattle.tt_code.specs.declared.kinds.Arithmetic.{Arithmetic}
use Rattle.tt_code.specs.declared.kinds.Arithmetic.TheVariants.{Add, Sub, Abs, Neg, Lt, LtEq, Gt, GtEq, Eq, Neq, And, Or, Not}
use Rattle.tt_setting.specs.Refusals.{ForReason}
use Rattle.tt_abs.specs.declared.cells.Cell.{Cell}
use Rattle.tt_abs.specs.declared.cells.Cell.TheVariants.{Known}
use Rattle.tt_setting.specs.declared.step_fault.StepFault.{StepFault}
use Rattle.tt_setting.specs.declared.step_fault.StepFault.TheVariants.{Refused, OutOfMemory}
use Rattle.tt_abs.specs.Cells.{Abstract}
use Rattle.tt_abs.specs.Stacks.{first}
use Rattle.tt_abs.specs.Representation.Steps.{Restacks, RefusesStack, takes_one}
use Rattle.tt_abs.specs.Representation.Computes.{one_result, two_results}
use Rattle.tt_abs.specs.Transfers.{known, shuffled_cells, computed_cells, of_one_cell, of_two_cells}
use Rattle.tt_abs.proofs.Fronts.{first_is, left_after}

pub found_under : (stack : List Cell) (n : ℕ) (c : Cell) → Some c ≡ first (drop n stack) → drop n stack ≡ c ∷ drop (n + 1) stack
found_under stack n c e =
    let found = first_is (drop n stack) c c e refl in
    found.1 ∙ ap (λ l. c ∷ l) (sym (left_after n stack found.0 c found.1))

-- another name for what is done on the stack
pub restacks_same : (r : Result (Unit {0}) StepFault) (f g : Abstract → Tested Abstract) (old new : List Cell) → ((a : Abstract) → g a ≡ f a)
    → OnOk r (Restacks f old new) → OnOk r (Restacks g old new)
restacks_same (Ok u) f g old new same h = λ a. same (record a { stack = old }) ∙ h a
restacks_same (Err e) f g old new same h = tt

pub refuses_same : (r : Result (Unit {0}) StepFault) (f g : Abstract → Tested Abstract) (old : List Cell) → ((a : Abstract) → g a ≡ f a)
    → IfErr r (λ e. ForReason e (RefusesStack f old)) → IfErr r (λ e. ForReason e (RefusesStack g old))
refuses_same (Ok u) f g old same h = tt
refuses_same (Err (Refused r)) f g old same h = λ a. same (record a { stack = old }) ∙ h a
refuses_same (Err (OutOfMemory m)) f g old same h = tt

pub computed_of_one : (o : Arithmetic) → takes_one o ≡ true → (a : Abstract) → computed_cells o a ≡ of_one_cell a (one_result o)
computed_of_one Add e a = absurd (cc)
computed_of_one Sub e a = absurd (cc)
computed_of_one Abs e a = refl
computed_of_one Neg e a = refl
computed_of_one Lt e a = absurd (cc)
computed_of_one LtEq e a = absurd (cc)
computed_of_one Gt e a = absurd (cc)
computed_of_one GtEq e a = absurd (cc)
computed_of_one Eq e a = absurd (cc)
computed_of_one Neq e a = absurd (cc)
computed_of_one And e a = absurd (cc)
computed_of_one Or e a = absurd (cc)
computed_of_one Not e a = refl

pub computed_of_two : (o : Arithmetic) → takes_one o ≡ false → (a : Abstract) → computed_cells o a ≡ of_two_cells a (two_results o)
computed_of_two Add e a = refl
computed_of_two Sub e a = refl
computed_of_two Abs e a = absurd (cc)
computed_of_two Neg e a = absurd (cc)
computed_of_two Lt e a = refl
computed_of_two LtEq e a = refl
computed_of_two Gt e a = refl
computed_of_two GtEq e a = refl
computed_of_two Eq e a = refl
computed_of_two Neq e a = refl
computed_of_two And e a = refl
computed_of_two Or e a = refl
computed_of_two Not e a = absurd (cc)

-- The element that an index names.

pub element_at : (n : ℕ) (xs rest : List Cell) (c : Cell) → drop n xs ≡ c ∷ rest → element (pos (suc n)) xs ≡ Ok c
element_at zero [] rest c e = absurd (cc)
element_at zero (x ∷ xs) rest c e = let same : x ≡ c = cc in ap Ok same
element_at (suc n) [] rest c e = absurd (cc)
element_at (suc n) (x ∷ xs) rest c e = element_at n xs rest c e

pub element_past : (n : ℕ) (xs : List Cell) → drop n xs ≡ [] → element (pos (suc n)) xs ≡ Err reason.Underflow
element_past zero [] e = refl
element_past zero (x ∷ xs) e = absurd (cc)
element_past (suc n) [] e = refl
element_past (suc n) (x ∷ xs) e = element_past n xs e

drop_next : (n : ℕ) (k : Cell) (below : List Cell) → drop (n + 1) (k ∷ below) ≡ drop n below
drop_next n k below = ap (λ i. drop i (k ∷ below)) (moved n)
  where
    moved : (n : ℕ) → n + 1 ≡ suc n
    moved n = omega arith

-- an index that names no element
pub index_past : (stack : List Cell) (k : Cell) (n : ℕ) → stack ≡ k ∷ drop 1 stack → known k ≡ Ok (pos (suc n)) → drop (n + 1) stack ≡ []
    → RefusesStack (shuffled_cells op.CopyIndexed) stack reason.Underflow × RefusesStack (shuffled_cells op.MoveIndexed) stack reason.Underflow
index_past [] k n e f g = absurd (cc)
index_past (x ∷ below) k n e f g =
    let same : x ≡ k = cc in
    let past : element (pos (suc n)) below ≡ Err reason.Underflow = element_past n below (sym (drop_next n x below) ∙ g) in
    (λ a. rw (same, f, past) refl, λ a. rw (same, f, past) refl)

pub copies_index : (stack new below : List Cell) (k c : Cell) (n : ℕ) → stack ≡ k ∷ below → known k ≡ Ok (pos (suc n)) → drop n below ≡ c ∷ drop (n + 1) below
    → new ≡ c ∷ drop 1 stack → Restacks (shuffled_cells op.CopyIndexed) stack new
copies_index stack new below k c n e f g h a =
    let found : element (pos (suc n)) below ≡ Ok c = element_at n below (drop (n + 1) below) c g in
    rw (h, e, f, found) refl

pub moves_index : (stack new below : List Cell) (k c : Cell) (n : ℕ) → stack ≡ k ∷ below → known k ≡ Ok (pos (suc n)) → drop n below ≡ c ∷ drop (n + 1) below
    → new ≡ c ∷ remove (drop 1 stack) n → Restacks (shuffled_cells op.MoveIndexed) stack new
moves_index stack new below k c n e f g h a =
    let found : element (pos (suc n)) below ≡ Ok c = element_at n below (drop (n + 1) below) c g in
    rw (h, e, f, found) refl

-- the same of the number of a cell
pub index_missed : (stack : List Cell) (k : Cell) (index : ℤ) (n : ℕ) → drop 0 stack ≡ k ∷ drop 1 stack → k ≡ Known index → index ≡ pos (suc n) → drop (n + 1) stack ≡ []
    → RefusesStack (shuffled_cells op.CopyIndexed) stack reason.Underflow × RefusesStack (shuffled_cells op.MoveIndexed) stack reason.Underflow
index_missed stack k index n e f g h =
    let known_is : known k ≡ Ok (pos (suc n)) = rw (f, g) refl in index_past stack k n e known_is h

-- and so the index is told to name none
pub index_told : (stack : List Cell) (k : Cell) (index : ℤ) (n : ℕ) → drop 0 stack ≡ k ∷ drop 1 stack → k ≡ Known index → index ≡ pos (suc n) → drop (n + 1) stack ≡ []
    → (below : List Cell) × (stack ≡ Known index ∷ below) × (element index below ≡ Err reason.Underflow)
index_told [] k index n e f g h = absurd (cc)
index_told (x ∷ xs) k index n e f g h =
    let top : x ≡ Known index = cc in
    (xs, ap (λ c. c ∷ xs) top, rw g (element_past n xs (sym (drop_next n x xs) ∙ h)))
