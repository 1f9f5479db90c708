-- Push instructions: their outcome on cells stands for the machine's outcomes, whatever bytes follow the code.
use Rattle.std.specs.Prelude.{ℤ, map}
use Rattle.std.proofs.Common.{ℕ, suc, List, [], ◌∷◌, Ok, refl}
use Rattle.tt_code.specs.Cut.{data_after}
use Rattle.tt_code.specs.Computing.{numbers_in, exactly, pushed}
use Rattle.tt_code.specs.Runs.{Choices, pushed_on}
use Rattle.tt_code.specs.declared.kinds.Push.{Push}
use Rattle.tt_code.specs.declared.machine.Frame.{Frame}
use Rattle.tt_abs.specs.declared.cells.Cell.{Cell}
use Rattle.tt_abs.specs.declared.cells.Cell.TheVariants.{Known}
use Rattle.tt_abs.specs.Cells.{Abstract}
use Rattle.tt_abs.specs.Covers.{Transfers}
use Rattle.tt_abs.specs.Transfers.{cells_on, pushed_cells}
use Rattle.tt_abs.proofs.Bests.{IsBestStack, best_cons, best_constant}
use Rattle.tt_abs.proofs.Machines.{May, some_machine, may, zeros, stack_best, registers_best, transfers_same}

numbers_best : {X : Type 0} (In : X → Type 0) (x : X) → In x → (zs : List ℤ) (choices : X → Choices) (f : X → List ℤ) (stack : List Cell)
    → IsBestStack In f stack → IsBestStack In (λ x. pushed_on (exactly zs) (choices x) (f x)) (cells_on (map Known zs) stack)
numbers_best In x i [] choices f stack h = h
numbers_best In x i (z ∷ zs) choices f stack h =
    numbers_best In x i zs (λ x j. choices x (suc j)) (λ x. z ∷ f x) (Known z ∷ stack) (best_cons In (λ x. z) f (Known z) stack (best_constant In z x i) h)

pub pushes_stand : (a : Abstract) (frames : List Frame) (offset : ℕ) (push : Push) (rest : List ℕ) → Transfers a frames offset (λ m. Ok (pushed push m rest)) (Ok (pushed_cells push a rest))
pushes_stand a frames offset push rest =
    let (m, s, is) = some_machine a frames offset in
    transfers_same a frames offset (λ m. Ok (pushed push m rest)) (λ m. pushed push m rest) (pushed_cells push a rest) (λ m st. refl)
    (numbers_best (May a frames offset) (m, zeros) (may a frames offset m s) (numbers_in push (data_after push rest)) (λ x. x.1) (λ x. x.0.stack) a.stack (stack_best a frames offset))
    (registers_best a frames offset) (λ m st. refl) refl
