-- The elements that are taken, as the code reads them, and the cells that are stored.
use Rattle.std.specs.Prelude.{pos}
use Rattle.std.proofs.Common.{◌≡◌, ℕ, ◌<◌, ◌≤◌, List, Some, None, refl, sym, ◌∙◌, ap, drop, take}
use Rattle.tt_code.specs.Changes.{taken_at, updated}
use Rattle.tt_code.specs.declared.kinds.Update.{Update}
use Rattle.tt_code.specs.declared.kinds.Update.TheVariants as update
use Rattle.tt_abs.specs.declared.state.State.{State}
use Rattle.tt_abs.specs.Cells.{Abstract}
use Rattle.tt_abs.specs.States.{abstract_of}
use Rattle.tt_abs.specs.StorageCells.{with_cell}
use Rattle.tt_abs.specs.Representation.EntryFacts.{storage-with_cell}
use Rattle.tt_abs.specs.Transfers.{cells, index_in}
use Rattle.tt_abs.specs.declared.cells.Cell.{Cell}
use Rattle.tt_abs.specs.declared.cells.Cell.TheVariants.{Known}
use Rattle.tt_abs.specs.Stacks.{first}
use Rattle.tt_abs.proofs.Bests.{at_take, past_take}
use Rattle.tt_abs.proofs.Fronts.{some_taken, none_taken}

pub some_taken_among : (stack : List Cell) (count n : ℕ) (c : Cell) → Some c ≡ first (drop n stack) → n < count → c ≡ taken_at (Known (pos 1)) (take count stack) n
some_taken_among stack count n c e h = some_taken stack n c (Known (pos 1)) e ∙ sym (at_take (Known (pos 1)) count stack n h)

pub none_taken_among : (stack : List Cell) (count n : ℕ) → None ≡ first (drop n stack) → n < count → Known (pos 1) ≡ taken_at (Known (pos 1)) (take count stack) n
none_taken_among stack count n e h = none_taken stack n (Known (pos 1)) e ∙ sym (at_take (Known (pos 1)) count stack n h)

pub past_taken : (stack : List Cell) (count n : ℕ) → count ≤ n → Known (pos 1) ≡ taken_at (Known (pos 1)) (take count stack) n
past_taken stack count n h = sym (past_take (Known (pos 1)) count stack n h)

-- a number stored at an index
pub stored_is : (old new : State) (taken : List Cell) (change : Update) (at value index : ℕ) (cell : Cell) → change ≡ update.Store at value → index ≡ index_in (taken_at (Known (pos 1)) taken at)
    → cell ≡ taken_at (Known (pos 1)) taken value → new ≡ record old { storage = with_cell index cell old.storage }
    → abstract_of new ≡ record (abstract_of old) { registers = updated cells taken change (abstract_of old).registers }
stored_is old new taken change at value index cell e f g h =
    ap abstract_of h ∙ ap kept (storage-with_cell index cell old.storage) ∙ rw (e, f, g) refl
  where
    kept : (ℕ → Cell) → Abstract
    kept s = record { stack = old.stack; registers = record { graphics = old.graphics; storage = s }; functions = old.functions }
