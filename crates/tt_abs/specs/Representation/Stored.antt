-- The lines of the table that set or read storage cells do so at an index that was tested, and none
-- both changes and pushes. (Representation: how the code reads an index as one of 16 bits, and in
-- which order it works.)
use Rattle.std.specs.Prelude.{◌≡◌, ℕ, zero, suc, ◌<◌, ◌^◌, List, [], ◌∷◌, pos, Bool, true, false, ◌&&◌}
use Rattle.tt_code.specs.Table.{Lists}
use Rattle.tt_code.specs.Changes.{taken_at}
use Rattle.tt_code.specs.declared.kinds.Operand.{Operand}
use Rattle.tt_code.specs.declared.kinds.Operand.TheVariants as operand
use Rattle.tt_code.specs.declared.kinds.Update.{Update}
use Rattle.tt_code.specs.declared.kinds.Update.TheVariants as update
use Rattle.tt_code.specs.declared.kinds.Pushed.{Pushed}
use Rattle.tt_code.specs.declared.kinds.Pushed.TheVariants as pushed
use Rattle.tt_abs.specs.declared.cells.Cell.{Cell}
use Rattle.tt_abs.specs.declared.cells.Cell.TheVariants.{Known}

-- whether the operand takes just one element
abbrev pub is_single : Operand → Bool
is_single (operand.LoopPoints within) = false
is_single (operand.PointPairs within) = false
is_single operand.CvtPairs = false
is_single _ = true

-- whether the operand takes a storage index
abbrev pub is_storage : Operand → Bool
is_storage operand.Storage = true
is_storage _ = false

-- whether the element taken at the position is a storage index, after operands of one element each
abbrev pub is_storage_at : List Operand → ℕ → Bool
is_storage_at [] i = false
is_storage_at (o ∷ os) zero = is_storage o
is_storage_at (o ∷ os) (suc i) = is_single o && is_storage_at os i

-- whether each update that stores does so at a tested index
abbrev pub stores_tested : List Operand → List Update → Bool
stores_tested os [] = true
stores_tested os (update.Store i v ∷ us) = is_storage_at os i && stores_tested os us
stores_tested os (u ∷ us) = stores_tested os us

-- whether each push that reads the storage area does so at a tested index
abbrev pub reads_tested : List Operand → List Pushed → Bool
reads_tested os [] = true
reads_tested os (pushed.Stored i ∷ ps) = is_storage_at os i && reads_tested os ps
reads_tested os (p ∷ ps) = reads_tested os ps

-- whether a line stores and reads at tested indexes only
abbrev pub is_tested_line : Lists → Bool
is_tested_line line =
    stores_tested line.operands line.updates && reads_tested line.operands line.pushes

-- whether there is no change, or no push
abbrev pub changes_or_pushes : List Update → List Pushed → Bool
changes_or_pushes [] ps = true
changes_or_pushes (u ∷ us) [] = true
changes_or_pushes (u ∷ us) (p ∷ ps) = false

-- whether a line changes nothing or pushes nothing
abbrev pub is_of_one_kind : Lists → Bool
is_of_one_kind line = changes_or_pushes line.updates line.pushes

-- the cell holds an index: a known number from 0 to 65,535
abbrev pub IsIndex : Cell → Type 0
IsIndex c = (n : ℕ) × (c ≡ Known (pos n)) × (n < 2 ^ 16)

-- if the update stores, the cell that it reads as its index holds one
abbrev pub IndexedUpdate : List Cell → Update → Type 0
IndexedUpdate taken (update.Store i v) = IsIndex (taken_at (Known (pos 1)) taken i)
IndexedUpdate taken _ = Unit {0}

-- so it is for each update
abbrev pub AreIndexed : List Cell → List Update → Type 0
AreIndexed taken [] = Unit {0}
AreIndexed taken (u ∷ us) = IndexedUpdate taken u × AreIndexed taken us

-- if the push reads the storage area, the cell that it reads as its index holds one
abbrev pub IndexedPush : List Cell → Pushed → Type 0
IndexedPush taken (pushed.Stored i) = IsIndex (taken_at (Known (pos 1)) taken i)
IndexedPush taken _ = Unit {0}

-- so it is for each push
abbrev pub AreIndexedPushes : List Cell → List Pushed → Type 0
AreIndexedPushes taken [] = Unit {0}
AreIndexedPushes taken (p ∷ ps) = IndexedPush taken p × AreIndexedPushes taken ps
