-- A plain line in place: what is counted is what is taken, and indices into the storage area were tested.
use Rattle.std.specs.Prelude.{ℤ, pos, negsuc, ◌<◌, ◌^◌}
use Rattle.std.proofs.Common.{◌≡◌, ℕ, zero, suc, List, [], ◌∷◌, ◌++◌, Ok, refl, sym, ◌∙◌, ap, subst, arith, take, drop, Bool, true, false}
use Rattle.std.proofs.lemmas.Bool.{ltb-true, and_parts}
use Rattle.std.proofs.lemmas.List.{append_cancel_right, take-append-drop}
use Rattle.tt_code.specs.Refusals.{Tested, ◌>>=◌, holds_or}
use Rattle.tt_code.specs.Table.{Lists}
use Rattle.tt_code.specs.Settings.{Setting}
use Rattle.tt_code.specs.States.{is_below}
use Rattle.tt_code.specs.Operands.{Taking, take_operands}
use Rattle.tt_code.specs.Changes.{taken_at, all_updated}
use Rattle.tt_code.specs.declared.reason.Reason.TheVariants as reason
use Rattle.tt_code.specs.declared.kinds.Operand.{Operand}
use Rattle.tt_code.specs.declared.kinds.Operand.TheVariants as operand
use Rattle.tt_code.specs.declared.kinds.Update.{Update}
use Rattle.tt_code.specs.declared.kinds.Update.TheVariants as update
use Rattle.tt_code.specs.declared.kinds.Pushed.{Pushed}
use Rattle.tt_code.specs.declared.kinds.Pushed.TheVariants as pushed
use Rattle.tt_abs.specs.declared.cells.Cell.{Cell}
use Rattle.tt_abs.specs.declared.cells.Cell.TheVariants.{Known, Unknown}
use Rattle.tt_abs.specs.Cells.{Abstract, Cells}
use Rattle.tt_abs.specs.Representation.Stored.{is_single, is_storage, is_storage_at, stores_tested, reads_tested, is_tested_line, changes_or_pushes, IsIndex, AreIndexed, AreIndexedPushes}
use Rattle.tt_abs.specs.Representation.Taken.{TakesTo}
use Rattle.tt_abs.specs.Transfers.{tested_cell, take_cell, take_cells, test_cell_uses, plain_cells, leaves_cells, cells_pushed, cells_on, cells}
use Rattle.tt_abs.proofs.Rows.{is_single as is_one}
use Rattle.tt_abs.proofs.Takes.{StandsFor, operands_stand}
use Rattle.tt_abs.proofs.PlainLemmas.{then_take_parts, operand_single, at_first, at_later}

-- what is taken, and what is left, are the stack again
taken_joined : (s : Setting) (a : Cells) (os : List Operand) (stack : List Cell) (t : Taking Cell) → take_cells s a os stack ≡ Ok t → t.0 ++ t.1 ≡ stack
taken_joined s a os stack t e =
    let S : Tested (Taking Cell) → Type 0 = λ r. StandsFor a stack (λ g. take_operands s g os) r in (subst S e (operands_stand s a os stack)).joined

pub front_is : (s : Setting) (a : Cells) (os : List Operand) (stack front : List Cell) (n : ℕ) → take_cells s a os stack ≡ Ok (front, drop n stack) → front ≡ take n stack
front_is s a os stack front n e =
    append_cancel_right front (take n stack) (drop n stack) (taken_joined s a os stack (front, drop n stack) e ∙ sym (take-append-drop n stack))

-- An element that is taken as a storage index is the number of a storage cell.

index_below : (z : ℤ) (bound : ℕ) → bound < 2 ^ 16 → is_below z bound ≡ true → IsIndex (Known z)
index_below (pos n) bound small e = let h : n < bound = ltb-true n bound e in (n, refl, omega arith)
index_below (negsuc n) bound small e = absurd (cc)

storage_taken : (s : Setting) (cs : List Cell) (u : Taking Cell) → s.limits.storage < 2 ^ 16 → tested_cell (λ z. is_below z s.limits.storage) reason.Storage cs ≡ Ok u
    → (c : Cell) × (u.0 ≡ c ∷ []) × IsIndex c
storage_taken s [] u small e = absurd (cc)
storage_taken s (Unknown ∷ cs) u small e = absurd (cc)
storage_taken s (Known k ∷ cs) u small e = go (is_below k s.limits.storage) refl e
  where
    go : (b : Bool) → is_below k s.limits.storage ≡ b → (holds_or b reason.Storage >>= (λ ok. Ok (Known k ∷ [], cs))) ≡ Ok u → (c : Cell) × (u.0 ≡ c ∷ []) × IsIndex c
    go true f h = let same : u ≡ (Known k ∷ [], cs) = cc in (Known k, ap (λ x. x.0) same, index_below k s.limits.storage small f)
    go false f h = absurd (cc)

storage_operand : (s : Setting) (a : Cells) (o : Operand) (cs : List Cell) (u : Taking Cell) → s.limits.storage < 2 ^ 16 → is_storage o ≡ true → take_cell s a o cs ≡ Ok u
    → (c : Cell) × (u.0 ≡ c ∷ []) × IsIndex c
storage_operand s a operand.Number cs u small h e = absurd (cc)
storage_operand s a (operand.Point within) cs u small h e = absurd (cc)
storage_operand s a operand.Cvt cs u small h e = absurd (cc)
storage_operand s a operand.Storage cs u small h e = storage_taken s cs u small e
storage_operand s a operand.Zone cs u small h e = absurd (cc)
storage_operand s a operand.Contour cs u small h e = absurd (cc)
storage_operand s a (operand.LoopPoints within) cs u small h e = absurd (cc)
storage_operand s a (operand.PointPairs within) cs u small h e = absurd (cc)
storage_operand s a operand.CvtPairs cs u small h e = absurd (cc)

single_is : (o : Operand) → is_single o ≡ true → is_one o ≡ true
single_is operand.Number h = refl
single_is (operand.Point within) h = refl
single_is operand.Cvt h = refl
single_is operand.Storage h = refl
single_is operand.Zone h = refl
single_is operand.Contour h = refl
single_is (operand.LoopPoints within) h = absurd (cc)
single_is (operand.PointPairs within) h = absurd (cc)
single_is operand.CvtPairs h = absurd (cc)

index_at : (s : Setting) (a : Cells) (os : List Operand) (i : ℕ) (cs : List Cell) (t : Taking Cell) → s.limits.storage < 2 ^ 16 → is_storage_at os i ≡ true → take_cells s a os cs ≡ Ok t
    → IsIndex (taken_at (Known (pos 1)) t.0 i)
index_at s a [] i cs t small h e = absurd (cc)
index_at s a (o ∷ os) zero cs t small h e =
    let (u, v, f, g, is, left) = then_take_parts (take_cell s a o cs) (take_cells s a os) t e in
    let (c, w, z) = storage_operand s a o cs u small h f in
    subst IsIndex (sym (at_first t.0 u.0 v.0 c is w)) z
index_at s a (o ∷ os) (suc i) cs t small h e =
    let (u, v, f, g, is, left) = then_take_parts (take_cell s a o cs) (take_cells s a os) t e in
    let (one, later) = and_parts (is_single o) (is_storage_at os i) h in
    let (c, w) = operand_single s a o cs u (single_is o one) f in
    subst IsIndex (sym (at_later t.0 u.0 v.0 c i is w)) (index_at s a os i u.1 v small later g)

updates_indexed : (s : Setting) (a : Cells) (os : List Operand) (us : List Update) (cs : List Cell) (t : Taking Cell) → s.limits.storage < 2 ^ 16 → stores_tested os us ≡ true → take_cells s a os cs ≡ Ok t
    → AreIndexed t.0 us
updates_indexed s a os [] cs t small h e = tt
updates_indexed s a os (update.Store i v ∷ us) cs t small h e =
    let (one, later) = and_parts (is_storage_at os i) (stores_tested os us) h in (index_at s a os i cs t small one e, updates_indexed s a os us cs t small later e)
updates_indexed s a os (update.SetReference r q ∷ us) cs t small h e = (tt, updates_indexed s a os us cs t small h e)
updates_indexed s a os (update.SetPointer p i ∷ us) cs t small h e = (tt, updates_indexed s a os us cs t small h e)
updates_indexed s a os (update.SetLoop i ∷ us) cs t small h e = (tt, updates_indexed s a os us cs t small h e)
updates_indexed s a os (update.LoopIsOne ∷ us) cs t small h e = (tt, updates_indexed s a os us cs t small h e)

pushes_indexed : (s : Setting) (a : Cells) (os : List Operand) (ps : List Pushed) (cs : List Cell) (t : Taking Cell) → s.limits.storage < 2 ^ 16 → reads_tested os ps ≡ true → take_cells s a os cs ≡ Ok t
    → AreIndexedPushes t.0 ps
pushes_indexed s a os [] cs t small h e = tt
pushes_indexed s a os (pushed.Stored i ∷ ps) cs t small h e =
    let (one, later) = and_parts (is_storage_at os i) (reads_tested os ps) h in (index_at s a os i cs t small one e, pushes_indexed s a os ps cs t small later e)
pushes_indexed s a os (pushed.Any ∷ ps) cs t small h e = (tt, pushes_indexed s a os ps cs t small h e)

-- in the code's words: so many cells were counted

pub updates_counted : (s : Setting) (a : Cells) (line : Lists) (stack : List Cell) (n : ℕ) → s.limits.storage < 2 ^ 16 → is_tested_line line ≡ true → TakesTo stack n (take_cells s a line.operands stack)
    → AreIndexed (take n stack) line.updates
updates_counted s a line stack n small tested h =
    let (stores, reads) = and_parts (stores_tested line.operands line.updates) (reads_tested line.operands line.pushes) tested in
    let I : List Cell → Type 0 = λ l. AreIndexed l line.updates in
    subst I (front_is s a line.operands stack h.0 n h.1) (updates_indexed s a line.operands line.updates stack (h.0, drop n stack) small stores h.1)

pub pushes_counted : (s : Setting) (a : Cells) (line : Lists) (stack : List Cell) (n : ℕ) → s.limits.storage < 2 ^ 16 → is_tested_line line ≡ true → TakesTo stack n (take_cells s a line.operands stack)
    → AreIndexedPushes (take n stack) line.pushes
pushes_counted s a line stack n small tested h =
    let (stores, reads) = and_parts (stores_tested line.operands line.updates) (reads_tested line.operands line.pushes) tested in
    let I : List Cell → Type 0 = λ l. AreIndexedPushes l line.pushes in
    subst I (front_is s a line.operands stack h.0 n h.1) (pushes_indexed s a line.operands line.pushes stack (h.0, drop n stack) small reads h.1)

-- The whole line.

pub plain_done : (s : Setting) (a : Abstract) (line : Lists) (n : ℕ) → TakesTo a.stack n (take_cells s a.registers.graphics line.operands a.stack)
    → test_cell_uses s a.registers.graphics line.uses ≡ Ok tt
    → plain_cells s a line ≡ Ok (leaves_cells (record a { registers = all_updated cells (take n a.stack) line.updates a.registers }) (drop n a.stack) (cells_pushed (take n a.stack) a.registers.storage line.pushes))
plain_done s a line n h u =
    let front : h.0 ≡ take n a.stack = front_is s a.registers.graphics line.operands a.stack h.0 n h.1 in
    rw (h.1, u, front) refl

-- a line that pushes changes nothing
pub changes_none : (us : List Update) (ps : List Pushed) → changes_or_pushes us ps ≡ true → (ps ≡ [] → ⊥) → us ≡ []
changes_none [] ps h some = refl
changes_none (u ∷ us) [] h some = absurd (some refl)
changes_none (u ∷ us) (p ∷ ps) h some = absurd (cc)

-- what is left of a state's parts
pub plain_kept : (a new : Abstract) (cut_stack pushed_stack taken : List Cell) (line : Lists) (n : ℕ) (made : List Cell)
    → new ≡ record a { registers = all_updated cells taken line.updates a.registers } → made ≡ cells_pushed taken a.registers.storage line.pushes
    → cut_stack ≡ drop n new.stack → pushed_stack ≡ cells_on made cut_stack
    → leaves_cells (record a { registers = all_updated cells taken line.updates a.registers }) (drop n a.stack) (cells_pushed taken a.registers.storage line.pushes) ≡ record new { stack = pushed_stack }
plain_kept a new cut_stack pushed_stack taken line n made e f g h = rw (h, g, f, e) refl
