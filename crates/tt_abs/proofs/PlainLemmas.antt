-- Plain lines: operands, then uses, then updates and pushes.
use Rattle.std.specs.Prelude.{ℤ, pos}
use Rattle.std.proofs.Common.{◌≡◌, ℕ, zero, suc, List, [], ◌∷◌, ◌++◌, Ok, Err, refl, sym, ◌∙◌, ap, subst, length, take, drop, Bool, true, false}
use Rattle.std.proofs.Math.Seq.{take-append_seam, drop-append_seam}
use Rattle.std.proofs.lemmas.Bool.{and_parts}
use Rattle.tt_code.specs.Refusals.{Tested, ◌>>=◌, holds_or}
use Rattle.tt_code.specs.Table.{Lists}
use Rattle.tt_code.specs.Settings.{Setting, contours_in}
use Rattle.tt_code.specs.States.{Machine, Outcome, leaves, is_below}
use Rattle.tt_code.specs.Operands.{Taking, take_operands, test_uses, then_take, is_zone}
use Rattle.tt_code.specs.Changes.{taken_at, natural, numbers, all_updated, values_pushed, plain}
use Rattle.tt_code.specs.Runs.{Choices, pushed_on}
use Rattle.tt_code.specs.declared.machine.Frame.{Frame}
use Rattle.tt_code.specs.declared.reason.Reason.{Reason}
use Rattle.tt_code.specs.declared.reason.Reason.TheVariants as reason
use Rattle.tt_code.specs.declared.kinds.Operand.{Operand}
use Rattle.tt_code.specs.declared.kinds.Operand.TheVariants as operand
use Rattle.tt_code.specs.declared.kinds.Update.{Update}
use Rattle.tt_code.specs.declared.kinds.Update.TheVariants as update
use Rattle.tt_code.specs.declared.kinds.Pushed.{Pushed}
use Rattle.tt_code.specs.declared.kinds.Pushed.TheVariants as pushed
use Rattle.tt_abs.specs.declared.cells.Cell.{Cell}
use Rattle.tt_abs.specs.declared.cells.Cell.TheVariants.{Known, Unknown}
use Rattle.tt_abs.specs.Cells.{Abstract, Cells}
use Rattle.tt_abs.specs.Covers.{IsBestFor, Transfers}
use Rattle.tt_abs.proofs.Rows.{is_tested, is_single, is_known_at, is_readable, are_readable, is_readable_push, are_readable_pushes, is_readable_line}
use Rattle.tt_abs.specs.Transfers.{tested_cell, take_cell, take_cells, test_cell_uses, plain_cells, leaves_cells, cells_pushed, cells_on, cells, index_in, is_point_in}
use Rattle.tt_setting.specs.Settings.{is_below_in}
use Rattle.tt_abs.proofs.Takes.{Splits, StandsFor, TestStandsFor, operands_stand, uses_stand}
use Rattle.tt_abs.proofs.Bests.{IsBestStack, covered_length, best_cons, best_drop, best_take, best_same, updates_best, Readable, AllReadable}
use Rattle.tt_abs.proofs.Machines.{May, machine_with, machine_stands, some_area, area_covered, with_graphics, some_machine, may, zeros, choice_best, stack_best, registers_best, transfers_same}

-- What the tests leave known.

pub then_take_parts : (first : Tested (Taking Cell)) (second : List Cell → Tested (Taking Cell)) (t : Taking Cell) → then_take first second ≡ Ok t
    → (u : Taking Cell) × (v : Taking Cell) × (first ≡ Ok u) × (second u.1 ≡ Ok v) × (t.0 ≡ u.0 ++ v.0) × (t.1 ≡ v.1)
then_take_parts (Err n) second t e = absurd (cc)
then_take_parts (Ok u) second t e = go (second u.1) refl e
  where
    go : (r : Tested (Taking Cell)) → second u.1 ≡ r → (r >>= (λ b. Ok (u.0 ++ b.0, b.1))) ≡ Ok t → (w : Taking Cell) × (v : Taking Cell) × (◌≡◌ {A = Tested (Taking Cell)} (Ok u) (Ok w)) × (second w.1 ≡ Ok v) × (t.0 ≡ w.0 ++ v.0) × (t.1 ≡ v.1)
    go (Err n) f h = absurd (cc)
    go (Ok v) f h = let same : t ≡ (u.0 ++ v.0, v.1) = cc in (u, v, refl, f, ap (λ x. x.0) same, ap (λ x. x.1) same)

tested_known : (passes : ℤ → Bool) (r : Reason) (cs : List Cell) (u : Taking Cell) → tested_cell passes r cs ≡ Ok u → (k : ℤ) × (u.0 ≡ Known k ∷ [])
tested_known passes r [] u e = absurd (cc)
tested_known passes r (Unknown ∷ cs) u e = absurd (cc)
tested_known passes r (Known k ∷ cs) u e = go (passes k) e
  where
    go : (b : Bool) → (holds_or b r >>= (λ ok. Ok (Known k ∷ [], cs))) ≡ Ok u → (l : ℤ) × (u.0 ≡ Known l ∷ [])
    go true h = let same : u ≡ (Known k ∷ [], cs) = cc in (k, ap (λ x. x.0) same)
    go false h = absurd (cc)

operand_known : (s : Setting) (a : Cells) (o : Operand) (cs : List Cell) (u : Taking Cell) → is_tested o ≡ true → take_cell s a o cs ≡ Ok u → (k : ℤ) × (u.0 ≡ Known k ∷ [])
operand_known s a operand.Number cs u h e = absurd (cc)
operand_known s a (operand.Point within) cs u h e = tested_known (is_point_in s a within) reason.Point cs u e
operand_known s a operand.Cvt cs u h e = tested_known (λ z. is_below z s.cvt) reason.Cvt cs u e
operand_known s a operand.Storage cs u h e = tested_known (λ z. is_below z s.limits.storage) reason.Storage cs u e
operand_known s a operand.Zone cs u h e = tested_known (is_zone s) reason.Zone cs u e
operand_known s a operand.Contour cs u h e = tested_known (is_below_in (contours_in s) a.zp2) reason.Contour cs u e
operand_known s a (operand.LoopPoints within) cs u h e = absurd (cc)
operand_known s a (operand.PointPairs within) cs u h e = absurd (cc)
operand_known s a operand.CvtPairs cs u h e = absurd (cc)

pub operand_single : (s : Setting) (a : Cells) (o : Operand) (cs : List Cell) (u : Taking Cell) → is_single o ≡ true → take_cell s a o cs ≡ Ok u → (c : Cell) × (u.0 ≡ c ∷ [])
operand_single s a operand.Number [] u h e = absurd (cc)
operand_single s a operand.Number (c ∷ cs) u h e = let same : u ≡ (c ∷ [], cs) = cc in (c, ap (λ x. x.0) same)
operand_single s a (operand.Point within) cs u h e = let (k, f) = operand_known s a (operand.Point within) cs u h e in (Known k, f)
operand_single s a operand.Cvt cs u h e = let (k, f) = operand_known s a operand.Cvt cs u h e in (Known k, f)
operand_single s a operand.Storage cs u h e = let (k, f) = operand_known s a operand.Storage cs u h e in (Known k, f)
operand_single s a operand.Zone cs u h e = let (k, f) = operand_known s a operand.Zone cs u h e in (Known k, f)
operand_single s a operand.Contour cs u h e = let (k, f) = operand_known s a operand.Contour cs u h e in (Known k, f)
operand_single s a (operand.LoopPoints within) cs u h e = absurd (cc)
operand_single s a (operand.PointPairs within) cs u h e = absurd (cc)
operand_single s a operand.CvtPairs cs u h e = absurd (cc)

pub at_first : (t u v : List Cell) (c : Cell) → t ≡ u ++ v → u ≡ c ∷ [] → taken_at (Known (pos 1)) t 0 ≡ c
at_first t u v c e f = rw (e, f) refl

pub at_later : (t u v : List Cell) (c : Cell) (i : ℕ) → t ≡ u ++ v → u ≡ c ∷ [] → taken_at (Known (pos 1)) t (suc i) ≡ taken_at (Known (pos 1)) v i
at_later t u v c i e f = rw (e, f) refl

known_at : (s : Setting) (a : Cells) (os : List Operand) (i : ℕ) (cs : List Cell) (t : Taking Cell) → is_known_at os i ≡ true → take_cells s a os cs ≡ Ok t
    → (k : ℤ) × (taken_at (Known (pos 1)) t.0 i ≡ Known k)
known_at s a [] i cs t h e = absurd (cc)
known_at s a (o ∷ os) zero cs t h e =
    let (u, v, f, g, is, left) = then_take_parts (take_cell s a o cs) (take_cells s a os) t e in
    let (k, w) = operand_known s a o cs u h f in (k, at_first t.0 u.0 v.0 (Known k) is w)
known_at s a (o ∷ os) (suc i) cs t h e =
    let (u, v, f, g, is, left) = then_take_parts (take_cell s a o cs) (take_cells s a os) t e in
    let (one, later) = and_parts (is_single o) (is_known_at os i) h in
    let (c, w) = operand_single s a o cs u one f in
    let (k, z) = known_at s a os i u.1 v later g in (k, at_later t.0 u.0 v.0 c i is w ∙ z)

updates_readable : (s : Setting) (a : Cells) (os : List Operand) (us : List Update) (cs : List Cell) (t : Taking Cell) → are_readable os us ≡ true → take_cells s a os cs ≡ Ok t → AllReadable t.0 us
updates_readable s a os [] cs t h e = tt
updates_readable s a os (u ∷ us) cs t h e =
    let (one, later) = and_parts (is_readable os u) (are_readable os us) h in (first u one, updates_readable s a os us cs t later e)
  where
    first : (u : Update) → is_readable os u ≡ true → Readable t.0 u
    first (update.SetPointer p i) h = known_at s a os i cs t h e
    first (update.Store i v) h = known_at s a os i cs t h e
    first (update.SetReference r q) h = tt
    first (update.SetLoop i) h = tt
    first update.LoopIsOne h = tt

-- Pushes.

abbrev pub ReadablePush : List Cell → Pushed → Type 0
ReadablePush taken pushed.Any = Unit {0}
ReadablePush taken (pushed.Stored i) = (k : ℤ) × (taken_at (Known (pos 1)) taken i ≡ Known k)

abbrev pub AllReadablePushes : List Cell → List Pushed → Type 0
AllReadablePushes taken [] = Unit {0}
AllReadablePushes taken (p ∷ ps) = ReadablePush taken p × AllReadablePushes taken ps

pushes_readable : (s : Setting) (a : Cells) (os : List Operand) (ps : List Pushed) (cs : List Cell) (t : Taking Cell) → are_readable_pushes os ps ≡ true → take_cells s a os cs ≡ Ok t → AllReadablePushes t.0 ps
pushes_readable s a os [] cs t h e = tt
pushes_readable s a os (p ∷ ps) cs t h e =
    let (one, later) = and_parts (is_readable_push os p) (are_readable_pushes os ps) h in (first p one, pushes_readable s a os ps cs t later e)
  where
    first : (p : Pushed) → is_readable_push os p ≡ true → ReadablePush t.0 p
    first pushed.Any h = tt
    first (pushed.Stored i) h = known_at s a os i cs t h e

stored_best : {X : Type 0} (In : X → Type 0) (index : X → ℤ) (area : X → ℕ → ℤ) (c : Cell) (k : ℤ) (cells : ℕ → Cell) → c ≡ Known k → IsBestFor In index c
    → ((j : ℕ) → IsBestFor In (λ x. area x j) (cells j)) → IsBestFor In (λ x. area x (natural (index x))) (cells (index_in c))
stored_best In index area Unknown k cells e h all = absurd (cc)
stored_best In index area (Known l) k cells e h all =
    best_same In (λ x. area x (natural l)) (λ x. area x (natural (index x))) (cells (natural l)) (λ x i. ap (λ n. area x (natural n)) (h.0 x i)) (all (natural l))

pushes_best : {X : Type 0} (In : X → Type 0) (t : X → List ℤ) (taken : List Cell) (area : X → ℕ → ℤ) (stored : ℕ → Cell) (ps : List Pushed) → AllReadablePushes taken ps
    → IsBestStack In t taken → ((j : ℕ) → IsBestFor In (λ x. area x j) (stored j)) → (choices : X → Choices) → ((j : ℕ) → IsBestFor In (λ x. choices x j) Unknown)
    → (f : X → List ℤ) (stack : List Cell) → IsBestStack In f stack → IsBestStack In (λ x. pushed_on (values_pushed (t x) (area x) ps) (choices x) (f x)) (cells_on (cells_pushed taken stored ps) stack)
pushes_best In t taken area stored [] r h all choices any f stack k = k
pushes_best In t taken area stored (pushed.Any ∷ ps) r h all choices any f stack k =
    pushes_best In t taken area stored ps r.1 h all (λ x i. choices x (suc i)) (λ j. any (suc j)) (λ x. choices x 0 ∷ f x) (Unknown ∷ stack) (best_cons In (λ x. choices x 0) f Unknown stack (any 0) k)
pushes_best In t taken area stored (pushed.Stored i ∷ ps) r h all choices any f stack k =
    pushes_best In t taken area stored ps r.1 h all (λ x i. choices x (suc i)) (λ j. any (suc j)) (λ x. area x (natural (taken_at (pos 1) (t x) i)) ∷ f x) (stored (index_in (taken_at (Known (pos 1)) taken i)) ∷ stack)
    (best_cons In (λ x. area x (natural (taken_at (pos 1) (t x) i))) f (stored (index_in (taken_at (Known (pos 1)) taken i))) stack
    (stored_best In (λ x. taken_at (pos 1) (t x) i) area (taken_at (Known (pos 1)) taken i) r.0.0 stored r.0.1 (h.each i) all) k)

-- A whole line.

abbrev pub plain_outcome : ℕ → Lists → Machine → Outcome
plain_outcome n line m =
    leaves (record m { registers = all_updated numbers (take n m.stack) line.updates m.registers }) (drop n m.stack) (values_pushed (take n m.stack) m.registers.storage line.pushes)

split_at : (taken rest : List Cell) (ns : List ℤ) (r : Tested (Taking ℤ)) → Splits taken rest ns r → r ≡ Ok (take (length taken) ns, drop (length taken) ns)
split_at taken rest ns r h =
    let e : length h.front ≡ length taken = covered_length taken h.front h.front_covered in
    let front : take (length taken) ns ≡ h.front = rw (← h.joined, ← e) (take-append_seam h.front h.below) in
    let below : drop (length taken) ns ≡ h.below = rw (← h.joined, ← e) (drop-append_seam h.front h.below) in
    rw (front, below) h.result_is

module _ (s : Setting) (a : Abstract) (frames : List Frame) (offset : ℕ) (line : Lists) where
  pub plain_stands : is_readable_line line ≡ true → Transfers a frames offset (λ m. plain s m line) (plain_cells s a line)
  plain_stands readable = go (take_cells s a.registers.graphics line.operands a.stack) refl (operands_stand s a.registers.graphics line.operands a.stack)
    where
      uses : (t : Taking Cell) → take_cells s a.registers.graphics line.operands a.stack ≡ Ok t → StandsFor a.registers.graphics a.stack (λ g. take_operands s g line.operands) (Ok t)
          → (u : Tested (Unit {0})) → TestStandsFor a.registers.graphics (λ g. test_uses s g line.uses) u
          → Transfers a frames offset (λ m. plain s m line)
          (u >>= (λ ok. Ok (leaves_cells (record a { registers = all_updated cells t.0 line.updates a.registers }) t.1 (cells_pushed t.0 a.registers.storage line.pushes))))
      uses t e h (Err n) u =
          let (m, st, is) = with_graphics a frames offset u.0 u.1 in
          let taken = split_at t.0 t.1 m.stack (take_operands s m.registers.graphics line.operands m.stack) (h.splits m.registers.graphics m.stack st.covered.graphics st.covered.stack) in
          (m, u.2.0, st, rw (taken, is, u.2.1) refl)
      uses t e h (Ok x) u =
          let (readable_updates, readable_pushes) = and_parts (are_readable line.operands line.updates) (are_readable_pushes line.operands line.pushes) readable in
          let (m, st, is) = some_machine a frames offset in
          let front : t.0 ≡ take (length t.0) a.stack = rw (← h.joined) (sym (take-append_seam t.0 t.1)) in
          let below : t.1 ≡ drop (length t.0) a.stack = rw (← h.joined) (sym (drop-append_seam t.0 t.1)) in
          let F : List Cell → Type 0 = λ l. IsBestStack (May a frames offset) (λ x. take (length t.0) x.0.stack) l in
          let B : List Cell → Type 0 = λ l. IsBestStack (May a frames offset) (λ x. drop (length t.0) x.0.stack) l in
          let taken : IsBestStack (May a frames offset) (λ x. take (length t.0) x.0.stack) t.0 =
          subst F (sym front) (best_take (May a frames offset) (λ x. x.0.stack) a.stack (length t.0) (m, zeros) (may a frames offset m st) (stack_best a frames offset)) in
          let rest : IsBestStack (May a frames offset) (λ x. drop (length t.0) x.0.stack) t.1 = subst B (sym below) (best_drop (May a frames offset) (λ x. x.0.stack) a.stack (length t.0) (stack_best a frames offset)) in
          transfers_same a frames offset (λ m. plain s m line) (plain_outcome (length t.0) line)
          (leaves_cells (record a { registers = all_updated cells t.0 line.updates a.registers }) t.1 (cells_pushed t.0 a.registers.storage line.pushes))
          (λ m st.
          let done = split_at t.0 t.1 m.stack (take_operands s m.registers.graphics line.operands m.stack) (h.splits m.registers.graphics m.stack st.covered.graphics st.covered.stack) in
          rw (done, u m.registers.graphics st.covered.graphics) refl)
          (pushes_best (May a frames offset) (λ x. take (length t.0) x.0.stack) t.0 (λ x. x.0.registers.storage) a.registers.storage line.pushes
          (pushes_readable s a.registers.graphics line.operands line.pushes a.stack t readable_pushes e) taken (registers_best a frames offset).storage (λ x. x.1) (choice_best a frames offset)
          (λ x. drop (length t.0) x.0.stack) t.1 rest)
          (updates_best (May a frames offset) (m, zeros) (may a frames offset m st) (λ x. take (length t.0) x.0.stack) (λ x. x.0.registers) t.0 a.registers line.updates
          (updates_readable s a.registers.graphics line.operands line.updates a.stack t readable_updates e) taken (registers_best a frames offset))
          (λ m st. refl)
          refl

      go : (r : Tested (Taking Cell)) → take_cells s a.registers.graphics line.operands a.stack ≡ r → StandsFor a.registers.graphics a.stack (λ g. take_operands s g line.operands) r
          → Transfers a frames offset (λ m. plain s m line)
          (r >>= (λ t. test_cell_uses s a.registers.graphics line.uses >>= (λ ok. Ok (leaves_cells (record a { registers = all_updated cells t.0 line.updates a.registers }) t.1 (cells_pushed t.0 a.registers.storage line.pushes)))))
      go (Err n) e h = (machine_with a frames offset h.graphics h.numbers (some_area a), h.reason, machine_stands a frames offset h.graphics h.numbers (some_area a) h.graphics_covered h.numbers_covered (area_covered a), rw h.fails refl)
      go (Ok t) e h = uses t e h (test_cell_uses s a.registers.graphics line.uses) (uses_stand s a.registers.graphics line.uses)
