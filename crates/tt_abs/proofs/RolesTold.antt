-- What an element is taken as, from the operand that tests it to the line and the instruction.
use Rattle.std.proofs.Common.{◌≡◌, ◌∙◌, ◌+◌, ◌<◌, ℕ, zero, suc, List, [], ◌∷◌, ◌++◌, Ok, None, Some, add-one, ap, arith, drop, get_or, length, refl, subst, sym, take}
use Rattle.std.proofs.Math.Seq.{drop-cons}
use Rattle.std.proofs.lemmas.List.{take-append-drop}
use Rattle.tt_code.specs.Cut.{Instruction, code_of}
use Rattle.tt_code.specs.Operands.{Taking, then_take}
use Rattle.tt_code.specs.Refusals.{◌>>=◌}
use Rattle.tt_code.specs.Settings.{Setting as SpecSetting}
use Rattle.tt_code.specs.Table.{Meaning, effect_of}
use Rattle.tt_code.specs.declared.kinds.Operand.{Operand}
use Rattle.tt_code.specs.declared.kinds.Operand.TheVariants as operands
use Rattle.tt_code.specs.declared.kinds.Within.{Within}
use Rattle.tt_abs.specs.declared.cells.Cell.{Cell}
use Rattle.tt_setting.specs.declared.failed.Role.{Role}
use Rattle.tt_setting.specs.declared.setting.Point.{Point}
use Rattle.tt_setting.specs.declared.setting.Setting.{Setting}
use Rattle.tt_abs.specs.declared.state.State.{State}
use Rattle.tt_setting.specs.declared.step_fault.StepFault.{StepFault}
use Rattle.tt_abs.specs.Cells.{Cells}
use Rattle.tt_abs.specs.Failures.{IsRoleAt, IsRoleIn, IsRoleInLine, Roles, every_other, role_in_operand}
use Rattle.tt_abs.specs.Moves.{TellsOf, TellsWhatFails}
use Rattle.tt_setting.specs.Settings.{point_instruction}
use Rattle.tt_setting.specs.Settings.{frames_of, setting_of}
use Rattle.tt_abs.specs.States.{abstract_of}
use Rattle.tt_abs.specs.Transfers.{take_cell, take_cells}
use Rattle.tt_abs.specs.Representation.Steps.{TellsOfBytes}
use Rattle.tt_abs.specs.Representation.Taken.{IsRoleFrom, TakesTo}
use Rattle.tt_abs.proofs.PlainLemmas.{then_take_parts}
use Rattle.tt_abs.proofs.StepLemmas.{first_code}
use Rattle.tt_abs.proofs.Told.{for_failed, tells_as}

-- one of as many points as the loop number says
pub point_in_loop : (taken after i : ℕ) (within : Within) → after ≡ taken + i → (r : Role) (under : ℕ) → IsRoleFrom after (operands.Point within) r under
    → IsRoleFrom taken (operands.LoopPoints within) r under
point_in_loop taken after i within e r under h = go h.0 h.1 h.2
  where
    go : (n : ℕ) → under ≡ after + n → role_in_operand (operands.Point within) n ≡ Some r → IsRoleFrom taken (operands.LoopPoints within) r under
    go zero at is = (i, omega (arith, at, e), is)
    go (suc n) at is = absurd (cc)

twice : (given : Role) (i : ℕ) → every_other given (i + i) ≡ Some given
twice given zero = refl
twice given (suc i) = let same : suc i + suc i ≡ suc (suc (i + i)) = omega arith in rw same (twice given i)

-- the first of one of the pairs after a count, by what an operand alone takes it as
pub first_in_pairs : (one pairs : Operand) (given : Role) → role_in_operand one 0 ≡ Some given → ((n : ℕ) → role_in_operand one (suc n) ≡ None) → ((n : ℕ) → role_in_operand pairs (suc n) ≡ every_other given n)
    → (taken after i : ℕ) → after ≡ taken + 1 + (i + i) → (r : Role) (under : ℕ) → IsRoleFrom after one r under → IsRoleFrom taken pairs r under
first_in_pairs one pairs given alone none each taken after i e r under h = go h.0 h.1 h.2
  where
    go : (n : ℕ) → under ≡ after + n → role_in_operand one n ≡ Some r → IsRoleFrom taken pairs r under
    go zero at is = (suc (i + i), omega (arith, at, e), each (i + i) ∙ twice given i ∙ sym alone ∙ is)
    go (suc n) at is = let no : None ≡ Some r = sym (none n) ∙ is in absurd (cc)

-- the operands before one are taken

taken_more : (s : SpecSetting) (g : Cells) (ops : List Operand) (i : ℕ) (d : Operand) (stack : List Cell) (t : Taking Cell) (next more : List Cell) → i < length ops → take_cells s g (take i ops) stack ≡ Ok t
    → take_cell s g (get_or ops i d) t.1 ≡ Ok (more, next) → (all : List Cell) × (take_cells s g (take (suc i) ops) stack ≡ Ok (all, next))
taken_more s g [] i d stack t next more h before one = absurd (omega (arith, h))
taken_more s g (o ∷ os) zero d stack t next more h before one =
    let same : t ≡ ([], stack) = cc in
    let below : t.1 ≡ stack = ap (λ x. x.1) same in (more ++ [], rw (rw below at one) refl)
taken_more s g (o ∷ os) (suc i) d stack t next more h before one =
    let (u, v, f, g_rest, is, left) = then_take_parts (take_cell s g o stack) (take_cells s g (take i os)) t before in
    let below = subst (λ cells. take_cell s g (get_or os i d) cells ≡ Ok (more, next)) left one in
    let (all, rest) = taken_more s g os i d u.1 v next more (omega (arith, h)) g_rest below in
    (u.0 ++ all, ap (λ r. then_take r (take_cells s g (take (suc i) os))) f ∙ ap (λ r. r >>= (λ b. Ok (u.0 ++ b.0, b.1))) rest)

pub taken_next : (s : SpecSetting) (g : Cells) (ops : List Operand) (i : ℕ) (d : Operand) (stack : List Cell) (taken after : ℕ) → i < length ops → TakesTo stack taken (take_cells s g (take i ops) stack)
    → TakesTo stack after (take_cell s g (get_or ops i d) (drop taken stack)) → TakesTo stack after (take_cells s g (take (i + 1) ops) stack)
taken_next s g ops i d stack taken after h before one =
    rw add-one (taken_more s g ops i d stack (before.0, drop taken stack) (drop after stack) one.0 h before.1 one.1)

-- an operand's element is one of the line's
pub in_line : (s : SpecSetting) (g : Cells) (ops : List Operand) (i : ℕ) (d : Operand) (stack : List Cell) (taken : ℕ) → i < length ops → TakesTo stack taken (take_cells s g (take i ops) stack)
    → (r : Role) (under : ℕ) → IsRoleFrom taken (get_or ops i d) r under → IsRoleInLine s g stack ops r under
in_line s g ops i d stack taken h before r under is =
    let rest : drop i ops ≡ get_or ops i d ∷ drop (i + 1) ops = rw (add-one, drop-cons ops i d) refl in
    let all : ops ≡ take i ops ++ get_or ops i d ∷ drop (i + 1) ops = sym (take-append-drop i ops) ∙ ap (λ l. take i ops ++ l) rest in
    (take i ops, get_or ops i d, drop (i + 1) ops, all, before.0, taken, is.0, before.1, is.1, is.2)

-- an instruction's, by its bytes
pub code_told : (takes : Roles) (setting : Setting) (point : Point) (state : State) (left : ℕ) (i : Instruction) (c : ℕ) (w : Meaning) (e : StepFault) → code_of i ≡ Some c → effect_of c ≡ w
    → ((r : Role) (n : ℕ) → takes r n → IsRoleIn (setting_of setting) (abstract_of state) w r n) → TellsOf takes setting point state left e → TellsOfBytes setting point i state left e
code_told takes setting point state left i c w e found means is told = λ code rest bytes.
    let S = setting_of setting in
    let a = abstract_of state in
    let same : effect_of code ≡ w = ap effect_of (first_code i c code rest found bytes) ∙ means in
    let takes_it : (r : Role) (n : ℕ) → takes r n → IsRoleIn S a (effect_of code) r n = λ r n h. let P : Meaning → Type 0 = λ v. IsRoleIn S a v r n in subst P (sym same) (is r n h) in
    for_failed e _ _ (λ f h. tells_as takes (IsRoleIn S a (effect_of code)) S (frames_of point) point.offset a left f takes_it h) told

-- the same at the instruction's place
pub there_told : (setting : Setting) (point : Point) (state : State) (left : ℕ) (i : Instruction) (c : ℕ) (e : StepFault) → code_of i ≡ Some c → point_instruction setting point ≡ Some i
    → TellsOfBytes setting point i state left e → TellsWhatFails setting point state left e
there_told setting point state left [] c e found there told = absurd (cc)
there_told setting point state left (code ∷ rest) c e found there told =
    let S = setting_of setting in
    let fs = frames_of point in
    let a = abstract_of state in
    for_failed e _ _ (λ f h. tells_as (IsRoleIn S a (effect_of code)) (IsRoleAt S fs point.offset a) S fs point.offset a left f (λ r n is. (code, rest, there, is)) h) (told code rest refl)
