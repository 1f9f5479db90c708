-- The parts of an instruction's work, put together as the outcome on cells.
use Rattle.std.specs.Prelude.{Result, IfErr, Option, ◌<◌, ◌≤◌, map, nat_le}
use Rattle.std.specs.Result.{IsErrAnd}
use Rattle.std.proofs.Common.{◌≡◌, ℕ, suc, ◌+◌, List, [], ◌∷◌, Ok, Err, Some, None, refl, sym, ◌∙◌, ap, subst, length, true, false, Bool}
use Rattle.std.proofs.lemmas.Bool.{le-leb, lt-leb}
use Rattle.tt_code.specs.Refusals.{Tested, ◌>>=◌, holds_or}
use Rattle.tt_code.specs.Table.{Meaning, Pushes, effect_of}
use Rattle.tt_code.specs.Cut.{Instruction, instruction_at, code_of, data_of, data_in, data_after}
use Rattle.tt_code.specs.Computing.{numbers_in}
use Rattle.tt_code.specs.declared.kinds.Push.{Push}
use Rattle.tt_code.specs.Settings.{Setting, body_of, is_body, program_of, starts_in_body}
use Rattle.tt_code.specs.Structure.{body_at}
use Rattle.tt_code.specs.declared.machine.Body.{Body}
use Rattle.tt_code.specs.declared.machine.Body.TheVariants as body
use Rattle.tt_code.specs.declared.machine.Frame.{Frame}
use Rattle.tt_code.specs.declared.reason.Reason.{Reason}
use Rattle.tt_code.specs.declared.reason.Reason.TheVariants as reason
use Rattle.tt_setting.specs.declared.failed.Failed.{Failed}
use Rattle.tt_setting.specs.declared.refusal.Refusal.{Refusal}
use Rattle.tt_setting.specs.declared.spot.Spot.{Spot}
use Rattle.tt_setting.specs.declared.step_fault.StepFault.{StepFault}
use Rattle.tt_setting.specs.declared.step_fault.StepFault.TheVariants.{Refused, OutOfMemory}
use Rattle.tt_abs.specs.declared.cells.Cell.{Cell}
use Rattle.tt_abs.specs.declared.cells.Cell.TheVariants.{Known}
use Rattle.tt_abs.specs.declared.state.State.{State}
use Rattle.tt_abs.specs.declared.moves.Moves.{Moves}
use Rattle.tt_abs.specs.declared.moves.Moves.TheVariants as moves
use Rattle.tt_setting.specs.Refusals.{reason_of}
use Rattle.tt_setting.specs.Refusals.{ForFailed, ForReason}
use Rattle.tt_abs.specs.Moves.{nexts_of}
use Rattle.tt_setting.specs.Refusals.{IsOfNoBudget, refusal_at}
use Rattle.tt_abs.specs.States.{abstract_of, state_order}
use Rattle.tt_setting.specs.Entries.{Ascends}
use Rattle.tt_abs.specs.Ranges.{AreNextInRange, IsStateInRange}
use Rattle.tt_setting.specs.Ranges.{IsSettingInRange}
use Rattle.tt_abs.proofs.RangesKept.{keeps_range}
use Rattle.tt_abs.proofs.StateParts.{abstract_in_range, state_in_range}
use Rattle.tt_abs.specs.Cells.{Abstract}
use Rattle.tt_abs.specs.Transfers.{Next, cells_on, pushed_cells, one_way, does_cells, goes_on_cells, performs_cells, within_cells, are_within, outcome_on_cells}
use Rattle.tt_setting.specs.Settings.{instruction_of}

-- a refusal that is passed on
pub passed_on : {A : Type 0} (r : Result A StepFault) (e : StepFault) (P : StepFault → Type 0) → P e → IsErrAnd r (λ x. x ≡ e) → IfErr r P
passed_on (Ok a) e P h k = tt
passed_on (Err x) e P h k = subst P (sym k) h

pub first_code : (i : Instruction) (c code : ℕ) (rest : List ℕ) → code_of i ≡ Some c → i ≡ code ∷ rest → code ≡ c
first_code [] c code rest e f = absurd (cc)
first_code (d ∷ ds) c code rest e f = cc

-- what goes on after itself
pub acts : (s : Setting) (fs : List Frame) (at : ℕ) (a b : Abstract) (w : Meaning) (code : ℕ) (rest : List ℕ) (size : ℕ) (r : Tested Abstract) → effect_of code ≡ w
    → ((next : ℕ) → does_cells s fs at a w rest next ≡ goes_on_cells fs next r) → r ≡ Ok b → size ≡ suc (length rest)
    → does_cells s fs at a (effect_of code) rest (at + suc (length rest)) ≡ Ok (one_way fs (at + size) b)
acts s fs at a b w code rest size r e f g h =
    ap (λ v. does_cells s fs at a v rest (at + suc (length rest))) e ∙ f (at + suc (length rest)) ∙ ap (goes_on_cells fs (at + suc (length rest))) g ∙ ap (λ n. Ok (one_way fs (at + n) b)) (sym h)

pub acts_not : (s : Setting) (fs : List Frame) (at : ℕ) (a : Abstract) (w : Meaning) (code : ℕ) (rest : List ℕ) (r : Tested Abstract) (q : Reason) → effect_of code ≡ w
    → ((next : ℕ) → does_cells s fs at a w rest next ≡ goes_on_cells fs next r) → r ≡ Err q
    → does_cells s fs at a (effect_of code) rest (at + suc (length rest)) ≡ Err q
acts_not s fs at a w code rest r q e f g =
    ap (λ v. does_cells s fs at a v rest (at + suc (length rest))) e ∙ f (at + suc (length rest)) ∙ ap (goes_on_cells fs (at + suc (length rest))) g

-- the data of a push instruction, pushed
pub push_done : (old new : State) (i : Instruction) (code : ℕ) (rest : List ℕ) (push : Push) (bytes : List ℕ) (stack : List Cell) → i ≡ code ∷ rest → effect_of code ≡ Pushes push → bytes ≡ data_of i
    → stack ≡ cells_on (map Known (numbers_in push bytes)) old.stack → new ≡ record old { stack = stack } → ◌≡◌ {A = Tested Abstract} (Ok (pushed_cells push (abstract_of old) rest)) (Ok (abstract_of new))
push_done old new i code rest push bytes stack e f g h k =
    let is_data : bytes ≡ data_after push rest = g ∙ ap data_of e ∙ ap (λ w. data_in w rest) f in
    rw (k, h, is_data) refl

-- the depth afterwards

pub performs_not : (s : Setting) (fs : List Frame) (at : ℕ) (a : Abstract) (i : Instruction) (q : Reason) → instruction_of s fs at ≡ Some i
    → ((code : ℕ) (rest : List ℕ) → i ≡ code ∷ rest → does_cells s fs at a (effect_of code) rest (at + suc (length rest)) ≡ Err q) → (c : ℕ) → code_of i ≡ Some c
    → outcome_on_cells s fs at a ≡ Err q
unfolding outcome_on_cells
performs_not s fs at a [] q e f c h = absurd (cc)
performs_not s fs at a (code ∷ rest) q e f c h = ap (performs_cells s fs at a) e ∙ ap (λ r. r >>= within_cells s) (f code rest refl)

pub performs_then : (s : Setting) (fs : List Frame) (at : ℕ) (a : Abstract) (i : Instruction) (ns : List Next) (b : Bool) → instruction_of s fs at ≡ Some i
    → ((code : ℕ) (rest : List ℕ) → i ≡ code ∷ rest → does_cells s fs at a (effect_of code) rest (at + suc (length rest)) ≡ Ok ns) → (c : ℕ) → code_of i ≡ Some c → are_within s ns ≡ b
    → outcome_on_cells s fs at a ≡ (holds_or b reason.Overflow >>= (λ ok. Ok ns))
unfolding outcome_on_cells
performs_then s fs at a [] ns b e f c h k = absurd (cc)
performs_then s fs at a (code ∷ rest) ns b e f c h k = ap (performs_cells s fs at a) e ∙ ap (λ r. r >>= within_cells s) (f code rest refl) ∙ ap (λ v. holds_or v reason.Overflow >>= (λ ok. Ok ns)) k

-- all successors of the code have one stack
pub moves_within : (s : Setting) (fs : List Frame) (moves : Moves) (a : Abstract) → length a.stack ≤ s.limits.stack → are_within s (nexts_of fs moves a) ≡ true
moves_within s fs (moves.One m) a h = let one : nat_le (length a.stack) s.limits.stack ≡ true = le-leb (length a.stack) s.limits.stack h in rw one refl
moves_within s fs (moves.Two m n) a h = let one : nat_le (length a.stack) s.limits.stack ≡ true = le-leb (length a.stack) s.limits.stack h in rw one refl

pub moves_beyond : (s : Setting) (fs : List Frame) (moves : Moves) (a : Abstract) → s.limits.stack < length a.stack → are_within s (nexts_of fs moves a) ≡ false
moves_beyond s fs (moves.One m) a h = let one : nat_le (length a.stack) s.limits.stack ≡ false = lt-leb (length a.stack) s.limits.stack h in rw one refl
moves_beyond s fs (moves.Two m n) a h = let one : nat_le (length a.stack) s.limits.stack ≡ false = lt-leb (length a.stack) s.limits.stack h in rw one refl

-- the instruction that the code finds

pub found_at : (s : Setting) (fs : List Frame) (at : ℕ) (p : List Instruction) (i : Instruction) → p ≡ program_of s fs → starts_in_body s fs at ≡ true → ◌≡◌ {A = Option Instruction} (Some i) (instruction_at p at)
    → instruction_of s fs at ≡ Some i
found_at s fs at p i e f g = rw f (ap (λ q. instruction_at q at) (sym e) ∙ sym g)

pub none_at : (s : Setting) (fs : List Frame) (at : ℕ) (a : Abstract) (p : List Instruction) → p ≡ program_of s fs → starts_in_body s fs at ≡ true → ◌≡◌ {A = Option Instruction} None (instruction_at p at)
    → outcome_on_cells s fs at a ≡ Err reason.Target
unfolding outcome_on_cells
none_at s fs at a p e f g =
    let none : instruction_of s fs at ≡ None = rw f (ap (λ q. instruction_at q at) (sym e) ∙ sym g) in ap (performs_cells s fs at a) none

-- the body that the code finds decides whether an instruction of the point's body starts there
pub starts_is : (s : Setting) (fs : List Frame) (at : ℕ) (p : List Instruction) (found : Option Body) → p ≡ program_of s fs → found ≡ body_at p at
    → starts_in_body s fs at ≡ is_body (body_of fs) found
starts_is s fs at p found e f = ap (λ q. is_body (body_of fs) (body_at q at)) (sym e) ∙ ap (is_body (body_of fs)) (sym f)

pub none_is_body : (b : Body) → is_body b None ≡ false
none_is_body body.Main = refl
none_is_body (body.Function first) = refl
none_is_body (body.Instruction first) = refl

-- where no instruction of the body starts
pub no_start : (s : Setting) (fs : List Frame) (at : ℕ) (a : Abstract) → starts_in_body s fs at ≡ false → outcome_on_cells s fs at a ≡ Err reason.Target
unfolding outcome_on_cells
no_start s fs at a none = rw none refl

-- what is left is in range

first_in_range : (fs : List Frame) (moves : Moves) (a : Abstract) → AreNextInRange (nexts_of fs moves a) → IsStateInRange a
first_in_range fs (moves.One m) a h = h.0
first_in_range fs (moves.Two m n) a h = h.0

pub left_in_range : (s : Setting) (fs : List Frame) (at : ℕ) (old new : State) (moves : Moves) → IsSettingInRange s → state_order.InRange old
    → outcome_on_cells s fs at (abstract_of old) ≡ Ok (nexts_of fs moves (abstract_of new)) → Ascends new.functions → Ascends new.storage → state_order.InRange new
left_in_range s fs at old new moves setting h e functions storage =
    state_in_range new functions storage (first_in_range fs moves (abstract_of new) (keeps_range s fs at (abstract_of old) (nexts_of fs moves (abstract_of new)) setting (abstract_in_range old h) e))
