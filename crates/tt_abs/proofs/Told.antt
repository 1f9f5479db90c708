-- What is told of a test, by what it was told of.
use Rattle.std.specs.Prelude.{Result, IfErr, ℤ}
use Rattle.std.specs.Result.{IsErrAnd}
use Rattle.std.proofs.Common.{◌≡◌, ◌∙◌, ◌<◌, ℕ, List, ◌∷◌, Ok, Err, Some, ap, arith, drop, length, refl, subst, sym}
use Rattle.std.proofs.lemmas.Result.{IfErr-weaker}
use Rattle.tt_code.specs.Computing.{element}
use Rattle.tt_code.specs.declared.reason.Reason.TheVariants as reason
use Rattle.tt_abs.specs.declared.cells.Cell.TheVariants as cell
use Rattle.tt_setting.specs.declared.failed.Failed.TheVariants as failed
use Rattle.tt_setting.specs.declared.failed.Role.{Role}
use Rattle.tt_abs.specs.declared.cells.Cell.{Cell}
use Rattle.tt_setting.specs.declared.failed.Failed.{Failed}
use Rattle.tt_code.specs.Settings.{Setting as SpecSetting}
use Rattle.tt_code.specs.declared.kinds.Operand.{Operand}
use Rattle.tt_code.specs.declared.kinds.Row.{Row}
use Rattle.tt_code.specs.declared.machine.Frame.{Frame}
use Rattle.tt_setting.specs.declared.setting.Point.{Point}
use Rattle.tt_setting.specs.declared.setting.Setting.{Setting}
use Rattle.tt_abs.specs.declared.state.State.{State}
use Rattle.tt_setting.specs.declared.step_fault.StepFault.{StepFault}
use Rattle.tt_setting.specs.declared.step_fault.StepFault.TheVariants.{Refused, OutOfMemory}
use Rattle.tt_abs.specs.Cells.{Abstract, Cells}
use Rattle.tt_abs.specs.Failures.{IsOnTop, Roles, TellsWith, role_in_operand}
use Rattle.tt_setting.specs.Refusals.{reason_of}
use Rattle.tt_setting.specs.Refusals.{ForFailed}
use Rattle.tt_abs.specs.Moves.{TellsOf}
use Rattle.tt_setting.specs.Settings.{frames_of, setting_of}
use Rattle.tt_abs.specs.States.{abstract_of}
use Rattle.tt_abs.specs.Representation.Steps.{IsRoleOfLine, TellsOfLine}
use Rattle.tt_abs.specs.Representation.Taken.{IsNoRole, IsRole, IsRoleFrom, TellsOfGraphics, TellsOfGraphicsIn, TellsOfOperands, TellsOfStack, TellsOfStackAs, TellsOfStackIn}

pub for_failed : (e : StepFault) (P Q : Failed → Type 0) → ((f : Failed) → P f → Q f) → ForFailed e P → ForFailed e Q
for_failed (Refused f) P Q h told = h f told
for_failed (OutOfMemory m) P Q h told = tt

-- what is told is so where each element is taken as is said there
pub tells_as : (takes other : Roles) (s : SpecSetting) (fs : List Frame) (at : ℕ) (a : Abstract) (left : ℕ) (f : Failed) → ((r : Role) (n : ℕ) → takes r n → other r n)
    → TellsWith takes s fs at a left f → TellsWith other s fs at a left f
tells_as takes other s fs at a left (failed.Unknown r under) h told = (told.0, told.1, h r under told.2)
tells_as takes other s fs at a left (failed.Only r) h told = told
tells_as takes other s fs at a left (failed.TooFew d) h told = told
tells_as takes other s fs at a left (failed.NoElement i) h told = told
tells_as takes other s fs at a left (failed.TooDeep d) h told = told
tells_as takes other s fs at a left (failed.UnknownIn g) h told = told
tells_as takes other s fs at a left (failed.MayBeOutside r z n) h told = told
tells_as takes other s fs at a left (failed.MayBeOutsideIn g z) h told = told
tells_as takes other s fs at a left (failed.NoPoint z n) h told = told
tells_as takes other s fs at a left (failed.NoReferencePoint g z n) h told = told
tells_as takes other s fs at a left (failed.NoControlValue i) h told = told
tells_as takes other s fs at a left (failed.NoStorageCell i) h told = told
tells_as takes other s fs at a left (failed.NoZone n) h told = told
tells_as takes other s fs at a left (failed.NoContour z n) h told = told
tells_as takes other s fs at a left (failed.NegativeCount n) h told = told
tells_as takes other s fs at a left (failed.NegativeLoop n) h told = told
tells_as takes other s fs at a left (failed.LowIndex i) h told = told
tells_as takes other s fs at a left (failed.NoTarget b) h told = told
tells_as takes other s fs at a left (failed.NoFunction n) h told = told
tells_as takes other s fs at a left (failed.Undefined n) h told = told
tells_as takes other s fs at a left (failed.Running n) h told = told
tells_as takes other s fs at a left (failed.OtherDepth d) h told = told

first_element : (taken : ℕ) (o : Operand) (given : Role) → role_in_operand o 0 ≡ Some given → IsRoleFrom taken o given taken
first_element taken o given is = (0, omega arith, is)

-- nothing is taken as anything
pub as_none : (other : Roles) (r : Role) (m : ℕ) → IsNoRole r m → other r m
as_none other r m h = absurd h

-- one element is taken as one thing
pub as_one : (given : Role) (n : ℕ) (other : Roles) → other given n → (r : Role) (m : ℕ) → IsRole given n r m → other r m
as_one given n other h r m is = subst (λ (k : ℕ). other r k) (sym is.1) (subst (λ (q : Role). other q n) (sym is.0) h)

tells_none : (other : Roles) (s : SpecSetting) (fs : List Frame) (at : ℕ) (a : Abstract) (left : ℕ) (f : Failed) → TellsWith IsNoRole s fs at a left f → TellsWith other s fs at a left f
tells_none other s fs at a left f = tells_as IsNoRole other s fs at a left f (as_none other)

pub stack_in : (setting : Setting) (stack : List Cell) (given : Role) (taken : ℕ) (o : Operand) (f : Failed) → role_in_operand o 0 ≡ Some given → TellsOfStackAs (IsRole given taken) stack f
    → TellsOfStackIn setting stack (IsRoleFrom taken o) f
stack_in setting stack given taken o f is h =
    λ fs at a left. tells_as (IsRole given taken) (IsRoleFrom taken o) (setting_of setting) fs at (record a { stack = stack }) left f (as_one given taken (IsRoleFrom taken o) (first_element taken o given is)) (h (setting_of setting) fs at a left)

pub stack_operands : (setting : Setting) (g : Cells) (stack : List Cell) (given : Role) (taken : ℕ) (o : Operand) (f : Failed) → role_in_operand o 0 ≡ Some given → TellsOfStackAs (IsRole given taken) stack f
    → TellsOfOperands setting g stack (IsRoleFrom taken o) f
stack_operands setting g stack given taken o f is h =
    λ fs at a left. stack_in setting stack given taken o f is h fs at (record a { registers = record a.registers { graphics = g } }) left

pub any_operands : (setting : Setting) (g : Cells) (stack : List Cell) (takes : Roles) (f : Failed) → TellsOfStack stack f → TellsOfOperands setting g stack takes f
any_operands setting g stack takes f h =
    λ fs at a left. let b = record a { registers = record a.registers { graphics = g } } in
    tells_none takes (setting_of setting) fs at (record b { stack = stack }) left f (h (setting_of setting) fs at b left)

pub in_operands : (setting : Setting) (g : Cells) (stack : List Cell) (takes : Roles) (f : Failed) → TellsOfStackIn setting stack takes f → TellsOfOperands setting g stack takes f
in_operands setting g stack takes f h = λ fs at a left. h fs at (record a { registers = record a.registers { graphics = g } }) left

pub any_in : (setting : Setting) (stack : List Cell) (takes : Roles) (f : Failed) → TellsOfStack stack f → TellsOfStackIn setting stack takes f
any_in setting stack takes f h = λ fs at a left. tells_none takes (setting_of setting) fs at (record a { stack = stack }) left f (h (setting_of setting) fs at a left)

-- an operand within another, or within a line
pub operands_as : (setting : Setting) (g : Cells) (stack : List Cell) (takes other : Roles) (f : Failed) → ((r : Role) (n : ℕ) → takes r n → other r n) → TellsOfOperands setting g stack takes f
    → TellsOfOperands setting g stack other f
operands_as setting g stack takes other f is h =
    λ fs at a left. tells_as takes other (setting_of setting) fs at (record a { stack = stack; registers = record a.registers { graphics = g } }) left f is (h fs at a left)

pub in_as : (setting : Setting) (stack : List Cell) (takes other : Roles) (f : Failed) → ((r : Role) (n : ℕ) → takes r n → other r n) → TellsOfStackIn setting stack takes f → TellsOfStackIn setting stack other f
in_as setting stack takes other f is h = λ fs at a left. tells_as takes other (setting_of setting) fs at (record a { stack = stack }) left f is (h fs at a left)

pub graphics_operands : (setting : Setting) (g : Cells) (stack : List Cell) (takes : Roles) (f : Failed) → TellsOfGraphics g f → TellsOfOperands setting g stack takes f
graphics_operands setting g stack takes f h =
    λ fs at a left. let b = record a { stack = stack } in
    tells_none takes (setting_of setting) fs at (record b { registers = record b.registers { graphics = g } }) left f (h (setting_of setting) fs at b left)

pub operands_line : (setting : Setting) (state : State) (line : Row) (f : Failed) → TellsOfOperands setting state.graphics state.stack (IsRoleOfLine setting state line) f → TellsOfLine setting state line f
operands_line setting state line f h = λ fs at left. h fs at (abstract_of state) left

pub graphics_line : (setting : Setting) (state : State) (line : Row) (f : Failed) → TellsOfGraphicsIn setting state.graphics f → TellsOfLine setting state line f
graphics_line setting state line f h =
    λ fs at left. tells_none (IsRoleOfLine setting state line) (setting_of setting) fs at (abstract_of state) left f (h fs at (abstract_of state) left)

-- a refusal by a failed test
pub refused_told : {A : Type 0} (r : Result A StepFault) (f : Failed) (P : Failed → Type 0) → P f → IsErrAnd r (λ x. x ≡ Refused f) → IfErr r (λ e. ForFailed e P)
refused_told (Ok a) f P h k = tt
refused_told (Err x) f P h k = let E : StepFault → Type 0 = λ y. ForFailed y P in subst E (sym k) h

-- the same of an instruction: a test of the depth that it leaves, and then one of its stack
pub step_told : {A : Type 0} (takes other : Roles) (setting : Setting) (point : Point) (state : State) (r : Result A StepFault) (f : Failed) (left after : ℕ) → ((q : Role) (n : ℕ) → takes q n → other q n)
    → TellsWith takes (setting_of setting) (frames_of point) point.offset (abstract_of state) left f → left ≡ after → IsErrAnd r (λ x. x ≡ Refused f) → IfErr r (TellsOf other setting point state after)
step_told takes other setting point state r f left after is h e =
    let P : ℕ → Failed → Type 0 = TellsWith other (setting_of setting) (frames_of point) point.offset (abstract_of state) in
    refused_told r f (P after) (subst (λ (n : ℕ). P n f) e (tells_as takes other (setting_of setting) (frames_of point) point.offset (abstract_of state) left f is h))

pub stack_step_told : {A : Type 0} (takes other : Roles) (setting : Setting) (point : Point) (state : State) (r : Result A StepFault) (f : Failed) (left : ℕ) → ((q : Role) (n : ℕ) → takes q n → other q n)
    → TellsOfStackAs takes state.stack f → IsErrAnd r (λ x. x ≡ Refused f) → IfErr r (TellsOf other setting point state left)
stack_step_told takes other setting point state r f left is h =
    step_told takes other setting point state r f left left is (h (setting_of setting) (frames_of point) point.offset (abstract_of state) left) refl

pub answer_as : {A : Type 0} (r : Result A StepFault) (takes other : Roles) (setting : Setting) (point : Point) (state : State) (left : ℕ) → ((q : Role) (n : ℕ) → takes q n → other q n)
    → IfErr r (TellsOf takes setting point state left) → IfErr r (TellsOf other setting point state left)
answer_as r takes other setting point state left is =
    IfErr-weaker r (TellsOf takes setting point state left) (TellsOf other setting point state left)
    (λ e. for_failed e _ _ (λ f. tells_as takes other (setting_of setting) (frames_of point) point.offset (abstract_of state) left f is))

pub stack_answer_as : {A : Type 0} (r : Result A StepFault) (takes other : Roles) (stack : List Cell) → ((q : Role) (n : ℕ) → takes q n → other q n)
    → IfErr r (λ e. ForFailed e (TellsOfStackAs takes stack)) → IfErr r (λ e. ForFailed e (TellsOfStackAs other stack))
stack_answer_as r takes other stack is =
    IfErr-weaker r (λ e. ForFailed e (TellsOfStackAs takes stack)) (λ e. ForFailed e (TellsOfStackAs other stack))
    (λ e. for_failed e _ _ (λ f h s fs at a left. tells_as takes other s fs at (record a { stack = stack }) left f is (h s fs at a left)))

-- the same where it is passed on
pub stack_fault_told : (takes : Roles) (setting : Setting) (point : Point) (state : State) (e : StepFault) (left : ℕ) → ForFailed e (TellsOfStackAs takes state.stack) → TellsOf takes setting point state left e
stack_fault_told takes setting point state e left =
    for_failed e (TellsOfStackAs takes state.stack) (TellsWith takes (setting_of setting) (frames_of point) point.offset (abstract_of state) left) (λ f h. h (setting_of setting) (frames_of point) point.offset (abstract_of state) left)

-- the tests of a stack

pub on_top : (stack below : List Cell) (k : Cell) (number : ℤ) → stack ≡ k ∷ below → k ≡ cell.Known number → IsOnTop stack number
on_top stack below k number d u = (below, d ∙ ap (λ c. c ∷ below) u)

pub too_few_told : (takes : Roles) (stack : List Cell) (f : Failed) → f ≡ failed.TooFew (length stack) → TellsOfStackAs takes stack f
too_few_told takes stack f e = let P : Failed → Type 0 = λ x. TellsOfStackAs takes stack x in subst P (sym e) (λ s fs at a left. refl)

pub unknown_told : (stack below : List Cell) (k : Cell) (role : Role) (under : ℕ) (f : Failed) → drop under stack ≡ k ∷ below → k ≡ cell.Unknown → f ≡ failed.Unknown role under → TellsOfStackAs (IsRole role under) stack f
unknown_told stack below k role under f d u e =
    let P : Failed → Type 0 = λ x. TellsOfStackAs (IsRole role under) stack x in subst P (sym e) (λ s fs at a left. (below, d ∙ ap (λ c. c ∷ below) u, (refl, refl)))

pub low_told : (takes : Roles) (stack below : List Cell) (k : Cell) (index : ℤ) (f : Failed) → drop 0 stack ≡ k ∷ below → k ≡ cell.Known index → ((cells : List Cell) → element index cells ≡ Err (reason_of f))
    → f ≡ failed.LowIndex index → TellsOfStackAs takes stack f
low_told takes stack below k index f d u h e =
    let P : Failed → Type 0 = λ x. ((cells : List Cell) → element index cells ≡ Err (reason_of x)) → TellsOfStackAs takes stack x in
    subst P (sym e) (λ g s fs at a left. (on_top stack below k index d u, g)) h

-- the tests of control instructions

pub too_deep_told : (takes : Roles) (setting : Setting) (point : Point) (a : Abstract) (left : ℕ) (f : Failed) → f ≡ failed.TooDeep left → setting.limits.stack < left
    → TellsWith takes (setting_of setting) (frames_of point) point.offset a left f
too_deep_told takes setting point a left f e h = let P : Failed → Type 0 = TellsWith takes (setting_of setting) (frames_of point) point.offset a left in subst P (sym e) (refl, h)

pub only_told : (stack : List Cell) (f : Failed) → f ≡ failed.Only reason.Target → TellsOfStack stack f
only_told stack f e = let P : Failed → Type 0 = TellsOfStack stack in subst P (sym e) (λ s fs at a left. tt)
