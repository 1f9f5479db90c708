-- The rules that a section keeps.
use Rattle.std.specs.Prelude.{◌≡◌, ◌==◌, ℕ, ℤ, ◌+◌, ◌-◌, ◌^◌, ◌<◌, ◌≤◌, ◌&&◌, FitsSigned, nat_lt, nat_le, not, Bool, true, Option, Some, List, [], ◌∷◌, ◌++◌, length, reverse, slice_get, option_map}
use Rattle.std.specs.Int.{w32}
use Rattle.std.specs.List.{AllByRecursion, list_any}
use Rattle.std.specs.Option.{option_map_or}
use Rattle.std.specs.Ordering.{is_lt}
use Rattle.tt_code.specs.declared.machine.Frame.{Frame}
use Rattle.tt_abs.specs.Cells.{Cells}
use Rattle.tt_abs.specs.Contexts.{FramesFit}
use Rattle.tt_abs.specs.declared.cells.Cell.{Cell}
use Rattle.tt_abs.specs.declared.cells.Cell.TheVariants.{Known, Unknown}
use Rattle.tt_abs.specs.declared.state.State.{State}
use Rattle.tt_family.specs.Built.{key_cmp, key_of}
use Rattle.tt_family.specs.Contents.{frames_at}
use Rattle.tt_family.specs.Contexts.{frames_of}
use Rattle.tt_family.specs.Places.{place_cmp}
use Rattle.tt_cert.specs.declared.form.Form.{Form}
use Rattle.tt_cert.specs.declared.form.Form.TheVariants.{One, Two, Three, Four}
use Rattle.tt_setting.specs.declared.name.Name.{Name}
use Rattle.tt_setting.specs.declared.name.Name.TheVariants as name
use Rattle.tt_cert.specs.Forms.{most_contexts}
use Rattle.tt_cert.specs.Sections.{Context, Entry, Section}
use Rattle.tt_cert.specs.Text.{counted, pair_text}

-- the last value of a list
abbrev pub last_of : {A : Type 0} → List A → Option A
last_of xs = slice_get xs (length xs - 1)

-- each value of the list may come after those before it, as `P` says; `before` precedes the list
abbrev pub EachAfter : {A : Type 0} → (List A → A → Type 0) → List A → List A → Type 0
EachAfter P before [] = Unit {0}
EachAfter P before (x ∷ xs) = P before x × EachAfter P (before ++ x ∷ []) xs

-- a glyph's number has 16 bits
abbrev pub NameFits : Name → Type 0
NameFits name.Font = Unit {0}
NameFits name.Cvt = Unit {0}
NameFits (name.Glyph id) = id < 2 ^ 16

-- the call's turn is from 1 to its count, which is less than 2^31
abbrev pub is_turn : Frame → Bool
is_turn f = nat_le 1 f.turn && (nat_le f.turn f.count && nat_lt f.count (2 ^ 31))

-- a context comes after the one before, if there is one, by parent, call, body, turn and count
abbrev pub is_above_context : Option Context → Context → Bool
is_above_context before c = option_map_or (λ d. is_lt (key_cmp (key_of d) (key_of c))) before true

-- the body runs in none of these calls
abbrev pub is_new_body : List Frame → ℕ → Bool
is_new_body frames body = not (list_any (λ f. f.body == body) frames)

-- A context may come after those before it: its parent is one of them, or the main one; it is above
-- the last of them; its last call is in one of its turns; and the body of that call runs in no call
-- of its parent.
abbrev pub may_follow : List Context → Context → Bool
may_follow before c = nat_le c.0 (length before) && (is_above_context (last_of before) c
    && (is_turn c.1 && is_new_body (frames_at (frames_of before) c.0) c.1.body))

-- a context's numbers fit their fields, and it may come after those before it
pub record ContextFits (before : List Context) (c : Context) : Type 0 where
  pub parent : c.0 < 2 ^ 16
  pub call : c.1.call < 2 ^ 32
  pub body : c.1.body < 2 ^ 32
  pub follows : may_follow before c ≡ true

-- each context's parent comes before it
abbrev pub HaveParents : List Context → Type 0
HaveParents contexts = (i : ℕ) (c : Context) → slice_get contexts i ≡ Some c → c.0 ≤ i

-- each context may come after those before it
abbrev pub AreContexts : List Context → Type 0
AreContexts contexts = EachAfter (λ before c. may_follow before c ≡ true) [] contexts

-- a number of 32 bits, or an unknown one
abbrev pub CellFits : Cell → Type 0
CellFits (Known number) = FitsSigned w32 number
CellFits Unknown = Unit {0}

pub record GraphicsFits (g : Cells) : Type 0 where
  pub rp0 : CellFits g.rp0
  pub rp1 : CellFits g.rp1
  pub rp2 : CellFits g.rp2
  pub loop_number : CellFits g.loop_number

-- an entry's number is above that of the one before
abbrev pub is_above : {V : Type 0} → Option (ℕ × V) → ℕ × V → Bool
is_above before e = option_map_or (λ d. nat_lt d.0 e.0) before true

pub record FunctionFits (before : List (ℕ × ℕ)) (e : ℕ × ℕ) : Type 0 where
  pub number : e.0 < 2 ^ 16
  pub body : e.1 < 2 ^ 32
  pub ascends : is_above (last_of before) e ≡ true

pub record StoredFits (before : List (ℕ × ℤ)) (e : ℕ × ℤ) : Type 0 where
  pub index : e.0 < 2 ^ 16
  pub number : FitsSigned w32 e.1
  pub ascends : is_above (last_of before) e ≡ true

-- a list of so few values that 16 bits count them, each of which may come after those before it
pub record ListFits {A : Type 0} (P : List A → A → Type 0) (xs : List A) : Type 0 where
  pub few : length xs < 2 ^ 16
  pub each : EachAfter P [] xs

-- the storage cells fit the form: the first two forms list none
abbrev pub StorageFits : Form → List (ℕ × ℤ) → Type 0
StorageFits One cells = cells ≡ []
StorageFits Two cells = cells ≡ []
StorageFits Three cells = ListFits StoredFits cells
StorageFits Four cells = ListFits StoredFits cells

-- a point comes after the last one; its context is one of this many
abbrev pub is_next_point : ℕ → Option (ℕ × ℕ) → ℕ × ℕ → Bool
is_next_point contexts last p = nat_lt p.0 contexts
    && option_map_or (λ q. is_lt (place_cmp q p)) last true

-- the point of the last state
abbrev pub last_point : List Entry → Option (ℕ × ℕ)
last_point before = option_map (λ e. e.0) (last_of before)

pub record PointFits (contexts : ℕ) (last : Option (ℕ × ℕ)) (p : ℕ × ℕ) : Type 0 where
  pub context : p.0 < 2 ^ 16
  pub offset : p.1 < 2 ^ 32
  pub follows : is_next_point contexts last p ≡ true

pub record StateFits (form : Form) (s : State) : Type 0 where
  pub stack : ListFits (λ _ cell. CellFits cell) (reverse s.stack)
  pub graphics : GraphicsFits s.graphics
  pub functions : ListFits FunctionFits s.functions
  pub storage : StorageFits form s.storage

pub record EntryFits (form : Form) (contexts : ℕ) (before : List Entry) (e : Entry) : Type 0 where
  pub point : PointFits contexts (last_point before) e.0
  pub state : StateFits form e.1

-- a section keeps the rules of this form, and its numbers fit their fields
pub record Fits (form : Form) (s : Section) : Type 0 where
  pub name : NameFits s.name
  pub few_contexts : length s.contexts ≤ most_contexts form
  pub contexts : EachAfter ContextFits [] s.contexts
  pub few_states : length s.states < 2 ^ 32
  pub states : EachAfter (EntryFits form (length s.contexts + 1)) [] s.states

-- in each context of a family each call is in one of its turns, and no body runs twice
abbrev pub AreCallsInTurn : List (List Frame) → Type 0
AreCallsInTurn contexts = (number : ℕ) → number < length contexts
    → FramesFit (frames_at contexts number)

-- the last call's offset and body have 32 bits (Representation: no public clause cites it.)
abbrev pub CallFits : Context → Type 0
CallFits c = (c.1.call < 2 ^ 32) × (c.1.body < 2 ^ 32)

-- the parent's number has 16 bits, too (Representation: no public clause cites it.)
abbrev pub NumbersFit : Context → Type 0
NumbersFit c = (c.0 < 2 ^ 16) × CallFits c

-- the text says how many functions there are, and then each of them, and their numbers fit their
-- fields (Representation: no public clause cites it.)
pub record IsTextOf (text : List ℕ) (functions : List (ℕ × ℕ)) : Type 0 where
  pub text_is : text ≡ counted pair_text functions
  pub few : length functions < 2 ^ 16
  pub numbers : AllByRecursion (λ e. (e.0 < 2 ^ 16) × (e.1 < 2 ^ 32)) functions

-- a state that fits form 4, in one of this many contexts, at an offset of 32 bits
-- (Representation: no public clause cites it.)
abbrev pub HasRoom : ℕ → Entry → Type 0
HasRoom contexts e = (e.0.0 < contexts) × (e.0.1 < 2 ^ 32) × StateFits Four e.1
