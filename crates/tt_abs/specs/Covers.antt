-- The smallest cell for the values of a function, the smallest abstract state for a set of machine
-- states, and what it means that an outcome on cells stands for the machine's outcomes.
use Rattle.std.specs.Prelude.{◌≡◌, ◌⊎◌, ℕ, ℤ, ◌<◌, ◌≤◌, ◌||◌, List, [], ◌∷◌, Ok, Err, Some, Bool, true, false, length, slice_get}
use Rattle.tt_code.specs.Refusals.{Tested}
use Rattle.tt_code.specs.Settings.{ZoneNumber, Zero, One}
use Rattle.tt_code.specs.States.{Machine, Outcome, IsNumber}
use Rattle.tt_code.specs.Runs.{Choices, left_by}
use Rattle.tt_code.specs.declared.machine.Frame.{Frame}
use Rattle.tt_code.specs.declared.reason.Reason.{Reason}
use Rattle.tt_abs.specs.declared.cells.Cell.{Cell}
use Rattle.tt_abs.specs.declared.cells.Cell.TheVariants.{Known, Unknown}
use Rattle.tt_setting.specs.declared.zone.ZoneCell.{ZoneCell}
use Rattle.tt_setting.specs.declared.zone.ZoneCell.TheVariants as zone
use Rattle.tt_abs.specs.Cells.{Abstract, CoversState}
use Rattle.tt_abs.specs.Transfers.{Next, is_running}

-- the smallest cell for the values of a function on a set: it is known exactly if the function has
-- one value there
abbrev pub IsBestFor : {X : Type 0} → (X → Type 0) → (X → ℤ) → Cell → Type 0
IsBestFor {X} In f (Known k) = ((x : X) → In x → f x ≡ k) × ((x : X) × In x)
IsBestFor {X} In f Unknown =
    ((x : X) → In x → IsNumber (f x)) × ((x : X) × (y : X) × In x × In y × (f x ≡ f y → ⊥))

-- the smallest zone cell for the values of a function on a set
abbrev pub IsBestZone : {X : Type 0} → (X → Type 0) → (X → ZoneNumber) → ZoneCell → Type 0
IsBestZone {X} In f zone.Zero = ((x : X) → In x → f x ≡ Zero) × ((x : X) × In x)
IsBestZone {X} In f zone.One = ((x : X) → In x → f x ≡ One) × ((x : X) × In x)
IsBestZone {X} In f zone.Either = ((x : X) × In x × (f x ≡ Zero)) × ((x : X) × In x × (f x ≡ One))

-- the machine is at this place, and the abstract state covers it
pub record Stands (a : Abstract) (frames : List Frame) (offset : ℕ) (m : Machine) : Type 0 where
  pub covered : CoversState a m
  pub frames_are : m.frames ≡ frames
  pub offset_is : m.offset ≡ offset

-- what such a machine may become by something that it does
pub record Becomes (a : Abstract) (frames : List Frame) (offset : ℕ)
    (does : Machine → Tested Outcome) (new : Machine) : Type 0 where
  pub old : Machine
  pub stands : Stands a frames offset old
  pub result : Outcome
  pub does_it : does old ≡ Ok result
  pub choices : Choices
  pub are_numbers : (i : ℕ) → IsNumber (choices i)
  pub new_is : new ≡ left_by result choices

-- The abstract state covers each of these machines, and is below every other one that does: the
-- other covers all that it covers.
pub record IsSmallestCover (These : Machine → Type 0) (b : Abstract) : Type 0 where
  pub covers : (m : Machine) → These m → CoversState b m
  pub least : (d : Abstract) → ((m : Machine) → These m → CoversState d m) → (m : Machine)
      → CoversState b m → CoversState d m

-- those of the machines that are at one place
abbrev pub At : (Machine → Type 0) → List Frame → ℕ → Machine → Type 0
At These frames offset m = These m × (m.frames ≡ frames) × (m.offset ≡ offset)

-- One entry for each place at which a machine is: its state is the smallest that covers those
-- there.
pub record AreSmallestCovers (These : Machine → Type 0) (nexts : List Next) : Type 0 where
  pub places : (m : Machine) → These m
      → (i : ℕ) × (n : Next) × (slice_get nexts i ≡ Some n) × (m.frames ≡ n.frames)
      × (m.offset ≡ n.offset)
  pub met : (i : ℕ) (n : Next) → slice_get nexts i ≡ Some n
      → (m : Machine) × At These n.frames n.offset m
  pub smallest : (i : ℕ) (n : Next) → slice_get nexts i ≡ Some n
      → IsSmallestCover (At These n.frames n.offset) n.state
  pub apart : (i j : ℕ) (n o : Next) → slice_get nexts i ≡ Some n → slice_get nexts j ≡ Some o
      → n.frames ≡ o.frames → n.offset ≡ o.offset → i ≡ j

-- some covered machine at this place faults
abbrev pub SomeFaults : Abstract → List Frame → ℕ → (Machine → Tested Outcome) → Type 0
SomeFaults a frames offset does =
    (m : Machine) × (r : Reason) × Stands a frames offset m × (does m ≡ Err r)

-- no covered machine at this place faults
abbrev pub NoneFaults : Abstract → List Frame → ℕ → (Machine → Tested Outcome) → Type 0
NoneFaults a frames offset does =
    (m : Machine) → Stands a frames offset m → (o : Outcome) × (does m ≡ Ok o)

-- The outcome on cells stands for the outcomes of the machines that are covered: it is refused only
-- if some of them faults; otherwise none does, and it gives the smallest covers of what they
-- become.
abbrev pub TransfersTo : Abstract → List Frame → ℕ → (Machine → Tested Outcome)
    → Tested (List Next) → Type 0
TransfersTo a frames offset does (Err r) = SomeFaults a frames offset does
TransfersTo a frames offset does (Ok nexts) =
    NoneFaults a frames offset does × AreSmallestCovers (Becomes a frames offset does) nexts

-- the same of what leads to one place, as an abstract state
abbrev pub Transfers : Abstract → List Frame → ℕ → (Machine → Tested Outcome) → Tested Abstract
    → Type 0
Transfers a frames offset does (Err r) = SomeFaults a frames offset does
Transfers a frames offset does (Ok b) =
    NoneFaults a frames offset does × IsSmallestCover (Becomes a frames offset does) b

-- Calls. Two calls of one body that haven't returned are a recursion, which is refused (own).

-- whether two of the calls are of one body
abbrev pub has_body_twice : List Frame → Bool
has_body_twice [] = false
has_body_twice (f ∷ fs) = is_running f.body fs || has_body_twice fs

-- some covered machine at this place becomes one that runs a body twice
abbrev pub SomeRecurs : Abstract → List Frame → ℕ → (Machine → Tested Outcome) → Type 0
SomeRecurs a frames offset does =
    (m : Machine) × Becomes a frames offset does m × (has_body_twice m.frames ≡ true)

-- how many lists of frames a program may have (own)
abbrev pub MOST_CONTEXTS : ℕ
MOST_CONTEXTS = 65535

-- the covered machines at this place become machines with more lists of frames than a program may
-- have
pub record ManyFrames (a : Abstract) (frames : List Frame) (offset : ℕ)
    (does : Machine → Tested Outcome) : Type 0 where
  pub lists : List (List Frame)
  pub many : MOST_CONTEXTS < length lists
  pub apart : (i j : ℕ) (fs : List Frame) → slice_get lists i ≡ Some fs
      → slice_get lists j ≡ Some fs → i ≡ j
  pub each : (i : ℕ) (fs : List Frame) → slice_get lists i ≡ Some fs
      → (m : Machine) × Becomes a frames offset does m × (m.frames ≡ fs)

-- why an outcome on cells is refused
abbrev pub IsRefused : Abstract → List Frame → ℕ → (Machine → Tested Outcome) → Type 0
IsRefused a frames offset does =
    SomeFaults a frames offset does ⊎ SomeRecurs a frames offset does
    ⊎ ManyFrames a frames offset does

-- What holds where the outcome on cells isn't refused: no covered machine faults or comes to run a
-- body twice, and the next places are at most two, with the smallest covers of what the machines
-- become.
pub record Gives (a : Abstract) (frames : List Frame) (offset : ℕ)
    (does : Machine → Tested Outcome) (nexts : List Next) : Type 0 where
  pub none_faults : NoneFaults a frames offset does
  pub none_recurs : SomeRecurs a frames offset does → ⊥
  pub few : length nexts ≤ 2
  pub covers : AreSmallestCovers (Becomes a frames offset does) nexts

-- the outcome on cells stands for what the machines become: it is refused for one of these causes,
-- or gives the smallest covers
abbrev pub StandsFor : Abstract → List Frame → ℕ → (Machine → Tested Outcome) → Tested (List Next)
    → Type 0
StandsFor a frames offset does (Err r) = IsRefused a frames offset does
StandsFor a frames offset does (Ok nexts) = Gives a frames offset does nexts
