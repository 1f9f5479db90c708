-- What clauses of private functions say again and again: how a unit is read, and that a text is
-- appended.
use Rattle.std.specs.Prelude.{◌≡◌, ℕ, true, List, [], ◌∷◌, ◌++◌, Option, is_some, Result, Ok, Err, IfErr, OnOk}
use Rattle.tt_family.specs.Contents.{Contents, IsFamily}
use Rattle.tt_setting.specs.declared.cert_fault.CertFault.{CertFault}
use Rattle.tt_cert.specs.Answers.{Fails, Gives, StopsAtEnd, input_at}
use Rattle.tt_cert.specs.declared.form.Form.{Form}
use Rattle.tt_cert.specs.Readers.{Answer, Input, list_at}
use Rattle.tt_cert.specs.Reading.{entry_at}
use Rattle.tt_cert.specs.Sections.{Entry}

-- where the source tells its bytes, the answer, seen by a view, is what reading at the place gives,
-- except for failed reads and out of memory
abbrev pub ReadsAs : {X Y : Type 0} → (X → Y) → (Input → Answer Y) → ℕ
    → Result (X × ℕ) CertFault → Option (List ℕ) → Option (List ℕ) → Type 0
ReadsAs view read place result old new = Gives view old new result (read (input_at place old))

-- where the source tells its bytes, the answer is what reading at the place gives, except for
-- failed reads and out of memory
abbrev pub ReadsBy : {Y : Type 0} → (Input → Answer Y) → ℕ → Result (Y × ℕ) CertFault
    → Option (List ℕ) → Option (List ℕ) → Type 0
ReadsBy read place result old new = ReadsAs (λ y. y) read place result old new

-- where the source tells its bytes, the value and the place in the answer are what reading gives,
-- except for failed reads and out of memory
abbrev pub GivesInto : {Y : Type 0} → Y → Option (List ℕ) → Option (List ℕ) → Result ℕ CertFault
    → Answer Y → Type 0
GivesInto value old new (Ok after) read = is_some old ≡ true
    → (is_some new ≡ true) × (read ≡ Ok (value, input_at after new))
GivesInto value old new (Err e) read = is_some old ≡ true → Fails e read

-- the same of reading at the place
abbrev pub ReadsInto : {Y : Type 0} → Y → (Input → Answer Y) → ℕ → Result ℕ CertFault
    → Option (List ℕ) → Option (List ℕ) → Type 0
ReadsInto value read place result old new =
    GivesInto value old new result (read (input_at place old))

-- one more value was read, and comes after those before it
pub record IsOneMore {A : Type 0} (one : List A → Input → Answer A) (before now : List A)
    (place after : ℕ) (old new : Option (List ℕ)) : Type 0 where
  pub value : A
  pub pushed : now ≡ before ++ value ∷ []
  pub gives : is_some old ≡ true → (is_some new ≡ true)
      × (one before (input_at place old) ≡ Ok (value, input_at after new))

-- the same of an answer with the place after it, except for failed reads and out of memory
abbrev pub ReadsOneMore : {A : Type 0} → (List A → Input → Answer A) → List A → List A → ℕ
    → Result ℕ CertFault → Option (List ℕ) → Option (List ℕ) → Type 0
ReadsOneMore one before now place (Ok after) old new = IsOneMore one before now place after old new
ReadsOneMore one before now place (Err e) old new =
    is_some old ≡ true → Fails e (one before (input_at place old))

-- where a read failed, and the source tells its bytes, no unit that was read whole breaks a rule
abbrev pub StopsWhole : {X Y : Type 0} → (Input → Answer Y) → ℕ → Result X CertFault
    → Option (List ℕ) → Option (List ℕ) → Type 0
StopsWhole read place result old new = IfErr result (StopsAtEnd place old new read)

-- `count` states with their points, each in one of `contexts` contexts
abbrev pub entries_at : Form → ℕ → ℕ → Input → Answer (List Entry)
entries_at form contexts count i = list_at (entry_at form contexts) [] count i

-- the bytes begin with the text of a value that has one, and these are left
pub record BeginsWith {A : Type 0} (spell : A → List ℕ) (HasText : A → Type 0) (bytes : List ℕ)
    (x : A) (left : List ℕ) : Type 0 where
  pub begins : bytes ≡ spell x ++ left
  pub fits : HasText x

-- the text is appended, unless memory runs out
abbrev pub Pushes : {X E : Type 0} → List ℕ → Result X E → List ℕ → List ℕ → Type 0
Pushes text result old new = OnOk result (new ≡ old ++ text)

-- the builder has only the empty context, and no state
pub record IsEmptyBuilder (builder : Contents) : Type 0 where
  pub contexts : builder.contexts ≡ [] ∷ []
  pub states : builder.states ≡ []
  pub family : IsFamily builder
